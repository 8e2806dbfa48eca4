-- From the arguments of a jump, call or return to its operands, and from what the families promise to its meaning.
use mathlib.Core.Path.{◌≡◌, refl, sym, ap, subst}
use mathlib.Core.Bool.{Bool, true, false, not, beq}
use mathlib.Core.List.{List, [], ◌∷◌}
use Prim.Native.Nat.{ℕ}
use lib.Dec.{T}
use Rattle.lists.specs.Quoted.{bytes}
use Rattle.language.specs.Instructions.{operation, is_end}
use Rattle.language.specs.Program.{Op, Program, label_at}
use Rattle.language.specs.Program.Arg.{nothing, label, switch}
use Rattle.language.specs.Values.{Store, State, Inputs}
use Rattle.layout.specs.Table.{program_of}
use Rattle.machine.specs.Effects.{Row, row, jump_if}
use Rattle.packed.specs.Packed.{table_of}
use Rattle.decoding.specs.Operands.{Named, IsSource, Shaped, LabelOf, SwitchOf}
use Rattle.decoding.specs.OperandLaws.{labelled, switched-by-name, switched-by-index, no-argument}
use Rattle.instructions.specs.Does.{Goes, GoesIn, GoesFor}
use Rattle.instructions.specs.Below.Source.{Source}
use Rattle.jumps.specs.Jumps as jumps
use Rattle.state.specs.Working.{nth, reading}
use Rattle.switches.specs.Switches.{word_op, number_op, Switches}
use Rattle.jumps.specs.declared.Way.{Way}
use Rattle.jumps.specs.declared.Way.TheVariants.{Jump, Call}
use Rattle.table.specs.Good.{GoodLabel}
use Rattle.table.specs.Denote.{arg_of}
use Rattle.table.specs.declared.Argument.{Argument}
use Rattle.table.specs.declared.Argument.TheVariants.{Label, Switch}
use Rattle.performing.specs.Operating.{Carrying, LeadsFor}
use Rattle.performing.specs.OperatingLaws.{following, led}
use Rattle.performing.specs.CarryingLaws.{formed, first-named, third-none}
use Rattle.perform_jumps.specs.Jumping.{sign_op}

-- ---- labels

module _ {c : List ℕ} {σ : State} {op : Op} {x y z : Argument} (w : Carrying c σ op x y z) (f : (operation op).forms ≡ ("l", "-", "-") ∷ []) where
  labels : Shaped c (bytes "l") (bytes "-") (bytes "-") x y z
  labels = formed w ("l", "-", "-") f

  pub label-asked : LabelOf c x
  label-asked = labelled c w.read.first labels.first

  module _ {k : ℕ} (q : x ≡ Label k) where
    pub leading : GoodLabel c k
    leading = label-asked.good k q

    pub turning : T (not (is_end (operation op).flow)) → jumps.Turns c σ k
    turning h = record { label = leading; following = following w h }

    pub label-led : {told : ℕ} {σ' : State} → GoesIn σ told σ' (λ ins. row (program_of c) ins σ.store (label k) nothing nothing op) → LeadsFor c σ told σ'
    label-led g i j =
        led w (label k) nothing nothing (ap (arg_of (table_of c)) q) (no-argument c y labels.second) (no-argument c z labels.third) i j (g (i ∷ j ∷ []))

-- ---- switches

-- a switch in the second place
module _ {c : List ℕ} {σ : State} {op : Op} {x y z : Argument} (w : Carrying c σ op x y z) (t : SwitchOf c y) (n : arg_of (table_of c) z ≡ nothing)
    {s : Source} {k : ℕ} (i : IsSource x s) (q : y ≡ Switch k) where
  pub switching : T (not (is_end (operation op).flow)) → Switches c σ s.i k
  switching h = record { looks = record { index = i.below; switch = t.good k q }; good = w.table; following = following w h }

  pub switch-led : {told : ℕ} {σ' : State}
      → GoesIn σ told σ' (λ ins. row (program_of c) ins σ.store (nth (reading s.removes) s.i) (switch k) nothing op) → LeadsFor c σ told σ'
  switch-led g a b = led w (nth (reading s.removes) s.i) (switch k) nothing (i.is (table_of c)) (ap (arg_of (table_of c)) q) n a b (g (a ∷ b ∷ []))

-- ---- WROC and STOP

pub bare-led : {c : List ℕ} {σ : State} {op : Op} {x y z : Argument} → Carrying c σ op x y z → (operation op).forms ≡ ("-", "-", "-") ∷ []
    → {told : ℕ} {σ' : State} → GoesFor σ told σ' (λ g ins. row g ins σ.store nothing nothing nothing op) → LeadsFor c σ told σ'
bare-led {c} {x = x} {y = y} {z = z} w f g a b =
    let r = formed w ("-", "-", "-") f in
    led w nothing nothing nothing (no-argument c x r.first) (no-argument c y r.second) (no-argument c z r.third) a b (g (program_of c) (a ∷ b ∷ []))

-- ---- SKOMI, SKOPL, WYMI and WYPL

pub sign-forms : (way : Way) (b : Bool) → (operation (sign_op way b)).forms ≡ ("l", "-", "-") ∷ []
sign-forms Jump true = refl
sign-forms Jump false = refl
sign-forms Call true = refl
sign-forms Call false = refl

pub sign-goes : (way : Way) (b : Bool) → T (not (is_end (operation (sign_op way b)).flow))
sign-goes Jump true = tt
sign-goes Jump false = tt
sign-goes Call true = tt
sign-goes Call false = tt

-- where H is as they ask, they lead to the label
sign-row : (g : Program) (ins : Inputs) (s : Store) (k : ℕ) (way : Way) (p b : Bool) → p ≡ s.plus
    → row g ins s (label k) nothing nothing (sign_op way b) ≡ jump_if g ins s (beq p b) (jumps.going_by way (label_at g k).target)
unfolding row
sign-row g ins s k Jump true true q = rw (← q) refl
sign-row g ins s k Jump true false q = rw (← q) refl
sign-row g ins s k Jump false true q = rw (← q) refl
sign-row g ins s k Jump false false q = rw (← q) refl
sign-row g ins s k Call true true q = rw (← q) refl
sign-row g ins s k Call true false q = rw (← q) refl
sign-row g ins s k Call false true q = rw (← q) refl
sign-row g ins s k Call false false q = rw (← q) refl

pub sign-led : {c : List ℕ} {σ : State} (way : Way) (b : Bool) {x y z : Argument} {k : ℕ} {p : Bool} {told : ℕ} {σ' : State}
    → Carrying c σ (sign_op way b) x y z → x ≡ Label k → p ≡ σ.store.plus
    → GoesIn σ told σ' (λ ins. jump_if (program_of c) ins σ.store (beq p b) (jumps.going_by way (jumps.led_to c k))) → LeadsFor c σ told σ'
sign-led {c} {σ} way b {k = k} {p = p} {told = told} {σ' = σ'} w q e g =
    label-led w (sign-forms way b) q (λ ins. subst (λ (r : Row). Goes σ told σ' r) (sym (sign-row (program_of c) ins σ.store k way p b e)) (g ins))

-- ---- SKONA, WYNA, SKOIN and WYIN

-- the operands of an instruction with a switch
pub record Switching (c : List ℕ) (x y z : Argument) : Type 0 where
  pub source : Named (bytes "AB") x
  pub switch : SwitchOf c y
  pub none : arg_of (table_of c) z ≡ nothing

module _ {c : List ℕ} {σ : State} {x y z : Argument} where
  pub by-name : (way : Way) → Carrying c σ (word_op way) x y z → Switching c x y z
  by-name way w = go way w
    where
      asked : {op : Op} → Carrying c σ op x y z → (operation op).forms ≡ ("AB", "w", "-") ∷ [] → Switching c x y z
      asked w f =
          record {
            source = first-named w ("AB", "w", "-") f tt;
            switch = switched-by-name c w.read.second (formed w ("AB", "w", "-") f).second;
            none = third-none w "AB" "w" f;
          }

      go : (way : Way) → Carrying c σ (word_op way) x y z → Switching c x y z
      go Jump w = asked w refl
      go Call w = asked w refl

  pub by-index : (way : Way) → Carrying c σ (number_op way) x y z → Switching c x y z
  by-index way w = go way w
    where
      asked : {op : Op} → Carrying c σ op x y z → (operation op).forms ≡ ("AB", "x", "-") ∷ [] → Switching c x y z
      asked w f =
          record {
            source = first-named w ("AB", "x", "-") f tt;
            switch = switched-by-index c w.read.second (formed w ("AB", "x", "-") f).second;
            none = third-none w "AB" "x" f;
          }

      go : (way : Way) → Carrying c σ (number_op way) x y z → Switching c x y z
      go Jump w = asked w refl
      go Call w = asked w refl

pub name-goes : (way : Way) → T (not (is_end (operation (word_op way)).flow))
name-goes Jump = tt
name-goes Call = tt

pub index-goes : (way : Way) → T (not (is_end (operation (number_op way)).flow))
index-goes Jump = tt
index-goes Call = tt
