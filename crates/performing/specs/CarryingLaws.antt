-- An instruction of a well-formed table: its arguments by the forms listed for them, and what is promised of it from what is promised of its operands.
use Rattle.std.specs.Prelude.{◌≡◌, List, [], ◌∷◌, ℕ, ◌≤◌, T, length}
use Rattle.std.proofs.Common.{sym, subst}
use Prim.Native.String.{String}
use Rattle.lists.specs.Lists.{all}
use Rattle.lists.specs.Quoted.{bytes}
use Rattle.characters.specs.Characters.{is_capital}
use Rattle.language.specs.Instructions.{Forms, operation}
use Rattle.language.specs.Limits as limit
use Rattle.language.specs.Program.{Arg, Op}
use Rattle.language.specs.Program.Arg.{nothing}
use Rattle.language.specs.Values.{State}
use Rattle.layout.proofs.ArgumentLaws.{operator-back}
use Rattle.layout.specs.Table.{program_of}
use Rattle.machine.specs.Effects.{row}
use Rattle.packed.specs.Packed.{table_of}
use Rattle.decoding.specs.Operands.{Named, Shaped}
use Rattle.decoding.specs.OperandLaws.{named, no-argument, shape}
use Rattle.instructions.specs.Does.{DoesFor}
use Rattle.table.specs.Denote.{arg_of}
use Rattle.table.specs.Good.{GoodArgument}
use Rattle.table.specs.declared.Argument.{Argument}
use Rattle.performing.specs.Stepping.{inputs}
use Rattle.performing.specs.Operating.{Carrying, PerformsFor}
use Rattle.performing.specs.OperatingLaws.{long, performs}

-- an argument stands for what it denotes
pub good-itself : {c : List ℕ} {x : Arg} {a : Argument} → GoodArgument c x a → GoodArgument c (arg_of (table_of c) a) a
good-itself {c} {x} {a} g = subst (λ (y : Arg). GoodArgument c y a) (sym g.is) g

-- the same instruction, its operator known
pub known : {c : List ℕ} {σ : State} {op : Op} {x y z : Argument} → Carrying c σ op x y z → {o : Op} → op ≡ o → Carrying c σ o x y z
known {c} {σ} {x = x} {y = y} {z = z} w q = subst (λ (o : Op). Carrying c σ o x y z) q w

module _ {c : List ℕ} {σ : State} {op : Op} {x y z : Argument} (w : Carrying c σ op x y z) where
  pub table-long : limit.table ≤ length c
  table-long = long w

  -- of an operator with one list of forms
  module _ (f : Forms) (q : (operation op).forms ≡ f ∷ []) where
    pub formed : Shaped c (bytes f.0) (bytes f.1) (bytes f.2) x y z
    formed = shape w.read f (subst (λ (o : Op). (operation o).forms ≡ f ∷ []) (sym (operator-back op)) q)

    pub first-named : T (all is_capital (bytes f.0)) → Named (bytes f.0) x
    first-named h = named c w.read.first (bytes f.0) h formed.first

    pub second-named : T (all is_capital (bytes f.1)) → Named (bytes f.1) y
    second-named h = named c w.read.second (bytes f.1) h formed.second

  -- nothing in the second and the third place
  pub second_none : (a b : String) → (operation op).forms ≡ (a, "-", b) ∷ [] → arg_of (table_of c) y ≡ nothing
  second_none a b q = no-argument c y (formed (a, "-", b) q).second

  pub third-none : (a b : String) → (operation op).forms ≡ (a, b, "-") ∷ [] → arg_of (table_of c) z ≡ nothing
  third-none a b q = no-argument c z (formed (a, b, "-") q).third

  -- by its operands
  pub performed : {a b d : Arg} → arg_of (table_of c) x ≡ a → arg_of (table_of c) y ≡ b → arg_of (table_of c) z ≡ d → {told : ℕ} {σ' : State}
      → DoesFor σ told σ' (λ g ins. row g ins σ.store a b d op) → PerformsFor c σ told σ'
  performed {a} {b} {d} q r t h i j = performs w a b d q r t i j (h (program_of c) (inputs i j))
