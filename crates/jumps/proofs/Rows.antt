-- The rows of jumps and calls by a label, of the return and of STOP: that their functions do what they say.
use mathlib.Core.Path.{◌≡◌, refl, sym, ap, ◌∙◌}
use mathlib.Core.Bool.{Bool, true, false, not}
use mathlib.Core.List.{List, [], ◌∷◌}
use Prim.Native.Nat.{ℕ, ◌<◌}
use native.Mathlib.Omega.{arith}
use lib.ListN.{length}
use Rattle.lists.specs.Lists.{filled}
use Rattle.language.specs.Program.{Label, Program}
use Rattle.language.specs.Program.Arg.{nothing, label}
use Rattle.language.specs.Program.Op.{SKOCZ, WYKONAJ, SKOMI, SKOPL, WYMI, WYPL, WROC, STOP}
use Rattle.language.specs.Values.{Store, State, Inputs}
use Rattle.machine.specs.Arguments.{none}
use Rattle.machine.specs.Changes.{with_plus}
use Rattle.machine.specs.Effects.{Go, Row, jump_if, row}
use Rattle.machine.specs.Effects.Go.{on, jump, call, back}
use Rattle.cells.specs.Cells.{Number}
use Rattle.layout.specs.Table.{label_in, program_of}
use Rattle.packed.specs.Packed.{table_of}
use Rattle.state.specs.Working.{HoldsState, Stands, on_store}
use Rattle.state.proofs.Standing.{after-state}
use Rattle.control.specs.Going.{going, Deep}
use Rattle.control.proofs.Laws.{made-going, made_after}
use Rattle.instructions.specs.Does.{GoesFor, GoesIn}
use Rattle.instructions.proofs.Answers.{answer-no, goes-stop}
use Rattle.instructions.proofs.Goings.{none-yes, goes-made}
use Rattle.table.specs.Good.{GoodLabel}
use Rattle.jumps.specs.Jumps.{Led, led_to, going_by}
use Rattle.jumps.specs.declared.Way.{Way}
use Rattle.jumps.proofs.Leading.{can_lead, led-goes, led-full}

-- ---- from what is asked to what the parts ask

module _ {c : List ℕ} {k : ℕ} (w : GoodLabel c k) where
  module _ {t : ℕ} (q : Number (label_in (table_of c) k).target 67108864 t) where
    pub target_is : t ≡ led_to c k
    target_is = q.is ∙ sym (ap (λ (l : Label). l.target) w.is)

-- ---- the rows

module _ (c : List ℕ) (ins : Inputs) (s : Store) (k : ℕ) where
  row-skocz : row (program_of c) ins s (label k) nothing nothing SKOCZ ≡ (none, s, jump (led_to c k))
  unfolding row
  row-skocz = refl

  row-wykonaj : row (program_of c) ins s (label k) nothing nothing WYKONAJ ≡ (none, s, call (led_to c k))
  unfolding row
  row-wykonaj = refl

  row-skomi : row (program_of c) ins s (label k) nothing nothing SKOMI ≡ jump_if (program_of c) ins s (not s.plus) (jump (led_to c k))
  unfolding row
  row-skomi = refl

  row-skopl : row (program_of c) ins s (label k) nothing nothing SKOPL ≡ jump_if (program_of c) ins s s.plus (jump (led_to c k))
  unfolding row
  row-skopl = refl

  row-wymi : row (program_of c) ins s (label k) nothing nothing WYMI ≡ jump_if (program_of c) ins s (not s.plus) (call (led_to c k))
  unfolding row
  row-wymi = refl

  row-wypl : row (program_of c) ins s (label k) nothing nothing WYPL ≡ jump_if (program_of c) ins s s.plus (call (led_to c k))
  unfolding row
  row-wypl = refl

  if-taken : (b : Bool) (g : Go) → b ≡ true → jump_if (program_of c) ins s b g ≡ (none, with_plus true s, g)
  unfolding jump_if
  if-taken b g q = rw q refl

  if-left : (b : Bool) (g : Go) → b ≡ false → jump_if (program_of c) ins s b g ≡ (none, with_plus true s, on)
  unfolding jump_if
  if-left b g q = rw q refl

row-wroc : (g : Program) (ins : Inputs) (s : Store) → row g ins s nothing nothing nothing WROC ≡ (none, s, back)
unfolding row
row-wroc g ins s = refl

row-stop : (g : Program) (ins : Inputs) (s : Store) → (row g ins s nothing nothing nothing STOP).0 50 ≡ false
unfolding row
row-stop g ins s = refl

-- ---- what their functions do

-- jumps and calls whatever H is; g goes to label k
module _ {σ : State} (c : List ℕ) (k : ℕ) where
  pub skocz-done : {t : ℕ} {σ' : State} → t ≡ led_to c k → HoldsState σ' (going (jump t) σ)
      → GoesIn σ 0 σ' (λ ins. row (program_of c) ins σ.store (label k) nothing nothing SKOCZ)
  skocz-done q g ins =
      rw (row-skocz c ins σ.store k)
      (goes-made (none, σ.store, jump (led_to c k)) none-yes refl (rw (made-going none (jump (led_to c k)) σ) (rw q at g)))

  pub wykonaj-goes : Stands σ → {t x : ℕ} {σ' : State} → t ≡ led_to c k → Led σ (call t) x σ'
      → GoesIn σ x σ' (λ ins. row (program_of c) ins σ.store (label k) nothing nothing WYKONAJ)
  wykonaj-goes h q g ins = rw (row-wykonaj c ins σ.store k) (led-goes h (call (led_to c k)) refl (rw q at g))

  -- a condition: not taken, taken, taken with a full return stack
  module _ (b : Bool) where
    pub if-on : (g : Go) {σ' σ'' : State} → b ≡ false → HoldsState σ' (going on σ) → HoldsState σ'' (on_store (with_plus true) σ')
        → GoesIn σ 0 σ'' (λ ins. jump_if (program_of c) ins σ.store b g)
    if-on g q w j ins =
        rw (if-left c ins σ.store k b g q)
        (goes-made (none, with_plus true σ.store, on) none-yes refl
        (rw (made_after none (with_plus true) on σ) (after-state w (on_store (with_plus true)) j)))

    pub if-gone : (way : Way) {t : ℕ} {σ' σ'' : State} → b ≡ true → t ≡ led_to c k → HoldsState σ' (going (going_by way t) σ)
        → HoldsState σ'' (on_store (with_plus true) σ') → GoesIn σ 0 σ'' (λ ins. jump_if (program_of c) ins σ.store b (going_by way (led_to c k)))
    if-gone way q x w j ins =
        let g = going_by way (led_to c k) in
        rw (if-taken c ins σ.store k b g q)
        (goes-made (none, with_plus true σ.store, g) none-yes (can_lead way (led_to c k) σ.stack)
        (rw (made_after none (with_plus true) g σ) (after-state (rw x at w) (on_store (with_plus true)) j)))

    pub if-full : Stands σ → (way : Way) {t x : ℕ} {σ' : State} → b ≡ true → t ≡ led_to c k → Led σ (going_by way t) x σ' → (x ≡ 0 → ⊥)
        → GoesIn σ x σ' (λ ins. jump_if (program_of c) ins σ.store b (going_by way (led_to c k)))
    if-full h way {t} q y w z ins =
        rw (if-taken c ins σ.store k b (going_by way (led_to c k)) q)
        (led-full h (going_by way (led_to c k)) (can_lead way (led_to c k) σ.stack) (rw y at w) (with_plus true σ.store) z)

-- ---- the return and STOP

no_return : (st : List ℕ) → length st ≡ 0 → filled st ≡ false
no_return [] z = refl
no_return (x ∷ st) z = absurd (omega (arith, z))

a-return : (st : List ℕ) → 0 < length st → filled st ≡ true
a-return [] z = absurd (omega (arith, z))
a-return (x ∷ st) z = refl

pub a-call : {σ : State} {d : ℕ} → Deep σ d → (d ≡ 0 → ⊥) → 0 < length σ.stack
a-call d z = omega (arith, d.is, z)

pub wroc-done : {σ σ' : State} → 0 < length σ.stack → HoldsState σ' (going back σ)
    → GoesFor σ 0 σ' (λ g ins. row g ins σ.store nothing nothing nothing WROC)
wroc-done {σ} w k g ins =
    rw (row-wroc g ins σ.store)
    (goes-made (none, σ.store, back) none-yes (a-return σ.stack w) (rw (made-going none back σ) k))

module _ {σ : State} (h : Stands σ) where
  pub wroc-none : {d : ℕ} → Deep σ d → d ≡ 0 → GoesFor σ 57 σ (λ g ins. row g ins σ.store nothing nothing nothing WROC)
  wroc-none d z g ins =
      let r : Row = (none, σ.store, back) in
      rw (row-wroc g ins σ.store)
      (goes-stop h r
      (answer-no r σ (50 ∷ 52 ∷ 53 ∷ 54 ∷ 55 ∷ 56 ∷ []) 57 (58 ∷ 59 ∷ 60 ∷ []) refl (refl, (refl, (refl, (refl, (refl, (refl, tt))))))
      (rw (no_return σ.stack (omega (arith, d.is, z))) refl)) (λ y. omega (arith, y)))

  pub stop-stops : GoesFor σ 50 σ (λ g ins. row g ins σ.store nothing nothing nothing STOP)
  stop-stops g ins =
      let r : Row = row g ins σ.store nothing nothing nothing STOP in
      goes-stop h r
      (answer-no r σ [] 50 (52 ∷ 53 ∷ 54 ∷ 55 ∷ 56 ∷ 57 ∷ 58 ∷ 59 ∷ 60 ∷ []) refl tt (rw (row-stop g ins σ.store) refl)) (λ y. omega (arith, y))
