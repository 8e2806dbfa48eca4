-- `macro_heights::loose_change` meets its contract.
use Rattle.macro_heights.proofs.Measuring.{loose-other, loose-call}
use mathlib.Core.Path.{◌≡◌, refl}
use mathlib.Core.Logic.{◌⊎◌, inl, inr}
use mathlib.Core.List.{List}
use Prim.Native.Nat.{ℕ, ◌+◌}
use native.Mathlib.Omega.{arith}
use lib.ListN.{length}
use Rattle.macro_code.specs.Code.{high}
use Rattle.macro_code.specs.Kinds.{ChangeAt}
use Rattle.macro_code.specs.Places.{kind_cell, call_kind}
use Rattle.macro_code.specs.declared.Change.{Change}
use Rattle.macro_code.specs.declared.Change.TheVariants.{Value, Nothing}
use Rattle.macro_heights.proofs.loose_change.Goals as goal

pub returns-in-Call : goal.returns-in-Call
returns-in-Call c = let l = c.args.macros.now.listed in
    loose-call l.coded.text.now l.coded.code.now l.firsts.now (length l.firsts.now) c.args.loose.now c.args.i refl c.in-Call.ensures.0 c.call_height.ensures.0 c.call_height.ensures.1 c.call_height.ensures.2

not-called : (d : List ℕ) (i : ℕ) {r : Change} → ChangeAt d i r → ((x : ℕ) × (r ≡ Value x)) ⊎ (r ≡ Nothing) → high d (i + kind_cell) ≡ call_kind → ⊥
not-called d i h (inl (x, e)) = let k : ChangeAt d i (Value x) = rw e at h in λ z. omega (arith, z, k.0)
not-called d i h (inr e) = let k : ChangeAt d i Nothing = rw e at h in k.1

pub returns-in-Value : goal.returns-in-Value
returns-in-Value c = let l = c.args.macros.now.listed in
    loose-other l.coded.text.now l.coded.code.now l.firsts.now (length l.firsts.now) c.args.loose.now c.args.i refl (not-called l.coded.code.now c.args.i c.change_at.ensures c.in-Value.is)
