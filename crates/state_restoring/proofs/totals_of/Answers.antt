-- `state_restoring::totals_of` meets its contract.
use Rattle.std.proofs.Common.{rules, ◌≡◌, None}
use Prim.Native.Nat.{◌≤◌}
use mathlib.Core.Path.{refl, sym, ap, ◌∙◌, subst}
use native.Mathlib.Omega.{arith}
use Rattle.check_memory.proofs.Steps.{laid-none, laid-some, walkable, both-whole}
use Rattle.check_memory.specs.Passes.{sound}
use Rattle.check_memory.specs.Reads.{BothWhole, AllSums}
use Rattle.language.specs.Limits as limit
use Rattle.layout.specs.Cells.{three_at}
use Rattle.layout.specs.Places as layout
use Rattle.state_restoring.proofs.Totals.{not-laid, not_sound}
use Rattle.state_restoring.proofs.totals_of.Goals as goal

pub returns-in_err-memory : goal.returns-in_err-memory
returns-in_err-memory c =
    let e : c.from_residual.result ≡ None = search rules in
    rw e (not-laid refl (laid-none c.args.m.now c.laid.ensures c.in_err-memory.was))

pub is_sound-requires : goal.is_sound-requires
is_sound-requires c =
    let m = c.args.m.now in
    let l = laid-some m c.laid.ensures c.in_ok-memory.was in
    subst (λ x. three_at layout.last_cell x ≤ limit.addresses) (sym l.1) (walkable m refl l.0)

pub returns-then-not-is_sound : goal.returns-then-not-is_sound
returns-then-not-is_sound c =
    let l = laid-some c.args.m.now c.laid.ensures c.in_ok-memory.was in
    not_sound (c.is_sound.ensures ∙ ap sound l.1) c.if-not-is_sound.true

pub totals-requires : goal.totals-requires
totals-requires c =
    let m = c.args.m.now in
    let l = laid-some m c.laid.ensures c.in_ok-memory.was in
    subst BothWhole (sym l.1) (both-whole m refl l.0 (λ j. omega (arith, c.type_inv.m j)) (c.is_sound.ensures ∙ ap sound l.1) c.if-not-is_sound.false)

pub returns : goal.returns
returns c =
    let l = laid-some c.args.m.now c.laid.ensures c.in_ok-memory.was in
    record { told = subst (λ m. AllSums m c.totals.result) l.1 c.totals.ensures }
