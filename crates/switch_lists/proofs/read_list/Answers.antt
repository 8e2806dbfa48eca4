-- `switch_lists::read_list` meets its contract.
use mathlib.Core.Path.{sym, ap, ◌∙◌}
use mathlib.Core.Bool.{Bool, cond, not, ◌&&◌, ◌||◌}
use native.Mathlib.Omega.{arith}
use Prim.Native.Nat.{ℕ, ◌+◌}
use Rattle.lists.specs.BoolLaws.{byte-is}
use Rattle.statements.specs.Faults.{lower}
use Rattle.statements.specs.Faults.{Fault}
use Rattle.statements.specs.StatementAt.{fault_of}
use Rattle.heads.specs.HeadLaws.{place-if}
use Rattle.switch_lists.specs.Switches.{is_text, colon_left}
use Rattle.switch_lists.proofs.Reading.{one_if, list_read, over-if, reading-more}
use Rattle.switch_lists.proofs.read_list.Goals as goal

pub returns-then-stops : goal.returns-then-stops
returns-then-stops c = let uᵛ = c.loop-before.invariant in
    let kᵛ = c.next_item-u.ensures in
    let gᵛ = c.requires in
    let aᵛ = c.lower-a.ensures ∙ ap (λ (f : Fault). lower c.loop-before.fault f) (c.colon_left.ensures ∙ ap (λ (b : Bool). fault_of (colon_left c.loop-before.before (c.args.named && b))) c.is.ensures) in
    list_read gᵛ uᵛ kᵛ (sym c.stops.ensures ∙ c.if-stops.true) aᵛ c.or_empty.ensures c.following.ensures

pub loop-before-preserved : goal.loop-before-preserved
loop-before-preserved c = let uᵛ = c.loop-before.invariant in
    let kᵛ = c.next_item-u.ensures in
    let at : ℕ = c.next_item-u.result.at in
    let onᵛ = sym c.stops.ensures ∙ c.if-stops.false in
    let aᵛ = c.lower-a.ensures ∙ ap (λ (f : Fault). lower c.loop-before.fault f) (c.colon_left.ensures ∙ ap (λ (b : Bool). fault_of (colon_left c.loop-before.before (c.args.named && b))) c.is.ensures) in
    let name : Bool = c.is_name-name.result in
    let textedᵛ =
    ap (λ (b : Bool). fault_of (one_if (not (name || (c.args.named && b && c.is_some.result))) at)) c.is.ensures
    ∙ ap (λ (b : Bool). fault_of (one_if (not (name || (c.args.named && is_text c.next_item-u.result && b))) at)) c.is_some.ensures in
    rw c.is-word.ensures
    (reading-more uᵛ kᵛ onᵛ aᵛ c.is_name-name.ensures c.put_item.ensures (omega arith) (omega arith)
    (c.lower-fault.ensures ∙ ap (λ (f : Fault). lower c.lower-a.result f) (c.then_some.ensures ∙ place-if _ _ ∙ textedᵛ))
    (c.lower-over.ensures ∙ ap (λ (f : Fault). lower c.loop-before.over f) (over-if _ _ c.then_some-in-loop-before.ensures c.is-word.ensures)) c.worse-w.ensures
    (ap (λ (j : ℕ). c.loop-before.words + j) (c.from-words.ensures ∙ byte-is _ ∙ ap (λ (b : Bool). cond b 1 0) c.is-word.ensures)))
