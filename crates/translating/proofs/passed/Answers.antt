-- `translating::passed` meets its contract.
use borrow.Author.Rules.{rules}
use native.Mathlib.Omega.{arith}
use Rattle.appending.specs.AppendingLaws.{fitted, unfit}
use Rattle.translating.proofs.Passes.{item_operates, item_passed, unfit-before, unfit-operator, operator-passed, unpassed}
use Rattle.translating.proofs.passed.Goals as goal

pub returns-then-not-is_awaited : goal.returns-then-not-is_awaited
returns-then-not-is_awaited c = record { told = item_passed c.requires (item_operates c.args.t c.is_operator-operates.ensures) c.is.ensures c.is-then-not-is_awaited.ensures c.if-not-is_awaited.true }

pub returns-in_err-n : goal.returns-in_err-n
returns-in_err-n c =
    let l = unfit-before c.requires (item_operates c.args.t c.is_operator-operates.ensures) c.is.ensures c.if-not-is_awaited.false (unfit c.append.ensures c.in_err-n.was) in
    unpassed (search rules) (omega (arith, l))

pub returns-in_err-count : goal.returns-in_err-count
returns-in_err-count c =
    let k = fitted c.append.ensures c.in_ok-n.was in
    let l = unfit-operator c.requires (item_operates c.args.t c.is_operator-operates.ensures) c.is.ensures c.if-not-is_awaited.false k (unfit c.append_other.ensures c.in_err-count.was) in
    unpassed (search rules) (omega (arith, l))

pub returns : goal.returns
returns c =
    record { told = operator-passed c.requires (item_operates c.args.t c.is_operator-operates.ensures) c.is.ensures c.if-not-is_awaited.false (fitted c.append.ensures c.in_ok-n.was) (fitted c.append_other.ensures c.in_ok-count.was) }
