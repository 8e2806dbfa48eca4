-- `ordering::compare_numbers` meets its contract.
use mathlib.Core.Path.{◌≡◌, ◌∙◌}
use Rattle.layout.specs.Cells.{uncode}
use Rattle.std.proofs.lemmas.Result.{err_from_is_err_and}
use Rattle.ordering.proofs.Rows.{numbers_by, numbers-before, numbers-after, numbers-stop, numbers-done}
use Rattle.ordering.proofs.compare_numbers.Goals as goal
use Rattle.ordering.proofs.compare_numbers.Goals.{in-Before, in-After}

pub returns-in_err-p : goal.returns-in_err-p
returns-in_err-p c =
    let e = err_from_is_err_and c.from_residual.result c.from_residual.ensures.1 in
    let o = c.two_operands.ensures in
    rw (e.1, e.2) (numbers-stop o.stands c.args.i c.args.arg c.args.order o.reads c.in_err-p.was)

pub returns : goal.returns
returns c =
    let o = c.two_operands.ensures in
    let p = c.in_ok-p.p in
    let h : c.match-order.holds ≡ numbers_by c.args.order (uncode p.left) (uncode p.right) =
    elim c.match-order.branch [
      | in-Before w ↦ rw w.in-Before.is (w.holds-is ∙ numbers-before p.left p.right)
      | in-After w ↦ rw w.in-After.is (w.holds-is ∙ numbers-after p.left p.right)
    ] in
    numbers-done o.stands c.args.i c.args.arg c.args.order o.reads c.in_ok-p.was h c.minus_unless.ensures
