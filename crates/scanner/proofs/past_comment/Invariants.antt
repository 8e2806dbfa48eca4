-- `scanner::past_comment` meets its contract.
use Rattle.std.proofs.Common.{◌≡◌, ℕ, drop}
use Rattle.syntax.specs.Items.Stage.{inside}
use Rattle.syntax.specs.Items.Mode.{in_comment}
use Rattle.syntax.specs.Scan.{gap_from}
use Rattle.scanner.proofs.past_comment.Given as goal

abbrev pub invariant-loop-i : goal.invariant-loop-i
invariant-loop-i l = (p : ℕ) → gap_from (in_comment p inside) l.i (drop l.i l.text) ≡ gap_from (in_comment p inside) l.n (drop l.n l.text)
