-- `scanner::skip` meets its contract.
use Rattle.std.proofs.Common.{sym, ◌∙◌}
use mathlib.Core.Bool.{false≢true}
use Rattle.scanner.proofs.Loops.{gap-out}
use Rattle.scanner.proofs.skip.Goals as goal

pub returns : goal.returns
returns c =
    let h = c.loop-i in
    record {
      from = h.invariant.0;
      most = h.invariant.1;
      opening = λ q. absurd (false≢true q);
      is = sym h.invariant.2 ∙ gap-out c.args.text.now h.i c.loop-i-test.false;
      settled = sym h.invariant.2;
    }
