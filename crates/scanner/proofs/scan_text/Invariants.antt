-- `scanner::scan_text` meets its contract.
use Rattle.scanner.proofs.Loops.{Scanning}
use Rattle.scanner.proofs.scan_text.Given as goal

abbrev pub invariant-loop-i : goal.invariant-loop-i
invariant-loop-i l = Scanning l.text l.n l.i l.star l.count l.good
