-- Question 11, where the questions before it are answered yes.
use mathlib.Core.Path.{◌≡◌, refl, sym, subst}
use Rattle.std.specs.Prelude.{Ok, Err}
use Rattle.statements.specs.declared.Refusal.{Refusal}
use Rattle.statements.specs.Faults.{decided, verdict_of}
use Rattle.statements.specs.Faults.{Fault}
use Rattle.statements.specs.Faults.{Verdict}
use Rattle.reading_statements.specs.Admitting.{AskedLast}

pub asked-last : {u : Verdict} (v : Verdict) (F : Fault → Type 0) {f : Fault} → u ≡ Ok tt → verdict_of v ≡ decided 11 f → F f → AskedLast F u v
asked-last v F {f} e i k = subst (λ (w : Verdict). AskedLast F w v) (sym e) (f, (i, k))

-- a verdict that is no yes is handed up
pub handed-up : (F : Fault → Type 0) {v : Verdict} (w : Refusal) → v ≡ Err w → AskedLast F v v
handed-up F w e = rw e refl
