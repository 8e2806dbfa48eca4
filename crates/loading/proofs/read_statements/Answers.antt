-- `loading::read_statements` meets its contract.
use borrow.Author.Rules.{rules}
use mathlib.Core.Path.{◌≡◌, ap}
use Rattle.std.specs.Prelude.{Err}
use Rattle.reading_statements.specs.ReadingStatements.{read_of}
use Rattle.loading.proofs.Walking.{going-none, going-at, going-refused, walks-on, falls}
use Rattle.loading.proofs.read_statements.Goals as goal

pub loop-next-init : goal.loop-next-init
loop-next-init c = going-none c.requires c.begin-p.ensures

pub returns-in_err-a : goal.returns-in_err-a
returns-in_err-a c =
    let e : c.from_residual.result ≡ Err c.in_err-a.field-0.0 = search rules in
    rw e (going-refused (going-at c.loop-next.invariant c.in-Some.is) c.read_statement-a.ensures.reads _ (ap (λ v. read_of v c.read_statement-a.new.p) c.in_err-a.was))

pub loop-next-smaller : goal.loop-next-smaller
loop-next-smaller c = falls (going-at c.loop-next.invariant c.in-Some.is) c.read_statement-a.ensures.reads c.in-Some.is

pub loop-next-preserved : goal.loop-next-preserved
loop-next-preserved c = walks-on (going-at c.loop-next.invariant c.in-Some.is) c.read_statement-a.ensures.reads _ (ap (λ v. read_of v c.read_statement-a.new.p) c.in_ok-a.was)
