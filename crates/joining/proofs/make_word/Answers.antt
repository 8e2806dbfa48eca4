-- `joining::make_word` meets its contract.
use mathlib.Core.Path.{sym, ◌∙◌}
use lib.ListN.{length}
use borrow.Author.Tests.{eqb-true, eqb-false}
use Rattle.joining.proofs.Words.{made_none, made}
use Rattle.joining.proofs.make_word.Goals as goal

pub returns-then-is_empty : goal.returns-then-is_empty
returns-then-is_empty c =
    made_none c.args.out.now c.args.w.now (eqb-true (length c.args.w.now) 0 (sym c.is_empty.ensures ∙ c.if-is_empty.true))

pub returns : goal.returns
returns c =
    let some = eqb-false (length c.args.w.now) 0 (sym c.is_empty.ensures ∙ c.if-is_empty.false) in
    made c.args.out.now c.args.w.now some c.requires.room c.requires.most c.put_word.ensures
