-- `splitting::word_of` meets its contract.
use Rattle.components.specs.declared.Kind.TheVariants.{Word}
use Rattle.components.proofs.KindLaws.{other_kind, right_kind}
use native.Mathlib.Omega.{arith}
use borrow.Author.Tests.{eqb-true, eqb-false}
use mathlib.Core.Path.{sym, ◌∙◌}
use Rattle.splitting.proofs.Asking.{none_in, first-in, leading, asked-none, asked-absent, asked-wrong, asked-word}
use Rattle.splitting.proofs.word_of.Goals as goal

pub returns-then-is_empty-clause-asked : goal.returns-then-is_empty-clause-asked
returns-then-is_empty-clause-asked c = asked-none c.args.prepared (none_in c.expr_bytes-x.ensures (eqb-true _ _ (sym c.is_empty.ensures ∙ c.if-is_empty.true)))

pub returns-then-is_missing-clause-asked : goal.returns-then-is_missing-clause-asked
returns-then-is_missing-clause-asked c =
    let some = eqb-false _ _ (sym c.is_empty.ensures ∙ c.if-is_empty.false) in
    asked-absent (first-in c.expr_bytes-x.ensures (omega (arith, some))) c.args.prepared (eqb-true _ _ (sym c.is_missing.ensures ∙ c.if-is_missing.true))

pub kind_of-requires : goal.kind_of-requires
kind_of-requires c = leading c.expr_bytes-x.ensures (omega (arith, eqb-false _ _ (sym c.is_empty.ensures ∙ c.if-is_empty.false)))

pub returns-then-ne-clause-asked : goal.returns-then-ne-clause-asked
returns-then-ne-clause-asked c =
    let some = eqb-false _ _ (sym c.is_empty.ensures ∙ c.if-is_empty.false) in
    asked-wrong (first-in c.expr_bytes-x.ensures (omega (arith, some))) c.args.prepared (eqb-false _ _ (sym c.is_missing.ensures ∙ c.if-is_missing.false))
    (other_kind _ Word c.kind_of.ensures c.ne.ensures c.if-ne.true)

pub returns-clause-asked : goal.returns-clause-asked
returns-clause-asked c =
    let some = eqb-false _ _ (sym c.is_empty.ensures ∙ c.if-is_empty.false) in
    asked-word (first-in c.expr_bytes-x.ensures (omega (arith, some))) c.args.prepared (right_kind _ Word c.kind_of.ensures c.ne.ensures c.if-ne.false)
