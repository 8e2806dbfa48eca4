-- `entering::add_text` meets its contract.
use native.Mathlib.Omega.{arith}
use mathlib.Core.Path.{sym, ◌∙◌}
use Rattle.lists.specs.Lists.{bytes_equal}
use Rattle.writing.proofs.Held.{text_count}
use Rattle.writing.specs.Writing.{with_text}
use Rattle.entering.specs.Entering.{set_texts}
use Rattle.entering.proofs.Adding.{texts-laws, adds-known, adds_none, adds-new}
use Rattle.entering.proofs.add_text.Goals as goal

pub invariant_of-draft : goal.invariant_of-draft
invariant_of-draft c = record { long = c.requires.held.holds.long }

pub find_text-requires : goal.find_text-requires
find_text-requires c = record { most = omega (arith, text_count c.args.table.now c.requires.held.program c.requires.held.holds, c.requires.held.holds.tabular.texts_most) }

pub returns-then-is_some : goal.returns-then-is_some
returns-then-is_some c = adds-known bytes_equal (λ p. p.texts) set_texts texts-laws c.args.word.now c.find_text.ensures.is (sym c.is_some.ensures ∙ c.if-is_some.true)

pub returns-then-texts-eq-TEXTS : goal.returns-then-texts-eq-TEXTS
returns-then-texts-eq-TEXTS c = adds_none bytes_equal (λ p. p.texts) set_texts texts-laws c.args.word.now c.find_text.ensures.is (sym c.is_some.ensures ∙ c.if-is_some.false) (λ p h. c.texts.ensures.is ∙ text_count c.args.table.now p h) c.if-texts-eq-TEXTS.true

pub put_text-requires : goal.put_text-requires
put_text-requires c = record { long = c.requires.held.holds.long; room = omega (arith, c.texts.ensures.is, c.if-texts-eq-TEXTS.false, text_count c.args.table.now c.requires.held.program c.requires.held.holds, c.requires.held.holds.tabular.texts_most); short = c.requires.short }

pub returns : goal.returns
unfolding set_texts with_text
returns c = adds-new bytes_equal (λ p. p.texts) set_texts texts-laws c.args.word.now c.find_text.ensures.is (sym c.is_some.ensures ∙ c.if-is_some.false) (λ p h. c.texts.ensures.is ∙ text_count c.args.table.now p h) c.if-texts-eq-TEXTS.false c.put_text.ensures.holds c.put_text.ensures.beyond
