-- `entering::add_number` meets its contract.
use native.Mathlib.Omega.{arith}
use mathlib.Core.Path.{sym, ◌∙◌}
use Rattle.language.specs.Values.{same_number}
use Rattle.writing.proofs.Held.{number_count}
use Rattle.writing.specs.Writing.{with_number}
use Rattle.entering.specs.Entering.{set_numbers}
use Rattle.entering.proofs.Adding.{numbers-laws, adds-known, adds_none, adds-new}
use Rattle.entering.proofs.add_number.Goals as goal

pub invariant_of-draft : goal.invariant_of-draft
invariant_of-draft c = record { long = c.requires.holds.long }

pub find_number-requires : goal.find_number-requires
find_number-requires c = record { most = omega (arith, number_count c.args.table.now c.requires.program c.requires.holds, c.requires.holds.tabular.numbers_most) }

pub returns-then-is_some : goal.returns-then-is_some
returns-then-is_some c = λ z i. adds-known same_number (λ y. y.numbers) set_numbers numbers-laws z (λ y g. c.find_number.ensures.is z y g (record { is = i.is; small = i.small })) (sym c.is_some.ensures ∙ c.if-is_some.true)

pub returns-then-numbers-eq-NUMBERS : goal.returns-then-numbers-eq-NUMBERS
returns-then-numbers-eq-NUMBERS c = λ z i. adds_none same_number (λ y. y.numbers) set_numbers numbers-laws z (λ y g. c.find_number.ensures.is z y g (record { is = i.is; small = i.small })) (sym c.is_some.ensures ∙ c.if-is_some.false) (λ y g. c.numbers.ensures.is ∙ number_count c.args.table.now y g) c.if-numbers-eq-NUMBERS.true

pub put_number-requires : goal.put_number-requires
put_number-requires c = record { long = c.requires.holds.long; room = omega (arith, c.numbers.ensures.is, c.if-numbers-eq-NUMBERS.false, number_count c.args.table.now c.requires.program c.requires.holds, c.requires.holds.tabular.numbers_most) }

pub returns : goal.returns
unfolding set_numbers with_number
returns c = λ z i. adds-new same_number (λ y. y.numbers) set_numbers numbers-laws z (λ y g. c.find_number.ensures.is z y g (record { is = i.is; small = i.small })) (sym c.is_some.ensures ∙ c.if-is_some.false) (λ y g. c.numbers.ensures.is ∙ number_count c.args.table.now y g) c.if-numbers-eq-NUMBERS.false (λ y g. c.put_number.ensures.holds z y g (record { is = i.is; small = i.small })) c.put_number.ensures.beyond
