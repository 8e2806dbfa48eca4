-- `reading_statements::ask_names` meets its contract.
use mathlib.Core.Path.{ap, ◌∙◌}
use Rattle.statements.specs.Faults.{decided, then}
use Rattle.reading_statements.proofs.ask_names.Goals as goal

pub first_reserved-requires : goal.first_reserved-requires
first_reserved-requires c = c.requires.1

pub first_repeated-requires : goal.first_repeated-requires
first_repeated-requires c = c.requires

pub returns : goal.returns
returns c =
    let named = c.decide-reserved.ensures ∙ ap (decided 70) c.first_reserved.ensures in
    let again = c.decide.ensures ∙ ap (decided 6) c.first_repeated.ensures in
    c.first_of.ensures ∙ λ i. then (again i) (named i)
