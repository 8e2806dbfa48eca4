-- `check_strings::are_components` meets its contract. The invariant: what is left of the cells decides.
use mathlib.Core.Path.{sym, ◌∙◌}
use borrow.Author.Rules.{rules}
use Rattle.check_strings.proofs.ComponentWalks.{components-end}
use Rattle.check_strings.proofs.Sizes.{bytes-lent, front_fits, components-fault, components-next}
use Rattle.check_strings.proofs.are_components.Goals as goal

pub returns-in_default : goal.returns-in_default
returns-in_default c =
    let h = c.loop-rest.invariant in
    components-fault c.requires h.0 (search rules) c.front_size.ensures c.in_default.is ∙ sym h.1

pub loop-rest-preserved : goal.loop-rest-preserved
loop-rest-preserved c =
    let h = c.loop-rest.invariant in
    (bytes-lent _ (front_fits c.requires h.0 (search rules) c.front_size.ensures c.in-Some.is).1 h.0, h.1 ∙ components-next c.requires h.0 (search rules) c.front_size.ensures c.in-Some.is)

pub returns : goal.returns
returns c = sym (c.loop-rest.invariant.1 ∙ components-end c.args.last c.loop-rest.rest.now (search rules))
