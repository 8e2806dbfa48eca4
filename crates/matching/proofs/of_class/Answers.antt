-- `matching::of_class` meets its contract.
use mathlib.Core.Path.{sym, ap, ◌∙◌}
use mathlib.Core.List.{[]}
use Rattle.characters.specs.Below.Lists.{all}
use Rattle.components.specs.Below.Table.{class_by}
use Rattle.matching.specs.Tests.{in_class}
use Rattle.matching.proofs.Classes.{class-none, class-word}
use Rattle.matching.proofs.of_class.Goals as goal

pub returns-then-x-eq0 : goal.returns-then-x-eq0
returns-then-x-eq0 c =
    let a = c.args in
    sym (class-none (class_by [] a.mask) a.x.now c.if-x-eq0.true)

pub returns : goal.returns
returns c =
    let a = c.args in
    c.all_in_class.ensures ∙ ap (all (in_class a.mask)) c.chars_of.ensures.is ∙ sym (class-word (class_by [] a.mask) a.x.now c.if-x-eq0.false)
