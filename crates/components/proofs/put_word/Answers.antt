-- `components::put_word` meets its contract.
use mathlib.Core.Path.{◌∙◌}
use Rattle.cells.specs.Below.Components.{component_bytes}
use Rattle.components.proofs.Makings.{behind-one}
use Rattle.components.proofs.put_word.Goals as goal

pub returns : goal.returns
unfolding component_bytes
returns c =
    let a = c.args in
    c.put.ensures ∙ behind-one a.out.now a.at _ a.w.now c.requires.room
