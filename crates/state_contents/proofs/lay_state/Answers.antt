-- `state_contents::lay_state` meets its contract.
use native.Mathlib.Omega.{arith}
use mathlib.Core.Path.{◌∙◌}
use Rattle.state_contents.proofs.Laying.{zeros-long, state-laid}
use Rattle.state_contents.proofs.lay_state.Goals as goal

pub lay_head-requires : goal.lay_head-requires
lay_head-requires c =
    zeros-long c.requires.1

pub lay_strings-requires : goal.lay_strings-requires
lay_strings-requires c =
    (omega arith) ∙ zeros-long c.requires.1

pub returns : goal.returns
returns c =
    let head = c.lay_head in
    let strings = c.lay_strings in
    state-laid c.requires.1 head.ensures strings.ensures (omega arith) (omega arith)
