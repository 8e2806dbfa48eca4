-- `perform_jumps::by_word` meets its contract.
use Rattle.performing.specs.PlaceLaws.{read-one, read-two}
use Rattle.perform_jumps.proofs.Operands.{by-name, name-goes, switching, switch-led}
use Rattle.perform_jumps.proofs.by_word.Goals as goal

pub source_of-source-requires : goal.source_of-source-requires
source_of-source-requires c = (by-name c.args.way (read-one c.requires c.first.ensures)).source

pub switch_of-switch-requires : goal.switch_of-switch-requires
switch_of-switch-requires c = (by-name c.args.way (read-two c.requires c.first.ensures c.second.ensures)).switch.switched

pub by_word-requires : goal.by_word-requires
by_word-requires c =
    let w = read-two c.requires c.first.ensures c.second.ensures in
    let s = by-name c.args.way w in
    switching w s.switch s.none c.source_of-source.ensures c.switch_of-switch.ensures (name-goes c.args.way)

pub returns : goal.returns
returns c =
    let w = read-two c.requires c.first.ensures c.second.ensures in
    let s = by-name c.args.way w in
    switch-led w s.switch s.none c.source_of-source.ensures c.switch_of-switch.ensures c.by_word.ensures
