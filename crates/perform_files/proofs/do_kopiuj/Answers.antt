-- `perform_files::do_kopiuj` meets its contract.
use mathlib.Core.Path.{refl}
use Rattle.perform_pointers.specs.Below.CarryingLaws.{formed, first-named, second-named, performed}
use Rattle.perform_pointers.specs.Below.PlaceLaws.{read-one, read-two, read-three}
use Rattle.perform_files.proofs.Operands.{movable}
use Rattle.perform_files.proofs.do_kopiuj.Goals as goal

pub file_of-source-requires : goal.file_of-source-requires
file_of-source-requires c = first-named (read-one c.requires c.first.ensures) ("CD", "CD", "-nNtBTE") refl tt

pub file_target_of-target-requires : goal.file_target_of-target-requires
file_target_of-target-requires c = second-named (read-two c.requires c.first.ensures c.second.ensures) ("CD", "CD", "-nNtBTE") refl tt

pub kopiuj-requires : goal.kopiuj-requires
kopiuj-requires c =
    let w = read-three c.requires c.first.ensures c.second.ensures c.third.ensures in
    movable w w.read.third (formed w ("CD", "CD", "-nNtBTE") refl).third c.file_of-source.ensures.below c.file_target_of-target.ensures.below

pub returns : goal.returns
returns c = performed (read-three c.requires c.first.ensures c.second.ensures c.third.ensures) (c.file_of-source.ensures.is _) (c.file_target_of-target.ensures.is _) refl c.kopiuj.ensures
