-- `perform_files::do_wstaw` meets its contract.
use mathlib.Core.Path.{refl}
use Rattle.perform_pointers.specs.Below.CarryingLaws.{first-named, second-named, third-none, performed}
use Rattle.perform_pointers.specs.Below.PlaceLaws.{read-one, read-two}
use Rattle.perform_files.proofs.do_wstaw.Goals as goal

pub source_of-source-requires : goal.source_of-source-requires
source_of-source-requires c = first-named (read-one c.requires c.first.ensures) ("AB", "CD", "-") refl tt

pub file_target_of-target-requires : goal.file_target_of-target-requires
file_target_of-target-requires c = second-named (read-two c.requires c.first.ensures c.second.ensures) ("AB", "CD", "-") refl tt

pub returns : goal.returns
returns c =
    let w = read-two c.requires c.first.ensures c.second.ensures in
    performed w (c.source_of-source.ensures.is _) (c.file_target_of-target.ensures.is _) (third-none w "AB" "CD" refl) c.wstaw.ensures
