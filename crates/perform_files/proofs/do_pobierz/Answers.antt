-- `perform_files::do_pobierz` meets its contract.
use mathlib.Core.Path.{refl}
use Rattle.perform_pointers.specs.Below.CarryingLaws.{first-named, second-named, third-none, performed}
use Rattle.perform_pointers.specs.Below.PlaceLaws.{read-one, read-two}
use Rattle.perform_files.proofs.do_pobierz.Goals as goal

pub file_of-source-requires : goal.file_of-source-requires
file_of-source-requires c = first-named (read-one c.requires c.first.ensures) ("CD", "ABYZ", "-") refl tt

pub target_of-target-requires : goal.target_of-target-requires
target_of-target-requires c = second-named (read-two c.requires c.first.ensures c.second.ensures) ("CD", "ABYZ", "-") refl tt

pub returns : goal.returns
returns c =
    let w = read-two c.requires c.first.ensures c.second.ensures in
    performed w (c.file_of-source.ensures.is _) (c.target_of-target.ensures.is _) (third-none w "CD" "ABYZ" refl) c.pobierz.ensures
