-- `perform_pointers::do_schowaj` meets its contract.
use mathlib.Core.Path.{refl}
use Rattle.language.specs.Letters as letters
use Rattle.decoding.specs.OperandLaws.{indexed-is}
use Rattle.performing.specs.CarryingLaws.{first-named, second-named, third-none, performed}
use Rattle.performing.specs.PlaceLaws.{read-one, read-two}
use Rattle.perform_pointers.proofs.do_schowaj.Goals as goal

pub index_of-index-requires : goal.index_of-index-requires
index_of-index-requires c = (first-named (read-one c.requires c.first.ensures) ("P", "ABYZ", "-") refl tt).lettered

pub target_of-target-requires : goal.target_of-target-requires
target_of-target-requires c = second-named (read-two c.requires c.first.ensures c.second.ensures) ("P", "ABYZ", "-") refl tt

pub returns : goal.returns
returns c =
    let w = read-two c.requires c.first.ensures c.second.ensures in
    performed w (indexed-is letters.Letter.P (first-named w ("P", "ABYZ", "-") refl tt) c.index_of-index.ensures _) (c.target_of-target.ensures.is _)
    (third-none w "P" "ABYZ" refl) (c.schowaj.ensures c.target_of-target.result.reverses)
