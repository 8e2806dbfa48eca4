-- `perform_pointers::do_cofnij` meets its contract.
use mathlib.Core.Path.{refl}
use Rattle.language.specs.Letters as letters
use Rattle.decoding.specs.OperandLaws.{indexed-is}
use Rattle.performing.specs.CarryingLaws.{first-named, second_none, third-none, performed}
use Rattle.performing.specs.PlaceLaws.{read-one}
use Rattle.perform_pointers.proofs.do_cofnij.Goals as goal

pub index_of-index-requires : goal.index_of-index-requires
index_of-index-requires c = (first-named (read-one c.requires c.first.ensures) ("P", "-", "-") refl tt).lettered

pub returns : goal.returns
returns c =
    let w = read-one c.requires c.first.ensures in
    performed w (indexed-is letters.Letter.P (first-named w ("P", "-", "-") refl tt) c.index_of-index.ensures _) (second_none w "P" "-" refl)
    (third-none w "P" "-" refl) c.cofnij.ensures
