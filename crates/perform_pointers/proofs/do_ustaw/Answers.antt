-- `perform_pointers::do_ustaw` meets its contract.
use mathlib.Core.Path.{refl}
use Rattle.language.specs.Letters as letters
use Rattle.decoding.specs.OperandLaws.{indexed-is}
use Rattle.performing.specs.CarryingLaws.{first-named, second-named, third-none, performed}
use Rattle.performing.specs.PlaceLaws.{read-one, read-two}
use Rattle.perform_pointers.proofs.do_ustaw.Goals as goal

pub source_of-source-requires : goal.source_of-source-requires
source_of-source-requires c = first-named (read-one c.requires c.first.ensures) ("AB", "P", "-") refl tt

pub index_of-j-requires : goal.index_of-j-requires
index_of-j-requires c = (second-named (read-two c.requires c.first.ensures c.second.ensures) ("AB", "P", "-") refl tt).lettered

pub returns : goal.returns
returns c =
    let w = read-two c.requires c.first.ensures c.second.ensures in
    performed w (c.source_of-source.ensures.is _) (indexed-is letters.Letter.P (second-named w ("AB", "P", "-") refl tt) c.index_of-j.ensures _)
    (third-none w "AB" "P" refl) c.ustaw.ensures
