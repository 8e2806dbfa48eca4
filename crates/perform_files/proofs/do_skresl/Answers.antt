-- `perform_files::do_skresl` meets its contract.
use mathlib.Core.Path.{refl}
use Rattle.language.specs.Letters as letters
use Rattle.decoding.specs.OperandLaws.{indexed-is, indexed-below}
use Rattle.perform_pointers.specs.Below.CarryingLaws.{formed, first-named, third-none, performed}
use Rattle.perform_pointers.specs.Below.PlaceLaws.{read-one, read-two}
use Rattle.perform_files.proofs.Operands.{removable}
use Rattle.perform_files.proofs.do_skresl.Goals as goal

pub index_of-index-requires : goal.index_of-index-requires
index_of-index-requires c = (first-named (read-one c.requires c.first.ensures) ("C", "-nNtBTE", "-") refl tt).lettered

pub skresl-requires : goal.skresl-requires
skresl-requires c =
    let w = read-two c.requires c.first.ensures c.second.ensures in
    removable w w.read.second (formed w ("C", "-nNtBTE", "-") refl).second
    (indexed-below letters.Letter.C (first-named w ("C", "-nNtBTE", "-") refl tt) c.index_of-index.ensures)

pub returns : goal.returns
returns c =
    let w = read-two c.requires c.first.ensures c.second.ensures in
    performed w (indexed-is letters.Letter.C (first-named w ("C", "-nNtBTE", "-") refl tt) c.index_of-index.ensures _) refl
    (third-none w "C" "-nNtBTE" refl) c.skresl.ensures
