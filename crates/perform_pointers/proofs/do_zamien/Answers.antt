-- `perform_pointers::do_zamien` meets its contract.
use Rattle.language.specs.Letters as letters
use Rattle.decoding.specs.OperandLaws.{indexed-is}
use Rattle.performing.specs.CarryingLaws.{performed}
use Rattle.performing.specs.PlaceLaws.{read-one, read-two}
use Rattle.perform_pointers.proofs.Operands.{both-lettered, of-exprs, of-files, of-others}
use Rattle.perform_pointers.proofs.do_zamien.Goals as goal

pub index_of-index-requires : goal.index_of-index-requires
index_of-index-requires c = (both-lettered (read-one c.requires c.first-x.ensures)).0

pub index_of-j-requires : goal.index_of-j-requires
index_of-j-requires c = (both-lettered (read-two c.requires c.first-x.ensures c.second.ensures)).1

pub unreachable-requires : goal.unreachable-requires
unreachable-requires c = of-others (read-two c.requires c.first-x.ensures c.second.ensures) c.variable_of.result c.in_default.not-Expression c.in_default.not-File c.variable_of.ensures

pub returns-in-Expression : goal.returns-in-Expression
returns-in-Expression c =
    let w = read-two c.requires c.first-x.ensures c.second.ensures in
    let b = of-exprs w c.in-Expression.is c.variable_of.ensures in
    performed w (indexed-is letters.Letter.E b.0 c.index_of-index.ensures _) (indexed-is letters.Letter.E b.1 c.index_of-j.ensures _) b.2 c.zamien_exprs.ensures

pub returns-in-File : goal.returns-in-File
returns-in-File c =
    let w = read-two c.requires c.first-x.ensures c.second.ensures in
    let b = of-files w c.in-File.is c.variable_of.ensures in
    performed w (indexed-is letters.Letter.P b.0 c.index_of-index.ensures _) (indexed-is letters.Letter.P b.1 c.index_of-j.ensures _) b.2 c.zamien_files.ensures
