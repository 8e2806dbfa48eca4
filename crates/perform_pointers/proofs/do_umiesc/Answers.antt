-- `perform_pointers::do_umiesc` meets its contract.
use mathlib.Core.Path.{refl, ap}
use Rattle.language.specs.Letters as letters
use Rattle.table.specs.Denote.{arg_of}
use Rattle.decoding.specs.OperandLaws.{indexed-is, indexed-below}
use Rattle.performing.specs.CarryingLaws.{performed}
use Rattle.performing.specs.PlaceLaws.{read-two}
use Rattle.perform_pointers.proofs.Operands.{placeable, text-placeable, constant, none-third, put-lettered, to-expr, to-file, to-output, to-other}
use Rattle.perform_pointers.proofs.do_umiesc.Goals as goal

pub variable_of-requires : goal.variable_of-requires
variable_of-requires c = put-lettered (read-two c.requires c.requires.is.first c.second-y.ensures)

pub target_of-target-requires : goal.target_of-target-requires
target_of-target-requires c = to-expr (read-two c.requires c.requires.is.first c.second-y.ensures) c.in-Expression.is c.variable_of.ensures

pub umiesc_expr-requires : goal.umiesc_expr-requires
umiesc_expr-requires c =
    let w = read-two c.requires c.first-in-Expression.ensures c.second-y.ensures in
    placeable w (constant w) c.target_of-target.ensures.below

pub file_target_of-target-requires : goal.file_target_of-target-requires
file_target_of-target-requires c = to-file (read-two c.requires c.requires.is.first c.second-y.ensures) c.in-File.is c.variable_of.ensures

pub umiesc_file-requires : goal.umiesc_file-requires
umiesc_file-requires c =
    let w = read-two c.requires c.first.ensures c.second-y.ensures in
    placeable w (constant w) c.file_target_of-target.ensures.below

pub index_of-j-requires : goal.index_of-j-requires
index_of-j-requires c = put-lettered (read-two c.requires c.requires.is.first c.second-y.ensures)

pub text_of-text-requires : goal.text_of-text-requires
text_of-text-requires c = (to-output (read-two c.requires c.first-in-Output.ensures c.second-y.ensures) c.in-Output.is c.variable_of.ensures).0

pub umiesc_output-requires : goal.umiesc_output-requires
umiesc_output-requires c =
    let w = read-two c.requires c.first-in-Output.ensures c.second-y.ensures in
    text-placeable w c.text_of-text.ensures (indexed-below letters.Letter.Q (to-output w c.in-Output.is c.variable_of.ensures).1 c.index_of-j.ensures)

pub unreachable-requires : goal.unreachable-requires
unreachable-requires c =
    to-other (read-two c.requires c.requires.is.first c.second-y.ensures) c.variable_of.result c.in_default.not-Expression c.in_default.not-File c.in_default.not-Output c.variable_of.ensures

pub returns-in-Expression : goal.returns-in-Expression
returns-in-Expression c =
    let w = read-two c.requires c.first-in-Expression.ensures c.second-y.ensures in
    performed w refl (c.target_of-target.ensures.is _) (none-third w) (c.umiesc_expr.ensures c.target_of-target.result.reverses)

pub returns-in-File : goal.returns-in-File
returns-in-File c =
    let w = read-two c.requires c.first.ensures c.second-y.ensures in
    performed w refl (c.file_target_of-target.ensures.is _) (none-third w) c.umiesc_file.ensures

pub returns-in-Output : goal.returns-in-Output
returns-in-Output c =
    let w = read-two c.requires c.first-in-Output.ensures c.second-y.ensures in
    performed w (ap (arg_of _) c.text_of-text.ensures)
    (indexed-is letters.Letter.Q (to-output w c.in-Output.is c.variable_of.ensures).1 c.index_of-j.ensures _) (none-third w) c.umiesc_output.ensures
