-- The questions of load, by their numbers.
use Rattle.std.specs.Prelude.{ℕ}
use Rattle.statements.specs.declared.Question.{Question}
use Rattle.statements.specs.declared.Question.TheVariants as code

abbrev pub question_number : Question → ℕ
question_number code.Heading = 0
question_number code.Count = 1
question_number code.Argument = 2
question_number code.RepeatedLabel = 6
question_number code.SwitchLabels = 8
question_number code.Operator = 10
question_number code.Room = 11
question_number code.Label = 12
question_number code.Switch = 13
question_number code.Byte = 14
question_number code.Text = 15
question_number code.Length = 16
question_number code.End = 25
question_number code.Size = 40
question_number code.Macros = 64
question_number code.Call = 65
question_number code.Expansion = 66
question_number code.LabelName = 70
