-- The numbers of the kinds of frames.
use Rattle.std.specs.Prelude.{ℕ}
use Rattle.hexadecimal.specs.Below.Frames.{head, expression, file, output, stack}
use Rattle.state_lines.specs.declared.Kind.{Kind}
use Rattle.state_lines.specs.declared.Kind.TheVariants as code

abbrev pub kind_number : Kind → ℕ
kind_number code.Head = head
kind_number code.Expression = expression
kind_number code.File = file
kind_number code.Output = output
kind_number code.Stack = stack
