-- `console::put_end` meets its contract.
use Rattle.lists.specs.Quoted.{bytes}
use Rattle.console.specs.Console.{end_line}
use Rattle.console.proofs.Putting.{put-long, put_then, field-most, answer-most}
use native.Mathlib.Omega.{arith}
use Rattle.console.proofs.put_end.Goals as goal

pub put_field-b-requires : goal.put_field-b-requires
put_field-b-requires c = record { room = omega (arith, put-long c.put_answer-a.ensures, c.put_answer-a.ensures.count, answer-most c.args.stopped, c.requires.room); most = omega (arith, c.requires.line_most, c.requires.count_most) }

pub put_field-c-requires : goal.put_field-c-requires
put_field-c-requires c = record { room = omega (arith, put-long c.put_answer-a.ensures, put-long c.put_field-b.ensures, c.put_answer-a.ensures.count, c.put_field-b.ensures.count, answer-most c.args.stopped, field-most (bytes " LINE ") c.args.line, field-most (bytes " LINE ") c.args.count, c.requires.room); most = c.requires.count_most }

pub put-requires : goal.put-requires
put-requires c = omega (arith, put-long c.put_answer-a.ensures, put-long c.put_field-b.ensures, put-long c.put_field-c.ensures, c.put_answer-a.ensures.count, c.put_field-b.ensures.count, c.put_field-c.ensures.count, answer-most c.args.stopped, field-most (bytes " LINE ") c.args.line, field-most (bytes " LINE ") c.args.count, field-most (bytes " STEPS ") c.args.count, c.requires.room)

pub returns : goal.returns
unfolding end_line
returns c = put_then c.put_answer-a.ensures (put_then c.put_field-b.ensures (put_then c.put_field-c.ensures c.put.ensures))
