-- `console::refusal` meets its contract.
use Rattle.lists.specs.Quoted.{bytes}
use Rattle.console.specs.Console.{refusal_line}
use Rattle.console.proofs.Putting.{put-long, put_then, field-most}
use native.Mathlib.Omega.{arith}
use Rattle.console.proofs.refusal.Goals as goal

pub put-requires : goal.put-requires
put-requires c = omega (arith, put-long c.put-a.ensures, put-long c.put_two-b.ensures, put-long c.put_field-c.ensures, c.put-a.ensures.count, c.put_two-b.ensures.count, c.put_field-c.ensures.count, field-most (bytes " LINE ") c.args.line, c.requires.room)

pub returns : goal.returns
unfolding refusal_line
returns c = put_then c.put-a.ensures (put_then c.put_two-b.ensures (put_then c.put_field-c.ensures c.put.ensures))
