-- `lexer::colon_after` meets its contract.
use Rattle.std.proofs.Common.{refl, arith}
use Rattle.lexer.proofs.Naming.{colon-open, colon-here, no_colon-here}
use Rattle.scanner.proofs.Loops.{one_at}
use Rattle.lexer.proofs.colon_after.Goals as goal

pub returns-in-Ok : goal.returns-in-Ok
returns-in-Ok c = colon-here c.in-Ok.ensures refl (one_at c.args.text.now c.in-Ok.at 57 c.starts_with.ensures.value c.if-starts_with.true)

pub returns-in-Ok-2 : goal.returns-in-Ok-2
returns-in-Ok-2 c =
    no_colon-here c.in-Ok.ensures refl (omega (arith, c.type_inv.text c.in-Ok.at)) (one_at c.args.text.now c.in-Ok.at 57 c.starts_with.ensures.value c.if-starts_with.false)

pub returns-in-Ok-2-2 : goal.returns-in-Ok-2-2
returns-in-Ok-2-2 c = colon-open c.in-Ok-2.ensures refl
