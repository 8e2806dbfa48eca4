-- `spelling::put_char` meets its contract.
use Rattle.std.proofs.Common.{ap, length, arith, ◌≡◌}
use Rattle.scanner.specs.Below.Items.{char_of}
use Rattle.spelling.proofs.Chars.{puts_none, puts_one}
use Rattle.spelling.proofs.put_char.Goals as goal

pub returns-in_default : goal.returns-in_default
returns-in_default c = puts_none c.args.out.now c.args.j c.in_default.ensures

pub bounds-out-j : goal.bounds-out-j
bounds-out-j c = let one : length (char_of c.args.star c.args.b) ≡ 1 = ap length c.in-Some.ensures in omega (arith, c.requires)

pub returns : goal.returns
returns c =
    let one : length (char_of c.args.star c.args.b) ≡ 1 = ap length c.in-Some.ensures in
    puts_one c.args.out.now c.args.j c.in-Some.c c.in-Some.ensures (omega (arith, c.requires))
