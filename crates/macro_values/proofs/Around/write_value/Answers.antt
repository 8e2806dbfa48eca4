-- `macro_values::Around::write_value` meets its contract.
use Rattle.macro_values.specs.ValueLaws.{no-argument, the-argument}
use Rattle.macro_values.specs.WritingLaws.{wrote_none}
use Rattle.macro_values.proofs.Around.write_value.Goals as goal

pub returns-in_default : goal.returns-in_default
returns-in_default c =
    let x = c.args.self.now in
    let k = wrote_none c.args.v c.args.out.now c.requires.1 in
    rw (no-argument x.coded.text.now x.coded.code.now x.calls.now x.depth c.args.k c.in_default.ensures) at k

pub returns : goal.returns
returns c =
    let x = c.args.self.now in
    let a = c.in-Some.ensures in
    rw (the-argument x.coded.text.now x.coded.code.now x.calls.now x.depth c.args.k c.in-Some.g a.0 a.2) at c.write_given.ensures
