-- `constants::umiesc_output` meets its contract.
use native.Mathlib.Omega.{arith}
use Rattle.constants.proofs.Rows.{output-full, output-done}
use Rattle.constants.proofs.umiesc_output.Goals as goal

pub returns-then-output_len-n-gt-OUTPUT : goal.returns-then-output_len-n-gt-OUTPUT
returns-then-output_len-n-gt-OUTPUT c =
    let o = c.output_len.ensures in
    output-full o.stands c.put_text-n.ensures c.requires.index o (omega (arith, c.if-output_len-n-gt-OUTPUT.true))

pub returns : goal.returns
returns c =
    let o = c.output_len.ensures in
    output-done o.stands c.put_text-n.ensures c.requires.index o c.print.ensures
