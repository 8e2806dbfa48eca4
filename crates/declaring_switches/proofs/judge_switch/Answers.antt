-- `declaring_switches::judge_switch` meets its contract.
use native.Mathlib.Omega.{arith}
use Rattle.declaring_switches.proofs.Texts.{entering-first, row-enterable, entering-more, text-refused, texts-entered, lower-rest, judged-switch}
use Rattle.declaring_switches.proofs.judge_switch.Goals as goal

pub loop-entry-init : goal.loop-entry-init
loop-entry-init c = entering-first (omega arith)

pub enter_entry-requires : goal.enter_entry-requires
enter_entry-requires c = row-enterable c.requires c.loop-entry.invariant c.loop-entry-test.true

pub returns-in-Err : goal.returns-in-Err
returns-in-Err c =
    judged-switch c.requires (text-refused c.requires c.loop-entry.invariant c.loop-entry-test.true c.enter_entry.ensures c.in-Err.is) c.switch_beyond.ensures c.lower-fault.ensures c.lower.ensures

pub loop-entry-preserved : goal.loop-entry-preserved
loop-entry-preserved c = entering-more c.requires c.loop-entry.invariant c.loop-entry-test.true c.enter_entry.ensures c.in_default.is (omega arith)

pub returns : goal.returns
returns c = judged-switch c.requires (texts-entered c.requires c.loop-entry.invariant c.loop-entry-test.false) c.switch_beyond.ensures c.lower-fault.ensures (lower-rest _)
