-- `state_contents::put_string` meets its contract.
use Rattle.state_contents.proofs.Laying.{put-none, put_one}
use Rattle.state_contents.proofs.put_string.Goals as goal

pub returns-then-at-n-gt-STATE : goal.returns-then-at-n-gt-STATE
returns-then-at-n-gt-STATE c =
    let a = c.args in
    put-none a.m.now a.j a.at a.bytes.now c.requires.place c.if-at-n-gt-STATE.true

pub returns : goal.returns
returns c = put_one c.if-at-n-gt-STATE.false c.put_two.ensures c.put.ensures
