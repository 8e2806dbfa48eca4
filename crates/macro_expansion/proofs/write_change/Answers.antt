-- `macro_expansion::write_change` meets its contract.
use native.Mathlib.Omega.{arith}
use Rattle.macro_memory.specs.MemoryLaws.{remembers-stays}
use Rattle.macro_expansion.specs.ExpandLaws.{change-enters}
use lib.ListN.{length}
use Rattle.macro_expansion.proofs.write_change.Goals as goal

pub returns-in_default : goal.returns-in_default
returns-in_default c =
    let a = c.args in
    let k = c.meet-step.ensures.passed c.in_default.is in
    (k, remembers-stays a.list.now.hinted.listed.coded.text.now a.list.now.hinted.listed.coded.code.now a.list.now.hinted.listed.firsts.now (length a.list.now.hinted.listed.firsts.now) a.memory.now.slots _ a.v c.meet-step.result.state _ _ c.requires.1.remembers k)

pub overflow_sub-left : goal.overflow_sub-left
overflow_sub-left c = (c.meet-step.ensures.enters _ c.in-Some.is).deeper

pub keep_call-requires : goal.keep_call-requires
keep_call-requires c =
    let e = c.meet-step.ensures.enters _ c.in-Some.is in
    let t = c.meet-step.ensures.there _ c.in-Some.is in
    (omega (arith, e.deeper, c.requires.1.most), omega (arith, t, c.args.list.now.known.cells))

pub expand_body-requires : goal.expand_body-requires
expand_body-requires c =
    let a = c.args in
    let p = c.requires.1 in
    let e = c.meet-step.ensures.enters _ c.in-Some.is in
    let k = c.meet-step.ensures.waits _ c.in-Some.is in (
      e.body,
      omega (arith, e.deeper, p.most),
      record {
        most = omega (arith, p.most);
        count = omega (arith, k.most, k.size);
        remembers = rw c.keep_call.ensures.2 (remembers-stays a.list.now.hinted.listed.coded.text.now a.list.now.hinted.listed.coded.code.now a.list.now.hinted.listed.firsts.now (length a.list.now.hinted.listed.firsts.now) a.memory.now.slots _ a.v c.meet-step.result.state _ _ p.remembers k);
      },
    )

pub returns : goal.returns
returns c =
    let a = c.args in
    let p = c.requires.1 in
    let e = c.meet-step.ensures.enters _ c.in-Some.is in (
      change-enters a.list.now.hinted.listed.coded.text.now a.list.now.hinted.listed.coded.code.now a.list.now.hinted.listed.firsts.now (length a.list.now.hinted.listed.firsts.now) a.memory.now.calls _ _ a.at.left a.at.cell c.in-Some.body a.v c.meet-step.result.state
          c.expand_body.result _ _ _ p.most c.keep_call.ensures.1 c.keep_call.ensures.0 e (c.meet-step.ensures.waits _ c.in-Some.is) c.expand_body.ensures,
      c.expand_body.ensures.remembers,
    )
