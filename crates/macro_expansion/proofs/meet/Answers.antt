-- `macro_expansion::meet` meets its contract.
use native.Mathlib.Omega.{arith}
use borrow.Author.Tests.{eq-eqb, ne_eqb}
use Rattle.macro_expansion.specs.RunLaws.{met-value, met-nothing, call-piece, met-call}
use lib.ListN.{length}
use Rattle.macro_expansion.proofs.meet.Goals as goal

pub returns-in-Value : goal.returns-in-Value
returns-in-Value c = let a = c.args in
    met-value a.list.now.hinted.listed.coded.text.now a.list.now.hinted.listed.coded.code.now a.list.now.hinted.listed.firsts.now (length a.list.now.hinted.listed.firsts.now) a.memory.now.calls a.at.left a.at.cell a.v c.stay.result a.out.now c.write_value.result _
    (eq-eqb _ _ c.in-Value.ensures.0) c.stay.ensures.0 c.stay.ensures.1 (rw (c.around-around.ensures.0, c.around-around.ensures.1, c.around-around.ensures.2, c.in-Value.ensures.1.0) at c.write_value.ensures)

pub meet_call-requires : goal.meet_call-requires
meet_call-requires c = let a = c.args in (
  c.requires.0,
  c.requires.1.most,
  call-piece a.list.now.hinted.listed.coded.text.now a.list.now.hinted.listed.coded.code.now a.list.now.hinted.listed.firsts.now (length a.list.now.hinted.listed.firsts.now) a.memory.now.calls a.at.left a.at.cell
      (ne_eqb _ _ (λ h. omega (arith, h, c.in-Call.ensures.0))) (eq-eqb _ _ c.in-Call.ensures.0),
  c.requires.1.remembers,
)

pub returns-in-Call : goal.returns-in-Call
returns-in-Call c = let a = c.args in
    met-call a.list.now.hinted.listed.coded.text.now a.list.now.hinted.listed.coded.code.now a.list.now.hinted.listed.firsts.now (length a.list.now.hinted.listed.firsts.now) a.memory.now.calls a.at.left a.at.cell a.v c.meet_call.result a.out.now
    c.requires.1.count (λ h. omega (arith, h, c.in-Call.ensures.0)) c.meet_call.ensures

pub returns-in-Nothing : goal.returns-in-Nothing
returns-in-Nothing c = let a = c.args in
    met-nothing a.list.now.hinted.listed.coded.text.now a.list.now.hinted.listed.coded.code.now a.list.now.hinted.listed.firsts.now (length a.list.now.hinted.listed.firsts.now) a.memory.now.calls a.at.left a.at.cell a.v c.stay-in-Nothing.result a.out.now
    c.requires.1.count (ne_eqb _ _ c.in-Nothing.ensures.0) (ne_eqb _ _ c.in-Nothing.ensures.1) c.stay-in-Nothing.ensures.0 c.stay-in-Nothing.ensures.1
