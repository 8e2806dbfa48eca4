-- `macro_values::Around::write_given` meets its contract.
use Rattle.std.proofs.Common.{◌≡◌, refl, ap, ◌∙◌, arith, [], ◌++◌}
use Rattle.macros.specs.Expansion.{filled_in}
use Rattle.macro_code.specs.Code.{given_in, arguments_in}
use Rattle.macro_values.specs.WritingLaws.{wrote_none, wrote-more}
use Rattle.macro_values.specs.ValueLaws.{climb-told, climbed}
use Rattle.macro_values.proofs.Around.write_given.Goals as goal

pub loop-next-init : goal.loop-next-init
loop-next-init c = ([], wrote_none _ _ (omega (arith, c.add-w.ensures.most, c.add-w.ensures.size)), refl, c.requires.0)

pub loop-next-preserved : goal.loop-next-preserved
loop-next-preserved c =
    let x = c.args.self.now in
    let i = c.loop-next.invariant in
    let e = c.in-Some.ensures in (
      i.0 ++ c.own-in-Some.result.now,
      wrote-more i.0 c.own-in-Some.result.now _ _ _ _ _ _ i.1 c.add-w-in-Some.ensures,
      climb-told x.coded.text.now x.coded.code.now x.calls.now _ i.0 c.own-in-Some.result.now c.loop-next.d c.loop-next.cell c.in-Some.next e.0 e.2 c.own-in-Some.ensures i.2,
      e.3,
    )

pub returns : goal.returns
returns c =
    let x = c.args.self.now in
    let i = c.loop-next.invariant in
    let k = wrote-more c.own.result.now i.0 _ _ _ _ _ _ c.add-w.ensures i.1 in
    let e : c.own.result.now ++ i.0 ≡ filled_in (arguments_in x.coded.text.now x.coded.code.now x.calls.now x.depth) (given_in x.coded.text.now x.coded.code.now c.args.g) =
    ap (λ l. l ++ i.0) c.own.ensures ∙ climbed x.coded.text.now x.coded.code.now x.calls.now i.0 x.depth c.args.g c.loop-next.d c.loop-next.cell c.in_default.ensures i.2 in
    rw e at k
