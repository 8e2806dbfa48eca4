-- `macro_expansion::find_written` meets its contract.
use Rattle.std.specs.Prelude.{None}
use Rattle.std.proofs.Common.{◌≡◌, sym, ◌∙◌, ◌+◌, rules}
use Rattle.macros.specs.Expansion.{filled_in}
use Rattle.macro_code.specs.Code.{given_in, arguments_in}
use Rattle.macro_values.specs.WritingLaws.{none-over}
use Rattle.macro_expansion.specs.CallLaws.{long-unknown}
use lib.ListN.{length}
use Rattle.macro_expansion.proofs.find_written.Goals as goal

pub returns-in_err-n : goal.returns-in_err-n
returns-in_err-n c =
    let l = c.args.list.now.hinted.listed in
    let x = c.args.around.now in
    let w = filled_in (arguments_in x.coded.text.now x.coded.code.now x.calls.now x.depth) (given_in x.coded.text.now x.coded.code.now (c.args.cell + 2)) in
    let k = rw c.nothing.ensures at c.write_given-written.ensures in
    let none : c.write_given-written.result.count ≡ None = search rules in
    rw c.from_residual.ensures
    (record {
      once_is = long-unknown l.coded.text.now l.coded.code.now l.firsts.now (length l.firsts.now) w c.args.name.now c.args.list.now.known.names c.requires.1 (sym k.over ∙ none-over c.write_given-written.result none);
      only = tt;
    })
