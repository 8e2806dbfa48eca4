-- `switches::find` meets its contract.
use mathlib.Core.Path.{sym, ap, ◌∙◌}
use Rattle.std.proofs.lemmas.Result.{IfOk-at_ok}
use Rattle.instructions.specs.Questions.{told_by}
use Rattle.language.specs.Values.{chars}
use Rattle.instructions.proofs.Fronts.{leading}
use Rattle.switches.proofs.Fronts.{some-front, first-there, found}
use Rattle.switches.proofs.find.Goals as goal

pub chars_of-w-requires : goal.chars_of-w-requires
chars_of-w-requires c = leading (IfOk-at_ok _ c.in_ok-x.was c.front_of.ensures.is)

pub returns : goal.returns
returns c =
    let s = c.args.state.now.store in
    let l = (IfOk-at_ok _ c.in_ok-x.was c.front_of.ensures.is).lent in
    let q = sym (ap told_by c.in_ok-x.was) ∙ c.front_of.ensures.told in
    record {
      told = q;
      is = found c.requires.switch c.switch_first-first.ensures c.switch_count-count.ensures s c.args.i
          (c.chars_of-w.ensures.is ∙ ap chars (sym (first-there l (some-front s c.args.i 0 q)))) c.find_entry.ensures;
    }
