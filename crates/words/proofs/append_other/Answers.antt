-- `words::append_other` meets its contract.
use mathlib.Core.Path.{ap, ◌∙◌}
use Rattle.words.specs.Keywords.{is_english}
use Rattle.words.proofs.KeywordLaws.{other-found, other-unfound}
use Rattle.words.proofs.append_other.Goals as goal

pub returns-in_default : goal.returns-in_default
returns-in_default c = rw (← other-unfound c.args.w.now c.in_default.ensures) c.append.ensures

pub returns : goal.returns
returns c =
    let other = ap is_english c.of.ensures ∙ c.other.ensures in
    rw (c.word.ensures ∙ other-found c.args.w.now c.in-Some.edition c.in-Some.j c.in-Some.ensures other) at c.append-2.ensures
