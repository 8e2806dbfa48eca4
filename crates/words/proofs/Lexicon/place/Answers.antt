-- `words::Lexicon::place` meets its contract: the word is the one that its slot leads to, or none.
use mathlib.Core.Path.{sym, ap, ◌∙◌}
use Rattle.syntax.specs.Below.Lists.{bytes_equal}
use Rattle.words.proofs.KeywordLaws.{guessed}
use Rattle.words.proofs.Lexicon.place.Goals as goal

pub returns : goal.returns
returns c =
    let w = c.args.w.now in
    let g = c.guess-j.ensures in
    rw c.then_some.ensures (guessed _ w g.1 (sym g.0) (c.eq.ensures ∙ ap (bytes_equal w) c.word.ensures))
