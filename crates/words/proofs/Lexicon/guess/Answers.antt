-- `words::Lexicon::guess` meets its contract.
use Rattle.words.specs.Keywords.{is_english, guess}
use Rattle.words.proofs.KeywordLaws.{guess-at}
use native.Mathlib.Omega.{arith}
use Rattle.words.proofs.Lexicon.guess.Goals as goal

pub bounds-self-h : goal.bounds-self-h
bounds-self-h c =
    let e = c.args.self.now in
    omega (arith, (guess-at (is_english e.edition) c.slot-h.result c.slot-h.ensures.1 e.lent.slots_are).0, c.slot-h.ensures.1)

pub overflow_sub-result : goal.overflow_sub-result
overflow_sub-result c =
    let e = c.args.self.now in
    (guess-at (is_english e.edition) c.slot-h.result c.slot-h.ensures.1 e.lent.slots_are).1

pub returns : goal.returns
unfolding guess
returns c =
    let e = c.args.self.now in
    let g = guess-at (is_english e.edition) c.slot-h.result c.slot-h.ensures.1 e.lent.slots_are in
    (rw (g.3, c.slot-h.ensures.0), omega (arith, g.2))
