-- `words::Lexicon::word` meets its contract.
use native.Mathlib.Omega.{arith}
use Rattle.words.proofs.KeywordLaws.{named}
use Rattle.words.proofs.Lexicon.word.Goals as goal

pub bounds-self-i : goal.bounds-self-i
bounds-self-i c = omega (arith, (named c.from-i.ensures c.requires c.args.self.now.lent).0.room)

pub bounds-self-i-2 : goal.bounds-self-i-2
bounds-self-i-2 c = (named c.from-i.ensures c.requires c.args.self.now.lent).0.room

pub slice_bounds-result-count : goal.slice_bounds-result-count
slice_bounds-result-count c = rw (c.from-from.ensures, c.from-to.ensures) (named c.from-i.ensures c.requires c.args.self.now.lent).0.order

pub slice_bounds-result-start : goal.slice_bounds-result-start
slice_bounds-result-start c = rw (c.from-from.ensures, c.from-to.ensures) (named c.from-i.ensures c.requires c.args.self.now.lent).0.order

pub slice_bounds-result-end : goal.slice_bounds-result-end
slice_bounds-result-end c = rw c.from-to.ensures (named c.from-i.ensures c.requires c.args.self.now.lent).0.within

pub returns : goal.returns
returns c = rw (c.from-from.ensures, c.from-to.ensures) (named c.from-i.ensures c.requires c.args.self.now.lent).1
