-- `words::class_mask` meets its contract: the letters that stand in the word are those of its class.
use mathlib.Core.Path.{sym, ◌∙◌, ap}
use Rattle.std.proofs.Common.{Some}
use Rattle.words.specs.Words.{class_of}
use Rattle.words.proofs.Letters.{mask-of}
use Rattle.words.proofs.class_mask.Goals as goal

pub returns-then-not-is_class : goal.returns-then-not-is_class
unfolding class_of
returns-then-not-is_class c = rw (sym c.is_class.ensures ∙ c.if-not-is_class.true)

pub returns : goal.returns
unfolding class_of
returns c = rw (sym c.is_class.ensures ∙ c.if-not-is_class.false, c.bit.ensures.0, c.bit-2.ensures.0, c.bit-3.ensures.0, c.bit-4.ensures.0, c.has.ensures, c.has-2.ensures, c.has-3.ensures, c.has-4.ensures) (ap Some (mask-of c.args.w.now))
