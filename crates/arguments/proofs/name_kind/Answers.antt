-- `arguments::name_kind` meets its contract.
use Prim.Native.Nat.{◌<◌}
use borrow.Author.Rules.{rules}
use Rattle.arguments.specs.ValueLaws.{class-read, name-read, letter-read}
use Rattle.arguments.proofs.name_kind.Goals as goal

pub returns-in-Some : goal.returns-in-Some
returns-in-Some c = class-read c.args.w.now c.requires (rw c.in-Some.is at c.class_mask.ensures)

pub returns-in-Some-indexed : goal.returns-in-Some-indexed
returns-in-Some-indexed c =
    let low : c.in-Some-indexed.read.index < 256 = search rules in
    letter-read c.args.w.now c.requires (rw c.in_default.is at c.class_mask.ensures) low
    (rw c.in-Some-indexed.is at c.indexed.ensures) (rw c.letter.ensures.0 at c.named.ensures) c.from.ensures

pub returns-in-None : goal.returns-in-None
returns-in-None c = name-read c.args.w.now c.requires (rw c.in_default.is at c.class_mask.ensures) (rw c.in-None.is at c.indexed.ensures)
