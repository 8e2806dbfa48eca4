-- `words::indexed` meets its contract: a letter, and digits after it that are no more than its indices and do not begin with 0.
use mathlib.Core.Path.{sym, ap, ◌∙◌}
use Prim.Native.Nat.{◌<◌}
use native.Mathlib.Omega.{arith}
use borrow.Author.Tests.{ltb-false}
use borrow.Author.Rules.{rules}
use Rattle.std.specs.Option.{option_map}
use Rattle.table.specs.Denote.{letter_of}
use Rattle.words.specs.Words.{letter_meant}
use Rattle.words.proofs.Indices.{indexed_none, indexed-other, indexed-short, indexed-zero, indexed-no, indexed-beyond, indexed-found}
use Rattle.words.proofs.indexed.Goals as goal

pub returns-in_err-first : goal.returns-in_err-first
returns-in_err-first c = ap (option_map letter_meant) c.from_residual.ensures ∙ indexed_none c.args.w.now c.in_err-first.ensures.cases

pub returns-in_err-letter : goal.returns-in_err-letter
returns-in_err-letter c =
    let small : c.in_ok-first.first.now < 256 = search rules in
    ap (option_map letter_meant) c.from_residual-in_err-letter.ensures ∙ rw c.in_ok-first.ensures.cases.0 (indexed-other c.in_ok-first.first.now c.in_ok-first.digits.now small c.in_err-letter.ensures)

pub returns-in_err-leading : goal.returns-in_err-leading
returns-in_err-leading c =
    let small : c.in_ok-first.first.now < 256 = search rules in
    let none = ltb-false _ _ (sym c.in_err-leading.ensures.item.0) in
    ap (option_map letter_meant) c.from_residual-in_err-leading.ensures
    ∙ rw c.in_ok-first.ensures.cases.0 (indexed-short c.in_ok-first.first.now c.in_ok-first.digits.now small (letter_of c.in_ok-letter.letter) c.in_ok-letter.ensures (omega (arith, none)))

pub returns-then-leading-le48 : goal.returns-then-leading-le48
returns-then-leading-le48 c =
    let small : c.in_ok-first.first.now < 256 = search rules in
    let l = c.in_ok-leading.ensures.item.3.1 0 in
    rw c.in_ok-first.ensures.cases.0 (indexed-zero c.in_ok-first.first.now c.in_ok-first.digits.now small (letter_of c.in_ok-letter.letter) c.in_ok-letter.ensures (omega (arith, l, c.if-leading-le48.true)))

pub returns-in_err-n : goal.returns-in_err-n
returns-in_err-n c =
    let small : c.in_ok-first.first.now < 256 = search rules in
    ap (option_map letter_meant) c.from_residual-in_err-n.ensures
    ∙ rw c.in_ok-first.ensures.cases.0 (indexed-no c.in_ok-first.first.now c.in_ok-first.digits.now small (letter_of c.in_ok-letter.letter) c.in_ok-letter.ensures (sym c.in_err-n.ensures))

pub returns-then-reach-n : goal.returns-then-reach-n
returns-then-reach-n c =
    let small : c.in_ok-first.first.now < 256 = search rules in
    let r = c.reach.ensures in
    rw c.in_ok-first.ensures.cases.0
    (indexed-beyond c.in_ok-first.first.now c.in_ok-first.digits.now small (letter_of c.in_ok-letter.letter) c.in_ok-letter.ensures (omega (arith, r.0, r.1)) (sym c.in_ok-n.ensures) (omega (arith, r.0, c.if-reach-n.true)))

pub returns : goal.returns
returns c =
    let small : c.in_ok-first.first.now < 256 = search rules in
    let r = c.reach.ensures in
    let l = c.in_ok-leading.ensures.item.3.1 0 in
    rw c.in_ok-first.ensures.cases.0
    (indexed-found c.in_ok-first.first.now c.in_ok-first.digits.now small (letter_of c.in_ok-letter.letter) c.in_ok-letter.ensures (omega (arith, r.0, r.1)) (omega (arith, l, c.if-leading-le48.false)) (sym c.in_ok-n.ensures)
    (omega (arith, r.0, c.if-reach-n.false)))
