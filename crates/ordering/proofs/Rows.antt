-- The rows of order, and that their functions do what they say.
use mathlib.Core.Path.{◌≡◌, refl, sym, ap, ◌∙◌}
use mathlib.Core.Bool.{Bool, false}
use mathlib.Core.List.{List, []}
use Prim.Native.Nat.{ℕ, ◌≤◌}
use lib.Dec.{ltb}
use lib.IntN.{ℤ}
use lib.ListN.{take}
use lib.Signed.{lt_z}
use Rattle.characters.specs.Characters.{precedes}
use Rattle.language.specs.Instructions.{two_words, two_numbers, kinds_of}
use Rattle.language.specs.Letters.Letter.{E}
use Rattle.language.specs.Program.{Arg, Op, Program}
use Rattle.language.specs.Program.Arg.{nothing}
use Rattle.language.specs.Program.Op.{WK, MN, PP, NS}
use Rattle.language.specs.Values.{Component, Store, State, Inputs, chars, value}
use Rattle.machine.specs.Arguments.{expr, first, side, of_kinds}
use Rattle.machine.specs.Changes.{minus_unless, past_by, used_by, used}
use Rattle.machine.specs.Effects.{Row, relation, ordered, row}
use Rattle.machine.specs.Effects.Go.{on}
use Rattle.layout.specs.Cells.{uncode}
use Rattle.packed.specs.Packed.{table_of}
use Rattle.state.specs.Working.{HoldsState, Stands, on_store, nth, reading}
use Rattle.table.specs.Denote.{arg_of}
use Rattle.table.specs.declared.Argument.{Argument}
use Rattle.std.specs.Prelude.{Result, Ok, Err}
use Rattle.std.proofs.lemmas.Result.{IfOk-at_ok}
use Rattle.instructions.specs.Questions.{question_number, told_by}
use Rattle.instructions.specs.declared.Question.{Question}
use Rattle.instructions.specs.Does.{Does, DoesFor, Quiet, stop_of}
use Rattle.instructions.proofs.Answers.{quiet-stop, quiet-done}
use Rattle.instructions.proofs.Asking.{some}
use Rattle.operands.specs.Operands.{Both, ReadsPair, DoesWith}
use Rattle.operands.specs.declared.Pair.{Pair}
use Rattle.operands.proofs.Codes.{coded-less}
use Rattle.operands.proofs.Signs.{kept-or-minus}
use Rattle.ordering.specs.Ordering.{BothSpelled, ReadsWords, number_op, word_op, words_by}
use Rattle.ordering.specs.declared.Order.{Order}
use Rattle.ordering.specs.declared.Order.TheVariants.{Before, After}

-- ---- the rows

abbrev Relation : Type 0
Relation = Component → Component → Bool

abbrev row_of : List (ℕ × ℕ) → Relation → Store → List Component → List Component → Row
row_of ks holds s xs ys = (of_kinds ks xs ys, minus_unless (holds (first xs) (first ys)) s, on)

ordered-is : (g : Program) (ins : Inputs) (s : Store) (i : ℕ) (a : Arg) (o : Op) (holds : Relation) → let xs = side ins s (nth (reading false) i) in
    ordered g ins s o holds (nth (reading false) i) a ≡ row_of (kinds_of o) holds s xs (side ins s a)
unfolding ordered relation used used_by past_by
ordered-is g ins s i a o holds =
    let xs = side ins s (nth (reading false) i) in
    let ys = side ins s a in
    ap (λ (t : Store). (of_kinds (kinds_of o) xs ys, t, on)) (kept-or-minus (holds (first xs) (first ys)) s)

-- how the order compares numbers
abbrev pub numbers_by : Order → ℤ → ℤ → Bool
numbers_by Before x y = lt_z x y
numbers_by After x y = lt_z y x

number-row : (d : Order) (g : Program) (ins : Inputs) (s : Store) (i : ℕ) (a : Arg) → let xs = side ins s (nth (reading false) i) in
    row g ins s (nth (reading false) i) a nothing (number_op d) ≡ row_of two_numbers (λ x y. numbers_by d (value x) (value y)) s xs (side ins s a)
unfolding row
number-row Before g ins s i a = ordered-is g ins s i a MN (λ x y. lt_z (value x) (value y))
number-row After g ins s i a = ordered-is g ins s i a WK (λ x y. lt_z (value y) (value x))

word-row : (d : Order) (g : Program) (ins : Inputs) (s : Store) (i : ℕ) (a : Arg) → let xs = side ins s (nth (reading false) i) in
    row g ins s (nth (reading false) i) a nothing (word_op d) ≡ row_of two_words (λ x y. words_by d (chars x) (chars y)) s xs (side ins s a)
unfolding row
word-row Before g ins s i a = ordered-is g ins s i a PP (λ x y. precedes (chars x) (chars y))
word-row After g ins s i a = ordered-is g ins s i a NS (λ x y. precedes (chars y) (chars x))

quiet-two : (ks : List (ℕ × ℕ)) (xs ys : List Component) → Quiet (of_kinds ks xs ys)
quiet-two ks xs ys = record { is_50 = refl; is_55 = refl; is_56 = refl; is_57 = refl; is_58 = refl; is_59 = refl; is_60 = refl }

module _ {σ : State} (h : Stands σ) where
  abbrev s : Store
  s = σ.store

  order-stop : (ks : List (ℕ × ℕ)) (holds : Relation) (xs ys : List Component) {m : ℕ} → m ≡ stop_of (of_kinds ks xs ys) → (m ≡ 0 → ⊥)
      → Does σ m σ (row_of ks holds s xs ys)
  order-stop ks holds xs ys e z = quiet-stop h (of_kinds ks xs ys) (minus_unless (holds (first xs) (first ys)) s) (quiet-two ks xs ys) e z

  order-done : (ks : List (ℕ × ℕ)) (holds : Relation) (xs ys : List Component) {b : Bool} {σ' : State} → 0 ≡ stop_of (of_kinds ks xs ys) → b ≡ holds (first xs) (first ys)
      → HoldsState σ' (on_store (minus_unless b) σ) → Does σ 0 σ' (row_of ks holds s xs ys)
  unfolding on_store
  order-done ks holds xs ys z q u =
      quiet-done h (of_kinds ks xs ys) (minus_unless (holds (first xs) (first ys)) s) (quiet-two ks xs ys) (sym z) (rw q at u)

  -- ---- numbers

  module _ (i : ℕ) (a : Argument) where
    abbrev left : Inputs → List Component
    left ins = side ins s (nth (reading false) i)

    abbrev right : List ℕ → Inputs → List Component
    right c ins = side ins s (arg_of c a)

    abbrev number_rows : Op → List ℕ → Program → Inputs → Row
    number_rows o c g ins = row g ins s (nth (reading false) i) (arg_of c a) nothing o

    module _ (d : Order) {r : Result Pair Question} (w : ReadsPair two_numbers s i a r) where
      pub numbers-stop : {q : Question} → r ≡ Err q → DoesWith σ (question_number q) σ (number_rows (number_op d))
      numbers-stop {q} e c g ins =
          rw (number-row d g ins s i (arg_of c a)) (order-stop two_numbers (λ x y. numbers_by d (value x) (value y)) (left ins) (right c ins) (sym (ap told_by e) ∙ (w false c ins).told) (some q))

      pub numbers-done : {p : Pair} → r ≡ Ok p → {b : Bool} → b ≡ numbers_by d (uncode p.left) (uncode p.right) → {σ' : State} → HoldsState σ' (on_store (minus_unless b) σ)
          → DoesWith σ 0 σ' (number_rows (number_op d))
      numbers-done {p} e q u c g ins =
          let v = IfOk-at_ok (λ x. Both (left ins) (right c ins) x) e (w false c ins).is in
          rw (number-row d g ins s i (arg_of c a))
          (order-done two_numbers (λ x y. numbers_by d (value x) (value y)) (left ins) (right c ins) (sym (ap told_by e) ∙ (w false c ins).told) (q ∙ rw (v.left_is, v.right_is) refl) u)

  -- ---- words

  module _ (c : List ℕ) (i : ℕ) (a : Argument) {x y : List ℕ} {r : Result Pair Question} (w : ReadsWords c s i a x y r) where
    abbrev other : Inputs → List Component
    other ins = side ins s (arg_of (table_of c) a)

    abbrev one : List Component
    one = take 1 (expr s (nth E i))

    abbrev word_rows : Op → Program → Inputs → Row
    word_rows o g ins = row g ins s (nth (reading false) i) (arg_of (table_of c) a) nothing o

    module _ {p : Pair} (e : r ≡ Ok p) where
      spelled : (ins : Inputs) → BothSpelled one (other ins) x y p
      spelled ins = IfOk-at_ok (λ p. BothSpelled one (other ins) x y p) e (w ins).is

      pub left_most : p.left ≤ 32768
      left_most = (spelled []).left_most

      pub right_most : p.right ≤ 32768
      right_most = (spelled []).right_most

    module _ (d : Order) where
      pub words-stop : {q : Question} → r ≡ Err q → DoesFor σ (question_number q) σ (word_rows (word_op d))
      words-stop {q} e g ins =
          rw (word-row d g ins s i (arg_of (table_of c) a)) (order-stop two_words (λ x y. words_by d (chars x) (chars y)) one (other ins) (sym (ap told_by e) ∙ (w ins).told) (some q))

      pub words-done : {p : Pair} → r ≡ Ok p → {b : Bool} → b ≡ words_by d (take p.left x) (take p.right y) → {σ' : State} → HoldsState σ' (on_store (minus_unless b) σ)
          → DoesFor σ 0 σ' (word_rows (word_op d))
      words-done {p} e q u g ins =
          let v = spelled e ins in
          rw (word-row d g ins s i (arg_of (table_of c) a))
          (order-done two_words (λ x y. words_by d (chars x) (chars y)) one (other ins) (sym (ap told_by e) ∙ (w ins).told) (q ∙ rw (v.left_is, v.right_is) refl) u)

-- codes are compared as their numbers are
pub numbers-before : (a b : ℕ) → ltb a b ≡ numbers_by Before (uncode a) (uncode b)
numbers-before a b = coded-less a b

pub numbers-after : (a b : ℕ) → ltb b a ≡ numbers_by After (uncode a) (uncode b)
numbers-after a b = coded-less b a
