-- The rows of arithmetic, and that its functions do what they say.
use mathlib.Core.Path.{◌≡◌, refl, sym, ap, ◌∙◌, subst}
use mathlib.Core.Bool.{Bool, true, false, not, cond, ◌&&◌}
use mathlib.Core.List.{List, [], ◌∷◌, map}
use Prim.Native.Nat.{ℕ, ◌≤◌, ◌<◌}
use native.Mathlib.Omega.{arith}
use lib.Dec.{T, eqb}
use lib.ListN.{length}
use lib.IntN.{ℤ, nat_abs}
use lib.Signed.{quot_z, rem_z}
use borrow.Author.Tests.{le-leb, ne_eqb}
use Rattle.layout.specs.CodeLaws.{uncode-most}
use Rattle.lists.specs.Lists.{all}
use Rattle.language.specs.Instructions.{two_numbers, kinds_of}
use Rattle.language.specs.Limits as limit
use Rattle.language.specs.Letters.Letter.{E}
use Rattle.language.specs.Program.{Arg, Op, Program}
use Rattle.language.specs.Program.Arg.{nothing}
use Rattle.language.specs.Program.Op.{DZIEL}
use Rattle.language.specs.Values.{Component, Store, State, Inputs, value, in_range}
use Rattle.machine.specs.Arguments.{Asks, expr, first, side, ask, of_kinds, ◌&◌}
use Rattle.machine.specs.Changes.{fits}
use Rattle.machine.specs.Effects.{Row, computed, row}
use Rattle.machine.specs.Effects.Go.{on}
use Rattle.layout.specs.Cells.{uncode}
use Rattle.state.specs.Working.{HoldsState, Stands, nth, reading}
use Rattle.instructions.specs.Does.{answer_of, with_store, stop_of, Does, Quiet, Tried}
use Rattle.instructions.proofs.Answers.{answer-decided, kept-stop, kept-done, does-stop, answer-quiet, quiet-stop, unstopped}
use Rattle.table.specs.Denote.{arg_of}
use Rattle.table.specs.declared.Argument.{Argument}
use Rattle.std.specs.Prelude.{Result, Ok, Err}
use Rattle.std.proofs.lemmas.Result.{IfOk-at_ok}
use Rattle.instructions.specs.Questions.{question_number, told_by}
use Rattle.instructions.specs.declared.Question.{Question}
use Rattle.instructions.proofs.Asking.{some}
use Rattle.operands.specs.Operands.{Both, ReadsPair, replaced, DoesWith}
use Rattle.operands.specs.declared.Pair.{Pair}
use Rattle.components.proofs.FirstLaws.{high}
use Rattle.operands.proofs.Reading.{wordless}
use Rattle.operands.proofs.Replacing.{replaced-last, left-first}
use Rattle.arithmetic.specs.Arithmetic.{Coded, Divisible, Codes, InRange, Numbered, op_of, value_of}
use Rattle.arithmetic.specs.declared.Computed.{Computed}
use Rattle.arithmetic.specs.declared.Computed.TheVariants.{Sum, Difference, Product}
use Rattle.arithmetic.proofs.Numbers.{divided-in, size_is, size-some}

-- all is answered yes but, maybe, 59
module _ {σ : State} (q : Asks) (t : Store) where
  pub settled : answer_of (q, t, on) σ ≡ cond (fits t) 0 59 → {k : ℕ} {σ' : State} → Tried σ k σ' true t → Does σ k σ' (q, t, on)
  settled a {k} {σ'} w = go (fits t) a w.is w.holds
    where
      go : (f : Bool) → answer_of (q, t, on) σ ≡ cond f 0 59 → k ≡ cond f 0 59
          → HoldsState σ' (cond f (with_store t σ) σ) → Does σ k σ' (q, t, on)
      go true z i g = record { is = i ∙ sym z; holds = rw (kept-done (q, t, on) σ z) g }
      go false z i g = record { is = i ∙ sym z; holds = rw (kept-stop (q, t, on) σ z (λ y. omega (arith, y))) g }

-- ---- rows of two operands of the kinds ks: of what is offered as xs and ys, and has the values x and y

abbrev asks_of : List (ℕ × ℕ) → List Component → List Component → Bool → Asks
asks_of ks xs ys b = ask 54 b & of_kinds ks xs ys

abbrev row_of : List (ℕ × ℕ) → (ℤ → ℤ → List ℤ) → ℕ → Store → List Component → List Component → ℤ → ℤ → Row
row_of ks f i s xs ys x y = (asks_of ks xs ys (all in_range (f x y)), replaced true i (map Component.number (f x y)) s, on)

abbrev quotients : ℤ → ℤ → List ℤ
quotients x y = rem_z x y ∷ quot_z x y ∷ []

abbrev divided : List (ℕ × ℕ) → ℕ → Store → List Component → List Component → ℤ → ℤ → Row
divided ks i s xs ys x y = (
  ask 55 (not (eqb (nat_abs y) 0)) & asks_of ks xs ys (all in_range (quotients x y)),
  replaced true i (map Component.number (quotients x y)) s,
  on,
)

module _ (g : Program) (ins : Inputs) (s : Store) (i : ℕ) (a : Arg) where
  abbrev xs : List Component
  xs = side ins s (nth (reading true) i)

  abbrev ys : List Component
  ys = side ins s a

  abbrev of_values : (ℤ → ℤ → Row) → Row
  of_values r = r (value (first xs)) (value (first ys))

  row-computed : (w : Computed) → row g ins s (nth (reading true) i) a nothing (op_of w) ≡ of_values (row_of two_numbers (λ x y. value_of w x y ∷ []) i s xs ys)
  unfolding row computed replaced
  row-computed Sum = refl
  row-computed Difference = refl
  row-computed Product = refl

  pub row-dziel : row g ins s (nth (reading true) i) a nothing DZIEL ≡ of_values (divided (kinds_of DZIEL) i s xs ys)
  unfolding row computed replaced
  row-dziel = refl

quiet-two : (ks : List (ℕ × ℕ)) (xs ys : List Component) (b : Bool) → Quiet (asks_of ks xs ys b)
quiet-two ks xs ys b = record { is_50 = refl; is_55 = refl; is_56 = refl; is_57 = refl; is_58 = refl; is_59 = refl; is_60 = refl }

abbrev stop_two : Bool → Bool → ℕ
stop_two a b = cond a (cond b 0 53) 52

range-after : (a b c : Bool) → (stop_two a b ≡ 0 → ⊥) → stop_two a b ≡ cond a (cond b (cond (c && true) 0 54) 53) 52
range-after false b c z = refl
range-after true false c z = refl
range-after true true c z = absurd (z refl)

module _ {σ : State} (h : Stands σ) (i : ℕ) where
  abbrev s : Store
  s = σ.store

  last_most : (zs : List Component) → (replaced true i zs s).last ≤ limit.addresses
  last_most zs = rw (replaced-last true i zs s) h.fine.last_most

  module _ (ks : List (ℕ × ℕ)) (xs ys : List Component) where
    abbrev kinds : Asks
    kinds = of_kinds ks xs ys

    -- 52 or 53
    pub two-stop : (f : ℤ → ℤ → List ℤ) (x y : ℤ) {k : ℕ} → k ≡ stop_of kinds → (k ≡ 0 → ⊥) → Does σ k σ (row_of ks f i s xs ys x y)
    two-stop f x y w z =
        let c = all in_range (f x y) in
        quiet-stop h (asks_of ks xs ys c) (replaced true i (map Component.number (f x y)) s) (quiet-two ks xs ys c)
        (w ∙ range-after (kinds 52) (kinds 53) c (λ q. z (w ∙ q))) z

    -- one result
    module _ (n : 0 ≡ stop_of kinds) (v : ℤ) where
      both_yes : (kinds 52 ≡ true) × (kinds 53 ≡ true) × (kinds 54 ≡ true)
      both_yes = unstopped kinds (sym n)

      abbrev t : Store
      t = replaced true i (Component.number v ∷ []) s

      abbrev q : Asks
      q = asks_of ks xs ys (in_range v && true)

      answers : answer_of (q, t, on) σ ≡ cond ((in_range v && true) && true) (cond (fits t) 0 59) 54
      answers =
          answer-quiet q t σ (quiet-two ks xs ys (in_range v && true)) h.fine.stack_most
          ∙ rw (both_yes.0, both_yes.1, le-leb t.last limit.addresses (last_most (Component.number v ∷ []))) refl

      done-so : in_range v ≡ true → {k : ℕ} {σ' : State} → Tried σ k σ' true t → Does σ k σ' (q, t, on)
      done-so y u = settled q t (answers ∙ rw y refl) u

      over-so : in_range v ≡ false → Does σ 54 σ (q, t, on)
      over-so y = does-stop h (q, t, on) (answers ∙ rw y refl) (λ x. omega (arith, x))

      -- from what is told of it
      pub over-told : {m : Result ℕ Question} {x : Question} → InRange v m → m ≡ Err x → Does σ (question_number x) σ (q, t, on)
      over-told {x = x} u e = go (in_range v) refl (sym (ap told_by e) ∙ u.told)
        where
          go : (b : Bool) → in_range v ≡ b → question_number x ≡ cond b 0 54 → Does σ (question_number x) σ (q, t, on)
          go true y z = absurd (some x z)
          go false y z = rw z (over-so y)

      pub code-told : {m : Result ℕ Question} {c : ℕ} → InRange v m → m ≡ Ok c → {k : ℕ} {σ' : State}
          → Tried σ k σ' true (replaced true i (Component.number (uncode c) ∷ []) s) → Does σ k σ' (q, t, on)
      code-told u e {k} {σ'} w =
          let n = IfOk-at_ok (λ x. Codes v x) e u.is in
          done-so n.range (subst (λ (x : ℤ). Tried σ k σ' true (replaced true i (Component.number x ∷ []) s)) n.is w)

pub codes_most : {v : ℤ} {m : Result ℕ Question} {z : ℕ} → InRange v m → m ≡ Ok z → z ≤ 16777214
codes_most {v} u f = (IfOk-at_ok (λ x. Codes v x) f u.is).most

-- ---- DZIEL: 55, too

abbrev closed : Bool → Bool → Bool → Bool → Bool → ℕ
closed a b c d f = cond a (cond b (cond c (cond d (cond f 0 59) 55) 54) 53) 52

decided-so : (a b c d f : Bool)
    → cond (a && true) (cond (b && true) (cond ((c && true) && true) (cond ((d && true) && true) (cond ((f && true) && true) 0 59) 55) 54) 53) 52
    ≡ closed a b c d f
decided-so false b c d f = refl
decided-so true false c d f = refl
decided-so true true false d f = refl
decided-so true true true false f = refl
decided-so true true true true false = refl
decided-so true true true true true = refl

closed-stop : (a b c d f : Bool) → (stop_two a b ≡ 0 → ⊥) → closed a b c d f ≡ stop_two a b
closed-stop false b c d f z = refl
closed-stop true false c d f z = refl
closed-stop true true c d f z = absurd (z refl)

module _ {σ : State} (h : Stands σ) (i : ℕ) (ks : List (ℕ × ℕ)) (xs ys : List Component) (dividend divisor : ℤ) where
  abbrev asks : Asks
  asks = of_kinds ks xs ys

  abbrev is_divisor : Bool
  is_divisor = not (eqb (nat_abs divisor) 0)

  abbrev in_both : Bool
  in_both = all in_range (quotients dividend divisor)

  abbrev divided_row : Row
  divided_row = divided ks i σ.store xs ys dividend divisor

  answer-divided : answer_of divided_row σ ≡ closed (asks 52) (asks 53) in_both is_divisor (fits divided_row.1)
  answer-divided =
      answer-decided divided_row σ
      ∙ rw (
        le-leb (length σ.stack) limit.stack h.fine.stack_most,
        le-leb divided_row.1.last limit.addresses (last_most h i (map Component.number (quotients dividend divisor))),
      ) (decided-so (asks 52) (asks 53) in_both is_divisor (fits divided_row.1))

  dziel-stop : {k : ℕ} → k ≡ stop_of asks → (k ≡ 0 → ⊥) → Does σ k σ divided_row
  dziel-stop w z =
      does-stop h divided_row
      (answer-divided ∙ closed-stop (asks 52) (asks 53) in_both is_divisor (fits divided_row.1) (λ y. z (w ∙ y)) ∙ sym w) z

  module _ (n : 0 ≡ stop_of asks) (l : nat_abs dividend ≤ 8388607) where
    answer-two : answer_of divided_row σ ≡ cond is_divisor (cond (fits divided_row.1) 0 59) 55
    answer-two =
        let k = divided-in dividend divisor l in
        let u = unstopped asks (sym n) in
        answer-divided ∙ rw (u.0, u.1, k.0, k.1) refl

    dziel-zero : nat_abs divisor ≡ 0 → Does σ 55 σ divided_row
    dziel-zero o = does-stop h divided_row (answer-two ∙ rw o refl) (λ k. omega (arith, k))

    dziel-done : 0 < nat_abs divisor → (a b : ℕ) → uncode a ≡ rem_z dividend divisor → uncode b ≡ quot_z dividend divisor → {k : ℕ} {σ' : State}
        → Tried σ k σ' true (replaced true i (Component.number (uncode a) ∷ Component.number (uncode b) ∷ []) σ.store) → Does σ k σ' divided_row
    dziel-done o a b l m {k} {σ'} u =
        let c : eqb (nat_abs divisor) 0 ≡ false = ne_eqb (nat_abs divisor) 0 (λ q. omega (arith, o, q)) in
        let v : Tried σ k σ' true divided_row.1 =
        subst (λ (q : ℤ × ℤ). Tried σ k σ' true (replaced true i (Component.number q.0 ∷ Component.number q.1 ∷ []) σ.store))
        (ap (λ (f : ℤ). (f, uncode b)) l ∙ ap (λ (f : ℤ). (rem_z dividend divisor, f)) m) u in
        settled divided_row.0 divided_row.1 (answer-two ∙ rw c refl) v

-- ---- what the functions of the instructions promise

module _ {σ : State} (h : Stands σ) (i : ℕ) (a : Argument) where
  abbrev store : Store
  store = σ.store

  abbrev rows : Op → List ℕ → Program → Inputs → Row
  rows o c g ins = row g ins store (nth (reading true) i) (arg_of c a) nothing o

  abbrev left : Inputs → List Component
  left ins = side ins store (nth (reading true) i)

  abbrev right : List ℕ → Inputs → List Component
  right c ins = side ins store (arg_of c a)

  -- both operands are there, of kinds that are taken
  module _ {ks : List (ℕ × ℕ)} {r : Result Pair Question} (w : ReadsPair ks store i a r) {p : Pair} (e : r ≡ Ok p) where
    both : (c : List ℕ) (ins : Inputs) → Both (left ins) (right c ins) p
    both c ins = IfOk-at_ok (λ x. Both (left ins) (right c ins) x) e (w true c ins).is

    none-stops : (c : List ℕ) (ins : Inputs) → 0 ≡ stop_of (of_kinds ks (left ins) (right c ins))
    none-stops c ins = sym (ap told_by e) ∙ (w true c ins).told

    -- what is done with the codes' values is done with the operands'
    by_values : (c : List ℕ) (ins : Inputs) (f : ℤ → ℤ → Row) {k : ℕ} {σ' : State} → Does σ k σ' (f (uncode p.left) (uncode p.right))
        → Does σ k σ' (f (value (first (left ins))) (value (first (right c ins))))
    by_values c ins f d = let b = both c ins in rw (b.left_is, b.right_is) at d

    pub both_coded : Coded p.left p.right
    both_coded = let b = both [] [] in record { left = b.left_most; right = b.right_most }

    pub divisible : (p.right ≡ 8388607 → ⊥) → Divisible p.left p.right
    divisible z = record { coded = both_coded; some = z }

    pub numbered : T (wordless ks) → i < limit.expressions → Numbered σ i
    numbered k x = record { index = x; first = left-first ks k (expr store (nth E i)) (right [] []) (sym (none-stops [] [])) }

  -- an instruction with one result
  module _ (o : Computed) {r : Result Pair Question} (w : ReadsPair two_numbers store i a r) where
    abbrev one_row : List ℕ → Inputs → ℤ → ℤ → Row
    one_row c ins = row_of two_numbers (λ x y. value_of o x y ∷ []) i store (left ins) (right c ins)

    pub one-stop : {q : Question} → r ≡ Err q → DoesWith σ (question_number q) σ (rows (op_of o))
    one-stop {q} e c g ins =
        rw (row-computed g ins store i (arg_of c a) o)
        (two-stop h i two_numbers (left ins) (right c ins) (λ x y. value_of o x y ∷ []) (value (first (left ins))) (value (first (right c ins)))
        (sym (ap told_by e) ∙ (w true c ins).told) (some q))

    module _ {p : Pair} (e : r ≡ Ok p) {m : Result ℕ Question} (u : InRange (value_of o (uncode p.left) (uncode p.right)) m) where
      abbrev v : ℤ
      v = value_of o (uncode p.left) (uncode p.right)

      pub one-over : {q : Question} → m ≡ Err q → DoesWith σ (question_number q) σ (rows (op_of o))
      one-over d c g ins =
          rw (row-computed g ins store i (arg_of c a) o)
          (by_values w e c ins (one_row c ins) (over-told h i two_numbers (left ins) (right c ins) (none-stops w e c ins) v u d))

      pub one-done : {z : ℕ} → m ≡ Ok z → {k : ℕ} {σ' : State} → Tried σ k σ' true (replaced true i (Component.number (uncode z) ∷ []) store)
          → DoesWith σ k σ' (rows (op_of o))
      one-done d t c g ins =
          rw (row-computed g ins store i (arg_of c a) o)
          (by_values w e c ins (one_row c ins) (code-told h i two_numbers (left ins) (right c ins) (none-stops w e c ins) v u d t))

  module _ {r : Result Pair Question} (w : ReadsPair (kinds_of DZIEL) store i a r) where
    abbrev two_row : List ℕ → Inputs → ℤ → ℤ → Row
    two_row c ins = divided (kinds_of DZIEL) i store (left ins) (right c ins)

    pub dziel-stops : {q : Question} → r ≡ Err q → DoesWith σ (question_number q) σ (rows DZIEL)
    dziel-stops {q} e c g ins =
        rw (row-dziel g ins store i (arg_of c a))
        (dziel-stop h i (kinds_of DZIEL) (left ins) (right c ins) (value (first (left ins))) (value (first (right c ins)))
        (sym (ap told_by e) ∙ (w true c ins).told) (some q))

    module _ {p : Pair} (e : r ≡ Ok p) where
      dividend_most : nat_abs (uncode p.left) ≤ 8388607
      dividend_most = uncode-most p.left (both_coded w e).left

      pub dziel-zeros : p.right ≡ 8388607 → DoesWith σ 55 σ (rows DZIEL)
      dziel-zeros o c g ins =
          rw (row-dziel g ins store i (arg_of c a))
          (by_values w e c ins (two_row c ins)
          (dziel-zero h i (kinds_of DZIEL) (left ins) (right c ins) (uncode p.left) (uncode p.right) (none-stops w e c ins) dividend_most
          (rw (o, high 8388607 (omega arith)) refl)))

      pub dziel-dones : (p.right ≡ 8388607 → ⊥) → {x y : ℕ} → Codes (rem_z (uncode p.left) (uncode p.right)) x
          → Codes (quot_z (uncode p.left) (uncode p.right)) y → {k : ℕ} {σ' : State}
          → Tried σ k σ' true (replaced true i (Component.number (uncode x) ∷ Component.number (uncode y) ∷ []) store) → DoesWith σ k σ' (rows DZIEL)
      dziel-dones o {x} {y} l m u c g ins =
          let d = both_coded w e in
          rw (row-dziel g ins store i (arg_of c a))
          (by_values w e c ins (two_row c ins)
          (dziel-done h i (kinds_of DZIEL) (left ins) (right c ins) (uncode p.left) (uncode p.right) (none-stops w e c ins) dividend_most
          (size-some (size_is p.right d.right) d.right o) x y l.is m.is u))
