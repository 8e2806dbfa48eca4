-- The row of RW of an input, and that its function does what it says.
use mathlib.Core.Path.{◌≡◌, refl, sym, ap, ◌∙◌, subst}
use mathlib.Core.Bool.{Bool, true, false, cond, and-true}
use mathlib.Core.List.{List, [], ◌∷◌, map}
use Prim.Native.Nat.{ℕ, ◌<◌}
use native.Mathlib.Omega.{arith}
use lib.Dec.{eqb}
use lib.ListN.{take}
use borrow.Author.Tests.{ne_eqb}
use Rattle.std.specs.Prelude.{Result, Ok, Err}
use Rattle.lists.specs.Lists.{all, any, filled}
use Rattle.language.specs.Limits as limit
use Rattle.language.specs.Letters.Letter.{I}
use Rattle.language.specs.Program.{Arg, Program}
use Rattle.language.specs.Program.Arg.{nothing}
use Rattle.language.specs.Program.Op.{RW}
use Rattle.language.specs.Values.{Component, Store, State, Inputs, kind}
use Rattle.machine.specs.Arguments.{Asks, use_by, unread, char, side, is_count, single, none, ask, ◌&◌, when, matches, cut}
use Rattle.machine.specs.Changes.{minus_unless, used_by, used}
use Rattle.machine.specs.Effects.{relation, equality, row}
use Rattle.machine.specs.Effects.Go.{on}
use Rattle.layout.specs.Bounds.{Encoded}
use Rattle.layout.proofs.ComponentLaws.{components-of}
use Rattle.layout.specs.Components.{component_in}
use Rattle.packed.specs.Packed.{table_of}
use Rattle.state.specs.Working.{HoldsState, Stands, on_store, nth}
use Rattle.table.specs.Denote.{arg_of}
use Rattle.table.specs.declared.Argument.{Argument}
use Rattle.instructions.specs.Questions.{question_number, told_by}
use Rattle.instructions.specs.declared.Question.{Question}
use Rattle.instructions.specs.Operands.{input_at}
use Rattle.instructions.specs.Does.{Quiet, stop_of}
use Rattle.instructions.proofs.Asking.{some}
use Rattle.instructions.proofs.Answers.{quiet-stop, quiet-done}
use Rattle.comparands.specs.Offers.{ArgumentOffers}
use Rattle.comparands.proofs.Below.Signs.{kept-or-minus}
use Rattle.equality.proofs.Meeting.{leads}
use Rattle.equality.proofs.Questions.{beside, offer_by, unlike_by, numeric, quiet_by, some-by, single-there}
use Rattle.readings.specs.Readings.{input_of, DoesPassing}
use Rattle.readings.proofs.Rows.{input-is}
use Rattle.input_equality.specs.InputEquality.{NotWord, compared}
use Rattle.input_equality.proofs.Characters.{met-chars}

-- ---- questions, by the answers: as of a component that is there, with a word for a component of one kind

abbrev input_by : Bool → Bool → Bool → Bool → Bool → Asks
input_by s c fy wo nu = none & when s (ask 52 fy) & when s (ask 53 wo) & when c (ask 53 nu)

quiet-input : (s c fy wo nu : Bool) → Quiet (input_by s c fy wo nu)
quiet-input s c fy wo nu =
    let k = quiet_by s c true fy wo nu in
    record { is_50 = k.is_50; is_55 = k.is_55; is_56 = k.is_56; is_57 = k.is_57; is_58 = k.is_58; is_59 = k.is_59; is_60 = k.is_60 }

stop-input : (s c fy wo nu : Bool) → stop_of (input_by s c fy wo nu) ≡ cond (eqb (stop_of (offer_by s c fy nu)) 0) (cond (unlike_by s wo) 53 0) (stop_of (offer_by s c fy nu))
stop-input s c fy wo nu = some-by s c fy wo nu

-- ---- the row

abbrev spelled : List Component → Bool
spelled ys = all (λ x. eqb (kind x) 0) (take 1 ys)

module _ (g : Program) (ins : Inputs) (s : Store) (i : ℕ) (b : Arg) where
  abbrev q : Asks
  q = input_by (single b) (is_count (use_by b).reading) (filled (side ins s b)) (spelled (side ins s b)) (numeric (side ins s b))

  abbrev holds : Bool
  holds = any (matches cut ins s b) (map char (take 1 (unread ins s (nth I i))))

  row-input : row g ins s (nth I i) b nothing RW ≡ (q, minus_unless holds s, on)
  unfolding row equality relation used used_by
  row-input = ap (λ (t : Store). (q, t, on)) (kept-or-minus holds s)

-- ---- RW of an input

module _ {σ : State} (h : Stands σ) (i1 i2 : List ℕ) (i : ℕ) (c : List ℕ) (a : Argument) {g : List ℕ} {r : Result ℕ Question}
    (o : ArgumentOffers c σ.store a g r) where
  abbrev s : Store
  s = σ.store

  abbrev b : Arg
  b = arg_of (table_of c) a

  abbrev ins : Inputs
  ins = i1 ∷ i2 ∷ []

  abbrev does : ℕ → State → Type 0
  does k σ' = DoesPassing σ k σ' (λ f. row f ins s (nth I i) b nothing RW)

  quiet : (f : Program) → Quiet (q f ins s i b)
  quiet f = quiet-input (single b) (is_count (use_by b).reading) (filled (side ins s b)) (spelled (side ins s b)) (numeric (side ins s b))

  stopped : (f : Program) {k : ℕ} → k ≡ stop_of (q f ins s i b) → (k ≡ 0 → ⊥) → does k σ
  stopped f w z f' =
      rw (row-input f' ins s i b)
      (quiet-stop h (q f ins s i b) (minus_unless (holds f ins s i b) s) (quiet f) w z)

  stop_is : (f : Program) {k : ℕ} → told_by r ≡ k → stop_of (q f ins s i b) ≡ cond (eqb k 0) (cond (unlike_by (single b) (spelled (side ins s b))) 53 0) k
  stop_is f e =
      stop-input (single b) (is_count (use_by b).reading) (filled (side ins s b)) (spelled (side ins s b)) (numeric (side ins s b))
      ∙ ap (λ (k : ℕ). cond (eqb k 0) (cond (unlike_by (single b) (spelled (side ins s b))) 53 0) k) (sym (o ins).told ∙ e)

  pub input-stop : {k : Question} → r ≡ Err k → does (question_number k) σ
  input-stop {k} y f = stopped f (sym (stop_is f (ap told_by y) ∙ rw (ne_eqb (question_number k) 0 (some k)) refl)) (some k) f

  module _ {n : ℕ} (y : r ≡ Ok n) where
    encoded : Encoded (take n g) (side ins s b)
    encoded = (beside (o ins) y).encoded

    word_is : single b ≡ true → spelled (side ins s b) ≡ eqb (kind (component_in (take n g))) 0
    word_is m =
        let k = (leads encoded (single-there c s a o y ins m)).1 in
        rw (← components-of encoded, k) (and-true (eqb (kind (component_in (take n g))) 0))

    word-asked : {u : Bool} → NotWord (take n g) a u → u ≡ unlike_by (single b) (spelled (side ins s b))
    word-asked w = w (table_of c) ∙ go (single b) refl
      where
        go : (v : Bool) → single b ≡ v
            → cond (single b) (cond (eqb (kind (component_in (take n g))) 0) false true) false ≡ unlike_by (single b) (spelled (side ins s b))
        go true m = ap (λ (v : Bool). cond (single b) (cond v false true) false) (sym (word_is m))
        go false m = rw m refl

    module _ {u : Bool} (w : NotWord (take n g) a u) where
      stop-then : (f : Program) → stop_of (q f ins s i b) ≡ cond u 53 0
      stop-then f = stop_is f (ap told_by y) ∙ ap (λ (v : Bool). cond v 53 0) (sym (word-asked w))

      pub input-unlike : u ≡ true → does 53 σ
      input-unlike v f = stopped f (sym (stop-then f ∙ rw v refl)) (λ k. omega (arith, k)) f

      met : u ≡ false → {σ' : State} → HoldsState σ' (on_store (compared a (take n g) (input_of i1 i2 i) i) σ) → does 0 σ'
      unfolding on_store compared
      met v d f =
          let m = met-chars (table_of c) ins s (take n g) (take 1 (unread ins s (nth I i))) a (components-of encoded) in
          rw (row-input f ins s i b)
          (quiet-done h (q f ins s i b) (minus_unless (holds f ins s i b) s) (quiet f) (stop-then f ∙ rw v refl) (rw m at d))

      -- with the input of the index lent
      pub input-done : u ≡ false → i < limit.inputs → {x : List ℕ} → x ≡ input_at i1 i2 i → {σ' : State} → HoldsState σ' (on_store (compared a (take n g) x i) σ)
          → does 0 σ'
      input-done v l {x} p {σ'} d =
          met v (subst (λ (z : List ℕ). HoldsState σ' (on_store (compared a (take n g) z i) σ)) (input-is i1 i2 i l p) d)
