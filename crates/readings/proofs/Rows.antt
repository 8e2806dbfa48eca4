-- The rows of CZYTAJ and of USUN of an input: what they make of a store, and that their functions do it.
use mathlib.Core.Path.{◌≡◌, refl, ap, subst}
use mathlib.Core.Bool.{Bool, true, false}
use mathlib.Core.List.{List, [], ◌∷◌, reverse}
use Prim.Native.Nat.{ℕ, zero, suc, ◌<◌}
use native.Mathlib.Omega.{arith}
use lib.ListN.{take}
use Rattle.std.specs.Prelude.{Result, Ok, Err}
use Rattle.language.specs.Limits as limit
use Rattle.language.specs.Letters.Letter.{I}
use Rattle.language.specs.Program.{Arg, Program}
use Rattle.language.specs.Program.Arg.{nothing}
use Rattle.language.specs.Program.Op.{CZYTAJ, USUN}
use Rattle.language.specs.Values.{Store, State, Inputs}
use Rattle.machine.specs.Arguments.{at, unread, taken, test_asks, on_chars}
use Rattle.machine.specs.Changes.{put_expr, minus_unless, placed, into, past}
use Rattle.machine.specs.Effects.{Row, moved, row}
use Rattle.machine.specs.Effects.Go.{on}
use Rattle.state.specs.Working.{HoldsState, Stands, on_store, nth, writing}
use Rattle.instructions.specs.Questions.{question_number}
use Rattle.instructions.specs.declared.Question.{Question}
use Rattle.instructions.specs.Does.{Tried}
use Rattle.instructions.specs.Operands.{target, input_at}
use Rattle.tests.specs.Prepares.{Prepares, until_firsts_in}
use Rattle.tests.specs.declared.Prepared.{Prepared}
use Rattle.tests.proofs.Asked.{test-read, test-stop, test-tried}
use Rattle.moves.proofs.Rows.{done}
use Rattle.joining.specs.Joining.{word_if}
use Rattle.readings.specs.Readings.{input_of, read_up, passed, DoesReading, DoesPassing, Unread}

-- ---- a word turned round is itself

turned-word : (w : List ℕ) → reverse (word_if w) ≡ word_if w
turned-word [] = refl
turned-word (x ∷ w) = refl

into-word : (reverses at_end : Bool) (j : ℕ) (w : List ℕ) (s : Store) → into (nth (target reverses at_end) j) (word_if w) s ≡ into (nth (writing at_end) j) (word_if w) s
unfolding into placed put_expr
into-word true true j w s = rw (turned-word w) refl
into-word true false j w s = rw (turned-word w) refl
into-word false true j w s = refl
into-word false false j w s = refl

-- ---- what the rows make

module _ (g : Program) (ins : Inputs) (s : Store) (i : ℕ) (c : Arg) where
  row-czytaj : (reverses at_end : Bool) (j : ℕ)
      → row g ins s (nth I i) (nth (target reverses at_end) j) c CZYTAJ ≡ (test_asks ins s c, read_up (on_chars ins s c) (at [] ins (nth I i)) i at_end j s, on)
  unfolding row moved read_up
  row-czytaj reverses at_end j =
      let w = unread ins s (nth I i) in
      let r = taken (on_chars ins s c) w in
      ap (λ (t : Store). (test_asks ins s c, minus_unless r.1 t, on)) (into-word reverses at_end j (take r.0 w) (past (nth I i) r.0 s))

  row-usun : row g ins s (nth I i) c nothing USUN ≡ (test_asks ins s c, passed (on_chars ins s c) (at [] ins (nth I i)) i s, on)
  unfolding row moved passed
  row-usun = refl

-- ---- the input of an index

pub input-is : (a b : List ℕ) {o : List ℕ} (i : ℕ) → i < limit.inputs → o ≡ input_at a b i → o ≡ input_of a b i
input-is a b zero h q = q
input-is a b (suc zero) h q = q
input-is a b (suc (suc i)) h q = absurd (omega (arith, h))

pub unread-is : {σ : State} (a b : List ℕ) {o : List ℕ} (i : ℕ) → o ≡ input_at a b i → Unread σ (input_of a b i) i → Unread σ o i
unread-is a b i q h = rw (input-is a b i h.index q) h

-- ---- what the functions do

module _ {σ : State} (h : Stands σ) (a b : List ℕ) (i : ℕ) (l : i < limit.inputs) (c : Arg) {x : List ℕ} {r : Result Prepared Question} (w : Prepares σ.store c x r) where
  abbrev s : Store
  s = σ.store

  abbrev ins : Inputs
  ins = a ∷ b ∷ []

  module _ (at_end : Bool) (j : ℕ) where
    abbrev by : Program → Bool → Row
    by g reverses = row g ins s (nth I i) (nth (target reverses at_end) j) c CZYTAJ

    pub czytaj-stop : {q : Question} → r ≡ Err q → DoesReading σ (question_number q) σ by
    czytaj-stop e g reverses =
        rw (row-czytaj g ins s i c reverses at_end j) (test-stop h c w ins (read_up (on_chars ins s c) (input_of a b i) i at_end j s) e)

    pub czytaj-tried : {p : Prepared} → r ≡ Ok p → {o : List ℕ} → o ≡ input_at a b i → {k : ℕ} {σ' : State}
        → Tried σ k σ' true (read_up (until_firsts_in p x) o i at_end j s) → DoesReading σ k σ' by
    czytaj-tried {p} e {o} q {k} {σ'} y g reverses =
        let u = until_firsts_in p x in
        let t = subst (λ (z : List ℕ). Tried σ k σ' true (read_up u z i at_end j s)) (input-is a b i l q) y in
        rw (row-czytaj g ins s i c reverses at_end j, (test-read w e).chars ins) (test-tried h c w ins (read_up u (input_of a b i) i at_end j s) e t)

  abbrev gone : Program → Row
  gone g = row g ins s (nth I i) c nothing USUN

  pub usun-stop : {q : Question} → r ≡ Err q → DoesPassing σ (question_number q) σ gone
  usun-stop e g = rw (row-usun g ins s i c) (test-stop h c w ins (passed (on_chars ins s c) (input_of a b i) i s) e)

  pub usun-done : {p : Prepared} → r ≡ Ok p → {o : List ℕ} → o ≡ input_at a b i → {σ' : State}
      → HoldsState σ' (on_store (passed (until_firsts_in p x) o i) σ) → DoesPassing σ 0 σ' gone
  usun-done {p} e {o} q {σ'} k g =
      let u = until_firsts_in p x in
      let t = subst (λ (z : List ℕ). HoldsState σ' (on_store (passed u z i) σ)) (input-is a b i l q) k in
      rw (row-usun g ins s i c, (test-read w e).chars ins) (test-tried h c w ins (passed u (input_of a b i) i s) e (done h (passed u (input_of a b i) i) t))
