-- Words that write numbers: read, and made.
use mathlib.Core.Path.{◌≡◌, refl, sym, ap}
use mathlib.Core.Bool.{Bool, true, false, cond}
use mathlib.Core.List.{List, [], ◌∷◌}
use Prim.Native.Nat.{ℕ, ◌+◌}
use native.Mathlib.Omega.{arith}
use lib.ListN.{length, take, drop}
use lib.IntN.{nat_abs}
use borrow.Author.Tests.{leb-true}
use Rattle.language.specs.Letters.Letter.{E}
use Rattle.language.specs.Values.{Component, State, chars, kind, decimal, numeral, value_of, in_range}
use Rattle.language.specs.Values.Component.{word, address}
use Rattle.machine.specs.Arguments.{Asks, expr, first, ask, needs, ◌&◌}
use Rattle.layout.specs.Bounds.{Encoded}
use Rattle.layout.specs.Cells.{cell, code, uncode}
use Rattle.layout.proofs.CellLaws.{uncode-code}
use Rattle.layout.proofs.ComponentLaws.{components_bytes-one}
use Rattle.layout.specs.Components.{component_bytes, component_size, component_in, components_in}
use Rattle.components.specs.Parts.{LentChars}
use Rattle.numerals.specs.Numerals.{reads}
use Rattle.numerals.specs.declared.NoNumber.{NoNumber}
use Rattle.numerals.specs.declared.NoNumber.TheVariants.{NotNumeral, OutOfRange}
use Rattle.state.specs.Working.{nth}
use Rattle.state.specs.Blocks.{FirstParts}
use Rattle.operands.proofs.Codes.{code_most}
use Rattle.components.proofs.FirstLaws.{copied-front}
use Rattle.state.proofs.Fronts.{one-there}
use Rattle.converting.specs.Converting.{NumeralPut, ReadsNumeral}
use Rattle.std.specs.Prelude.{Result, Ok, Err}
use Rattle.instructions.specs.Questions.{question_number}
use Rattle.instructions.specs.Does.{stop_of}
use Rattle.instructions.specs.Fronts.{FrontLent}
use Rattle.instructions.specs.declared.Question.{Question}
use Rattle.instructions.specs.declared.Question.TheVariants.{Kind, Range}
use Rattle.instructions.proofs.Fronts.{there, stopped-first}

-- ---- a number as a word

module _ {o o' : List ℕ} {c r : ℕ} (w : NumeralPut o c o' r) where
  word-long : length (component_bytes (word (decimal (uncode c)))) ≡ 1 + r
  unfolding component_bytes
  word-long = omega (arith, w.count)

  pub numeral-encoded : Encoded (take (1 + r) o') (word (decimal (uncode c)) ∷ [])
  numeral-encoded =
      copied-front o (1 + r) w.is word-long
      record { is = sym (components_bytes-one (word (decimal (uncode c)))); all_ok = ((omega (arith, w.count, w.some), omega (arith, w.count, w.most)), tt) }

-- ---- a word as a number

abbrev sort : Result ℕ NoNumber → ℕ
sort (Err NotNumeral) = 0
sort (Err OutOfRange) = 1
sort (Ok c) = 2

abbrev code_in : Result ℕ NoNumber → ℕ
code_in (Err e) = 0
code_in (Ok c) = c

abbrev read_by : Bool → Bool → ℕ → Result ℕ NoNumber
read_by b c k = cond b (cond c (Ok k) (Err OutOfRange)) (Err NotNumeral)

not-numeral : (b c : Bool) (k : ℕ) → read_by b c k ≡ Err NotNumeral → b ≡ false
not-numeral false c k e = refl
not-numeral true false k e = absurd (omega (arith, ap sort e))
not-numeral true true k e = absurd (omega (arith, ap sort e))

out_of_range : (b c : Bool) (k : ℕ) → read_by b c k ≡ Err OutOfRange → (b ≡ true) × (c ≡ false)
out_of_range false c k e = absurd (omega (arith, ap sort e))
out_of_range true false k e = (refl, refl)
out_of_range true true k e = absurd (omega (arith, ap sort e))

is_code : (b c : Bool) (k : ℕ) {m : ℕ} → read_by b c k ≡ Ok m → (b ≡ true) × (c ≡ true) × (m ≡ k)
is_code false c k e = absurd (omega (arith, ap sort e))
is_code true false k e = absurd (omega (arith, ap sort e))
is_code true true k e = (refl, refl, sym (ap code_in e))

word_first : (x : Component) (xs : List Component) → kind x ≡ 0 → FirstParts (x ∷ xs) 1 (1 + length (chars x)) (length (chars x))
unfolding component_bytes
word_first (word w) xs k = record { most = omega arith; bytes_is = rw (components_bytes-one (word w)) (omega arith); chars_is = omega arith }
word_first (Component.number z) xs k = absurd (omega (arith, k))
word_first (address n) xs k = absurd (omega (arith, k))

-- 52 and 53, where no word stands in front
pub front-refused : (es : List Component) {q : Question} → question_number q ≡ stop_of (needs 0 (take 1 es)) → ReadsNumeral es (Err q)
front-refused es {q} e =
    let w = chars (first (take 1 es)) in
    let n : Asks = needs 0 (take 1 es) in
    let a : Asks = ask 53 (numeral w) in
    record { told = stopped-first q (n & a) (ask 54 (in_range (value_of w))) refl refl (stopped-first q n a refl refl e); is = tt }

module _ {σ : State} {i : ℕ} {x : List ℕ} (a : FrontLent σ i 0 x) {w : List ℕ} (v : LentChars (component_in x) w) where
  abbrev es : List Component
  es = expr σ.store (nth E i)

  here : es ≡ component_in x ∷ components_in (drop (component_size (cell x 0)) x)
  here = one-there a.lent (there a)

  pub wrong-told : reads w ≡ Err NotNumeral → ReadsNumeral es (Err Kind)
  unfolding reads
  wrong-told r =
      let f = not-numeral (numeral w) (in_range (value_of w)) (code (value_of w)) r in
      record { told = rw (here, a.kind_is, ← v.is, f) refl; is = tt }

  pub over-told : reads w ≡ Err OutOfRange → ReadsNumeral es (Err Range)
  unfolding reads
  over-told r =
      let f = out_of_range (numeral w) (in_range (value_of w)) (code (value_of w)) r in
      record { told = rw (here, a.kind_is, ← v.is, f.0, f.1) refl; is = tt }

  pub code-told : {c : ℕ} → reads w ≡ Ok c → ReadsNumeral es (Ok (record { code = c; letters = length w }))
  unfolding reads
  code-told {c} r =
      let f = is_code (numeral w) (in_range (value_of w)) (code (value_of w)) r in
      let m = leb-true (nat_abs (value_of w)) 8388607 f.1 in
      record {
        told = rw (here, a.kind_is, ← v.is, f.0, f.1) refl;
        is = record {
          is = rw (here, ← v.is, f.2) (sym (uncode-code (value_of w) m));
          first_is = rw (here, v.is) (word_first (component_in x) _ a.kind_is);
          most = rw f.2 (code_most (value_of w) m);
          letters_most = v.most;
        };
      }
