-- The rows of SLOWO and LICZBA, and that their functions do what they say.
use mathlib.Core.Path.{◌≡◌, refl, sym, ap, ◌∙◌, subst}
use mathlib.Core.Bool.{Bool, true, false}
use mathlib.Core.List.{List, [], ◌∷◌}
use Prim.Native.Nat.{ℕ, ◌+◌, ◌<◌}
use native.Mathlib.Omega.{arith}
use lib.ListN.{take}
use lib.IntN.{ℤ}
use Rattle.language.specs.Limits as limit
use Rattle.language.specs.Letters.Letter.{E}
use Rattle.language.specs.Program.{Program}
use Rattle.language.specs.Program.Arg.{nothing}
use Rattle.language.specs.Program.Op.{SLOWO, LICZBA}
use Rattle.language.specs.Values.{Component, Store, State, Inputs, chars, value, decimal, value_of}
use Rattle.language.specs.Values.Component.{word}
use Rattle.machine.specs.Arguments.{expr, first, needs}
use Rattle.machine.specs.Effects.{Row, changed, row}
use Rattle.machine.specs.Effects.Go.{on}
use Rattle.layout.specs.Cells.{uncode}
use Rattle.layout.proofs.ComponentLaws.{components-of, whole-components}
use Rattle.layout.specs.Components.{component_bytes, components_in}
use Rattle.cells.specs.Cells.{pasted}
use Rattle.state.specs.Working.{Stands, nth, reading}
use Rattle.std.specs.Prelude.{Result, Ok, Err}
use Rattle.std.proofs.lemmas.Result.{IfOk-at_ok}
use Rattle.instructions.specs.Questions.{question_number, told_by}
use Rattle.instructions.specs.declared.Question.{Question}
use Rattle.instructions.specs.Does.{Does, DoesFor, Quiet, Tried}
use Rattle.instructions.proofs.Answers.{quiet-stop, quiet-tried, unstopped}
use Rattle.instructions.proofs.Asking.{some}
use Rattle.operands.specs.Operands.{OneNumber, ReadsNumber, replaced, Replaceable}
use Rattle.operands.proofs.Held.{number-held}
use Rattle.operands.proofs.Replacing.{number-first}
use Rattle.converting.specs.Converting.{NumeralPut, numeral_asks, Spells, ReadsNumeral}
use Rattle.converting.specs.declared.Spelled.{Spelled}
use Rattle.converting.proofs.Numerals.{numeral-encoded}

slowo-is : (g : Program) (ins : Inputs) (s : Store) (i : ℕ) (removes : Bool)
    → row g ins s (nth (reading removes) i) nothing nothing SLOWO
    ≡ (needs 1 (take 1 (expr s (nth E i))), replaced removes i (word (decimal (value (first (take 1 (expr s (nth E i)))))) ∷ []) s, on)
unfolding row changed replaced
slowo-is g ins s i true = refl
slowo-is g ins s i false = refl

liczba-is : (g : Program) (ins : Inputs) (s : Store) (i : ℕ) (removes : Bool)
    → row g ins s (nth (reading removes) i) nothing nothing LICZBA
    ≡ (numeral_asks (take 1 (expr s (nth E i))), replaced removes i (Component.number (value_of (chars (first (take 1 (expr s (nth E i)))))) ∷ []) s, on)
unfolding row changed replaced
liczba-is g ins s i true = refl
liczba-is g ins s i false = refl

-- ---- in front of expression i

module _ (σ : State) {i : ℕ} (h : i < limit.expressions) where
  abbrev es : List Component
  es = expr σ.store (nth E i)

  pub word-replaceable : {c : ℕ} → OneNumber (take 1 es) c → {o o' : List ℕ} {m : ℕ} → NumeralPut o c o' m → Replaceable σ i (record { parts = 1; bytes = 5; chars = 0 }) (take (1 + m) o') (record { parts = 1; bytes = 1 + m; chars = m })
  word-replaceable {c} w u =
      let d = numeral-encoded u in
      record {
        index = h;
        single = refl;
        first = number-first es (uncode c) w.is;
        letters_most = omega arith;
        whole = whole-components d;
        count = rw (components-of d) refl;
        chars_is = rw (components-of d) (omega (arith, u.count));
        parts_most = omega arith;
        chars_most = omega (arith, u.most);
      }

  pub number-replaceable : {w : Spelled} → Spells es w → (o : List ℕ) {o' : List ℕ} → o' ≡ pasted o 0 (component_bytes (Component.number (uncode w.code)))
      → Replaceable σ i (record { parts = 1; bytes = 1 + w.letters; chars = w.letters }) (take 5 o') (record { parts = 1; bytes = 5; chars = 0 })
  number-replaceable {w} v o q =
      let d = number-held w.code v.most o q in
      record {
        index = h;
        single = refl;
        first = v.first_is;
        letters_most = omega (arith, v.letters_most);
        whole = whole-components d;
        count = rw (components-of d) refl;
        chars_is = rw (components-of d) refl;
        parts_most = omega arith;
        chars_most = omega arith;
      }

-- ---- SLOWO

quiet-number : (xs : List Component) → Quiet (needs 1 xs)
quiet-number xs = record { is_50 = refl; is_55 = refl; is_56 = refl; is_57 = refl; is_58 = refl; is_59 = refl; is_60 = refl }

quiet-numeral : (xs : List Component) → Quiet (numeral_asks xs)
quiet-numeral xs = record { is_50 = refl; is_55 = refl; is_56 = refl; is_57 = refl; is_58 = refl; is_59 = refl; is_60 = refl }

module _ {σ : State} (h : Stands σ) (removes : Bool) (i : ℕ) where
  abbrev s : Store
  s = σ.store

  abbrev one : List Component
  one = take 1 (expr s (nth E i))

  abbrev slowo_rows : Program → Inputs → Row
  slowo_rows g ins = row g ins s (nth (reading removes) i) nothing nothing SLOWO

  abbrev liczba_rows : Program → Inputs → Row
  liczba_rows g ins = row g ins s (nth (reading removes) i) nothing nothing LICZBA

  pub slowo-stop : {r : Result ℕ Question} → ReadsNumber one r → {q : Question} → r ≡ Err q → DoesFor σ (question_number q) σ slowo_rows
  slowo-stop w {q} e g ins =
      rw (slowo-is g ins s i removes)
      (quiet-stop h (needs 1 one) (replaced removes i (word (decimal (value (first one))) ∷ []) s) (quiet-number one) (sym (ap told_by e) ∙ w.told) (some q))

  slowo-tried : (c : ℕ) {k : ℕ} {σ' : State} → Tried σ k σ' true (replaced removes i (word (decimal (uncode c)) ∷ []) s)
      → Does σ k σ' (needs 1 (Component.number (uncode c) ∷ []), replaced removes i (word (decimal (uncode c)) ∷ []) s, on)
  slowo-tried c u =
      let xs = Component.number (uncode c) ∷ [] in
      quiet-tried h (replaced removes i (word (decimal (uncode c)) ∷ []) s) (needs 1 xs) (quiet-number xs) refl refl refl u

  pub slowo-done : {c : ℕ} → OneNumber one c → {o o' : List ℕ} {m : ℕ} → NumeralPut o c o' m → {k : ℕ} {σ' : State}
      → Tried σ k σ' true (replaced removes i (components_in (take (1 + m) o')) s) → DoesFor σ k σ' slowo_rows
  slowo-done {c} w v {k} {σ'} u g ins =
      rw (slowo-is g ins s i removes, w.is)
      (slowo-tried c (subst (λ (ys : List Component). Tried σ k σ' true (replaced removes i ys s)) (components-of (numeral-encoded v)) u))

  -- ---- LICZBA

  abbrev values : List Component
  values = Component.number (value_of (chars (first one))) ∷ []

  pub liczba-stop : {r : Result Spelled Question} → ReadsNumeral (expr s (nth E i)) r → {q : Question} → r ≡ Err q → DoesFor σ (question_number q) σ liczba_rows
  liczba-stop w {q} e g ins =
      rw (liczba-is g ins s i removes)
      (quiet-stop h (numeral_asks one) (replaced removes i values s) (quiet-numeral one) (sym (ap told_by e) ∙ w.told) (some q))

  pub liczba-done : {r : Result Spelled Question} → ReadsNumeral (expr s (nth E i)) r → {w : Spelled} → r ≡ Ok w → (o : List ℕ) {o' : List ℕ}
      → o' ≡ pasted o 0 (component_bytes (Component.number (uncode w.code))) → {k : ℕ} {σ' : State}
      → Tried σ k σ' true (replaced removes i (components_in (take 5 o')) s) → DoesFor σ k σ' liczba_rows
  liczba-done v {w} e o {o'} q {k} {σ'} u g ins =
      let n = IfOk-at_ok (λ x. Spells (expr s (nth E i)) x) e v.is in
      let a = unstopped (numeral_asks one) (sym (sym (ap told_by e) ∙ v.told)) in
      let f : components_in (take 5 o') ≡ values = components-of (number-held w.code n.most o q) ∙ ap (λ (x : ℤ). Component.number x ∷ []) (sym n.is) in
      rw (liczba-is g ins s i removes)
      (quiet-tried h (replaced removes i values s) (numeral_asks one) (quiet-numeral one) a.0 a.1 a.2
      (subst (λ (l : List Component). Tried σ k σ' true (replaced removes i l s)) f u))

pub spelled_ok : {es : List Component} {r : Result Spelled Question} → ReadsNumeral es r → {w : Spelled} → r ≡ Ok w → Spells es w
spelled_ok {es} v e = IfOk-at_ok (λ x. Spells es x) e v.is

pub number_ok : {xs : List Component} {r : Result ℕ Question} → ReadsNumber xs r → {c : ℕ} → r ≡ Ok c → OneNumber xs c
number_ok {xs} v e = IfOk-at_ok (λ x. OneNumber xs x) e v.is
