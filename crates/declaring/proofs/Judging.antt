-- Question 11 of an instruction from its parts: the lower fault of two rows of places.
use mathlib.Core.Path.{◌≡◌, ◌∙◌}
use mathlib.Core.Bool.{Bool, true, false}
use lib.Dec.{leb}
use borrow.Author.Tests.{leb-true, leb-false}
use Rattle.std.specs.Bool.{then_some}
use mathlib.Core.List.{List, [], ◌∷◌, ◌++◌, map}
use Prim.Native.Nat.{ℕ, suc, ◌-◌, ◌≤◌, ◌<◌}
use native.Mathlib.Omega.{arith}
use lib.ListN.{length}
use lib.Seq.{drop-nil}
use Rattle.std.proofs.Math.ListN.{drop_of_length-le}
use Rattle.std.proofs.lemmas.List.{drop-map, take_rest}
use Rattle.argument_cells.specs.Below.Valued.{Valued}
use Rattle.argument_cells.specs.Below.Value.{Value}
use Rattle.names.specs.Below.DraftsMarks.{place_by, marks_in}
use Rattle.argument_cells.specs.Below.Entering.{Enters, EnterableValues, SomeValues, TextsEntered, NumbersEntered, long_text, large_number, set_texts, set_numbers}
use Rattle.statements.specs.Faults.{lower}
use Rattle.statements.specs.FaultLaws.{fault-both, lower-clear}
use Rattle.language.specs.Limits as limit
use Rattle.language.specs.Program.{Program}
use Rattle.language.specs.Values.{same_number}
use Rattle.lists.specs.Lists.{bytes_equal}
use Rattle.statements.specs.StatementAt.{statement_at, fault_of}
use Rattle.statements.specs.Faults.{Fault}
use Rattle.std.specs.Prelude.{None, Some}
use Rattle.syntax.specs.ArgumentForms.{Argument}
use Rattle.syntax.specs.Questions.{beyond}
use Rattle.syntax.specs.Tables.{number_in}
use Rattle.syntax.specs.Verdict.{lowest}
use Rattle.writing.specs.Writing.{HoldsProgram}
use Rattle.declaring.specs.Declaring.{texts_excess, numbers_excess, LabelsTold, InstrTold, instr_excess, with_values, Judges, JudgesValues}

-- ---- labels and instructions in excess

pub labels-over : {c : List ℕ} (ms : List ℕ) (room : ℕ) {r : Fault} → ((p : Program) → HoldsProgram c p → room ≡ 128 - length p.labels)
    → r ≡ fault_of (map place_by (marks_in ms room (length ms))) → LabelsTold c ms r
labels-over {c} ms room {r} e f p h = f ∙ rw (← e p h, drop-map place_by room, take_rest ms room)

-- where there is room for all
pub labels-within : {c : List ℕ} (ms : List ℕ) (room : ℕ) {r : Fault} → ((p : Program) → HoldsProgram c p → room ≡ 128 - length p.labels) → length ms ≤ room → r ≡ None → LabelsTold c ms r
labels-within ms room e l f p h = f ∙ rw (← e p h, drop-map place_by room, drop_of_length-le ms l)

-- one place more, within a limit and beyond it
one-fits : (k n at : ℕ) → n < k → None ≡ fault_of (beyond k n (at ∷ []))
one-fits k n at l = let q : k - n ≡ suc (k - suc n) = omega arith in rw (q, drop-nil {A = ℕ} (k - suc n))

one-over : (k n at : ℕ) → k ≤ n → Some at ≡ fault_of (beyond k n (at ∷ []))
unfolding lowest
one-over k n at l = let q : k - n ≡ 0 = omega arith in rw q

pub excess-told : (k n at : ℕ) (b : Bool) → leb k n ≡ b → then_some b at ≡ fault_of (beyond k n (at ∷ []))
excess-told k n at true e = one-over k n at (leb-true k n e)
excess-told k n at false e = one-fits k n at (leb-false k n e)

-- ---- all of question 11

module _ {s : List ℕ} {v : List Value} {c : List ℕ} (pre : EnterableValues s v c) where
  module _ {tr : Fault} {d : List ℕ} (t : TextsEntered s v c tr d) where
    pub numbers-enterable : SomeValues v d
    numbers-enterable =
        let k = (t pre.items pre.args pre.valued).still pre.held.program pre.held.holds in
        record { text = s; enterable = record { items = pre.items; args = pre.args; valued = pre.valued; short = pre.short; held = record { program = _; holds = k.holds } } }

    module _ {nr : Fault} {e : List ℕ} (u : NumbersEntered v d nr e) (n : ℕ) (args : List Argument) (w : Valued s (statement_at s n) args v) where
      abbrev texts : Enters bytes_equal (λ i. i.chars) long_text (λ p. p.texts) set_texts (statement_at s n) c tr d
      texts = t (statement_at s n) args w

      abbrev numbers : Enters same_number number_in large_number (λ p. p.numbers) set_numbers (statement_at s n) d nr e
      numbers = u s (statement_at s n) args w

      numbers-told : (p : Program) → HoldsProgram c p → nr ≡ fault_of (numbers_excess s n p)
      unfolding set_texts
      numbers-told p h = numbers.told (set_texts (texts.still p h).table p) (texts.still p h).holds

      judged-here : (at : ℕ) (ms : List ℕ) {ir lr : Fault} → InstrTold c at ir → LabelsTold c ms lr → Judges s at n ms c (lower (lower (lower ir lr) tr) nr) e
      unfolding instr_excess with_values set_texts
      judged-here at ms {ir} {lr} a b =
          record {
            told = λ p h.
                let xs = beyond limit.instructions (length p.code) (at ∷ []) in
                let ys = beyond limit.labels (length p.labels) (map place_by ms) in
                let zs = texts_excess s n p in
                let ws = numbers_excess s n p in
                rw (a p h, b p h, texts.told p h, numbers-told p h, fault-both (xs ++ ys ++ zs) ws, fault-both (xs ++ ys) zs, fault-both xs ys);
            holds = λ q p h.
                let f = lower-clear (lower (lower ir lr) tr) nr q in
                let g = lower-clear (lower ir lr) tr f.0 in
                numbers.holds f.1 _ (texts.holds g.1 p h);
            beyond_same = numbers.beyond_same ∙ texts.beyond_same;
          }

    pub judged : {nr : Fault} {e : List ℕ} → NumbersEntered v d nr e → (at : ℕ) {ms : List ℕ} {ir lr : Fault} → InstrTold c at ir → LabelsTold c ms lr
        → JudgesValues s at v ms c (lower (lower (lower ir lr) tr) nr) e
    judged u at {ms} a b n args w = judged-here u n args w at ms a b

-- the three steps of the code
pub judged-by : {s : List ℕ} {at : ℕ} {v : List Value} {ms c d : List ℕ} (ir lr tr nr : Fault) {x y z : Fault} → JudgesValues s at v ms c (lower (lower (lower ir lr) tr) nr) d
    → x ≡ lower ir lr → y ≡ lower x tr → z ≡ lower y nr → JudgesValues s at v ms c z d
judged-by ir lr tr nr h e f g = rw (g, f, e) h
