-- The rows of KOPIUJ, SKRESL and OMIN, and that their functions do them.
use mathlib.Core.Path.{◌≡◌, refl, sym, ap, ◌∙◌}
use mathlib.Core.Bool.{Bool, true, false}
use mathlib.Core.List.{List}
use Prim.Native.Nat.{ℕ}
use Rattle.std.specs.Prelude.{Result, Ok, Err}
use Rattle.std.proofs.lemmas.Result.{IfOk-at_ok}
use Rattle.language.specs.Letters.Letter.{P}
use Rattle.language.specs.Program.{Arg, Program}
use Rattle.language.specs.Program.Arg.{nothing}
use Rattle.language.specs.Program.Op.{KOPIUJ, SKRESL, OMIN}
use Rattle.language.specs.Values.{Record, Store, State, Inputs}
use Rattle.machine.specs.Arguments.{Asks, Until, test_asks, on_records}
use Rattle.machine.specs.Changes.{put_file, past_file, past_by, past}
use Rattle.machine.specs.Effects.{Row, moved, row}
use Rattle.machine.specs.Effects.Go.{on}
use Rattle.state.specs.Working.{HoldsState, Stands, on_store, nth, filing}
use Rattle.instructions.specs.Does.{Does, DoesFor, stop_of}
use Rattle.instructions.specs.Questions.{question_number, told_by}
use Rattle.instructions.specs.declared.Question.{Question}
use Rattle.instructions.proofs.Answers.{quiet-stop}
use Rattle.instructions.proofs.Asking.{some}
use Rattle.instructions.proofs.Storing.{storing-done}
use Rattle.tests.proofs.Asked.{quiet-test}
use Rattle.record_tests.specs.RecordPrepares.{ReadRecordTest, PreparesRecords, until_records_in}
use Rattle.record_tests.specs.declared.RecordsPrepared.{RecordsPrepared}
use Rattle.copying.specs.Copies.{passed, copied, Storing}

module _ (g : Program) (ins : Inputs) (s : Store) (i : ℕ) (c : Arg) where
  row-skresl : row g ins s (nth (filing true) i) c nothing SKRESL ≡ (test_asks ins s c, passed (on_records ins s c) true i s, on)
  unfolding row moved passed
  row-skresl = refl

  row-omin : row g ins s (nth P i) c nothing OMIN ≡ (test_asks ins s c, passed (on_records ins s c) false i s, on)
  unfolding row moved passed past past_by past_file put_file
  row-omin = refl

  row-kopiuj : (removes reverses : Bool) (j : ℕ)
      → row g ins s (nth (filing removes) i) (nth (filing reverses) j) c KOPIUJ ≡ (test_asks ins s c, copied (on_records ins s c) removes i reverses j s, on)
  unfolding row moved copied
  row-kopiuj true reverses j = refl
  row-kopiuj false reverses j = refl

module _ {σ : State} (h : Stands σ) (i : ℕ) (c : Arg) {x : List ℕ} {r : Result RecordsPrepared Question} (w : PreparesRecords σ.store c x r) where
  abbrev s : Store
  s = σ.store

  abbrev asks : Inputs → Asks
  asks ins = test_asks ins s c

  abbrev u : RecordsPrepared → Until Record
  u p = until_records_in p x

  -- a question of the test is answered no
  stopped : {q : Question} → r ≡ Err q → (t : Store) (ins : Inputs) → Does σ (question_number q) σ (asks ins, t, on)
  stopped {q} e t ins = quiet-stop h (asks ins) t (quiet-test ins s c) (sym (ap told_by e) ∙ w.stop_is ins) (some q)

  module _ {p : RecordsPrepared} (e : r ≡ Ok p) where
    all_asked : (ins : Inputs) → stop_of (asks ins) ≡ 0
    all_asked ins = sym (w.stop_is ins) ∙ ap told_by e

    test-is : (ins : Inputs) → on_records ins s c ≡ u p
    test-is = (IfOk-at_ok (λ y. ReadRecordTest s c x y) e w.is).records

    passed-done : (removes : Bool) {σ' : State} → HoldsState σ' (on_store (passed (u p) removes i) σ) → (ins : Inputs)
        → Does σ 0 σ' (asks ins, passed (on_records ins s c) removes i s, on)
    unfolding on_store
    passed-done removes k ins = rw (test-is ins) (storing-done h (asks ins) (quiet-test ins s c) (all_asked ins) (passed (u p) removes i s) k)

  abbrev deleting : Program → Inputs → Row
  deleting g ins = row g ins s (nth (filing true) i) c nothing SKRESL

  pub skresl-stop : {q : Question} → r ≡ Err q → DoesFor σ (question_number q) σ deleting
  skresl-stop e g ins = rw (row-skresl g ins s i c) (stopped e (passed (on_records ins s c) true i s) ins)

  pub skresl-done : {p : RecordsPrepared} → r ≡ Ok p → {σ' : State} → HoldsState σ' (on_store (passed (u p) true i) σ) → DoesFor σ 0 σ' deleting
  skresl-done e k g ins = rw (row-skresl g ins s i c) (passed-done e true k ins)

  abbrev skipping : Program → Inputs → Row
  skipping g ins = row g ins s (nth P i) c nothing OMIN

  pub omin-stop : {q : Question} → r ≡ Err q → DoesFor σ (question_number q) σ skipping
  omin-stop e g ins = rw (row-omin g ins s i c) (stopped e (passed (on_records ins s c) false i s) ins)

  pub omin-done : {p : RecordsPrepared} → r ≡ Ok p → {σ' : State} → HoldsState σ' (on_store (passed (u p) false i) σ) → DoesFor σ 0 σ' skipping
  omin-done e k g ins = rw (row-omin g ins s i c) (passed-done e false k ins)

  module _ (removes reverses : Bool) (j : ℕ) where
    abbrev duplicating : Program → Inputs → Row
    duplicating g ins = row g ins s (nth (filing removes) i) (nth (filing reverses) j) c KOPIUJ

    pub kopiuj-stop : {q : Question} → r ≡ Err q → DoesFor σ (question_number q) σ duplicating
    kopiuj-stop e g ins = rw (row-kopiuj g ins s i c removes reverses j) (stopped e (copied (on_records ins s c) removes i reverses j s) ins)

    pub kopiuj-done : {p : RecordsPrepared} → r ≡ Ok p → {k : ℕ} {σ' : State} → Storing σ k σ' (copied (u p) removes i reverses j s) → DoesFor σ k σ' duplicating
    kopiuj-done e k g ins = rw (row-kopiuj g ins s i c removes reverses j, test-is e ins) (k (asks ins) (quiet-test ins s c) (all_asked e ins))
