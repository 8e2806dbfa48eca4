-- The letter E, and all other arguments of tests of records.
use mathlib.Core.Path.{◌≡◌, refl, sym, ap, ◌∙◌, subst}
use mathlib.Core.Bool.{false}
use mathlib.Core.List.{List}
use Prim.Native.Nat.{ℕ, suc, ◌-◌, ◌<◌}
use native.Mathlib.Omega.{arith}
use Rattle.std.specs.Prelude.{Result, Ok, Err}
use Rattle.language.specs.Limits as limit
use Rattle.language.specs.Letters as letters
use Rattle.language.specs.Letters.{use_of}
use Rattle.language.specs.Program.{Arg}
use Rattle.language.specs.Values.{Component, Store, same}
use Rattle.lists.specs.Lists.{same_list}
use Rattle.lists.specs.Quoted.{bytes}
use Rattle.machine.specs.Arguments.{use_by, is_whole, expr, up_to}
use Rattle.layout.proofs.ComponentLaws.{components-of, whole-components}
use Rattle.records.specs.Sequences.{on_first}
use Rattle.record_tests.specs.declared.RecordsPrepared.TheVariants.{First, Whole}
use Rattle.records.proofs.Arguments.{on_records-first}
use Rattle.state.specs.Working.{nth}
use Rattle.table.specs.Denote.{letter_of, arg_of}
use Rattle.table.specs.LetterLaws.{listed-letter}
use Rattle.table.specs.declared.Letter.{Letter}
use Rattle.table.specs.declared.Letter.TheVariants.{E}
use Rattle.table.specs.declared.Argument.{Argument}
use Rattle.table.specs.declared.Argument.TheVariants.{Nothing, Indexed, Label, Switch, Class, Text, Number}
use Rattle.instructions.specs.declared.Question.{Question}
use Rattle.tests.specs.Prepares.{TestLetter, OtherLetter, TestReadable, Beside, Prepares}
use Rattle.tests.specs.declared.Prepared.{Prepared}
use Rattle.tests.proofs.Asked.{test-read, test-asked, test-refused}
use Rattle.record_tests.specs.RecordPrepares.{RecordTestReadable, PreparesRecords}

-- where it is another, the letter is one of tests of components, and compares no whole record
letter-parts : (l : Letter) → OtherLetter l → (l ≡ E → ⊥) → TestLetter l
letter-parts = listed-letter (λ m. (m ≡ E → ⊥) → TestLetter m) (bytes "BENT") (λ z. tt) (λ z. absurd (z refl)) (λ z. tt) (λ z. tt)

part-letter : (l : Letter) → TestLetter l → is_whole (use_of (letter_of l)).reading ≡ false
part-letter = listed-letter (λ m. is_whole (use_of (letter_of m)).reading ≡ false) (bytes "BNT") refl refl refl

module _ {c : List ℕ} {a : Argument} (h : RecordTestReadable c a) where
  -- E
  module _ {n : ℕ} (w : a ≡ Indexed E n) where
    pub whole-from : 0 < n
    whole-from = (h.good.index E n w).from

    pub whole-named : n - 1 < limit.expressions
    whole-named = omega (arith, whole-from, (h.good.index E n w).most)

    -- it stands for the record of all components of the expression
    pub whole-told : (t : List ℕ) (s : Store) {g : List ℕ} {k : ℕ} → Beside (expr s (nth letters.Letter.E (n - 1))) g k
        → PreparesRecords s (arg_of t a) g (Ok (Whole k))
    whole-told t s {g} {k} b =
        let i : suc (n - 1) ≡ n = omega (arith, whole-from) in
        subst (λ (x : Argument). PreparesRecords s (arg_of t x) g (Ok (Whole k))) (sym w)
        (subst (λ (m : ℕ). PreparesRecords s (Arg.letter letters.Letter.E m) g (Ok (Whole k))) i
        record {
          stop_is = λ ins. refl;
          is =
              record {
                fitting = whole-components b.encoded;
                records = λ ins. ap (λ (ys : List Component). up_to (λ r. same_list same r.parts ys)) (sym (components-of b.encoded));
                most = b.most;
                inside = b.inside;
              };
        })

  -- all else
  module _ (z : (n : ℕ) → a ≡ Indexed E n → ⊥) where
    parts-form : (l : Letter) (m : ℕ) → a ≡ Indexed l m → TestLetter l
    parts-form l m w = letter-parts l (h.form l m w) (λ e. z m (w ∙ ap (λ x. Indexed x m) e))

    pub parts-readable : TestReadable c a
    parts-readable = record { good = h.good; form = parts-form }

    reads-parts : (t : List ℕ) (b : Argument) → a ≡ b → is_whole (use_by (arg_of t b)).reading ≡ false
    reads-parts t Nothing w = refl
    reads-parts t (Indexed l m) w = part-letter l (parts-form l m w)
    reads-parts t (Label m) w = refl
    reads-parts t (Switch m) w = refl
    reads-parts t (Class m) w = refl
    reads-parts t (Text m) w = refl
    reads-parts t (Number m) w = refl

    module _ (t : List ℕ) (s : Store) {g : List ℕ} {r : Result Prepared Question} (w : Prepares s (arg_of t a) g r) where
      pub parts-refused : {q : Question} → r ≡ Err q → PreparesRecords s (arg_of t a) g (Err q)
      parts-refused e = record { stop_is = test-refused w e; is = tt }

      pub parts-told : {p : Prepared} → r ≡ Ok p → PreparesRecords s (arg_of t a) g (Ok (First p))
      parts-told e =
          let p = test-read w e in
          record {
            stop_is = λ ins. sym (test-asked w e ins);
            is =
                record {
                  fitting = p.fitting;
                  records = λ ins. on_records-first ins s (arg_of t a) (reads-parts t a refl) ∙ ap on_first (p.parts ins);
                  most = p.most;
                  inside = p.inside;
                };
          }
