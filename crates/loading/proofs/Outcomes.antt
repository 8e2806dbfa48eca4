-- What load answers and leaves: from the end of a text, or its refusal, to number, line and cells.
use mathlib.Core.Path.{◌≡◌, refl, sym, ap, ◌∙◌, subst}
use mathlib.Core.Logic.{◌≢◌}
use mathlib.Core.Bool.{Bool, cond}
use mathlib.Core.List.{List, ◌++◌}
use Prim.Native.Nat.{ℕ}
use native.Mathlib.Omega.{arith}
use borrow.Author.Tests.{ne_eqb}
use lib.ListN.{length, drop, replicate, take-append-drop}
use Rattle.calls.specs.Calls.{table_after}
use Rattle.calls.proofs.LoadLaws.{text-listed, listed-not_40}
use Rattle.drafts.specs.Drafting.{draft_program}
use Rattle.acceptance.proofs.DraftLaws.{blank-sound}
use Rattle.statements.specs.Faults.{verdict_of}
use Rattle.statements.specs.Faults.{Verdict}
use Rattle.finishing.specs.Finishing.{Finishable, Finishes}
use Rattle.language.specs.Limits as limit
use Rattle.layout.specs.Table.{table_cells}
use Rattle.finishing.specs.Below.ProgressTypeProgress.{Progress}
use Rattle.reading_statements.specs.ReadingStatements.{Read}
use Rattle.statements.specs.Questions.{question_number}
use Rattle.statements.specs.declared.Refusal.{Refusal}
use Rattle.statements.specs.declared.Rejected.{Rejected}
use Rattle.std.specs.Prelude.{Ok, Err}
use Rattle.syntax.specs.Ending.{last_place, last_questions}
use Rattle.syntax.specs.Items.{lines_of, line_at}
use Rattle.syntax.proofs.LineLaws.{text-lined}
use Rattle.syntax.specs.Load.{unless_refused, load_from, Lined, program_of, text_loads, load_typed}
use Rattle.syntax.specs.Load as spec
use Rattle.syntax.specs.Verdict.{first_no}
use Rattle.writing.specs.Writing.{Cleared}
use Rattle.loading.specs.Texts.{Unread, ReadsText, Loadable, LoadsText, Refuses, Lent, Leaves, Fit}
use Rattle.loading.specs.Told.{Loaded, told}

-- ---- a text from its beginning to its end

module _ {s lines c : List ℕ} (h : Loadable s lines c) where
  pub unread : {sw en : List ℕ} → Unread s lines c sw en
  unfolding draft_program
  unread =
      record {
        short = h.short;
        lined = h.lined;
        tabled = record {
          sound = (blank-sound (length s)).tables;
          holds = h.holds;
          spelt_arguments = tt;
          spelt_entries = tt;
          switch_names = refl;
          switch_marked = λ k l. absurd (omega arith);
          entry_marks = refl;
        };
      }

  module _ {r : Read} {ms c' sw en : List ℕ} (k : ReadsText s lines c r ms c' sw en) where
    pub text-refused : (f : Refusal) → r ≡ Err f → LoadsText s lines c (Err f) c'
    text-refused f e =
        record {
          refused = λ g q. let a : f ≡ g = cc in k.refused f e ∙ ap (λ (m : Refusal). spec.Loaded.refused (question_number m.question) (line_at lines m.at)) a;
          accepted = λ q. absurd (let z : ◌≡◌ {A = ℕ} 0 1 = cc in omega arith);
          beyond = k.beyond;
        }

    pub finishable : (g : Progress) → r ≡ Ok g → Finishable s g ms c' sw en
    finishable g e = let w = k.read g e in record { lines = lines; draft = w.draft; drafted = w.drafted }

    pub text-finished : (g : Progress) → r ≡ Ok g → {v : Verdict} {d : List ℕ} → Finishes s g ms c' sw en v d → LoadsText s lines c v d
    unfolding load_from unless_refused
    text-finished g e {v} {d} f =
        let w = k.read g e in
        let told : verdict_of v ≡ first_no (last_questions (last_place s) w.draft) = f.verdict_is lines w.draft w.drafted in
        let ends : text_loads s lines ≡ unless_refused lines (verdict_of v) (spec.Loaded.accepted (program_of lines w.draft.tables)) =
        w.left ∙ ap (λ x. unless_refused lines x (spec.Loaded.accepted (program_of lines w.draft.tables))) (sym told) in
        record {
          refused = λ f q. ends ∙ ap (λ x. unless_refused lines (verdict_of x) (spec.Loaded.accepted (program_of lines w.draft.tables))) q;
          accepted = λ q. record {
            program = program_of lines w.draft.tables;
            is = ends ∙ ap (λ x. unless_refused lines (verdict_of x) (spec.Loaded.accepted (program_of lines w.draft.tables))) q;
            holds = f.holds q lines w.draft w.drafted;
          };
          beyond = f.beyond ∙ k.beyond;
        }

-- ---- load

module _ {s c : List ℕ} (h : Fit s c) {lines : List ℕ} (e : lines ≡ lines_of s) where
  pub lent : Lent s lines c
  lent = record { short = h.short; lined = subst (λ (x : List ℕ). Lined x) (sym e) (text-lined s h.short); long = h.long }

  pub load-in : {r : Loaded} {d : List ℕ} → Leaves (text_loads s lines) c r d → Leaves (load_typed s) c r d
  load-in {r} {d} k = subst (λ x. Leaves (text_loads s x) c r d) e k

module _ {s lines c : List ℕ} (h : Lent s lines c) {c₁ : List ℕ} (z : Cleared c c₁) where
  pub loadable : Loadable s lines c₁
  loadable = record { short = h.short; lined = h.lined; holds = z.holds }

  module _ {v : Verdict} {c₂ : List ℕ} (t : LoadsText s lines c₁ v c₂) where
    pub load-accepted : v ≡ Ok tt → Leaves (text_loads s lines) c (Ok tt) c₂
    unfolding table_after
    load-accepted e =
        let a = t.accepted e in
        let q = a.is in
        record {
          is = sym (ap told q);
          cells_are =
              sym (take-append-drop limit.table c₂)
              ∙ ap (λ (x : List ℕ). x ++ drop limit.table c₂) a.holds.is
              ∙ ap (λ (x : List ℕ). table_cells a.program ++ x) (t.beyond ∙ z.beyond)
              ∙ sym (ap (λ t. table_after t c) q);
        }

    pub load-refused : (f : Refusal) → v ≡ Err f → {r : Rejected} {d : List ℕ} → Refuses lines f.question f.at c₂ r d → Leaves (text_loads s lines) c (Err r) d
    unfolding table_after
    load-refused f e {r} {d} w =
        let q = t.refused f e in
        let n : question_number f.question ≢ 40 = listed-not_40 (text_loads s lines) (text-listed lines h.lined s) (question_number f.question) (line_at lines f.at) q in
        record {
          is = (λ i. Err (question_number (w.question_is i), w.line_is i)) ∙ sym (ap told q);
          cells_are =
              sym (take-append-drop limit.table d)
              ∙ ap (λ (x : List ℕ). x ++ drop limit.table d) w.cleared.zeros
              ∙ ap (λ (x : List ℕ). replicate limit.table 0 ++ x) (w.cleared.beyond ∙ t.beyond ∙ z.beyond)
              ∙ sym (ap (λ t. table_after t c) q ∙ ap (λ (b : Bool). cond b c (replicate limit.table 0 ++ drop limit.table c)) (ne_eqb (question_number f.question) 40 n));
        }
