-- The last questions of a text: from the answers of the code to those of the specification.
use mathlib.Core.Path.{◌≡◌, refl, sym, ap, ◌∙◌}
use mathlib.Core.Bool.{Bool, true, false, not}
use mathlib.Core.List.{List, ◌∷◌, map}
use Prim.Native.Nat.{ℕ, ◌-◌, ◌≤◌}
use native.Mathlib.Omega.{arith}
use lib.ListN.{length, length-map}
use Rattle.std.specs.Option.{is_none}
use Rattle.progress.specs.Closing.{Ends}
use Rattle.progress.specs.declared.Closing.{Closing}
use Rattle.drafts.specs.Marks.{marks_in, place_by}
use Rattle.progress.specs.Below.DeclaringTabledLaws.{mark-places}
use Rattle.acceptance.proofs.RowLaws.{each_map}
use Rattle.drafts.specs.Drafting.{draft_program, draft_instr}
use Rattle.statements.specs.Faults.{decided, then}
use Rattle.statements.specs.FaultLaws.{question-decides}
use Rattle.statements.specs.Faults.{Verdict, verdict_of}
use Rattle.layout.specs.Cells.{cell}
use Rattle.linking.specs.Linking.{Kept, Links, last_two}
use Rattle.linking.proofs.Answers.{refused-at}
use Rattle.statements.specs.declared.Refusal.{Refusal}
use Rattle.std.specs.Prelude.{Ok, Err}
use Rattle.packed.specs.Packed.{table_of}
use Rattle.progress.specs.Progress.{Drafted}
use Rattle.progress.specs.ProgressLaws.{labels-most}
use Rattle.progress.specs.declared.Progress.{Progress}
use Rattle.statements.specs.StatementAt.{fault_of}
use Rattle.statements.specs.Faults.{Fault}
use Rattle.std.specs.Prelude.{None}
use Rattle.syntax.specs.Ending.{last_place, absent, end_faults, last_questions}
use Rattle.syntax.specs.Items.{places}
use Rattle.syntax.specs.Tables.{Draft, is_first}
use Rattle.syntax.specs.Verdict as spec
use Rattle.syntax.specs.Verdict.{ask, first_no}
use Rattle.syntax.specs.Verdict.Verdict.{refuse}
use Rattle.writing.proofs.Held.{code_count}
use Rattle.finishing.specs.Finishing.{Finishes}

not_yes : {number at : ℕ} (v : Verdict) → verdict_of v ≡ refuse number at → v ≡ Ok tt → ⊥
not_yes (Ok u) w e = let z : ◌≡◌ {A = ℕ} 0 1 = cc in omega arith
not_yes (Err f) w e = let z : ◌≡◌ {A = ℕ} 0 1 = cc in omega arith

-- ---- the draft as it is kept

module _ {s lines : List ℕ} {d : Draft} {g : Progress} {ms c sw en : List ℕ} (h : Drafted s lines d g ms c sw en) where
  -- the marks of all labels have a place
  pub names-most : g.names ≤ length ms
  names-most = labels-most h.tells.names

  pub kept : Kept s c sw en
  kept = record { lines = lines; tables = d.tables; tabled = h.tabled }

  pub code_is : {n : ℕ} → n ≡ cell (table_of c) 0 → length d.tables.code ≡ n
  unfolding draft_program
  code_is e = sym (e ∙ code_count c (draft_program lines d.tables) h.tabled.holds ∙ length-map d.tables.code (draft_instr lines))

  pub waiting-is : {f : Fault} → f ≡ fault_of (map place_by (marks_in ms (g.names - g.waiting) g.names)) → fault_of (places d.waiting) ≡ f
  waiting-is e =
      sym
      (e ∙ ap (λ (x : List ℕ). fault_of (map place_by x)) h.tells.waiting.marks
      ∙ ap fault_of (mark-places d.waiting (each_map _ _ (λ i k. k.fine.short) d.waiting h.sound.waiting)))

-- ---- the questions in order

module _ {s : List ℕ} {g : Progress} {ms c sw en : List ℕ} {last : ℕ} (l : last ≡ last_place s) where
  -- 00 is asked of the draft's section
  asked : {lines : List ℕ} (d : Draft) → Drafted s lines d g ms c sw en → (b : Bool) → is_none g.section ≡ b
      → first_no (last_questions (last_place s) d)
      ≡ then (decided 0 (fault_of (absent (not b) (last_place s)))) (then (decided 25 (fault_of (end_faults (last_place s) d))) (first_no (last_two d.tables)))
  unfolding last_questions
  asked d h b e =
      question-decides 0 (absent (not (is_first d)) (last_place s)) _
      ∙ ap (λ (x : Bool). then (decided 0 (fault_of (absent (not x) (last_place s)))) (first_no (ask 25 (end_faults (last_place s) d) ∷ last_two d.tables))) (h.tells.section.first_is ∙ e)
      ∙ ap (λ (x : spec.Verdict). then (decided 0 (fault_of (absent (not b) (last_place s)))) x) (question-decides 25 (end_faults (last_place s) d) (last_two d.tables))

  pub no-section : is_none g.section ≡ true → (v : Verdict) → verdict_of v ≡ refuse 0 last → Finishes s g ms c sw en v c
  unfolding spec.lowest
  no-section z v w =
      record {
        verdict_is = λ lines d h. w ∙ ap (refuse 0) l ∙ sym (asked d h true z);
        holds = λ q. absurd (not_yes v w q);
        beyond = refl;
      }

  module _ (n : is_none g.section ≡ false) {k : Closing} {code : ℕ} {ended waiting f : Fault} (u : Ends last k code ended waiting f)
      (k-is : k ≡ g.closing) (code_of_lem : code ≡ cell (table_of c) 0) (ended_is : ended ≡ g.ended)
      (waiting-of : waiting ≡ fault_of (map place_by (marks_in ms (g.names - g.waiting) g.names))) where
    fault-here : {lines : List ℕ} (d : Draft) → Drafted s lines d g ms c sw en → f ≡ fault_of (end_faults (last_place s) d)
    fault-here d h =
        u d (rw k-is h.tells.closing) (code_is h code_of_lem) (h.tells.ended ∙ sym ended_is) (waiting-is h waiting-of) ∙ ap (λ (x : ℕ). fault_of (end_faults x d)) l

    then-asked : {lines : List ℕ} (d : Draft) → Drafted s lines d g ms c sw en
        → first_no (last_questions (last_place s) d) ≡ then (decided 25 f) (first_no (last_two d.tables))
    then-asked d h =
        asked d h false n ∙ ap (λ (x : Fault). then (decided 25 x) (first_no (last_two d.tables))) (sym (fault-here d h))

    pub not-ended : (r : Refusal) → verdict_of (Err r) ≡ decided 25 f → Finishes s g ms c sw en (Err r) c
    not-ended r w = let x = refused-at 25 r f w in
        record {
          verdict_is = λ lines d h. x.0 ∙ sym (then-asked d h ∙ ap (λ (x : Fault). then (decided 25 x) (first_no (last_two d.tables))) x.1);
          holds = λ q. absurd (not_yes (Err r) x.0 q);
          beyond = refl;
        }

    pub finished : f ≡ None → {r : Verdict} {c' : List ℕ} → Links s c sw en r c' → Finishes s g ms c sw en r c'
    finished e w =
        record {
          verdict_is = λ lines d h. w.verdict_is lines d.tables h.tabled ∙ sym (then-asked d h ∙ ap (λ (x : Fault). then (decided 25 x) (first_no (last_two d.tables))) e);
          holds = λ q lines d h. w.holds q lines d.tables h.tabled;
          beyond = w.beyond;
        }
