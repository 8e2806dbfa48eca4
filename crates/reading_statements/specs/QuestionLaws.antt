-- The questions of a statement, one after the other.
use Rattle.std.specs.Prelude.{◌≡◌, Bool, true, false, cond, List, [], ◌∷◌, ◌++◌, ℕ}
use Rattle.std.proofs.Math.Path.{refl}
use Rattle.std.proofs.Common.{sym, ap, ◌∙◌}
use Rattle.statements.specs.CheckLaws.{worst-decides}
use Rattle.statements.specs.Checks.{worst}
use Rattle.statements.specs.Faults as told
use Rattle.statements.specs.FaultLaws.{question-decides, then-yes, first_no-both}
use Rattle.statements.specs.Faults.{verdict_of, decided, then}
use Rattle.statements.specs.Groups.{item_questions, head_questions, name_questions, argument_questions, early_questions, table_questions}
use Rattle.statements.specs.StatementAt.{statement_at, fault_of}
use Rattle.lists.specs.Lists.{keep}
use Rattle.syntax.specs.Items.{Item, places}
use Rattle.syntax.specs.Questions.{first_faults, operator_faults, label_faults, repeated, instr_beyond, switch_beyond, questions}
use Rattle.syntax.specs.Statements.{by_keyword, reserved, labels_in, keyword_in}
use Rattle.syntax.specs.Tables.{Draft, is_first, all_labels}
use Rattle.syntax.specs.Verdict.{Question, Verdict, ask, first_no}
use Rattle.syntax.specs.Verdict.Verdict.{yes}
use Rattle.reading_statements.specs.Asking.{operator_verdict, opening_questions}

none-asked : first_no [] ≡ yes
unfolding first_no
none-asked = refl

pub two-questions : (n m : ℕ) (ps qs : List ℕ) → first_no (ask n ps ∷ ask m qs ∷ []) ≡ then (decided n (fault_of ps)) (decided m (fault_of qs))
two-questions n m ps qs = simp (question-decides, none-asked, then-yes)

-- 11
abbrev pub table_faults : Draft → List Item → List ℕ
table_faults d x = by_keyword (λ op. instr_beyond d.tables (all_labels d x) x) (λ goes_by_name. switch_beyond d.tables x) [] (keyword_in x)

module _ (d : Draft) (x : List Item) where
  abbrev labels : List ℕ
  labels = label_faults (all_labels d x) x

  abbrev again : List ℕ
  again = repeated d.names (labels_in x)

  abbrev as_keyword : List ℕ
  as_keyword = places (keep (λ l. reserved l.chars) (labels_in x))

  -- 00 or 10, 08, 06 and 70
  abbrev asked : Bool → List Question
  asked first = ask 0 (cond first (first_faults x) []) ∷ ask 10 (cond first [] (operator_faults d.english x)) ∷ ask 8 labels ∷ ask 6 again ∷ ask 70 as_keyword ∷ []

  each-asked : (first : Bool)
      → first_no (asked first) ≡ then (operator_verdict x first d.english) (then (decided 8 (fault_of labels)) (then (decided 6 (fault_of again)) (decided 70 (fault_of as_keyword))))
  each-asked true = simp (question-decides, none-asked, then-yes)
  each-asked false = simp (question-decides, none-asked, then-yes)

  pub names-told : {first english : Bool} {r u v w : Verdict} → is_first d ≡ first → d.english ≡ english → u ≡ operator_verdict x first english → v ≡ decided 8 (fault_of labels) → w ≡ then (decided 6 (fault_of again)) (decided 70 (fault_of as_keyword))
      → r ≡ then u (then v w) → r ≡ first_no (head_questions d x ++ name_questions d x)
  names-told {first} g i h k l e = rw (e, h, k, l, sym i, g) (sym (each-asked first))

  -- before these 14, 15 and 16, behind them 01 and 02, and then 11
  pub opening-told : {v : Verdict} → first_no (item_questions x) ≡ v → first_no (opening_questions d x) ≡ then v (first_no (head_questions d x ++ name_questions d x))
  opening-told e = first_no-both (item_questions x) (head_questions d x ++ name_questions d x) ∙ ap (λ (v : Verdict). then v (first_no (head_questions d x ++ name_questions d x))) e

  pub early-told : {u v w : Verdict} → u ≡ first_no (opening_questions d x) → first_no (argument_questions x) ≡ w → v ≡ then u w → first_no (early_questions d x) ≡ v
  early-told e f g = first_no-both (opening_questions d x) (argument_questions x) ∙ rw (sym e, f) (sym g)

  pub all_told : {v : Verdict} → first_no (early_questions d x) ≡ v → first_no (questions d x) ≡ then v (decided 11 (fault_of (table_faults d x)))
  unfolding questions
  all_told e = first_no-both (early_questions d x) (table_questions d x) ∙ rw (e, question-decides, none-asked, then-yes) refl

-- 14, 15 and 16
pub items-told : (s : List ℕ) (n : ℕ) {w : told.Verdict} → w ≡ worst (statement_at s n) → first_no (item_questions (statement_at s n)) ≡ verdict_of w
items-told s n e = worst-decides (statement_at s n) ∙ ap verdict_of (sym e)
