-- A statement is read, whatever its kind: its verdict, and the draft after it.
use Rattle.std.specs.Prelude.{◌≡◌, refl, Bool, true, cond, List, [], ℕ, length, Ok, Err}
use Rattle.std.specs.Option.{is_none}
use Rattle.std.proofs.Common.{sym, ap, ◌∙◌, subst, arith}
use Rattle.acceptance.proofs.DraftLaws.{draft-sound}
use Rattle.acceptance.specs.Drafts.{FineItem, SoundTables, SoundName}
use Rattle.acceptance.proofs.RowLaws.{each_map, answered, Answered, each_both}
use Rattle.acceptance.proofs.StatementLaws.{each-behind, front-names, label-names}
use Rattle.declaring_switches.specs.Below.DeclaringTabledLaws.{Labelled}
use Rattle.drafts.specs.Marks.{marks_in}
use Rattle.drafts.specs.Tabled.{Spelt, Tabled}
use Rattle.declaring_switches.specs.Below.Entering.{ShortItem}
use Rattle.progress.specs.Below.HeadingLaws.{after-other}
use Rattle.progress.specs.Below.Headings.{AfterTold}
use Rattle.heads.specs.Heads.{head_keyword, Headed}
use Rattle.heads.specs.declared.Head.{Head}
use Rattle.layout.specs.Bounds.{Each}
use Rattle.layout.proofs.CellLaws.{each_append, each_left, each-drop}
use Rattle.lists.specs.ListLaws.{T-left}
use Rattle.progress.specs.Advancing.{Progresses, SectionTold}
use Rattle.progress.specs.AdvancingLaws.{section-before}
use Rattle.progress.specs.Progress.{Drafted}
use Rattle.progress.specs.declared.Progress.{Progress}
use Rattle.statements.specs.FaultLaws.{no-fault}
use Rattle.statements.specs.Faults.{decided, verdict_of}
use Rattle.statements.specs.Groups.{item_questions, early_questions, table_questions}
use Rattle.statements.specs.StatementAt.{statement_at, fault_of}
use Rattle.heads.specs.Heads.{EndedBy}
use Rattle.statements.specs.Faults.{Fault}
use Rattle.std.specs.Prelude.{Option, None, Some}
use Rattle.statements.specs.Faults as told
use Rattle.syntax.specs.Items.{Item, is}
use Rattle.syntax.specs.Items.Sort.{word}
use Rattle.syntax.specs.Questions.{first_faults, questions}
use Rattle.syntax.specs.Statements.{labels_in, behind, rest}
use Rattle.syntax.specs.Tables.{Draft, is_first, draft_after, all_labels, tables_after}
use Rattle.syntax.specs.Verdict.{first_no}
use Rattle.syntax.specs.Verdict.Verdict.{yes}
use Rattle.reading_statements.specs.Admitting.{Admits, AskedLast}
use Rattle.reading_statements.specs.GatheringLaws.{statement-sound, labels-have, marks-all, all_short, all-spelt, names-kept, all-fine}
use Rattle.reading_statements.specs.Judging.{from}
use Rattle.reading_statements.specs.KindLaws.{acts, acts-alone, zero-here}
use Rattle.reading_statements.specs.QuestionLaws.{table_faults, all_told}
use Rattle.reading_statements.specs.ReadingStatements.{Read, Reading, Reads, Finishes, read_verdict}
use Rattle.reading_statements.specs.declared.Ending.{Ending}

clear-by : (number : ℕ) (f : Fault) → decided number f ≡ yes → f ≡ None
clear-by number None e = refl
clear-by number (Some p) e = absurd (let y : ◌≡◌ {A = ℕ} 0 1 = cc in omega arith)

-- ---- one statement

module _ {s lines : List ℕ} {n : ℕ} {d : Draft} {g : Progress} {h : Head} {ms c sw en : List ℕ} (r : Reading s lines n d g h ms c sw en) where
  abbrev x : List Item
  x = statement_at s n

  module _ (early : Answered (early_questions d x)) where
    pub plain : Answered (item_questions x)
    plain = (early.0, (early.1.0, (early.1.1.0, tt)))

    -- an instruction or a switch is not the first statement, and leaves the section and its end as they are
    pub acting : acts (head_keyword h) ≡ true → SectionTold s n g.section g.section × AfterTold s n g.section None
    acting a =
        let o = acts-alone (head_keyword h) a in
        (later g.section r.judging.tells.section.first_is, after-other r.judging.headed g.section o.1.0 o.1.1)
      where
        later : (section : Option ℕ) → is_first d ≡ is_none section → SectionTold s n section section
        later (Some section) e = section-before s n
        later None t =
            let q : first_faults x ≡ [] = sym (ap (λ (b : Bool). cond b (first_faults x) []) t) ∙ early.1.1.1.0 in
            let z : Some h.first ≡ None = zero-here r.judging.headed a ∙ ap fault_of q in
            absurd (let y : ◌≡◌ {A = ℕ} 0 1 = cc in omega arith)

    abbrev ls : List Item
    ls = all_labels d x

    pub fine-here : Each (FineItem (length s)) x
    fine-here = all-fine r.judging plain

    spelt-here : Each (Spelt s) x
    spelt-here = all-spelt r.judging plain

    names-here : Each (SoundName (length s)) ls
    names-here =
        each_append (SoundName (length s)) d.waiting (labels_in x) r.sound.waiting
        (label-names (length s) x fine-here (front-names (is_first d) d.english x early.1.1.1.0 early.1.1.1.1.0))

    pub spelt-rest : Each (Spelt s) (rest x)
    spelt-rest = each-drop (Spelt s) 1 (behind x) (each-behind (Spelt s) x spelt-here)

    -- the labels by their marks
    pub labelled : Labelled s ls (marks_in ms (from g) h.names)
    labelled =
        record {
          marks = marks-all r.judging;
          spelt = each_map _ _ (λ l e. e.0.spells (T-left (is word l) _ e.1.name)) ls
              (each_both (Spelt s) (SoundName (length s)) ls
              (each_append (Spelt s) d.waiting (labels_in x) r.judging.tells.waiting.spelt (labels-have (Spelt s) x spelt-here)) names-here);
          short = each_map _ _ (λ l e. e.fine.short) ls names-here;
        }

    -- the tables after the statement, where 11 is answered yes too
    pub tables-here : {f : Fault} → f ≡ fault_of (table_faults d x) → f ≡ None → SoundTables (length s) (tables_after d.tables ls x)
    unfolding questions draft_after
    tables-here e z = (draft-sound (length s) d x r.sound (statement-sound s n r.judging.inside)
        (each_append (λ q. q.faults ≡ []) (early_questions d x) (table_questions d x) early (no-fault (table_faults d x) (sym e ∙ z), tt))).tables

    pub rest-fine : Each (FineItem (length s)) (rest x)
    rest-fine = each-drop (FineItem (length s)) 1 (behind x) (each-behind (FineItem (length s)) x fine-here)

    pub rest-short : Each ShortItem (rest x)
    rest-short = each_map _ _ (λ i f. f.short) (rest x) rest-fine

  before : Answered (questions d x) → Answered (early_questions d x)
  unfolding questions
  before all = each_left (λ q. q.faults ≡ []) (early_questions d x) (table_questions d x) all

  -- the draft after it, where all questions are answered yes
  drafted-then : Answered (questions d x) → {section : Option ℕ} {after : Fault} {q : Progress} {c' sw' en' : List ℕ} → Progresses g h section after ms q
      → SectionTold s n g.section section × AfterTold s n g.section after
      → Tabled s lines (tables_after d.tables (all_labels d x) x) c' sw' en' → Drafted s lines (draft_after d x) q ms c' sw' en'
  unfolding draft_after
  drafted-then all m t k =
      let j = r.judging in
      let p = plain (before all) in
      record {
        sound = draft-sound (length s) d x r.sound (statement-sound s n j.inside) all;
        tabled = k;
        tells = m s n j.headed t.0 t.1 d
            (record {
              answered = all;
              section = j.tells.section;
              edition = j.tells.edition;
              names = names-kept j p;
              marks = marks-all j;
              spelt = each_append (Spelt s) d.waiting (labels_in x) j.tells.waiting.spelt (labels-have (Spelt s) x (all-spelt j p));
              short = each_append ShortItem d.waiting (labels_in x) j.short (labels-have ShortItem x (all_short j p));
              closing = j.tells.closing;
              ended = j.tells.ended;
            });
      }

-- ---- whatever statement it is

-- u is the verdict of the questions before 11, of whose fault F holds; e is what the statement says of the section
module _ {s lines : List ℕ} {g : Progress} {h : Head} {ms c sw en c' sw' en' : List ℕ} {e : Ending} {F : Fault → Type 0} {u : told.Verdict}
    (early : (n : ℕ) (d : Draft) → Reading s lines n d g h ms c sw en → first_no (early_questions d (statement_at s n)) ≡ verdict_of u)
    (last_is : (n : ℕ) (d : Draft) → Reading s lines n d g h ms c sw en → Answered (early_questions d (statement_at s n)) → (f : Fault) → F f
    → (f ≡ fault_of (table_faults d (statement_at s n))) × (f ≡ None → Tabled s lines (tables_after d.tables (all_labels d (statement_at s n)) (statement_at s n)) c' sw' en'))
    (says : (n : ℕ) (d : Draft) → Reading s lines n d g h ms c sw en → Answered (early_questions d (statement_at s n))
    → SectionTold s n g.section e.section × AfterTold s n g.section e.after)
    {next : Option ℕ} (ends : (n : ℕ) → Headed s n h → EndedBy s n next) where
  module _ {n : ℕ} {d : Draft} (r : Reading s lines n d g h ms c sw en) where
    all-verdict : (w : told.Verdict) → u ≡ w → (v : told.Verdict) → AskedLast F w v → verdict_of v ≡ first_no (questions d (statement_at s n))
    all-verdict (Ok tt) q v (f, (i, k)) =
        let z = early n d r ∙ ap verdict_of q in
        i ∙ ap (decided 11) (last_is n d r (answered _ z) f k).0 ∙ sym (all_told d (statement_at s n) z)
    all-verdict (Err w) q v i = ap verdict_of i ∙ sym (all_told d (statement_at s n) (early n d r ∙ ap verdict_of q))

    tabled-then : (w : told.Verdict) → u ≡ w → AskedLast F w (Ok tt) → Tabled s lines (tables_after d.tables (all_labels d (statement_at s n)) (statement_at s n)) c' sw' en'
    tabled-then (Ok tt) q (f, (i, k)) = (last_is n d r (answered _ (early n d r ∙ ap verdict_of q)) f k).1 (clear-by 11 f (sym i))
    tabled-then (Err w) q i = absurd (let y : ◌≡◌ {A = ℕ} 0 1 = cc in omega arith)

  pub read_as : (v : told.Verdict) → Admits F u v c c' → {y : Read} → Finishes g h e ms v y → Reads s lines g h ms c sw en y next c' sw' en'
  read_as (Err w) t z =
      record {
        told = λ n d r. ap read_verdict z ∙ all-verdict r u refl (Err w) t.asked;
        after = λ n d r g' o. absurd (let y : ◌≡◌ {A = ℕ} 0 1 = cc in omega arith);
        ends = ends;
        beyond = t.beyond;
      }
  read_as (Ok tt) t (q, (z, m)) =
      record {
        told = λ n d r. ap read_verdict z ∙ all-verdict r u refl (Ok tt) t.asked;
        after = λ n d r g' o.
            let all = answered (questions d (statement_at s n)) (sym (all-verdict r u refl (Ok tt) t.asked)) in
            let i : q ≡ g' = cc in
            subst (λ (p : Progress). Drafted s lines (draft_after d (statement_at s n)) p ms c' sw' en') i
            (drafted-then r all m (says n d r (before r all)) (tabled-then r u refl t.asked));
        ends = ends;
        beyond = t.beyond;
      }
