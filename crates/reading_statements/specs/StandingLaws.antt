-- A statement whose head is read: the marks before it stay, and what its reader tells. And the empty statement.
use Rattle.std.specs.Prelude.{◌≡◌, refl, Ok, Bool, true, false, ◌&&◌, List, [], ◌++◌, map, ℕ, ◌-◌, ◌≤◌, ◌<◌, eqb, length, get_or, take, drop}
use Rattle.std.proofs.Common.{sym, ap, ◌∙◌, subst, arith, length-drop, length-take, length-take-le, take_all, take-take, take_at, get_or-take}
use Rattle.std.proofs.lemmas.Bool.{not-true, and_parts}
use Rattle.acceptance.proofs.RowLaws.{each_map}
use Rattle.drafts.specs.Marks.{mark, length_by, Marked}
use Rattle.progress.specs.Below.HeadingLaws.{front-none}
use Rattle.heads.specs.HeadLaws.{behind-by}
use Rattle.heads.specs.Heads.{Headed, MarksPut, Heads}
use Rattle.heads.specs.declared.Head.{Head}
use Rattle.lists.specs.Lists.{filled}
use Rattle.judging.specs.Below.Names.{names_of}
use Rattle.progress.specs.AdvancingLaws.{empty-draft}
use Rattle.progress.specs.Progress.{TellsDraft, Drafted}
use Rattle.progress.specs.ProgressLaws.{labels-most}
use Rattle.progress.specs.declared.Progress.{Progress}
use Rattle.statements.proofs.Ends.{ends-here}
use Rattle.heads.specs.Heads.{following}
use Rattle.std.specs.Prelude.{Option}
use Rattle.heads.specs.HeadLaws.{ended-by}
use Rattle.statements.specs.StatementAt.{statement_at, stops}
use Rattle.syntax.specs.Items.{Item}
use Rattle.syntax.specs.Questions.{first_faults, operator_faults, label_faults, repeated, count_faults, questions}
use Rattle.syntax.specs.Statements.{by_keyword, front, behind, labels_in, keyword_in}
use Rattle.syntax.specs.Tables.{Draft, is_first, draft_after}
use Rattle.syntax.specs.Verdict.{decide, first_no}
use Rattle.syntax.specs.Verdict.Verdict.{yes}
use Rattle.reading_statements.specs.GatheringLaws.{marks-behind}
use Rattle.reading_statements.specs.ReadingStatements.{Read, Standing, Reading, Reads, ReadsStatement}

-- ---- the marks of the names before

cell_same : (count : ℕ) (ms ms' : List ℕ) → take count ms' ≡ take count ms → (k : ℕ) → k < count → get_or ms k 0 ≡ get_or ms' k 0
cell_same count ms ms' same k l = sym (get_or-take count ms k 0 l) ∙ ap (λ (xs : List ℕ). get_or xs k 0) (sym same) ∙ get_or-take count ms' k 0 l

module _ {s : List ℕ} {d : Draft} {g : Progress} {ms ms' : List ℕ} where
  tells-same : take g.names ms' ≡ take g.names ms → TellsDraft s d g ms → TellsDraft s d g ms'
  tells-same same t =
      let most : g.names ≤ length ms = labels-most t.names in
      record {
        section = t.section;
        edition = t.edition;
        names = record {
          count_is = t.names.count_is;
          names_are = ap (names_of s) same ∙ t.names.names_are;
          marked = λ k l. subst (Marked s) (cell_same g.names ms ms' same k l) (t.names.marked k l);
          short = λ k l. subst (λ (m : ℕ). length_by m ≤ 60) (cell_same g.names ms ms' same k l) (t.names.short k l);
        };
        waiting = record {
          few = t.waiting.few;
          size = t.waiting.size;
          marks =
              marks-behind ms' (g.names - g.waiting) g.names (omega arith) (omega (arith, length-take g.names ms', length-take g.names ms, ap length same, most))
              ∙ ap (drop (g.names - g.waiting)) same
              ∙ sym (marks-behind ms (g.names - g.waiting) g.names (omega arith) most)
              ∙ t.waiting.marks;
          spelt = t.waiting.spelt;
        };
        closing = t.closing;
        ended = t.ended;
      }

-- no question of an empty statement is answered no
empty-yes : (d : Draft) (first : Bool) → is_first d ≡ first → first_no (questions d []) ≡ yes
unfolding questions first_no decide first_faults operator_faults label_faults repeated count_faults by_keyword keyword_in front behind
empty-yes d true e = rw e refl
empty-yes d false e = rw e refl

-- ---- an empty statement

module _ {s : List ℕ} {n : ℕ} {h : Head} (k : Headed s n h) (e : (stops h.op.sort && eqb h.first h.op.at) ≡ true) where
  at_end : stops h.op.sort ≡ true
  at_end = (and_parts (stops h.op.sort) _ e).0

  x-empty : statement_at s n ≡ []
  x-empty =
      let x = statement_at s n in
      sym (front-none x (not-true (filled (front x)) (sym k.front_is ∙ (and_parts (stops h.op.sort) (eqb h.first h.op.at) e).1))) ∙ behind-by k true at_end

-- ---- its head is read

-- the reader of the rest tells of the text
head-here : {s : List ℕ} {n : ℕ} → n ≤ length s → {count : ℕ} {ms ms' : List ℕ} {h : Head} → Heads (take (length s - n) (drop n s)) n count ms ms' h
    → Headed s n h × MarksPut s n count ms ms' h.names
head-here {s} {n} inside k = k s inside (sym (take_all (length s - n) (drop n s) (rw (length-drop n s) (omega arith))))

module _ {s lines : List ℕ} {n : ℕ} {d : Draft} {g : Progress} {h : Head} {ms ms' c sw en : List ℕ} (r : Standing s lines n d g ms c sw en)
    (o : Heads (take (length s - n) (drop n s)) n g.names ms ms' h) where
  put : MarksPut s n g.names ms ms' h.names
  put = (head-here r.inside o).1

  most : g.names ≤ length ms
  most = labels-most r.drafted.tells.names

  kept : take g.names ms' ≡ take g.names ms
  kept =
      sym (take-take g.names h.names ms' (omega (arith, put.count_is))) ∙ ap (take g.names) put.marks
      ∙ take_at (take g.names ms) (map mark (labels_in (statement_at s n))) g.names (length-take-le g.names ms most)

  pub reading-here : Reading s lines n d g h ms' c sw en
  reading-here =
      record {
        judging = record {
          low = r.short;
          inside = r.inside;
          headed = (head-here r.inside o).0;
          tells = tells-same kept r.drafted.tells;
          before = r.before;
          short = each_map _ _ (λ i e. e.fine.short) d.waiting r.drafted.sound.waiting;
          count_is = put.count_is;
          own = put.marks ∙ ap (λ (xs : List ℕ). xs ++ map mark (labels_in (statement_at s n))) (sym kept);
        };
        lined = r.lined;
        sound = r.drafted.sound;
        tabled = r.drafted.tabled;
      }

module _ {s lines : List ℕ} {n : ℕ} {d : Draft} {g : Progress} {h : Head} {ms ms' c sw en : List ℕ} (r : Standing s lines n d g ms c sw en)
    (o : Heads (take (length s - n) (drop n s)) n g.names ms ms' h) where
  k : Headed s n h
  k = (head-here r.inside o).0

  pub reads_here : {y : Read} {next : Option ℕ} {c' sw' en' : List ℕ} → Reads s lines g h ms' c sw en y next c' sw' en' → ReadsStatement s lines n g ms c sw en y next ms' c' sw' en'
  reads_here t =
      record {
        told = λ d r. t.told n d (reading-here r o);
        after = λ d r. t.after n d (reading-here r o);
        ends = t.ends n k;
        beyond = t.beyond;
      }

  -- an empty statement
  module _ (e : (stops h.op.sort && eqb h.first h.op.at) ≡ true) where
    pub reads-empty : {y : Option ℕ} → y ≡ following h.op → ReadsStatement s lines n g ms c sw en (Ok g) y ms' c sw en
    reads-empty p =
        record {
          told = λ d r. sym (ap (λ (js : List Item). first_no (questions d js)) (x-empty k e) ∙ empty-yes d (is_first d) refl);
          after = λ d r g' q.
              let i : g ≡ g' = cc in
              subst (λ (y : Progress). Drafted s lines (draft_after d (statement_at s n)) y ms' c sw en) i
              (subst (λ (y : Draft). Drafted s lines y g ms' c sw en) (sym (ap (draft_after d) (x-empty k e) ∙ empty-draft d r.drafted.tells.edition))
              (record { sound = r.drafted.sound; tabled = r.drafted.tabled; tells = (reading-here r o).judging.tells }));
          ends = ended-by h.op (ends-here k.within k.token (at_end k e)) p;
          beyond = refl;
        }
