-- The labels of a statement whose questions 14, 15 and 16 are answered yes: their marks, and what they name.
use Rattle.std.specs.Prelude.{◌≡◌, refl, ℕ, zero, suc, ◌+◌, ◌-◌, ◌≤◌, ◌<◌, T, length, get_or, take, drop}
use Rattle.std.proofs.Common.{sym, ◌∙◌, subst, arith, length-take, length-take-le, take-add, drop_at, get_or-take}
use Rattle.std.proofs.Math.Path.{ap}
use mathlib.Core.List.{List, [], ◌∷◌, ◌++◌, map, map-append}
use Rattle.std.proofs.Math.ListN.{length-append, length-map}
use Rattle.std.proofs.lemmas.List.{drop-append-le}
use Rattle.acceptance.specs.Drafts.{SoundItem, FineItem}
use Rattle.acceptance.proofs.ReaderLaws.{head-sound, statements-sound-from}
use Rattle.acceptance.proofs.RowLaws.{each_map, each_both, each_keep, each-kept, each-mapped, Answered}
use Rattle.acceptance.proofs.StatementLaws.{fine-items, each-front}
use Rattle.declaring_switches.specs.Below.Entering.{ShortItem}
use Rattle.declaring_switches.specs.Below.SpeltLaws.{statement-spelt}
use Rattle.drafts.specs.DraftingLaws.{length_back}
use Rattle.drafts.specs.Marks.{mark, length_by, word_by, Marked, marks_in}
use Rattle.drafts.specs.Tabled.{Spelt}
use Rattle.lists.specs.Lists.{keep}
use Rattle.statements.specs.Faults.{decided, then}
use Rattle.statements.specs.Groups.{item_questions}
use Rattle.heads.specs.declared.Head.{Head}
use Rattle.language.specs.Limits as limit
use Rattle.layout.specs.Bounds.{Each}
use Rattle.judging.specs.Judging.{LabelFault}
use Rattle.layout.proofs.CellLaws.{each_append, each_at}
use Rattle.judging.specs.Below.Names.{names_of, Repeatable}
use Rattle.judging.specs.Below.RepeatedLaws.{NamedLabel, repeated-marks, reserved-marks}
use Rattle.progress.specs.Advancing.{Advanceable}
use Rattle.progress.specs.Progress.{NamesKept}
use Rattle.progress.specs.ProgressLaws.{labels-most}
use Rattle.progress.specs.declared.Progress.{Progress}
use Rattle.statements.specs.StatementAt.{statements_at, statement_at, fault_of}
use Rattle.statements.specs.Faults.{Fault}
use Rattle.syntax.specs.Items.{Item, is, places}
use Rattle.syntax.specs.Items.Sort.{word}
use Rattle.syntax.specs.Questions.{label_faults, repeated}
use Rattle.syntax.specs.Statements.{front, reserved, labels_in}
use Rattle.syntax.specs.Tables.{Draft, all_labels, contents, draft_after}
use Rattle.reading_statements.specs.Asking.{names_verdict}
use Rattle.reading_statements.specs.Judging.{Judging, from}

-- a word that its mark names
abbrev SpeltWord : List ℕ → Item → Type 0
SpeltWord s l = Spelt s l × T (is word l)

mark-names : (s : List ℕ) (ls : List Item) → Each (SpeltWord s) ls → names_of s (map mark ls) ≡ contents ls
mark-names s [] h = refl
mark-names s (l ∷ ls) h = rw (h.0.0.spells h.0.1, mark-names s ls h.1) refl

-- what holds of the cells of two rows holds of both together
cells-both : (P : ℕ → Type 0) (xs ys : List ℕ) → P 0 → ((k : ℕ) → k < length xs → P (get_or xs k 0)) → Each P ys → (k : ℕ) → P (get_or (xs ++ ys) k 0)
cells-both P [] ys z f h k = each_at P 0 z ys h k
cells-both P (x ∷ xs) ys z f h zero = f 0 (omega arith)
cells-both P (x ∷ xs) ys z f h (suc k) = cells-both P xs ys z (λ j l. f (suc j) (omega (arith, l))) h k

pub marks-behind : (ms : List ℕ) (a b : ℕ) → a ≤ b → b ≤ length ms → marks_in ms a b ≡ drop a (take b ms)
marks-behind ms a b h k =
    let m : a + (b - a) ≡ b = omega arith in
    sym (drop_at (take a ms) (marks_in ms a b) a (length-take-le a ms (omega (arith, h, k)))) ∙ ap (drop a) (sym (take-add a (b - a) ms) ∙ ap (λ (i : ℕ). take i ms) m)

-- the items of the statement at a place
pub statement-sound : (s : List ℕ) (n : ℕ) → n ≤ length s → Each (SoundItem (length s)) (statement_at s n)
unfolding statement_at
statement-sound s n h = head-sound (length s) (statements_at s n) (statements-sound-from s n h)

pub labels-have : (P : Item → Type 0) (x : List Item) → Each P x → Each P (labels_in x)
labels-have P x h = each_keep P (is word) (front x) (each-front P x h)

module _ {s : List ℕ} {n : ℕ} {d : Draft} {g : Progress} {h : Head} {ms : List ℕ} (j : Judging s n d g h ms) where
  abbrev x : List Item
  x = statement_at s n

  abbrev ls : List Item
  ls = labels_in x

  before-most : g.names ≤ length ms
  before-most = labels-most j.tells.names

  front_length : length (take g.names ms) ≡ g.names
  front_length = length-take-le g.names ms before-most

  all_most : h.names ≤ length ms
  all_most = omega (arith, simp (length-append, length-map, length-take) at (ap length j.own), before-most, j.count_is)

  -- the marks of the statement's own labels, and with those that wait
  marks-own : marks_in ms g.names h.names ≡ map mark ls
  marks-own =
      marks-behind ms g.names h.names (omega (arith, j.count_is)) all_most ∙ ap (drop g.names) j.own
      ∙ drop_at (take g.names ms) (map mark ls) g.names front_length

  pub marks-all : marks_in ms (from g) h.names ≡ map mark (all_labels d x)
  marks-all =
      let a : ℕ = from g in
      marks-behind ms a h.names (omega (arith, j.count_is)) all_most ∙ ap (drop a) j.own
      ∙ drop-append-le a (take g.names ms) (map mark ls) (omega (arith, front_length))
      ∙ ap (λ (l : List ℕ). l ++ map mark ls) (sym (marks-behind ms a g.names (omega arith) before-most) ∙ j.tells.waiting.marks)
      ∙ sym (map-append mark d.waiting ls)

  pub advanceable : Advanceable g h ms
  advanceable = record { few = j.tells.waiting.few; order = omega (arith, j.count_is); most = all_most }

  module _ (plain : Answered (item_questions x)) where
    pub all-fine : Each (FineItem (length s)) x
    all-fine = fine-items (length s) x (statement-sound s n j.inside) plain.1.0 plain.1.1.0

    pub all_short : Each ShortItem x
    all_short = each_map _ _ (λ i f. f.short) x all-fine

    pub all-spelt : Each (Spelt s) x
    all-spelt = statement-spelt s n j.inside all_short

    words : Each (SpeltWord s) ls
    words = each_both (Spelt s) (λ l. T (is word l)) ls (labels-have (Spelt s) x all-spelt) (each-kept (is word) (front x))

    -- what holds of the marks of all names before and of the own labels holds of all marks
    marks-have : (P : ℕ → Type 0) → P 0 → ((i : ℕ) → i < g.names → P (get_or ms i 0)) → Each (λ l. P (mark l)) ls → (i : ℕ) → i < h.names → P (get_or ms i 0)
    marks-have P z f e i l =
        subst P (sym (ap (λ (l : List ℕ). get_or l i 0) j.own) ∙ get_or-take h.names ms i 0 l)
        (cells-both P (take g.names ms) (map mark ls) z
        (λ k o. subst P (sym (get_or-take g.names ms k 0 (omega (arith, o, front_length)))) (f k (omega (arith, o, front_length)))) (each-mapped P mark ls e) i)

    pub names-kept : NamesKept s (draft_after d x) h.names ms
    unfolding draft_after
    names-kept =
        record {
          count_is = omega (arith, length-append d.names (contents ls), length-map ls (λ i. i.chars), j.tells.names.count_is, j.count_is);
          names_are =
              ap (names_of s) j.own ∙ map-append (word_by s) (take g.names ms) (map mark ls)
              ∙ rw (j.tells.names.names_are, mark-names s ls words) refl;
          marked = marks-have (Marked s) (omega arith) j.tells.names.marked (each_map _ _ (λ l e. e.0.is_there e.1) ls words);
          short = marks-have (λ m. length_by m ≤ limit.item) (omega arith) j.tells.names.short
              (each_map ShortItem _ (λ l e. omega (arith, length_back l.at (length l.chars) (omega (arith, e)), e)) ls (labels-have ShortItem x all_short));
        }

    -- 08, 06 and 70, as they are asked of the marks
    pub labels-inside : (from g ≤ h.names) × (h.names ≤ length ms)
    labels-inside = (omega (arith, j.count_is), all_most)

    pub repeatable : Repeatable s ms h.names
    repeatable = record { most = all_most; marked = names-kept.marked }

    pub labels-told : {f : Fault} → LabelFault h (marks_in ms (from g) h.names) f → f ≡ fault_of (label_faults (all_labels d x) x)
    labels-told e = e s n j.headed (all_labels d x) (sym marks-all) (each_append ShortItem d.waiting ls j.short (labels-have ShortItem x all_short))

    named : Each (NamedLabel s) ls
    named = each_map _ (NamedLabel s) (λ l e. record { is_word = e.0.1; spelt = e.0.0; short = e.1 }) ls (each_both (SpeltWord s) ShortItem ls words (labels-have ShortItem x all_short))

    pub names-told : names_verdict s (take g.names ms) (marks_in ms g.names h.names)
        ≡ then (decided 6 (fault_of (repeated d.names ls))) (decided 70 (fault_of (places (keep (λ l. reserved l.chars) ls))))
    names-told = rw (j.tells.names.names_are, marks-own, repeated-marks s d.names ls named, reserved-marks s ls named) refl
