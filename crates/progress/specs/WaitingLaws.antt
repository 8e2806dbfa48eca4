-- A draft after a statement without fault: the labels that wait, and all that is told of it.
use Rattle.std.specs.Prelude.{◌≡◌, true, false, ℕ, ◌-◌, ◌≤◌, length, take, drop}
use Rattle.std.proofs.Math.Path.{refl, ap, subst}
use Rattle.std.proofs.Common.{sym, ◌∙◌, arith, length-take, length-drop}
use Rattle.std.proofs.Math.Bool.{Bool, cond}
use mathlib.Core.List.{List, [], map}
use Rattle.std.proofs.lemmas.List.{length-map}
use Rattle.std.specs.Option.{is_none}
use Rattle.words.specs.Keywords.{is_english, is_own}
use Rattle.progress.specs.Closing.{TellsClosing, Closed, closing_then}
use Rattle.progress.specs.declared.Closing.{Closing}
use Rattle.headings.specs.Below.DraftsMarks.{marks_in}
use Rattle.declaring.specs.TabledLaws.{mark-places}
use Rattle.headings.specs.Below.DraftsMarks.{mark, place_by}
use Rattle.headings.specs.Below.Tabled.{Spelt}
use Rattle.headings.specs.Below.Heads.{Headed}
use Rattle.headings.specs.Below.HeadLaws.{no_operator, operator-here}
use Rattle.headings.specs.Below.Head.{Head}
use Rattle.layout.specs.Bounds.{Each}
use Rattle.lists.specs.Lists.{filled}
use Rattle.progress.specs.Progress.{NamesKept, WaitingKept, EditionKept}
use Rattle.progress.specs.declared.Progress.{Progress}
use Rattle.statements.specs.StatementAt.{statement_at, stops, fault_of}
use Rattle.statements.specs.Faults.{Fault}
use Rattle.syntax.specs.Items.{Item}
use Rattle.syntax.specs.Statements.{operator}
use Rattle.syntax.specs.Tables.{Draft, all_labels, draft_after}
use Rattle.progress.specs.Advancing.{SectionTold, EndedTold, Advancing, Advances}
use Rattle.progress.specs.AdvancingLaws.{edition-after}

module _ {s : List ℕ} {n : ℕ} {g : Progress} {h : Head} {ms : List ℕ} {a b : ℕ} (f : Headed s n h) (order : a ≤ b) (most : b ≤ length ms) (d : Draft) (k : Advancing s n d g ms a b) where
  abbrev x : List Item
  x = statement_at s n

  labels-count : length (all_labels d x) ≡ b - a
  labels-count = omega (arith, ap length k.marks, length-map (all_labels d x) mark, length-take (b - a) (drop a ms), length-drop a ms, most, order)

  waiting_kept : {w : ℕ} → w ≡ cond (stops h.op.sort) (b - a) 0 → WaitingKept s (draft_after d x) b w ms
  unfolding draft_after
  waiting_kept {w} e = go (stops h.op.sort) refl
    where
      waits : Bool → List Item
      waits t = cond t [] (all_labels d x)

      go : (t : Bool) → stops h.op.sort ≡ t → WaitingKept s (draft_after d x) b w ms
      go true q =
          let v : w ≡ b - a = e ∙ ap (λ (c : Bool). cond c (b - a) 0) q in
          let u : waits (filled (operator x)) ≡ all_labels d x = ap (λ (ys : List Item). waits (filled ys)) (no_operator f q) in
          let r : b - w ≡ a = omega (arith, v, order) in
          record {
            few = omega (arith, v);
            size = ap length u ∙ labels-count ∙ sym v;
            marks = ap (λ (m : ℕ). marks_in ms m b) r ∙ k.marks ∙ sym (ap (map mark) u);
            spelt = subst (Each (Spelt s)) (sym u) k.spelt;
          }
      go false q =
          let v : w ≡ 0 = e ∙ ap (λ (c : Bool). cond c (b - a) 0) q in
          let u : waits (filled (operator x)) ≡ [] = ap (λ (ys : List Item). waits (filled ys)) (operator-here f q) in
          let r : b - (b - w) ≡ 0 = omega (arith, v) in
          record {
            few = omega (arith, v);
            size = ap length u ∙ sym v;
            marks = ap (λ (m : ℕ). take m (drop (b - w) ms)) r ∙ sym (ap (map mark) u);
            spelt = subst (Each (Spelt s)) (sym u) tt;
          }

  closing-kept : {labels : Fault} {c : Closing} → labels ≡ fault_of (map place_by (marks_in ms a b)) → Closed s n g.section labels g.closing c
      → TellsClosing (draft_after d x).closing c
  unfolding draft_after
  closing-kept {labels} {c} e q =
      subst (λ (w : List ℕ). TellsClosing (closing_then w d.closing (all_labels d x) x) c) k.section.is
      (q d.closing k.closing (all_labels d x) (sym (e ∙ ap fault_of (ap (map place_by) k.marks ∙ mark-places (all_labels d x) k.short))))

-- the parts together
pub advances : {s : List ℕ} {n : ℕ} {g : Progress} {h : Head} {ms : List ℕ} {a b : ℕ} {r : Progress} {labels : Fault}
    → Headed s n h → a ≤ b → b ≤ length ms → SectionTold s n g.section r.section → is_english r.edition ≡ cond (is_none g.section) (is_own true h.known) (is_english g.edition) → r.names ≡ b → r.waiting ≡ cond (stops h.op.sort) (b - a) 0
    → labels ≡ fault_of (map place_by (marks_in ms a b)) → Closed s n g.section labels g.closing r.closing → EndedTold s n g.ended r.ended
    → Advances s n g ms a b r
advances {s} {n} {g} {h} {ms} {a} {b} {r} f order most section english names waiting e closing ended d k =
    record {
      section = section d k.section k.answered;
      edition = subst (EditionKept (draft_after d (statement_at s n))) (sym english) (edition-after f d k.section k.edition k.answered);
      names = subst (λ (m : ℕ). NamesKept s (draft_after d (statement_at s n)) m ms) (sym names) k.names;
      waiting = subst (λ (m : ℕ). WaitingKept s (draft_after d (statement_at s n)) m r.waiting ms) (sym names) (waiting_kept f order most d k waiting);
      closing = closing-kept f order most d k e closing;
      ended = ended d k.ended;
    }
