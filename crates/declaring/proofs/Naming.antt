-- Labels come to a program table mark by mark.
use mathlib.Core.Path.{◌≡◌, refl, ◌∙◌}
use mathlib.Core.List.{List, map-append, append_assoc, append-nil}
use Prim.Native.Nat.{ℕ, ◌+◌, ◌/◌, ◌%◌, ◌≤◌, ◌<◌}
use native.Mathlib.Omega.{arith}
use native.Mathlib.Numerals.{add-one}
use lib.ListN.{length, get_or, take, drop, length-append, length-map, length-take}
use lib.Seq.{take-suc, take_all}
use Rattle.names.specs.Below.DraftsMarks.{word_by}
use Rattle.argument_cells.specs.Below.Entering.{Held}
use Rattle.language.specs.Program.{Label}
use Rattle.layout.specs.Cells.{cell}
use Rattle.packed.specs.Packed.{table_of}
use Rattle.writing.specs.Writing.{Changes, LabelRoom, with_label, label_of}
use Rattle.writing.proofs.Held.{label_count}
use Rattle.declaring.specs.Declaring.{with_labels, labels_by, Nameable, Labelling}

-- ---- one mark

module _ {s : List ℕ} {m target : ℕ} {c : List ℕ} (h : Nameable s m target c) where
  pub name-room : {n : ℕ} → n ≡ length (word_by s m) → LabelRoom c n target
  unfolding word_by
  name-room {n} q = record { long = h.long; room = h.room; short = omega (arith, q, length-take (m % 64) (drop (m / 64) s), h.short); low = h.low }

-- ---- all of them

pub record Putting (s ms : List ℕ) (target : ℕ) (c d : List ℕ) (k : ℕ) : Type 0 where
  pub changes : Changes (with_labels (labels_by s target (take k ms))) c d
  pub size : length d ≡ length c

module _ {s ms : List ℕ} {target : ℕ} {c : List ℕ} (pre : Labelling s ms target c) where
  abbrev new : ℕ → List Label
  new k = labels_by s target (take k ms)

  pub putting-first : Putting s ms target c c 0
  unfolding with_labels
  putting-first = record { changes = record { holds = λ p h. rw (append-nil p.labels) h; beyond = refl }; size = refl }

  module _ {d : List ℕ} {k : ℕ} (h : Putting s ms target c d k) where
    pub putting-done : length ms ≤ k → Changes (with_labels (labels_by s target ms)) c d
    putting-done l = rw (take_all k ms l) at h.changes

    module _ (l : k < length ms) where
      held_then : Held d
      held_then = record { program = _; holds = h.changes.holds pre.held.program pre.held.holds }

      count-then : cell (table_of d) 1 ≡ cell (table_of c) 1 + k
      unfolding with_labels
      count-then =
          let p = pre.held.program in
          omega (
            arith,
            label_count d (with_labels (new k) p) (h.changes.holds p pre.held.holds),
            label_count c p pre.held.holds,
            length-append p.labels (new k),
            length-map (take k ms) (λ m. label_of (word_by s m) target),
            length-take k ms,
          )

      pub nameable : {m : ℕ} → m ≡ get_or ms k 0 → Nameable s m target d
      nameable {m} e =
          record {
            marked = rw e (pre.named.marked k l);
            short = rw e (pre.named.short k l);
            long = held_then.holds.long;
            room = omega (arith, count-then, pre.room);
            low = pre.low;
          }

      pub putting-more : {m : ℕ} → m ≡ get_or ms k 0 → {d' : List ℕ} → Changes (with_label (label_of (word_by s m) target)) d d' → length d' ≡ length d
          → Putting s ms target c d' (k + 1)
      unfolding with_labels with_label
      putting-more {m} e {d'} g z =
          record {
            changes =
                record {
                  holds = λ p u.
                      rw (add-one k, take-suc ms k 0 l, ← e, map-append (λ x. label_of (word_by s x) target) (take k ms), ← append_assoc p.labels (new k))
                      (g.holds (with_labels (new k) p) (h.changes.holds p u));
                  beyond = g.beyond ∙ h.changes.beyond;
                };
            size = z ∙ h.size;
          }
