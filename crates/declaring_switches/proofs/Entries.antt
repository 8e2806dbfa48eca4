-- The entries of a switch one by one.
use mathlib.Core.Path.{◌≡◌, refl, sym, ap, ◌∙◌}
use mathlib.Core.List.{List, [], ◌∷◌, ◌++◌, append_assoc, append-nil}
use Prim.Native.Nat.{ℕ, suc, ◌+◌, ◌≤◌, ◌<◌}
use native.Mathlib.Omega.{arith}
use lib.Dec.{T}
use lib.ListN.{length, get_or, take, drop, length-append, length-map, length-take}
use lib.Seq.{take-suc, take_all}
use Rattle.std.specs.Prelude.{Option, None}
use Rattle.std.proofs.lemmas.List.{get_or-map}
use Rattle.language.specs.Program.{Entry, Switch, Program}
use Rattle.layout.proofs.ArgumentLaws.{text_ref-below}
use Rattle.layout.specs.Bounds.{KeptText}
use Rattle.layout.proofs.CellLaws.{each_at}
use Rattle.layout.specs.Table.{text_ref, all_entries}
use Rattle.lists.specs.Lists.{each}
use Rattle.lists.specs.ListLaws.{T-right}
use Rattle.machine.specs.WellFormed.{good_text, kept_text}
use Rattle.statements.specs.StatementAt.{statement_at}
use Rattle.switch_lists.specs.Below.Quoted.{Quoted}
use Rattle.syntax.specs.Items.{Item}
use Rattle.writing.specs.Writing.{HoldsProgram, Writes, IsEntry, EntryRoom, with_entry, with_switches, on_last}
use Rattle.writing.proofs.Held.{entry_count}
use Rattle.writing.proofs.Rooms.{entry_room}
use Rattle.writing.proofs.Switching.{last-long}
use Rattle.declaring_switches.specs.declared.Declaration.{Declaration}
use Rattle.declaring_switches.specs.Entries.{row_text, RowNamed, RowTold, and_entries, with_entries, KeptEntries, list_entries}
use Rattle.declaring_switches.specs.DeclaringSwitches.{ListedSwitch}
use Rattle.declaring.specs.Below.Entering.{Held}
use Rattle.declaring_switches.proofs.Rows.{row_entry, entries-are, rows_in, rows_are, row-inside, cell-here, row_named}

same-last : (ws : List Switch) → on_last (and_entries []) ws ≡ ws
same-last [] = refl
same-last (w ∷ []) = ap (λ (es : List Entry). record { goes_by_name = w.goes_by_name; entries = es } ∷ []) (append-nil w.entries)
same-last (w ∷ v ∷ ws) = ap (λ (xs : List Switch). w ∷ xs) (same-last (v ∷ ws))

with_none : (p : Program) → with_entries [] p ≡ p
unfolding with_entries
with_none p = ap (λ (ws : List Switch). with_switches ws p) (same-last p.switches)

kept-only : (p : Program) (w : List ℕ) → KeptText p w → T (kept_text p w)
kept-only p [] h = tt
kept-only p (b ∷ w) h = T-right (good_text (b ∷ w)) (kept_text p (b ∷ w)) h

each_last : (es : List Entry) (ws : List Switch) → 0 < length ws → each (λ w. w.entries) (on_last (and_entries es) ws) ≡ each (λ w. w.entries) ws ++ es
each_last es [] h = absurd (omega (arith, h))
each_last es (w ∷ []) h = append-nil (w.entries ++ es) ∙ ap (λ (l : List Entry). l ++ es) (sym (append-nil w.entries))
each_last es (w ∷ v ∷ ws) h =
    ap (λ (l : List Entry). w.entries ++ l) (each_last es (v ∷ ws) (omega arith)) ∙ sym (append_assoc w.entries (each (λ x. x.entries) (v ∷ ws)) es)

last-twice : (xs ys : List Entry) (ws : List Switch) → on_last (and_entries ys) (on_last (and_entries xs) ws) ≡ on_last (and_entries (xs ++ ys)) ws
last-twice xs ys [] = refl
last-twice xs ys (w ∷ []) = ap (λ (es : List Entry). record { goes_by_name = w.goes_by_name; entries = es } ∷ []) (append_assoc w.entries xs ys)
last-twice xs ys (w ∷ v ∷ []) = ap (λ (es : List Entry). w ∷ record { goes_by_name = v.goes_by_name; entries = es } ∷ []) (append_assoc v.entries xs ys)
last-twice xs ys (w ∷ v ∷ u ∷ ws) = ap (λ (l : List Switch). w ∷ l) (last-twice xs ys (v ∷ u ∷ ws))

with-both : (xs ys : List Entry) (p : Program) → with_entries ys (with_entries xs p) ≡ with_entries (xs ++ ys) p
unfolding with_entries
with-both xs ys p = ap (λ (ws : List Switch). with_switches ws p) (last-twice xs ys p.switches)

-- ---- the entries of a list

-- the switch d has none yet, and there is room for all
pub record Listing (s : List ℕ) (d : Declaration) (c : List ℕ) (tx : List (Option Quoted)) : Type 0 where
  pub list : ListedSwitch s d c tx
  pub held : Held c
  pub some : 0 < length held.program.switches
  pub room : length (all_entries held.program) + d.list.words ≤ 128
  pub kept : KeptEntries held.program (list_entries s d.begin)

pub record Lists (s : List ℕ) (d : Declaration) (c c' : List ℕ) : Type 0 where
  pub holds : (p : Program) → HoldsProgram c p → KeptEntries p (list_entries s d.begin) → HoldsProgram c' (with_entries (list_entries s d.begin) p)
  pub beyond_same : drop 8192 c' ≡ drop 8192 c

-- the first k are there
pub record Filling (s : List ℕ) (d : Declaration) (c e : List ℕ) (k : ℕ) : Type 0 where
  pub holds : (p : Program) → HoldsProgram c p → KeptEntries p (list_entries s d.begin) → HoldsProgram e (with_entries (take k (list_entries s d.begin)) p)
  pub beyond_same : drop 8192 e ≡ drop 8192 c

pub filling-first : {s : List ℕ} {d : Declaration} {c : List ℕ} {k : ℕ} → k ≡ 0 → Filling s d c c k
filling-first e = record { holds = λ p h q. rw (e, with_none p) h; beyond_same = refl }

module _ {s : List ℕ} {d : Declaration} {c : List ℕ} {tx : List (Option Quoted)} (pre : Listing s d c tx) where
  abbrev p₀ : Program
  p₀ = pre.held.program

  abbrev rows : List (List Item)
  rows = rows_in pre.list

  abbrev es : List Entry
  es = list_entries s d.begin

  entries-count : length es ≡ d.list.words
  entries-count = ap length (entries-are (statement_at s d.begin)) ∙ length-map rows row_entry ∙ rows_are pre.list

  -- none is in excess
  all-there : length tx ≡ d.list.words
  all-there = omega (arith, pre.list.text_count, entry_count c p₀ pre.held.holds, pre.room)

  module _ {e : List ℕ} {k : ℕ} (u : Filling s d c e k) where
    abbrev row : List Item
    row = get_or rows k []

    abbrev now : Program → Program
    now p = with_entries (take k es) p

    held-now : HoldsProgram e (now p₀)
    held-now = u.holds p₀ pre.held.holds pre.kept

    module _ (more : k < length tx) where
      pub row-tellable : RowNamed s (get_or tx k None) e
      row-tellable = row_named pre.list more (record { program = now p₀; holds = held-now })

      module _ {v : ℕ} (g : RowTold s (get_or tx k None) e v) where
        row_is : get_or es k (row_entry []) ≡ row_entry row
        row_is = ap (λ (xs : List Entry). get_or xs k (row_entry [])) (entries-are (statement_at s d.begin)) ∙ get_or-map row_entry rows k [] (row_entry []) (row-inside pre.list more)

        kept-now : (p : Program) → KeptEntries p es → KeptText (now p) (row_text row)
        unfolding with_entries
        kept-now p h = rw row_is at (each_at (λ y. KeptText p y.text) (row_entry []) tt es h k)

        count-now : length (all_entries (now p₀)) ≡ length (all_entries p₀) + length (take k es)
        unfolding with_entries
        count-now = ap length (each_last (take k es) p₀.switches pre.some) ∙ length-append (all_entries p₀) (take k es)

        some-now : 0 < length (now p₀).switches
        unfolding with_entries
        some-now = omega (arith, last-long (and_entries (take k es)) p₀.switches, pre.some)

        ref_is : (p : Program) → HoldsProgram e p → v ≡ text_ref p (row_text row)
        ref_is p h = (g.of row (cell-here pre.list more)).is p h

        pub room-for-entry : EntryRoom e 0 v
        room-for-entry =
            entry_room e (now p₀) held-now 0 v (omega (arith, count-now, length-take k es, entries-count, more, all-there, pre.room)) some-now (omega arith)
            (omega (arith, ref_is (now p₀) held-now, text_ref-below (now p₀) (row_text row) (kept-now p₀ pre.kept), held-now.tabular.texts_most))

        one_entry : {e' : List ℕ} (p : Program) → HoldsProgram e' (with_entry (row_entry row) (now p)) → HoldsProgram e' (with_entries (row_entry row ∷ []) (now p))
        unfolding with_entry with_entries
        one_entry p h = h

        pub filling-more : {e' : List ℕ} → Writes (IsEntry 0 v) with_entry e e' → {k' : ℕ} → k' ≡ k + 1 → Filling s d c e' k'
        filling-more {e'} w {k'} f =
            let z : k' ≡ suc k = omega (arith, f) in
            record {
              holds = λ p h q.
                  rw (z, take-suc es k (row_entry []) (omega (arith, more, all-there, entries-count)), row_is, ← with-both (take k es) (row_entry row ∷ []) p)
                  (one_entry p (w.holds (row_entry row) (now p) (u.holds p h q)
                  (record { label_is = refl; ref_is = ref_is (now p) (u.holds p h q); kept = kept-only (now p) (row_text row) (kept-now p q) })));
              beyond_same = w.beyond ∙ u.beyond_same;
            }

    pub filled-all : length tx ≤ k → Lists s d c e
    filled-all done =
        record {
          holds = λ p h q. rw (take_all k es (omega (arith, done, all-there, entries-count))) at (u.holds p h q);
          beyond_same = u.beyond_same;
        }
