-- The switch with its list comes to the table, after its texts.
use mathlib.Core.Path.{◌≡◌, sym, ap, ◌∙◌}
use mathlib.Core.Bool.{Bool, false, not}
use Rattle.std.specs.Option.{is_some}
use Rattle.declaring.proofs.Instructing.{some-by}
use mathlib.Core.List.{List, [], ◌∷◌, ◌++◌, append-nil}
use Prim.Native.Nat.{ℕ, ◌+◌, ◌-◌, ◌≤◌, ◌<◌}
use native.Mathlib.Omega.{arith}
use lib.ListN.{length, set, length-append, length-map}
use Rattle.acceptance.proofs.RowLaws.{append-none, drop-none}
use Rattle.declaring.specs.Declaring.{texts_excess}
use Rattle.declaring.specs.Below.Entering.{set_texts}
use Rattle.statements.specs.FaultLaws.{no-fault}
use Rattle.language.specs.Limits as limit
use Rattle.language.specs.Program.{Program}
use Rattle.layout.specs.Cells.{cell}
use Rattle.layout.specs.Table.{all_entries}
use Rattle.lists.specs.Lists.{keep}
use Rattle.packed.specs.Packed.{table_of}
use Rattle.statements.specs.StatementAt.{statement_at}
use Rattle.statements.specs.Faults.{Fault}
use Rattle.std.specs.Prelude.{None, Option}
use Rattle.switch_lists.specs.Below.Quoted.{Quoted}
use Rattle.syntax.specs.Items.{Item, is, places}
use Rattle.syntax.specs.Items.Sort.{word}
use Rattle.syntax.specs.Questions.{beyond}
use Rattle.writing.specs.Writing.{HoldsProgram, Changes, SwitchRoom, with_switch}
use Rattle.writing.proofs.Growing.{each_snoc}
use Rattle.writing.proofs.Held.{switch_count, entry_count}
use Rattle.writing.proofs.Rooms.{switch_room}
use Rattle.declaring_switches.specs.declared.Declaration.{Declaration}
use Rattle.declaring_switches.specs.DeclaringSwitches.{ListedSwitch, switch_excess, with_texts, JudgeableSwitch, JudgesSwitch}
use Rattle.declaring_switches.proofs.Entries.{Listing, Lists}
use Rattle.declaring_switches.specs.Switches.{with_list, WritableSwitch, WritesSwitch, DeclarableSwitch, DeclaresSwitch}

same_entries : (b : Bool) (p : Program) → all_entries (with_switch b p) ≡ all_entries p
unfolding with_switch
same_entries b p = each_snoc (λ w. w.entries) p.switches (record { goes_by_name = b; entries = [] }) ∙ append-nil (all_entries p)

some-switch : (b : Bool) (p : Program) → 0 < length (with_switch b p).switches
unfolding with_switch
some-switch b p = omega (arith, length-append p.switches (record { goes_by_name = b; entries = [] } ∷ []))

-- the list of a table with as many entries
same-list : {s : List ℕ} {d : Declaration} {c e : List ℕ} {tx : List (Option Quoted)} → cell (table_of e) 3 ≡ cell (table_of c) 3 → ListedSwitch s d c tx → ListedSwitch s d e tx
same-list {s} {d} {c} {e} {tx} q l =
    record {
      inside = l.inside;
      words_is = l.words_is;
      few = l.few;
      over_is = rw q l.over_is;
      texts = l.texts;
      text_count = rw q l.text_count;
      ordered = l.ordered;
      right = l.right;
      short = l.short;
    }

module _ {s : List ℕ} {d : Declaration} {c : List ℕ} {tx : List (Option Quoted)} (pre : WritableSwitch s d c tx) where
  abbrev p₀ : Program
  p₀ = pre.held.program

  pub room-for-switch : SwitchRoom c
  room-for-switch = switch_room c p₀ pre.held.holds pre.switch_room

  pub switch-index : {k : ℕ} → k ≡ cell (table_of c) 2 → k < limit.switches
  switch-index e = omega (arith, e, switch_count c p₀ pre.held.holds, pre.switch_room)

  module _ {e : List ℕ} (h : Changes (with_switch d.named) c e) where
    cell_same : cell (table_of e) 3 ≡ cell (table_of c) 3
    cell_same =
        entry_count e (with_switch d.named p₀) (h.holds p₀ pre.held.holds) ∙ ap length (same_entries d.named p₀) ∙ sym (entry_count c p₀ pre.held.holds)

    pub listing : Listing s d e tx
    unfolding with_switch
    listing =
        record {
          list = same-list cell_same pre.list;
          held = record { program = with_switch d.named p₀; holds = h.holds p₀ pre.held.holds };
          some = some-switch d.named p₀;
          room = omega (arith, ap length (same_entries d.named p₀), pre.entry_room);
          kept = pre.kept;
        }

    pub switch-written : {sw e' : List ℕ} → Lists s d e e' → {k : ℕ} → k ≡ cell (table_of c) 2 → WritesSwitch s d c sw e' (set sw k d.name)
    unfolding with_list with_switch
    switch-written {sw} u e =
        record {
          holds = λ p g q. u.holds (with_switch d.named p) (h.holds p g) q;
          switch_marks = ap (λ (j : ℕ). set sw j d.name) e;
          beyond_same = u.beyond_same ∙ h.beyond;
        }

module _ {s : List ℕ} {d : Declaration} {c : List ℕ} {tx : List (Option Quoted)} (pre : DeclarableSwitch s d c tx) where
  abbrev p : Program
  p = pre.held.program

  pub switch-judgeable : JudgeableSwitch s d c tx
  switch-judgeable = record { list = pre.list; held = pre.held }

  module _ {r : Fault} {e : List ℕ} (h : JudgesSwitch s d c r e) where
    pub switch-refused : {sw : List ℕ} {b : Bool} → is_some r ≡ not b → b ≡ false → DeclaresSwitch s d c sw r e sw
    switch-refused x q =
        record {
          told = λ y g. h.told y g;
          holds = λ f. absurd (some-by x q f);
          switch_marks = λ f. absurd (some-by x q f);
          beyond_same = h.beyond_same;
        }

    module _ (x : r ≡ None) where
      entered : HoldsProgram e (with_texts s d.begin p)
      entered = h.holds x p pre.held.holds

      rooms : (length p.switches < 32) × (length (all_entries p) + d.list.words ≤ 128)
      unfolding switch_excess
      rooms =
          let ws = keep (is word) (statement_at s d.begin) in
          let ps = beyond 32 (length p.switches) (d.at ∷ []) in
          let qs = beyond 128 (length (all_entries p)) (places ws) in
          let rs = texts_excess s d.begin p in
          let f = no-fault (ps ++ qs ++ rs) (sym (h.told p pre.held.holds) ∙ x) in
          let g = append-none ps qs (append-none (ps ++ qs) rs f).0 in (
            omega (arith, drop-none (32 - length p.switches) (d.at ∷ []) g.0),
            omega (
              arith,
              drop-none (128 - length (all_entries p)) (places ws) g.1,
              length-map ws (λ (i : Item). i.at),
              pre.held.holds.tabular.entries_most,
              pre.list.words_is,
            ),
          )

      cells_same : (cell (table_of e) 2 ≡ cell (table_of c) 2) × (cell (table_of e) 3 ≡ cell (table_of c) 3)
      unfolding with_texts set_texts
      cells_same = (
        switch_count e (with_texts s d.begin p) entered ∙ sym (switch_count c p pre.held.holds),
        entry_count e (with_texts s d.begin p) entered ∙ sym (entry_count c p pre.held.holds),
      )

      pub switch-writable : WritableSwitch s d e tx
      unfolding with_texts set_texts
      switch-writable =
          record {
            list = same-list cells_same.1 pre.list;
            held = record { program = with_texts s d.begin p; holds = entered };
            switch_room = rooms.0;
            entry_room = rooms.1;
            kept = pre.kept;
          }

      pub switch-declared : {sw e' sw' : List ℕ} → WritesSwitch s d e sw e' sw' → DeclaresSwitch s d c sw r e' sw'
      switch-declared {sw} w =
          record {
            told = λ y g. h.told y g;
            holds = λ f y g k. w.holds (with_texts s d.begin y) (h.holds x y g) k;
            switch_marks = λ f. w.switch_marks ∙ ap (λ (j : ℕ). set sw j d.name) cells_same.0;
            beyond_same = w.beyond_same ∙ h.beyond_same;
          }
