-- The labels and the instruction come to the table, after its texts and numbers.
use mathlib.Core.Path.{◌≡◌, refl, sym, ap, ◌∙◌, subst}
use mathlib.Core.Bool.{Bool, true, false, not, true≢false}
use Rattle.std.specs.Option.{is_some}
use mathlib.Core.List.{List, [], ◌∷◌, ◌++◌, map}
use Prim.Native.Nat.{ℕ, zero, suc, ◌+◌, ◌-◌, ◌≤◌, ◌<◌}
use native.Mathlib.Omega.{arith}
use lib.Dec.{T}
use lib.ListN.{length, get_or, drop, length-map}
use Rattle.names.proofs.Below.RowLaws.{append-none, drop-none}
use Rattle.argument_cells.specs.Below.Valued.{nth, FirstValue, Valued}
use Rattle.argument_cells.specs.Below.Value.{Value}
use Rattle.names.specs.Below.Drafting.{draft_arg}
use Rattle.names.specs.Below.DraftsMarks.{place_by}
use Rattle.language.specs.Instructions.{operator_of}
use Rattle.language.specs.Limits as limit
use Rattle.language.specs.Program.{Arg, Label, Program}
use Rattle.language.specs.Program.Arg.{nothing}
use Rattle.layout.proofs.ArgumentLaws.{operator-below}
use Rattle.layout.specs.Bounds.{Each}
use Rattle.layout.proofs.CellLaws.{each_at}
use Rattle.layout.specs.Cells.{cell}
use Rattle.packed.specs.Packed.{table_of}
use Rattle.statements.specs.FaultLaws.{no-fault}
use Rattle.statements.specs.StatementAt.{statement_at}
use Rattle.statements.specs.Faults.{Fault}
use Rattle.std.specs.Prelude.{None, Some}
use Rattle.argument_cells.specs.Below.Entering.{Held, EnterableValues}
use Rattle.argument_cells.proofs.Below.EnteringRows.{row_at}
use Rattle.syntax.specs.ArgumentForms.{Argument, arguments}
use Rattle.syntax.specs.Questions.{beyond}
use Rattle.argument_cells.specs.Below.ReadArgument as read
use Rattle.writing.specs.Writing.{HoldsProgram, kept_arg, Changes, Writes, InstrRoom, IsInstr, with_instr}
use Rattle.writing.proofs.Adding.{kept_same}
use Rattle.writing.proofs.Held.{code_count, label_count}
use Rattle.argument_cells.specs.ArgumentCells.{RightArgument, Drafts, CellAsked, CellOf}
use Rattle.declaring.specs.Declaring.{operator_number, with_labels, labels_by, Labelling, Judges, JudgesValues, instr_excess, texts_excess, numbers_excess, with_values, draft_args, new_instr, with_labelled, RightValues, Writable, WritesValues, Declarable, DeclaresValues}
use Rattle.declaring.specs.declared.Instruction.{Instruction}

-- ---- the instruction

module _ (p : Program) (ls : List Label) where
  kept_at : (xs : List Arg) (k : ℕ) → Each (λ a. T (kept_arg p a)) xs → T (kept_arg (with_labels ls p) (get_or xs k nothing))
  unfolding with_labels
  kept_at xs k h = rw (← kept_same p (with_labels ls p) refl refl (get_or xs k nothing)) (each_at (λ a. T (kept_arg p a)) nothing tt xs h k)

-- the values of the first, the second and the third argument, and their cells
abbrev nth_arg : List Argument → ℕ → Arg
nth_arg args k = get_or (map draft_arg args) k nothing

no-drafts : (s : List ℕ) (x : read.ReadArgument) → x ≡ read.ReadArgument.Nothing → Drafts s x nothing
no-drafts s x h = rw h (record { chars = []; short = omega arith; spelt = tt; drafted = refl })

value-drafts : (s : List ℕ) (args : List Argument) (k : ℕ) (x : Value) → Each RightArgument args → FirstValue s (drop k args) x → Drafts s x.argument (nth_arg args k)
value-drafts s [] zero x r h = no-drafts s x.argument h
value-drafts s [] (suc k) x r h = no-drafts s x.argument h
value-drafts s (a ∷ args) zero x r h =
    record { chars = a.item.chars; short = r.0.short; spelt = h.1.entered.spelt; drafted = h.1.drafted r.0.short }
value-drafts s (a ∷ args) (suc k) x r h = value-drafts s args k x r.1 h

drafts : {s : List ℕ} {n number : ℕ} {v : List Value} → RightValues s n number v → (k : ℕ) → Drafts s (nth v k).argument (nth_arg (arguments (operator_of number) (statement_at s n)) k)
drafts {s} {n} {number} {v} g k =
    value-drafts s (arguments (operator_of number) (statement_at s n)) k (nth v k) g.right (row_at (g.read (operator_of number) g.numbered) k)

module _ {s : List ℕ} {i : Instruction} {ms c : List ℕ} (pre : Writable s i ms c) where
  abbrev v : List Value
  v = i.values

  abbrev number : ℕ
  number = operator_number i

  pub labelling : {target : ℕ} → target ≡ cell (table_of c) 0 → Labelling s ms target c
  labelling e = record { named = pre.named; held = pre.held; room = pre.label_room; low = omega (arith, e, pre.code_room) }

  module _ {target : ℕ} (e : target ≡ cell (table_of c) 0) {d : List ℕ} (h : Changes (with_labels (labels_by s target ms)) c d) where
    abbrev labelled : Program → Program
    labelled p = with_labels (labels_by s target ms) p

    labels-held : HoldsProgram d (labelled pre.held.program)
    labels-held = h.holds pre.held.program pre.held.holds

    still : Held d
    still = record { program = labelled pre.held.program; holds = labels-held }

    pub asked : (k : ℕ) → CellAsked s (nth v k).argument d
    asked k = record { arg = _; drafts = drafts pre.values k; held = still }

    code-then : cell (table_of d) 0 ≡ cell (table_of c) 0
    unfolding with_labels
    code-then = code_count d (labelled pre.held.program) labels-held ∙ sym (code_count c pre.held.program pre.held.holds)

    module _ {o x y z : ℕ} (w : o ≡ number) (f : CellOf s (nth v 0).argument d x) (g : CellOf s (nth v 1).argument d y) (k : CellOf s (nth v 2).argument d z) where
      pub instr-room : InstrRoom d o i.line x y z
      instr-room =
          record {
            long = labels-held.long;
            room = omega (arith, code-then, pre.code_room);
            op_most = omega (arith, w, pre.values.numbered, operator-below (operator_of number));
            line_most = pre.line_most;
            x_most = omega (arith, (f _ (drafts pre.values 0)).most);
            y_most = omega (arith, (g _ (drafts pre.values 1)).most);
            z_most = omega (arith, (k _ (drafts pre.values 2)).most);
          }

      pub instr-written : {d' : List ℕ} → Writes (IsInstr o i.line x y z) with_instr d d' → WritesValues s i ms c d'
      unfolding with_labelled
      instr-written {d'} u n q₁ =
          record {
            holds = λ p q r.
                let t : target ≡ length p.code = e ∙ code_count c p q in
                let l : HoldsProgram d (labelled p) = h.holds p q in
                let j = new_instr s n number i.line in
                let m : HoldsProgram d' (with_instr j (labelled p)) =
                u.holds j (labelled p) l (record {
                  op_is = w ∙ sym q₁.numbered;
                  line_is = refl;
                  first_is = (f _ (drafts q₁ 0)).is (labelled p) l;
                  second_is = (g _ (drafts q₁ 1)).is (labelled p) l;
                  third_is = (k _ (drafts q₁ 2)).is (labelled p) l;
                  kept = record {
                    first = kept_at p (labels_by s target ms) (draft_args s n number) 0 r;
                    second = kept_at p (labels_by s target ms) (draft_args s n number) 1 r;
                    third = kept_at p (labels_by s target ms) (draft_args s n number) 2 r;
                  };
                }) in
                subst (λ (k : ℕ). HoldsProgram d' (with_instr j (with_labels (labels_by s k ms) p))) t m;
            beyond_same = u.beyond ∙ h.beyond;
          }

-- ---- the statement

-- whether there is a fault, by the answer of `is_none`
pub none-by : (r : Fault) {b : Bool} → is_some r ≡ not b → b ≡ true → r ≡ None
none-by None e q = refl
none-by (Some p) e q = absurd (true≢false (e ∙ ap not q))

pub some-by : {r : Fault} {b : Bool} → is_some r ≡ not b → b ≡ false → r ≡ None → ⊥
some-by e q f = true≢false (sym (e ∙ ap not q) ∙ ap is_some f)

module _ {s : List ℕ} {i : Instruction} {ms c : List ℕ} (pre : Declarable s i ms c) where
  valued : (n : ℕ) → RightValues s n (operator_number i) i.values → Valued s (statement_at s n) (arguments (operator_of (operator_number i)) (statement_at s n)) i.values
  valued n g = g.read (operator_of (operator_number i)) g.numbered

  pub enterable : EnterableValues s i.values c
  enterable = record { items = _; args = _; valued = valued pre.next pre.values; short = pre.short; held = pre.held }

  module _ {r : Fault} {d : List ℕ} (told : JudgesValues s i.at i.values ms c r d) where
    judges : (n : ℕ) → RightValues s n (operator_number i) i.values → Judges s i.at n ms c r d
    judges n g = told n _ (valued n g)

    pub declared-none : {b : Bool} → is_some r ≡ not b → b ≡ false → DeclaresValues s i ms c r d
    declared-none e q n g =
        record {
          told = λ p k. (judges n g).told p k;
          holds = λ f. absurd (some-by e q f);
          beyond_same = (judges n g).beyond_same;
        }

    module _ (e : r ≡ None) where
      abbrev p : Program
      p = pre.held.program

      abbrev h : Judges s i.at pre.next ms c r d
      h = judges pre.next pre.values

      entered : HoldsProgram d (with_values s pre.next p)
      entered = h.holds e p pre.held.holds

      rooms : (length p.code < 512) × (length p.labels + length ms ≤ 128)
      unfolding instr_excess
      rooms =
          let x = beyond limit.instructions (length p.code) (i.at ∷ []) in
          let y = beyond limit.labels (length p.labels) (map place_by ms) in
          let z = texts_excess s pre.next p in
          let w = numbers_excess s pre.next p in
          let f = no-fault (x ++ y ++ z ++ w) (sym (h.told p pre.held.holds) ∙ e) in
          let g = append-none x y (append-none (x ++ y) z (append-none (x ++ y ++ z) w f).0).0 in (
            omega (arith, drop-none (512 - length p.code) (i.at ∷ []) g.0),
            omega (
              arith,
              drop-none (128 - length p.labels) (map place_by ms) g.1,
              length-map ms place_by,
              pre.held.holds.tabular.labels_most,
            ),
          )

      pub writable : Writable s i ms d
      unfolding with_values Rattle.argument_cells.specs.Below.Entering.set_numbers Rattle.argument_cells.specs.Below.Entering.set_texts
      writable =
          record {
            next = pre.next;
            values = pre.values;
            held = record { program = with_values s pre.next p; holds = entered };
            named = pre.named;
            code_room = omega (arith, code_count d (with_values s pre.next p) entered, rooms.0);
            label_room = omega (arith, label_count d (with_values s pre.next p) entered, rooms.1);
            line_most = pre.line_most;
          }

      pub declared : {d' : List ℕ} → WritesValues s i ms d d' → DeclaresValues s i ms c r d'
      declared w n g =
          record {
            told = λ q k. (judges n g).told q k;
            holds = λ f q k l. (w n g).holds (with_values s n q) ((judges n g).holds e q k) l;
            beyond_same = (w n g).beyond_same ∙ (judges n g).beyond_same;
          }
