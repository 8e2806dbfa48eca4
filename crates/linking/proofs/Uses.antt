-- The marks of an instruction's arguments, as they stand in the table.
use mathlib.Core.Path.{◌≡◌, refl, sym, ap, ◌∙◌}
use mathlib.Core.Bool.{Bool, true, false, cond}
use mathlib.Core.List.{List, [], ◌∷◌, ◌++◌, append-nil}
use Prim.Native.Nat.{ℕ, zero, suc, ◌+◌, ◌*◌, ◌/◌, ◌%◌, ◌≤◌, ◌<◌}
use native.Mathlib.Omega.{arith}
use lib.ListN.{length, drop}
use borrow.Author.Tests.{eq-eqb, ne_eqb}
use Rattle.language.specs.Instructions.{operation}
use Rattle.language.specs.Limits as limit
use Rattle.language.specs.Program.{Arg, Instr, Program, no_instr, instr_at}
use Rattle.language.specs.Program.Arg.{nothing, letter, label, switch, class, text}
use Rattle.layout.proofs.ArgumentLaws.{operator-below, operator-range}
use Rattle.layout.proofs.CellLaws.{block_at, next_cell}
use Rattle.layout.specs.Cells.{cell}
use Rattle.layout.specs.Table.{arg_cell, instr_cells}
use Rattle.layout.specs.Places as layout
use Rattle.lists.specs.Lists.{bytes_equal}
use Rattle.packed.specs.Packed.{table_of}
use Rattle.writing.proofs.Growing.{parts, in_parts}
use Rattle.writing.specs.Writing.{HoldsProgram}
use Rattle.writing.proofs.Held.{code_count, label_count, switch_count}
use Rattle.drafts.specs.Marks.{place_by, word_by}
use Rattle.std.specs.Prelude.{Option, is_some}
use Rattle.finding.proofs.Found.{some_any}
use Rattle.finding.specs.Finding.{Locates}
use Rattle.statements.specs.Faults.{Fault}
use Rattle.linking.proofs.Faults.{joined-none, fault-one, Going, going_on, going-over}
use Rattle.linking.specs.Lookup.{argument, marks_in, instr_marks, instr_uses, asked_by, is_label, is_switch, joined, known, faults, Asking, Bounded, AskingAt, Judges}

argument_cell : (p : Program) (i : Instr) (j : ℕ) → j < 3 → cell (instr_cells p i) (1 + j) ≡ arg_cell p (argument j i)
argument_cell p i zero h = refl
argument_cell p i (suc zero) h = refl
argument_cell p i (suc (suc zero)) h = refl
argument_cell p i (suc (suc (suc j))) h = absurd (omega (arith, h))

module _ (c : List ℕ) (p : Program) (h : HoldsProgram c p) (k : ℕ) (there : k < length p.code) where
  abbrev block : List ℕ
  block = instr_cells p (instr_at p k)

  at_block : (rest : List ℕ) × (drop (layout.first_instruction + 4 * k) (parts p) ≡ block ++ rest)
  at_block = block_at 4 (instr_cells p) (λ i. refl) (parts p) _ 8 2048 no_instr p.code k refl there

  in_block : (j : ℕ) → j < 4 → cell (table_of c) (j + (layout.first_instruction + 4 * k)) ≡ cell block j
  in_block j b =
      ap (λ (x : List ℕ). cell x (j + (layout.first_instruction + 4 * k))) (h.is ∙ in_parts p) ∙ next_cell (parts p) block at_block.0 (layout.first_instruction + 4 * k) at_block.1 j b

  pub argument-at : (j : ℕ) → j < 3 → cell (table_of c) (1 + j + (layout.first_instruction + 4 * k)) ≡ arg_cell p (argument j (instr_at p k))
  argument-at j b = in_block (1 + j) (omega arith) ∙ argument_cell p (instr_at p k) j b

  pub operator_at : cell (table_of c) (layout.first_instruction + 4 * k) % 64 ≡ (operation (instr_at p k).op).number
  operator_at =
      let z : 0 + (layout.first_instruction + 4 * k) ≡ layout.first_instruction + 4 * k = omega arith in
      let e : cell (table_of c) (layout.first_instruction + 4 * k) ≡ (operation (instr_at p k).op).number + 64 * (instr_at p k).line = ap (cell (table_of c)) (sym z) ∙ in_block 0 (omega arith) in
      rw e (omega (arith, operator-below (instr_at p k).op))

-- ---- an argument by its cell

abbrev pub kind_of : Arg → ℕ
kind_of nothing = 0
kind_of (letter l n) = 1
kind_of (label m) = 2
kind_of (switch m) = 3
kind_of (class cs) = 4
kind_of (text t) = 5
kind_of (Arg.number z) = 6

pub cell-kind : (p : Program) (a : Arg) → arg_cell p a % 8 ≡ kind_of a
cell-kind p nothing = refl
cell-kind p (letter l n) = omega arith
cell-kind p (label m) = omega arith
cell-kind p (switch m) = omega arith
cell-kind p (class cs) = omega arith
cell-kind p (text t) = omega arith
cell-kind p (Arg.number z) = omega arith

-- the mark of a cell
pub of-kind : (kind x : ℕ) → x % 8 ≡ kind → marks_in kind x ≡ x / 8 ∷ []
of-kind kind x e = ap (λ (b : Bool). cond b (x / 8 ∷ []) []) (eq-eqb (x % 8) kind e)

pub not-of-kind : (kind x : ℕ) → (x % 8 ≡ kind → ⊥) → marks_in kind x ≡ []
not-of-kind kind x e = ap (λ (b : Bool). cond b (x / 8 ∷ []) []) (ne_eqb (x % 8) kind e)

-- the marks of the arguments from argument j on, where they are of a kind
module _ (kind : ℕ) (p : Program) (i : Instr) where
  abbrev from_argument : ℕ → List ℕ
  from_argument zero = instr_marks kind p i
  from_argument (suc zero) = marks_in kind (arg_cell p i.second) ++ marks_in kind (arg_cell p i.third)
  from_argument (suc (suc zero)) = marks_in kind (arg_cell p i.third)
  from_argument (suc (suc (suc j))) = []

  argument-next : (j : ℕ) → j < 3 → from_argument j ≡ marks_in kind (arg_cell p (argument j i)) ++ from_argument (j + 1)
  argument-next zero l = refl
  argument-next (suc zero) l = refl
  argument-next (suc (suc zero)) l = sym (append-nil (marks_in kind (arg_cell p i.third)))
  argument-next (suc (suc (suc j))) l = absurd (omega (arith, l))

-- ---- what the functions tell

-- no more switches than there may be
pub switches-most : {c : List ℕ} (n : ℕ) → Asking c → n ≡ cell (table_of c) 2 → n ≤ limit.switches
switches-most {c} n a e = omega (arith, e, switch_count c a.program a.holds, a.holds.tabular.switches_most)

-- instruction k is in every program that the table holds, with its argument j
module _ (c : List ℕ) (k : ℕ) where
  code-there : k < cell (table_of c) 0 → (p : Program) → HoldsProgram c p → k < length p.code
  code-there l p h = omega (arith, l, code_count c p h)

  pub argument_is : (j x : ℕ) → k < cell (table_of c) 0 → j < 3 → x ≡ cell (table_of c) (1 + j + (layout.first_instruction + 4 * k)) → (p : Program) → HoldsProgram c p → x ≡ arg_cell p (argument j (instr_at p k))
  argument_is j x l b is p h = is ∙ argument-at c p h k (code-there l p h) j b

module _ (s sw c : List ℕ) (kind : ℕ) (named : Bool) where
  pub label-known : (m : ℕ) {o : Option ℕ} {b : Bool} → kind ≡ 2 → Locates c (λ p. p.labels) (λ l. bytes_equal (word_by s m) l.name) o → b ≡ is_some o → Judges c (λ p. known s sw kind named p m) b
  label-known m e t is =
      record {
        is = λ p h. is ∙ sym (some_any (λ l. bytes_equal (word_by s m) l.name) p.labels (t.is p h))
            ∙ ap (λ (b : Bool). cond b (is_label s p m) (is_switch s named m sw p.switches)) (sym (eq-eqb kind 2 e));
      }

  pub switch-known : (m : ℕ) {r : Bool} → (kind ≡ 2 → ⊥) → Judges c (λ p. is_switch s named m sw p.switches) r → Judges c (λ p. known s sw kind named p m) r
  switch-known m e t =
      record { is = λ p h. t.is p h ∙ ap (λ (b : Bool). cond b (is_label s p m) (is_switch s named m sw p.switches)) (sym (ne_eqb kind 2 e)) }

  pub noted : (m : ℕ) (f : Fault) {b : Bool} {r : Fault} → Judges c (λ p. known s sw kind named p m) b → r ≡ joined f (cond b [] (place_by m ∷ []))
      → Judges c (λ p. joined f (faults s sw kind named p (m ∷ []))) r
  noted m f t u = record { is = λ p h. u ∙ ap (joined f) (fault-one s sw kind named p m (t.is p h)) }

  module _ (k j : ℕ) (f : Fault) (x : ℕ) (l : k < cell (table_of c) 0) (b : j < 3) (is : x ≡ cell (table_of c) (1 + j + (layout.first_instruction + 4 * k))) where
    pub argument-other : (x % 8 ≡ kind → ⊥) → Judges c (λ p. joined f (faults s sw kind named p (marks_in kind (arg_cell p (argument j (instr_at p k)))))) f
    argument-other e =
        record { is = λ p h. joined-none f ∙ ap (λ (ms : List ℕ). joined f (faults s sw kind named p ms)) (sym (not-of-kind kind x e) ∙ ap (marks_in kind) (argument_is c k j x l b is p h)) }

    pub argument-noted : {b : Bool} {r : Fault} → x % 8 ≡ kind → Judges c (λ p. known s sw kind named p (x / 8)) b → r ≡ joined f (cond b [] (place_by (x / 8) ∷ []))
        → Judges c (λ p. joined f (faults s sw kind named p (marks_in kind (arg_cell p (argument j (instr_at p k)))))) r
    argument-noted e t u =
        record {
          is = λ p h. (noted (x / 8) f t u).is p h
              ∙ ap (λ (ms : List ℕ). joined f (faults s sw kind named p ms)) (sym (of-kind kind x e) ∙ ap (marks_in kind) (argument_is c k j x l b is p h));
        }

  module _ (k : ℕ) (f : Fault) where
    abbrev arguments_left : ℕ → Program → List ℕ
    arguments_left j p = from_argument kind p (instr_at p k) j

    -- g is f with the faults of the arguments before argument j
    abbrev pub ArgumentsGoing : ℕ → Fault → Type 0
    ArgumentsGoing j g = Going s sw c kind named (arguments_left 0) (arguments_left j) f g

    pub arguments-next : (j : ℕ) {g g' : Fault} → j < 3 → ArgumentsGoing j g
        → Judges c (λ p. joined g (faults s sw kind named p (marks_in kind (arg_cell p (argument j (instr_at p k)))))) g' → ArgumentsGoing (j + 1) g'
    arguments-next j l u t =
        going_on s sw c kind named f (arguments_left 0) (λ p. marks_in kind (arg_cell p (argument j (instr_at p k)))) u (λ p h. argument-next kind p (instr_at p k) j l) t

  module _ (k : ℕ) (f : Fault) (l : k < cell (table_of c) 0) where
    abbrev uses_at : Program → List ℕ
    uses_at p = instr_uses kind named p (instr_at p k)

    pub instr-other : {o : ℕ} → o ≡ cell (table_of c) (layout.first_instruction + 4 * k) % 64 → asked_by kind named o ≡ false → Judges c (λ p. joined f (faults s sw kind named p (uses_at p))) f
    unfolding instr_uses
    instr-other is e =
        record {
          is = λ p h. joined-none f
              ∙ ap (λ (b : Bool). joined f (faults s sw kind named p (cond b (instr_marks kind p (instr_at p k)) [])))
              (sym e ∙ ap (asked_by kind named) (is ∙ operator_at c p h k (code-there c k l p h)));
        }

    -- all of them
    pub instr-noted : {g : Fault} {o : ℕ} → o ≡ cell (table_of c) (layout.first_instruction + 4 * k) % 64 → asked_by kind named o ≡ true → ArgumentsGoing k f 3 g
        → Judges c (λ p. joined f (faults s sw kind named p (uses_at p))) g
    unfolding instr_uses
    instr-noted is e u =
        record {
          is = λ p h. (going-over s sw c kind named f (arguments_left k f 0) u (λ p h. refl)).is p h
              ∙ ap (λ (b : Bool). joined f (faults s sw kind named p (cond b (instr_marks kind p (instr_at p k)) [])))
              (sym e ∙ ap (asked_by kind named) (is ∙ operator_at c p h k (code-there c k l p h)));
        }

-- what is known of the cells by whatever program they hold
pub bounded : {c sw : List ℕ} → length sw ≡ limit.switches → Asking c → Bounded c sw
bounded {c} room a =
    let p : Program = a.program in
    record {
      room = room;
      code_most = omega (arith, code_count c p a.holds, a.holds.tabular.code_most);
      labels_most = omega (arith, label_count c p a.holds, a.holds.tabular.labels_most);
      switches_most = omega (arith, switch_count c p a.holds, a.holds.tabular.switches_most);
      operators = λ k l. rw (operator_at c p a.holds k (omega (arith, l, code_count c p a.holds))) (operator-range (instr_at p k).op);
    }

pub instruction-there : {c : List ℕ} {k : ℕ} → AskingAt c k → k < cell (table_of c) 0
instruction-there {c} a = omega (arith, a.there, code_count c a.asking.program a.asking.holds)
