-- Instructions of a table: tested cell by cell, they are well formed and written as they are read.
use Rattle.std.specs.Prelude.{◌≡◌, Bool, ◌&&◌, ℕ, zero, suc, ◌+◌, ◌*◌, ◌/◌, ◌%◌, ◌≤◌, ◌<◌, leb, ltb, eqb}
use Rattle.std.proofs.Math.Path.{refl, subst}
use Rattle.std.proofs.Common.{sym, ap, ◌∙◌, arith, leb→le, ltb→lt, le→leb, lt→ltb, eqb→eq}
use mathlib.Core.List.{List, [], ◌∷◌}
use Rattle.std.proofs.Math.Dec.{T}
use Rattle.language.specs.Instructions.{operation, operator_of}
use Rattle.language.specs.Program.{Instr, Program}
use Rattle.lists.specs.ListLaws.{T-left, T-right, T-both}
use Rattle.lists.specs.TableLaws.{below}
use Rattle.machine.specs.Facts.{InstrFacts}
use Rattle.machine.specs.WellFormed.{ranged, listed, good_instr}
use Rattle.machine.proofs.WellFormedLaws.{open-instr}
use Rattle.layout.proofs.ArgumentLaws.{operator-range}
use Rattle.layout.specs.Cells.{cell}
use Rattle.layout.specs.Table.{arg_cell, instr_cells, instr_in}
use Rattle.layout.specs.Places as layout
use Rattle.check_parts.specs.Parts.{head_fits, arg_fits, form_bit, lists_take, instr_fits}
use Rattle.check_table.specs.ArgumentFits.{arg-sound, arg-complete}
use Rattle.check_table.specs.FormFits.{formed, listed-alike}
use Rattle.check_table.specs.NameLaws.{stands-cons, stands-head, stands-tail}
use Rattle.check_table.specs.RefLaws.{Kept}
use Rattle.check_table.specs.StandLaws.{stands}

abbrev numbered : ℕ → Bool
numbered m = eqb (operation (operator_of (suc m))).number (suc m)

pub operator-own : (n : ℕ) → 0 < n → n ≤ 41 → (operation (operator_of n)).number ≡ n
operator-own zero a b = absurd (omega (arith, a))
operator-own (suc m) a b = eqb→eq (operation (operator_of (suc m))).number (suc m) (below numbered 41 tt m (omega (arith, b)))

module _ (t : List ℕ) (p : Program) (kept : Kept t p) (i : ℕ) where
  abbrev k : ℕ
  k = layout.first_instruction + 4 * i

  abbrev x : ℕ
  x = cell t k

  abbrev it : Instr
  it = instr_in t i

  place_1 : cell t (layout.first_argument + 4 * i) ≡ cell t (1 + k)
  place_1 = ap (cell t) (omega arith)

  place_2 : cell t (layout.second_argument + 4 * i) ≡ cell t (2 + k)
  place_2 = ap (cell t) (omega arith)

  place-3 : cell t (layout.third_argument + 4 * i) ≡ cell t (3 + k)
  place-3 = ap (cell t) (omega arith)

  abbrev h₁ : Bool
  h₁ = ltb 0 (x % 64)

  abbrev h₂ : Bool
  h₂ = leb (x % 64) 41

  abbrev h₃ : Bool
  h₃ = ltb 0 (x / 64)

  abbrev h₄ : Bool
  h₄ = leb (x / 64) 32768

  abbrev a₁ : Bool
  a₁ = arg_fits t (cell t (layout.first_argument + 4 * i))

  abbrev a₂ : Bool
  a₂ = arg_fits t (cell t (layout.second_argument + 4 * i))

  abbrev a₃ : Bool
  a₃ = arg_fits t (cell t (layout.third_argument + 4 * i))

  abbrev lists : Bool
  lists = lists_take (x % 64) (form_bit t (cell t (layout.first_argument + 4 * i))) (form_bit t (cell t (layout.second_argument + 4 * i))) (form_bit t (cell t (layout.third_argument + 4 * i)))

  abbrev r₁ : Bool
  r₁ = ranged p it.first

  abbrev r₂ : Bool
  r₂ = ranged p it.second

  abbrev r₃ : Bool
  r₃ = ranged p it.third

  -- the arguments in range, the forms are those listed
  lists-are : T (arg_fits t (cell t (1 + k))) → T (arg_fits t (cell t (2 + k))) → T (arg_fits t (cell t (3 + k))) → (operation (operator_of (x % 64))).number ≡ x % 64 → lists ≡ listed p it
  lists-are b₁ b₂ b₃ own =
      let f₁ = formed t p kept (cell t (1 + k)) b₁ in
      let f₂ = formed t p kept (cell t (2 + k)) b₂ in
      let f₃ = formed t p kept (cell t (3 + k)) b₃ in
      let s₁ : ℕ = form_bit t (cell t (1 + k)) in
      let s₂ : ℕ = form_bit t (cell t (2 + k)) in
      let s₃ : ℕ = form_bit t (cell t (3 + k)) in
      ap (λ (y : ℕ). lists_take (x % 64) (form_bit t y) (form_bit t (cell t (layout.second_argument + 4 * i))) (form_bit t (cell t (layout.third_argument + 4 * i)))) place_1
      ∙ ap (λ (y : ℕ). lists_take (x % 64) s₁ (form_bit t y) (form_bit t (cell t (layout.third_argument + 4 * i)))) place_2
      ∙ ap (λ (y : ℕ). lists_take (x % 64) s₁ s₂ (form_bit t y)) place-3
      ∙ ap (λ (n : ℕ). lists_take n s₁ s₂ s₃) (sym own)
      ∙ listed-alike p it s₁ s₂ s₃ f₁.some f₂.some f₃.some f₁.is f₂.is f₃.is

  -- its four cells
  abbrev cells₃ : List ℕ
  cells₃ = arg_cell p it.third ∷ []

  abbrev cells₂ : List ℕ
  cells₂ = arg_cell p it.second ∷ cells₃

  abbrev cells₁ : List ℕ
  cells₁ = arg_cell p it.first ∷ cells₂

  abbrev head : ℕ
  head = (operation it.op).number + 64 * it.line

  step-1 : suc k ≡ 1 + k
  step-1 = omega arith

  step-2 : suc (1 + k) ≡ 2 + k
  step-2 = omega arith

  step-3 : suc (2 + k) ≡ 3 + k
  step-3 = omega arith

  pub instr-operator : T (instr_fits t i) → (operation (operator_of (x % 64))).number ≡ x % 64
  unfolding instr_fits head_fits
  instr-operator h =
      let e₁ = T-left (head_fits x && a₁ && a₂ && a₃) lists h in
      let e₄ = T-left (head_fits x) a₁ (T-left (head_fits x && a₁) a₂ (T-left (head_fits x && a₁ && a₂) a₃ e₁)) in
      let u₂ = T-left (h₁ && h₂) h₃ (T-left (h₁ && h₂ && h₃) h₄ e₄) in
      operator-own (x % 64) (ltb→lt 0 (x % 64) (T-left h₁ h₂ u₂)) (leb→le (x % 64) 41 (T-right h₁ h₂ u₂))

  pub instr-sound : T (instr_fits t i) → T (good_instr p it) × T (stands t k (instr_cells p it))
  unfolding instr_fits head_fits good_instr stands
  instr-sound h =
      let e₁ = T-left (head_fits x && a₁ && a₂ && a₃) lists h in
      let e₂ = T-left (head_fits x && a₁ && a₂) a₃ e₁ in
      let e₃ = T-left (head_fits x && a₁) a₂ e₂ in
      let e₄ = T-left (head_fits x) a₁ e₃ in
      let b₁ : T (arg_fits t (cell t (1 + k))) = subst (λ (y : ℕ). T (arg_fits t y)) place_1 (T-right (head_fits x) a₁ e₃) in
      let b₂ : T (arg_fits t (cell t (2 + k))) = subst (λ (y : ℕ). T (arg_fits t y)) place_2 (T-right (head_fits x && a₁) a₂ e₂) in
      let b₃ : T (arg_fits t (cell t (3 + k))) = subst (λ (y : ℕ). T (arg_fits t y)) place-3 (T-right (head_fits x && a₁ && a₂) a₃ e₁) in
      let u₃ = T-left (h₁ && h₂ && h₃) h₄ e₄ in
      let own = instr-operator h in
      let c₁ = arg-sound t p kept (cell t (1 + k)) b₁ in
      let c₂ = arg-sound t p kept (cell t (2 + k)) b₂ in
      let c₃ = arg-sound t p kept (cell t (3 + k)) b₃ in
      let all_listed : T (listed p it) = subst T (lists-are b₁ b₂ b₃ own) (T-right (head_fits x && a₁ && a₂ && a₃) lists h) in (
        T-both (listed p it && r₁ && r₂ && r₃ && h₃) h₄
            (T-both (listed p it && r₁ && r₂ && r₃) h₃ (T-both (listed p it && r₁ && r₂) r₃ (T-both (listed p it && r₁) r₂ (T-both (listed p it) r₁ all_listed c₁.0) c₂.0) c₃.0) (T-right (h₁ && h₂) h₃ u₃))
            (T-right (h₁ && h₂ && h₃) h₄ e₄),
        stands-cons t k (1 + k) head cells₁ step-1 (omega (arith, own))
            (stands-cons t (1 + k) (2 + k) (arg_cell p it.first) cells₂ step-2 (sym c₁.1)
            (stands-cons t (2 + k) (3 + k) (arg_cell p it.second) cells₃ step-3 (sym c₂.1)
            (stands-cons t (3 + k) (suc (3 + k)) (arg_cell p it.third) [] refl (sym c₃.1) tt))),
      )

  pub instr-complete : T (good_instr p it) → T (stands t k (instr_cells p it)) → T (instr_fits t i)
  unfolding instr_fits head_fits
  instr-complete g s =
      let f : InstrFacts p it = open-instr p it g in
      let s₁ = stands-tail t k (1 + k) head cells₁ step-1 s in
      let s₂ = stands-tail t (1 + k) (2 + k) (arg_cell p it.first) cells₂ step-2 s₁ in
      let s₃ = stands-tail t (2 + k) (3 + k) (arg_cell p it.second) cells₃ step-3 s₂ in
      let z : head ≡ x = stands-head t k (1 + k) head cells₁ step-1 s in
      let range = operator-range it.op in
      let own : (operation (operator_of (x % 64))).number ≡ x % 64 = omega (arith, z, range) in
      let b₁ = arg-complete t p kept (cell t (1 + k)) f.first (stands-head t (1 + k) (2 + k) (arg_cell p it.first) cells₂ step-2 s₁) in
      let b₂ = arg-complete t p kept (cell t (2 + k)) f.second (stands-head t (2 + k) (3 + k) (arg_cell p it.second) cells₃ step-3 s₂) in
      let b₃ = arg-complete t p kept (cell t (3 + k)) f.third (stands-head t (3 + k) (suc (3 + k)) (arg_cell p it.third) [] refl s₃) in
      let front : T (head_fits x) =
      T-both (h₁ && h₂ && h₃) h₄ (T-both (h₁ && h₂) h₃ (T-both h₁ h₂ (lt→ltb 0 (x % 64) (omega (arith, own, range))) (le→leb (x % 64) 41 (omega (arith, own, range)))) (lt→ltb 0 (x / 64) f.line_from)) (le→leb (x / 64) 32768 f.line_to) in
      T-both (head_fits x && a₁ && a₂ && a₃) lists
      (T-both (head_fits x && a₁ && a₂) a₃
      (T-both (head_fits x && a₁) a₂ (T-both (head_fits x) a₁ front (subst (λ (y : ℕ). T (arg_fits t y)) (sym place_1) b₁)) (subst (λ (y : ℕ). T (arg_fits t y)) (sym place_2) b₂))
      (subst (λ (y : ℕ). T (arg_fits t y)) (sym place-3) b₃))
      (subst T (sym (lists-are b₁ b₂ b₃ own)) f.forms)
