-- A call's cells, and those of a value.
use mathlib.Core.Path.{◌≡◌, refl, ap, sym, ◌∙◌}
use mathlib.Core.Bool.{Bool, true, cond, true≢false}
use mathlib.Core.List.{List, [], ◌∷◌, map}
use Prim.Native.Nat.{ℕ, zero, suc, ◌+◌, ◌*◌, ◌-◌, ◌/◌, ◌≤◌, ◌<◌}
use native.Mathlib.Nat.{le_refl}
use native.Mathlib.Omega.{arith}
use lib.ListN.{length, get_or, set, drop, length-set}
use lib.Seq.{get_or-set_same, get_or-set_other}
use Rattle.layout.specs.Cells.{tab}
use Rattle.lists.specs.Lists.{filled, head_or}
use Rattle.statements.specs.Faults.{Fault}
use Rattle.std.specs.Prelude.{None, Some}
use Rattle.statements.specs.FaultLaws.{no-fault}
use Rattle.statements.specs.StatementAt.{fault_of}
use Rattle.macros.specs.Elements as spec
use Rattle.macros.specs.Elements.{places_in}
use Rattle.macros.specs.Pieces.{Given, Call, Change, given_of, call_faults, call_of}
use Rattle.macros.specs.Pieces.Given.{typed}
use Rattle.macros.specs.Pieces.Piece.{value, called}
use Rattle.macro_code.specs.Code.{high, paired, bytes_at, given_in, argument_cell, call_in, change_in, size_at}
use Rattle.macro_changes.specs.Changing.{Kept, kind_of, used_by}
use Rattle.macro_changes.proofs.Cells.{first_of, second-of, tab-cong, kept_set, kept_on}

module _ (s d : List ℕ) (u start stop kind : ℕ) (room : u + 2 ≤ length d) where
  abbrev pub cells : List ℕ
  cells = set (set d u (paired start stop)) (u + 1) kind

  pub span_cell : get_or cells u 0 ≡ paired start stop
  span_cell = get_or-set_other (set d u (paired start stop)) (u + 1) u kind 0 (λ e. omega arith) ∙ get_or-set_same d u (paired start stop) 0 (omega arith)

  pub kind_cell : get_or cells (u + 1) 0 ≡ kind
  kind_cell = get_or-set_same (set d u (paired start stop)) (u + 1) kind 0 (simp length-set (omega arith))

  pub above : (i : ℕ) → u + 2 ≤ i → get_or cells i 0 ≡ get_or d i 0
  above i h = get_or-set_other (set d u (paired start stop)) (u + 1) i kind 0 (λ e. omega arith) ∙ get_or-set_other d u i (paired start stop) 0 (λ e. omega arith)

  pub given_above : (i : ℕ) → u + 2 ≤ i → given_in s cells i ≡ given_in s d i
  unfolding given_in bytes_at
  given_above i h = let a = above i h in let b : get_or cells (i + 1) 0 ≡ get_or d (i + 1) 0 = above (i + 1) (omega arith) in rw (a, b) refl

  pub cells-kept : Kept d cells u
  cells-kept = kept_on (kept_set d u (paired start stop) u (le_refl u)) (kept_set (set d u (paired start stop)) (u + 1) kind u (omega arith)) (le_refl u)

-- a value
module _ (s d : List ℕ) (u start stop k : ℕ) (room : u + 2 ≤ length d) (low : stop < 65536) (few : k < 65536) where
  pub value_is : change_in s (cells s d u start stop (paired 0 k) room) u ≡ record { start = start; stop = stop; pieces = value k ∷ [] }
  unfolding change_in
  value_is =
      rw (span_cell s d u start stop (paired 0 k) room, kind_cell s d u start stop (paired 0 k) room, first_of start stop low, second-of start stop low, first_of 0 k few, second-of 0 k few) refl

  pub value-size : size_at (cells s d u start stop (paired 0 k) room) u ≡ 2
  unfolding size_at
  value-size = rw (kind_cell s d u start stop (paired 0 k) room, first_of 0 k few) refl

-- what a call gives, one by one
given-call : (ps : List (List ℕ)) (star : spec.Element) (ts : List spec.Element) (k : ℕ) (f : ℕ → Given) (h : ℕ → ℕ) → tab (suc k) f ≡ map (given_of ps) ts → tab (suc k) h ≡ places_in ts
    → (c : Call) → c ≡ record { at = star.at; name_at = h zero; name = f zero; args = tab k (λ i. f (suc i)); arg_places = tab k (λ i. h (suc i)) } → c ≡ call_of ps star ts
unfolding tab
given-call ps star [] k f h g p c e = absurd (true≢false (ap filled g))
given-call ps star (t ∷ ts) k f h g p c e =
    let a = ap (head_or (typed [])) g in
    let b = ap (drop 1) g in
    let q = ap (head_or 0) p in
    let r = ap (drop 1) p in
    e ∙ (λ i. record { at = star.at; name_at = q i; name = a i; args = b i; arg_places = r i })

-- an ill-formed call
module _ (s d : List ℕ) (u start stop : ℕ) (room : u + 2 ≤ length d) (low : stop < 65536) where
  nothing_is : change_in s (cells s d u start stop (paired 2 0) room) u ≡ record { start = start; stop = stop; pieces = [] }
  unfolding change_in
  nothing_is =
      rw (span_cell s d u start stop (paired 2 0) room, kind_cell s d u start stop (paired 2 0) room, first_of start stop low, second-of start stop low) refl

  nothing-size : size_at (cells s d u start stop (paired 2 0) room) u ≡ 2
  unfolding size_at
  nothing-size = rw (kind_cell s d u start stop (paired 2 0) room) refl

  -- a call of right form, with one argument less than is given
  module _ (k : ℕ) (few : k < 65536) where
    abbrev called_cells : List ℕ
    called_cells = cells s d u start stop (paired 1 k) room

    call-size : size_at called_cells u ≡ 4 + 2 * k
    unfolding size_at
    call-size = rw (kind_cell s d u start stop (paired 1 k) room, first_of 1 k few, second-of 1 k few) refl

    called_is : change_in s called_cells u ≡ record { start = start; stop = stop; pieces = called (call_in s called_cells u) ∷ [] }
    unfolding change_in
    called_is =
        rw (span_cell s d u start stop (paired 1 k) room, kind_cell s d u start stop (paired 1 k) room, first_of start stop low, second-of start stop low, first_of 1 k few) refl

    call-is : (star : spec.Element) → star.at ≡ start
        → call_in s called_cells u ≡ record { at = star.at; name_at = high d (u + 2 + 2 * zero); name = given_in s d (u + 2 + 2 * zero); args = tab k (λ i. given_in s d (u + 2 + 2 * suc i)); arg_places = tab k (λ i. high d (u + 2 + 2 * suc i)) }
    unfolding call_in
    call-is star e =
        let z : u + 2 + 2 * zero ≡ u + 2 = omega arith in
        let p = above s d u start stop (paired 1 k) room (u + 2) (le_refl (u + 2)) in
        let g = given_above s d u start stop (paired 1 k) room (u + 2) (le_refl (u + 2)) in
        let gs = tab-cong k (λ i. given_in s called_cells (argument_cell u i)) (λ i. given_in s d (u + 2 + 2 * suc i)) (λ i l. let q : argument_cell u i ≡ u + 2 + 2 * suc i = omega arith in given_above s d u start stop (paired 1 k) room (argument_cell u i) (omega arith) ∙ ap (given_in s d) q) in
        let hs = tab-cong k (λ i. high called_cells (argument_cell u i)) (λ i. high d (u + 2 + 2 * suc i)) (λ i l. let q : argument_cell u i ≡ u + 2 + 2 * suc i = omega arith in ap (λ (y : ℕ). y / 65536) (above s d u start stop (paired 1 k) room (argument_cell u i) (omega arith)) ∙ ap (λ (y : ℕ). high d y) q) in
        rw (kind_cell s d u start stop (paired 1 k) room, second-of 1 k few, span_cell s d u start stop (paired 1 k) room, first_of start stop low, p, g, gs, hs, z, e) refl

-- either way
module _ (s d : List ℕ) (u start stop count : ℕ) (room : u + 2 ≤ length d) (low : stop < 65536) (few : count < 65536) (ps : List (List ℕ)) (star : spec.Element) (place : star.at ≡ start) (ts : List spec.Element)
    (g : tab count (λ j. given_in s d (u + 2 + 2 * j)) ≡ map (given_of ps) ts) (p : tab count (λ j. high d (u + 2 + 2 * j)) ≡ places_in ts) where
  abbrev whole : Fault → List ℕ
  whole f = cells s d u start stop (kind_of count f) room

  abbrev the_change : Change
  the_change = record { start = start; stop = stop; pieces = cond (filled (call_faults ps star ts)) [] (called (call_of ps star ts) ∷ []) }

  clear-change : 0 < count → call_faults ps star ts ≡ [] → (change_in s (whole None) u ≡ the_change) × (u + size_at (whole None) u ≡ used_by u count None)
  clear-change h e = go (count - 1) (omega arith)
    where
      go : (k : ℕ) → count ≡ suc k → (change_in s (cells s d u start stop (paired 1 (count - 1)) room) u ≡ the_change) × (u + size_at (cells s d u start stop (paired 1 (count - 1)) room) u ≡ u + 2 + 2 * count)
      go k q =
          let o : count - 1 ≡ k = omega arith in
          let c = given-call ps star ts k (λ j. given_in s d (u + 2 + 2 * j)) (λ j. high d (u + 2 + 2 * j)) (rw q at g) (rw q at p) (call_in s (cells s d u start stop (paired 1 k) room) u) (call-is s d u start stop room low k (omega arith) star place) in (
            rw (o, e) (called_is s d u start stop room low k (omega arith) ∙ ap (λ (y : Call). record { start = start; stop = stop; pieces = called y ∷ [] }) c),
            rw o (omega (arith, call-size s d u start stop room low k (omega arith))),
          )

  at-change : (q : ℕ) → fault_of (call_faults ps star ts) ≡ Some q → (change_in s (whole (Some q)) u ≡ the_change) × (u + size_at (whole (Some q)) u ≡ used_by u count (Some q))
  at-change q e = (nothing_is s d u start stop room low ∙ ap (λ (b : Bool). record { start = start; stop = stop; pieces = cond b [] (called (call_of ps star ts) ∷ []) }) (sym (some (call_faults ps star ts) e)), rw (nothing-size s d u start stop room low) refl)
    where
      some : (ns : List ℕ) → fault_of ns ≡ Some q → filled ns ≡ true
      some [] y = absurd (let z : ◌≡◌ {A = ℕ} 0 1 = cc in omega arith)
      some (m ∷ ns) y = refl

  pub call-change : (f : Fault) → f ≡ fault_of (call_faults ps star ts) → (f ≡ None → 0 < count) → (change_in s (whole f) u ≡ the_change) × (u + size_at (whole f) u ≡ used_by u count f)
  call-change None e h = clear-change (h refl) (no-fault (call_faults ps star ts) (sym e))
  call-change (Some q) e h = at-change q (sym e)
