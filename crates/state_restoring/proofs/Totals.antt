-- The cells of a state with zeros for the totals pass the tests that do not look at these, and hold what the state holds.
use Rattle.std.specs.Prelude.{Option, Some, None, MatchOption}
use mathlib.Core.Path.{◌≡◌, refl, sym, ap, ◌∙◌, subst}
use mathlib.Core.Bool.{Bool, false, ◌&&◌}
use mathlib.Core.List.{List, [], ◌∷◌, append-nil}
use Prim.Native.Nat.{ℕ, ◌+◌}
use native.Mathlib.Omega.{arith}
use lib.Dec.{T, leb, eqb, eqb→eq}
use lib.ListN.{length, take, drop}
use lib.Seq.{take_all, drop-drop}
use Rattle.cells.proofs.Laws.{length-pasted}
use Rattle.cells.specs.Cells.{pasted}
use Rattle.characters.specs.Characters.{known}
use Rattle.check_memory.proofs.Facts.{Laid, laid-close, Strings, sound-close}
use Rattle.check_memory.proofs.Question.{is-laid, is-sound}
use Rattle.check_memory.proofs.Readings.{held-is, recorded-is}
use Rattle.check_memory.specs.declared.Sums.{Sums}
use Rattle.check_memory.specs.Passes.{sizes, sum, zeros, laid, sound, all_parts, all_chars, record_count}
use Rattle.check_memory.specs.Reads.{AllSums}
use Rattle.language.specs.Limits as limit
use Rattle.language.specs.Program.{Program}
use Rattle.language.specs.Values.{State, Inputs, chars}
use Rattle.layout.specs.Bounds.{Fine}
use Rattle.layout.specs.Cells.{three, three_at}
use Rattle.layout.proofs.FineLaws.{good-fine}
use Rattle.layout.specs.Memory.{components_held, chars_held, records_held, state_cells, state_of, good_memory, written}
use Rattle.layout.proofs.MemoryLaws.{length-state_cells, state-back, written_back, written-good}
use Rattle.layout.specs.Places as layout
use Rattle.lists.specs.ListLaws.{T-left}
use Rattle.lists.specs.Lists.{all}
use Rattle.machine.specs.WellFormed.{good_program, good_inputs, good_state}
use Rattle.state_frames.specs.MemoryFrames.{untotalled}
use Rattle.state_restoring.specs.Restoring.{Summed, Totalled}

-- ---- what stands beside the totals

module _ (s : State) where
  sign_same : three_at layout.plus_cell (untotalled s) ≡ three_at layout.plus_cell (state_cells s)
  unfolding untotalled state_cells
  sign_same = refl

  last-same : three_at layout.last_cell (untotalled s) ≡ three_at layout.last_cell (state_cells s)
  unfolding untotalled state_cells
  last-same = refl

  strings-same : drop layout.first_length (untotalled s) ≡ drop layout.first_length (state_cells s)
  unfolding untotalled state_cells
  strings-same = refl

  sum_same : sum (sizes (untotalled s)) ≡ sum (sizes (state_cells s))
  unfolding untotalled state_cells
  sum_same = refl

  sound-same : sound (untotalled s) ≡ sound (state_cells s)
  unfolding sound untotalled state_cells
  sound-same = refl

  parts_same : all_parts (untotalled s) ≡ all_parts (state_cells s)
  unfolding untotalled state_cells
  parts_same = refl

  chars-same : all_chars (untotalled s) ≡ all_chars (state_cells s)
  unfolding untotalled state_cells
  chars-same = refl

  count_same : record_count (untotalled s) ≡ record_count (state_cells s)
  unfolding untotalled state_cells
  count_same = refl

  behind : (l : List ℕ) (n : ℕ) → drop (layout.first_byte + n) l ≡ drop (layout.lengths_bytes + n) (drop layout.first_length l)
  behind l n =
      let e : layout.first_byte + n ≡ layout.first_length + (layout.lengths_bytes + n) = omega arith in
      ap (λ k. drop k l) e ∙ sym (drop-drop (layout.lengths_bytes + n) layout.first_length l)

  rest_same : drop (layout.first_byte + sum (sizes (untotalled s))) (untotalled s) ≡ drop (layout.first_byte + sum (sizes (state_cells s))) (state_cells s)
  rest_same =
      let n : ℕ = sum (sizes (state_cells s)) in
      ap (λ k. drop (layout.first_byte + k) (untotalled s)) sum_same ∙ behind (untotalled s) n ∙ ap (drop (layout.lengths_bytes + n)) strings-same ∙ sym (behind (state_cells s) n)

  -- with the totals it is the state
  filled : pasted (pasted (pasted (untotalled s) layout.components_cell (three (components_held s.store))) layout.characters_cell (three (chars_held s.store))) layout.records_cell (three (records_held s.store))
      ≡ state_cells s
  unfolding untotalled state_cells
  filled = refl

-- ---- of a well-formed state

module _ (p : Program) (i j : List ℕ) (s : State) (gp : T (good_program p)) (gi : T (good_inputs (i ∷ j ∷ []))) (g : T (good_state p (i ∷ j ∷ []) s)) where
  abbrev ins : Inputs
  ins = i ∷ j ∷ []

  fine : Fine s
  fine = good-fine p ins s gp gi g

  pub memory-good : T (good_memory p ins (state_cells s))
  unfolding written
  memory-good = subst (λ m. T (good_memory p ins m)) (append-nil (state_cells s)) (written-good p ins s gp gi g [])

  pub cells-back : state_of (state_cells s) ≡ s
  unfolding written
  cells-back = ap state_of (sym (append-nil (state_cells s))) ∙ written_back s fine []

  all_of : take limit.state (state_cells s) ≡ state_cells s
  all_of = take_all limit.state (state_cells s) (omega (arith, length-state_cells s fine))

  untotalled-laid : T (laid (untotalled s))
  untotalled-laid =
      let L : Laid (state_cells s) = subst Laid all_of (is-laid p i j (state_cells s) gp gi memory-good) in
      laid-close (untotalled s) (record {
        sign = omega (arith, sign_same s, L.sign);
        last_most = omega (arith, last-same s, L.last_most);
        room = omega (arith, sum_same s, L.room);
        rest = subst (λ u. T (zeros u)) (sym (rest_same s)) L.rest;
      })

  untotalled-sound : T (sound (untotalled s))
  untotalled-sound = subst T (sym (sound-same s)) (sound-close (state_cells s) (subst Strings all_of (is-sound p i j (state_cells s) gp gi memory-good)))

  parts_held : all_parts (untotalled s) ≡ components_held s.store
  parts_held = parts_same s ∙ sym (held-is (state_cells s) (λ x. 1)) ∙ ap (λ (u : State). components_held u.store) (state-back s fine)

  characters-held : all_chars (untotalled s) ≡ chars_held s.store
  characters-held = chars-same s ∙ sym (held-is (state_cells s) (λ x. length (chars x))) ∙ ap (λ (u : State). chars_held u.store) (state-back s fine)

  count_held : record_count (untotalled s) ≡ records_held s.store
  count_held = count_same s ∙ sym (recorded-is (state_cells s)) ∙ ap (λ (u : State). records_held u.store) (state-back s fine)

-- ---- the answers

-- a state's memory passes both tests, and its totals are these
record Passing (m : List ℕ) (s : State) : Type 0 where
  cells-laid : T (laid m)
  cells-sound : T (sound m)
  parts : all_parts m ≡ components_held s.store
  characters : all_chars m ≡ chars_held s.store
  count : record_count m ≡ records_held s.store

passing : (p : Program) (ins : Inputs) (s : State) → T (good_program p) → T (good_inputs ins) → T (good_state p ins s) → Passing (untotalled s) s
unfolding good_inputs
passing p [] s gp gi g = absurd gi
passing p (i ∷ []) s gp gi g = absurd gi
passing p (i ∷ j ∷ []) s gp gi g = record {
  cells-laid = untotalled-laid p i j s gp gi g;
  cells-sound = untotalled-sound p i j s gp gi g;
  parts = parts_held p i j s gp gi g;
  characters = characters-held p i j s gp gi g;
  count = count_held p i j s gp gi g;
}
passing p (i ∷ j ∷ k ∷ more) s gp gi g =
    let all-inputs : Inputs = i ∷ j ∷ k ∷ more in
    let e = eqb→eq (length all-inputs) limit.inputs (T-left (eqb (length all-inputs) limit.inputs) (all (λ w. leb (length w) limit.input && all known w) all-inputs) gi) in
    absurd (omega (arith, e))

pub failed : {t b : Bool} → t ≡ b → t ≡ false → T b → ⊥
failed e k h = subst T (sym e ∙ k) h

pub not-laid : {m : List ℕ} {t : Bool} → t ≡ laid m → t ≡ false → Summed m None
not-laid e k = record { told = λ x y. failed e k x }

pub not_sound : {m : List ℕ} {t : Bool} → t ≡ sound m → t ≡ false → Summed m None
not_sound e k = record { told = λ x y. failed e k y }

pub summed : {m : List ℕ} {r : Option Sums} {t : Sums} → Summed m r → r ≡ Some t → AllSums m t
summed {m} h e = subst (λ r. MatchOption r (T (laid m) → T (sound m) → ⊥) (λ t. AllSums m t)) e h.told

module _ {m : List ℕ} (long : length m ≡ limit.state) where
  pub unsummed : {r : Option Sums} → Summed m r → r ≡ None → Totalled m m
  unsummed {r} h e =
      let no : T (laid m) → T (sound m) → ⊥ = subst (λ r. MatchOption r (T (laid m) → T (sound m) → ⊥) (λ t. AllSums m t)) e h.told in
      record { long = long; cells = λ p ins s gp gi g q. absurd (no (subst (λ u. T (laid u)) (sym q) (passing p ins s gp gi g).cells-laid) (subst (λ u. T (sound u)) (sym q) (passing p ins s gp gi g).cells-sound)) }

  module _ {t : Sums} (h : AllSums m t) {x y z : List ℕ} (a : x ≡ pasted m layout.components_cell (three t.parts)) (b : y ≡ pasted x layout.characters_cell (three t.chars)) (c : z ≡ pasted y layout.records_cell (three t.records)) where
    long-1 : length x ≡ limit.state
    long-1 = ap length a ∙ length-pasted m layout.components_cell (three t.parts) (omega (arith, long)) ∙ long

    long-2 : length y ≡ limit.state
    long-2 = ap length b ∙ length-pasted x layout.characters_cell (three t.chars) (omega (arith, long-1)) ∙ long-1

    long-3 : length z ≡ limit.state
    long-3 = ap length c ∙ length-pasted y layout.records_cell (three t.records) (omega (arith, long-2)) ∙ long-2

    done : (s : State) → m ≡ untotalled s → Passing (untotalled s) s → z ≡ state_cells s
    done s q k =
        let e1 : t.parts ≡ components_held s.store = h.parts_is ∙ ap all_parts q ∙ k.parts in
        let e2 : t.chars ≡ chars_held s.store = h.chars_is ∙ ap all_chars q ∙ k.characters in
        let e3 : t.records ≡ records_held s.store = h.records_is ∙ ap record_count q ∙ k.count in
        let d1 : x ≡ pasted (untotalled s) layout.components_cell (three (components_held s.store)) = a ∙ (λ o. pasted (q o) layout.components_cell (three (e1 o))) in
        let d2 : y ≡ pasted (pasted (untotalled s) layout.components_cell (three (components_held s.store))) layout.characters_cell (three (chars_held s.store)) = b ∙ (λ o. pasted (d1 o) layout.characters_cell (three (e2 o))) in
        c ∙ (λ o. pasted (d2 o) layout.records_cell (three (e3 o))) ∙ filled s

    pub totalled : Totalled m z
    totalled = record { long = long-3; cells = λ p ins s gp gi g q. done s q (passing p ins s gp gi g) }
