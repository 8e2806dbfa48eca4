-- What each test that passed gives the next one.
use mathlib.Core.Path.{◌≡◌, refl, sym, ap, ◌∙◌}
use mathlib.Core.Bool.{Bool, true, false, ◌&&◌}
use mathlib.Core.List.{List, [], ◌∷◌}
use Prim.Native.Nat.{ℕ, ◌≤◌, ◌<◌}
use native.Mathlib.Omega.{arith}
use lib.Dec.{T, leb, ltb}
use lib.ListN.{length, take}
use Rattle.cells.specs.Cells.{Number}
use Rattle.check_memory.proofs.Facts.{counted-open}
use Rattle.check_memory.proofs.Question.{question-63, too_short}
use Rattle.check_memory.proofs.Steps.{passed}
use Rattle.check_memory.specs.Passes.{laid, sound, counted, distinct, sound_stack, sound_output, fitting}
use Rattle.check_memory.specs.Reads.{StringLent, BothWhole, Comparable}
use Rattle.check_memory.proofs.Below.ComponentWalks.{bytes_take}
use Rattle.check_memory.specs.Below.Sound.{Bytes}
use Rattle.layout.specs.Cells.{cell, three_at}
use Rattle.layout.specs.Memory.{good_memory}
use Rattle.layout.specs.Table.{program_of, good_table}
use Rattle.layout.proofs.TableLaws.{table-facts}
use Rattle.layout.specs.Places as layout
use Rattle.language.specs.Limits as limit
use Rattle.packed.specs.Packed.{table_of}
use Rattle.check_state.specs.Asked.{Asked, Workable, passes}
use Rattle.check_state.proofs.Returns.{code_is}

pub comparable : {c m : List ℕ} {y : ℕ} → Workable c m y → BothWhole m → {v : Bool} → v ≡ counted m → v ≡ true → Comparable m y
comparable w b q z = record { files = b.files; room = omega (arith, (counted-open _ (passed q z)).records.fits, w.addresses_is) }

-- ---- the answers

module _ (c i j m : List ℕ) where
  pub fails-1 : {t : Bool} → t ≡ laid m → t ≡ false → false ≡ passes c i j m
  fails-1 e k = sym (ap (λ b. b && (sound m && (counted m && (distinct m && fitting (program_of c) i j m)))) (sym e ∙ k))

  module _ {t : Bool} (e : t ≡ laid m) (k : t ≡ true) where
    after-1 : passes c i j m ≡ sound m && (counted m && (distinct m && fitting (program_of c) i j m))
    after-1 = ap (λ b. b && (sound m && (counted m && (distinct m && fitting (program_of c) i j m)))) (sym e ∙ k)

    pub fails-2 : {u : Bool} → u ≡ sound m → u ≡ false → false ≡ passes c i j m
    fails-2 f h = sym (after-1 ∙ ap (λ b. b && (counted m && (distinct m && fitting (program_of c) i j m))) (sym f ∙ h))

    module _ {u : Bool} (f : u ≡ sound m) (h : u ≡ true) where
      after-2 : passes c i j m ≡ counted m && (distinct m && fitting (program_of c) i j m)
      after-2 = after-1 ∙ ap (λ b. b && (counted m && (distinct m && fitting (program_of c) i j m))) (sym f ∙ h)

      pub fails-3 : {v : Bool} → v ≡ counted m → v ≡ false → false ≡ passes c i j m
      fails-3 q z = sym (after-2 ∙ ap (λ b. b && (distinct m && fitting (program_of c) i j m)) (sym q ∙ z))

      module _ {v : Bool} (q : v ≡ counted m) (z : v ≡ true) where
        after-3 : passes c i j m ≡ distinct m && fitting (program_of c) i j m
        after-3 = after-2 ∙ ap (λ b. b && (distinct m && fitting (program_of c) i j m)) (sym q ∙ z)

        pub fails-4 : {o : Bool} → o ≡ distinct m → o ≡ false → false ≡ passes c i j m
        fails-4 x y = sym (after-3 ∙ ap (λ b. b && fitting (program_of c) i j m) (sym x ∙ y))

        pub last : {o : Bool} → o ≡ distinct m → o ≡ true → {r : Bool} → r ≡ fitting (program_of c) i j m → r ≡ passes c i j m
        last x y a = a ∙ sym (after-3 ∙ ap (λ b. b && fitting (program_of c) i j m) (sym x ∙ y))

-- stack, outputs, read places and next instruction, as they are read
pub fits : (c : List ℕ) → T (good_table c) → (i j m : List ℕ) {s q r : List ℕ} → StringLent m layout.stack_string s → StringLent m layout.first_output q → StringLent m layout.second_output r
    → {a b n k : ℕ} → Number (three_at layout.first_place_cell m) 16777216 a → Number (three_at layout.second_place_cell m) 16777216 b → Number (three_at layout.next_cell m) 16777216 n → Number (cell (table_of c) 0) 4294967296 k
    → {t u v : Bool} → t ≡ sound_stack (program_of c) s → u ≡ sound_output q → v ≡ sound_output r
    → t && (u && v) && (leb a (length i) && leb b (length j)) && ltb n k ≡ fitting (program_of c) i j m
unfolding fitting
fits c g i j m s q r a b n k t u v =
    rw (t ∙ ap (sound_stack (program_of c)) s.is, u ∙ ap sound_output q.is, v ∙ ap sound_output r.is, a.is, b.is, n.is, code_is c g k) refl

-- of the lent memory
module _ (c i j M : List ℕ) where
  pub short-answer : length M < limit.state → false ≡ good_memory (program_of c) (i ∷ j ∷ []) M
  short-answer h = sym (too_short (program_of c) (i ∷ j ∷ []) M h)

  pub answer : Asked c i j → limit.state ≤ length M → Bytes M → {r : Bool} → r ≡ passes c i j (take limit.state M) → r ≡ good_memory (program_of c) (i ∷ j ∷ []) M
  answer a h b e = e ∙ sym (question-63 (program_of c) i j M (table-facts c a.table).good a.inputs h (bytes_take limit.state M b))
