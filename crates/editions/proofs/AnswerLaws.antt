-- What the converter answers, question by question: for proofs of code. Its numbers, and the count of bytes.
use Rattle.std.specs.Prelude.{◌≡◌, Bool, cond, not, ◌&&◌, List, [], ◌∷◌, ℕ, ◌≤◌, ◌<◌, T, eqb, leb, length}
use Rattle.std.proofs.Math.Path.{refl, sym}
use Rattle.std.proofs.Math.Bool.{true, false}
use native.Mathlib.Omega.{arith}
use Rattle.std.proofs.Common.{leb→le}
use borrow.Author.Tests.{le-leb, lt-leb}
use lib.Ieee.Bits.{is_false}
use Rattle.std.specs.Bool.{passes}
use Rattle.language.specs.Limits as limit
use Rattle.lists.specs.Lists.{among}
use Rattle.lists.specs.ListLaws.{all_among}
use Rattle.syntax.specs.Load.{Loaded}
use Rattle.syntax.specs.Load.Loaded.{refused, accepted}
use Rattle.macros.specs.Load.{load_of}
use Rattle.macros.specs.Marks.{has_macros}
use Rattle.calls.specs.Calls.{load_number}
use Rattle.calls.specs.Filling.{Filling, filling_number, filling_count}
use Rattle.calls.specs.Filling.Filling.{kept, fills}
use Rattle.calls.proofs.LoadLaws.{load_refusals, LoadListed, load-within}
use Rattle.editions.specs.Convert.{respelled, loads, convert_of}

-- "does the text load": it does just when load gives 80
pub loads-by : (s : List ℕ) → loads (load_of s) ≡ eqb (load_number (load_of s)) 80
loads-by s = go (load_of s) (load-within limit.table s)
  where
    go : (l : Loaded) → LoadListed l → loads l ≡ eqb (load_number l) 80
    go (refused number line) h = sym (is_false (eqb number 80) (all_among (λ k. not (eqb k 80)) load_refusals tt number h.0))
    go (accepted p) h = refl

module _ (n : ℕ) (s : List ℕ) where
  abbrev decided : Bool → Bool → Bool → Bool → Filling
  decided taken listed fits short = cond (taken && not listed && fits && short) (fills 80 (respelled s)) (kept 67)

  -- each question answered no gives 67
  pub unloaded-67 : loads (load_of s) ≡ false → convert_of n s ≡ kept 67
  unfolding convert_of
  unloaded-67 e = rw e refl

  pub macros-67 : has_macros s ≡ true → convert_of n s ≡ kept 67
  unfolding convert_of
  macros-67 e = rw e (go (loads (load_of s)))
    where
      go : (taken : Bool) → decided taken true (leb (length (respelled s)) n) (leb (length (respelled s)) limit.text) ≡ kept 67
      go true = refl
      go false = refl

  pub narrow-67 : n < length (respelled s) → convert_of n s ≡ kept 67
  unfolding convert_of
  narrow-67 h = rw (lt-leb (length (respelled s)) n h) (go (loads (load_of s)) (has_macros s))
    where
      go : (taken listed : Bool) → decided taken listed false (leb (length (respelled s)) limit.text) ≡ kept 67
      go true true = refl
      go true false = refl
      go false listed = refl

  pub long-67 : limit.text < length (respelled s) → convert_of n s ≡ kept 67
  unfolding convert_of
  long-67 h = rw (lt-leb (length (respelled s)) limit.text h) (go (loads (load_of s)) (has_macros s) (leb (length (respelled s)) n))
    where
      go : (taken listed fits : Bool) → decided taken listed fits false ≡ kept 67
      go true true fits = refl
      go true false true = refl
      go true false false = refl
      go false listed fits = refl

  -- all answered yes give 80
  pub fitting-80 : loads (load_of s) ≡ true → has_macros s ≡ false → length (respelled s) ≤ n → length (respelled s) ≤ limit.text → convert_of n s ≡ fills 80 (respelled s)
  unfolding convert_of
  fitting-80 a b c d = rw (a, b, le-leb (length (respelled s)) n c, le-leb (length (respelled s)) limit.text d) refl

  -- "80 if accepted, and the count of bytes written"; the count is within the buffer and 32,768
  pub record Answered (x : Filling) : Type 0 where
    pub number_listed : T (among (filling_number x) (80 ∷ 67 ∷ []))
    pub count_fits : filling_count x ≤ n
    pub count_short : filling_count x ≤ limit.text

  pub answered : Answered (convert_of n s)
  unfolding convert_of
  answered = go (loads (load_of s)) (has_macros s) (leb (length (respelled s)) n) (leb (length (respelled s)) limit.text) refl refl
    where
      no-67 : Answered (kept 67)
      no-67 = record { number_listed = tt; count_fits = omega arith; count_short = omega arith }

      go : (taken listed fits short : Bool) → leb (length (respelled s)) n ≡ fits → leb (length (respelled s)) limit.text ≡ short → Answered (decided taken listed fits short)
      go true false true true e f =
          record {
            number_listed = tt;
            count_fits = leb→le (length (respelled s)) n (passes _ e);
            count_short = leb→le (length (respelled s)) limit.text (passes _ f);
          }
      go true false true false e f = no-67
      go true false false short e f = no-67
      go true true fits short e f = no-67
      go false listed fits short e f = no-67
