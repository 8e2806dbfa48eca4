-- A test taken element by element is the test; and what a walk under a test has counted.
use mathlib.Core.Path.{◌≡◌, refl, sym, ap, ◌∙◌}
use mathlib.Core.Bool.{Bool, true, false, cond, not, ◌&&◌, ◌||◌}
use mathlib.Core.List.{List, [], ◌∷◌}
use Prim.Native.Nat.{ℕ, suc, ◌+◌, ◌-◌, ◌≤◌, ◌<◌, min}
use native.Mathlib.Numerals.{add-one}
use native.Mathlib.Omega.{arith}
use lib.Dec.{leb, ltb, eqb}
use lib.ListN.{length, take, drop, length-append}
use Rattle.std.specs.List.{position_or_len}
use Rattle.std.specs.Option.{is_some}
use Rattle.std.specs.Prelude.{Option, Some, None, position, unwrap_or}
use Rattle.lists.specs.SearchLaws.{ahead-is, position_or_length, any-ahead}
use borrow.Author.Tests.{le-leb, leb-true, leb-false}
use Rattle.components.specs.Parts.{Front}
use Rattle.components.proofs.Walks.{none_left, front_one, chars-there, word_there, bytes_there, cells-long, front_some}
use Rattle.components.specs.Below.LanguageValues.{Component, chars}
use Rattle.components.specs.Below.LanguageValues.Component.{word, address}
use Rattle.components.specs.Below.LayoutBounds.{WholeComponents}
use Rattle.components.specs.Below.LayoutCells.{cell}
use Rattle.components.specs.Below.Components.{component_bytes, components_bytes, component_in, components_in}
use Rattle.components.proofs.Below.ComponentLaws.{components_bytes-append, components_bytes-one}
use Rattle.characters.specs.Below.Lists.{any, ahead}
use Rattle.characters.specs.Below.ListLaws.{ahead-le, total-append}
use Rattle.components.specs.Below.MachineArguments.{Until, everything, number_of, up_to, taken}
use Rattle.matching.specs.Tests.{until, reached_by, stops_before, ends, walked, char_count, all_word, Took, TookChars}
use Rattle.matching.specs.declared.Taken.{Taken}
use Rattle.matching.specs.declared.Test.{Test}
use Rattle.matching.specs.declared.Test.TheVariants.{All, Count, Class, Among}
use Rattle.matching.proofs.Loops.{all_append, split}

module _ {X : Type 0} where
  walked_all : (k : ℕ) (xs : List X) → walked everything k xs ≡ (k + length xs, true)
  unfolding walked
  walked_all k [] = ap (λ n. (n, true)) (omega arith)
  walked_all k (x ∷ xs) = walked_all (suc k) xs ∙ ap (λ n. (n, true)) (omega arith)

  walked-count : (n k : ℕ) (xs : List X) → k ≤ n → walked (number_of n) k xs ≡ (k + min (n - k) (length xs), leb n (k + length xs))
  unfolding walked
  walked-count n k [] h =
      let e : k + min (n - k) 0 ≡ k = omega arith in
      let f : k + 0 ≡ k = omega arith in
      rw (e, f)
  walked-count n k (x ∷ xs) h = go (leb n k) refl (λ l. walked-count n (suc k) xs l)
    where
      go : (b : Bool) → leb n k ≡ b → (suc k ≤ n → walked (number_of n) (suc k) xs ≡ (suc k + min (n - suc k) (length xs), leb n (suc k + length xs))) → cond b (k, true) (walked (number_of n) (suc k) xs) ≡ (k + min (n - k) (suc (length xs)), leb n (k + suc (length xs)))
      go true q r =
          let l : n ≤ k = leb-true n k q in
          let e : k + min (n - k) (suc (length xs)) ≡ k = omega arith in
          rw (e, le-leb n (k + suc (length xs)) (omega arith))
      go false q r =
          let l : k < n = leb-false n k q in
          let e : suc k + min (n - suc k) (length xs) ≡ k + min (n - k) (suc (length xs)) = omega arith in
          let f : suc k + length xs ≡ k + suc (length xs) = omega arith in
          r (omega arith) ∙ rw (e, f)

  walked-up-to : (p : X → Bool) (k : ℕ) (xs : List X) → walked (up_to p) k xs ≡ (k + ahead p xs, any p xs)
  unfolding walked
  walked-up-to p k [] = ap (λ n. (n, false)) (omega arith)
  walked-up-to p k (x ∷ xs) = go (p x) (walked-up-to p (suc k) xs)
    where
      go : (b : Bool) → walked (up_to p) (suc k) xs ≡ (suc k + ahead p xs, any p xs) → cond b (k, true) (walked (up_to p) (suc k) xs) ≡ (k + elim b [ true ↦ 0 | false ↦ suc (ahead p xs) ], b || any p xs)
      go true r = ap (λ n. (n, true)) (omega arith)
      go false r = r ∙ ap (λ n. (n, any p xs)) (omega arith)

  -- the walk is the test
  pub walked-taken : (u : Until X) (xs : List X) → walked u 0 xs ≡ taken u xs
  walked-taken everything xs = walked_all 0 xs ∙ ap (λ n. (n, true)) (omega arith)
  walked-taken (number_of n) xs =
      let e : 0 + min (n - 0) (length xs) ≡ min n (length xs) = omega arith in
      let f : 0 + length xs ≡ length xs = omega arith in
      walked-count n 0 xs (omega arith) ∙ rw (e, f)
  walked-taken (up_to p) xs = walked-up-to p 0 xs ∙ ap (λ n. (n, any p xs)) (omega arith)

-- whether it is reached where no element is left
pub ends-reached : (t : Test) (k : ℕ) → ends (until t) k ≡ reached_by t k
ends-reached All k = refl
ends-reached (Count n) k = refl
ends-reached (Class mask) k = refl
ends-reached (Among g) k = refl

chars-least : (x : Component) → length (chars x) ≤ length (component_bytes x)
unfolding component_bytes
chars-least (word w) = omega arith
chars-least (Component.number z) = omega arith
chars-least (address n) = omega arith

-- the walk under a test u: k components of l are passed, with n characters, all of them words or not, and `left` is left
pub record Going (l : List ℕ) (u : Until Component) (left : List ℕ) (k n : ℕ) (w : Bool) : Type 0 where
  pub rest : WholeComponents left
  pub left_is : drop k (components_in l) ≡ components_in left
  pub most : k ≤ length (components_in l)
  pub count : k + length left ≤ length l
  pub bytes_is : length l ≡ length (components_bytes (take k (components_in l))) + length left
  pub chars_is : n ≡ char_count (take k (components_in l))
  pub chars_most : n + length left ≤ length l
  pub words_is : w ≡ all_word (take k (components_in l))
  pub walk : walked u 0 (components_in l) ≡ walked u k (components_in left)

pub going-none : (l : List ℕ) (u : Until Component) → WholeComponents l → Going l u l 0 0 true
unfolding components_bytes
going-none l u w =
    record {
      rest = w;
      left_is = refl;
      most = omega arith;
      count = omega arith;
      bytes_is = omega arith;
      chars_is = refl;
      chars_most = omega arith;
      words_is = refl;
      walk = refl;
    }

module _ {l : List ℕ} {u : Until Component} {left : List ℕ} {k n : ℕ} {w : Bool} (g : Going l u left k n w) where
  -- the test ends it here
  took : (b : Bool) → walked u k (components_in left) ≡ (k, b) → WholeComponents l → (r : Taken) → r ≡ record { amount = record { parts = k; bytes = length l - length left; chars = n }; reached = b; words = w }
      → Took u (components_in l) r
  took b e h r q =
      rw q record {
        is = sym (walked-taken u (components_in l)) ∙ g.walk ∙ e;
        parts_most = g.most;
        bytes_is = omega (arith, g.bytes_is);
        chars_is = g.chars_is;
        words_is = g.words_is;
        bytes_most = rw (← h.is) (omega arith);
        chars_most = omega (arith, g.chars_most);
      }

  module _ {x r : List ℕ} (f : Front left x r) where
    walked_stop : stops_before u k (component_in left) ≡ true → walked u k (components_in left) ≡ (k, true)
    unfolding walked
    walked_stop q = rw (f.is, q)

    walked_next : stops_before u k (component_in left) ≡ false → walked u k (components_in left) ≡ walked u (suc k) (components_in r)
    unfolding walked
    walked_next q = rw (f.is, q)

    -- `b` is what the code was told of the component there, `t` what it is
    told : {b : Bool} (t : Bool) → b ≡ stops_before u k (component_in x) → b ≡ t → stops_before u k (component_in left) ≡ t
    told {b} t e q = ap (stops_before u k) (sym (front_one f)) ∙ sym e ∙ q

    pub going-stop : WholeComponents l → {b : Bool} → b ≡ stops_before u k (component_in x) → b ≡ true → Took u (components_in l) (record { amount = record { parts = k; bytes = length l - length left; chars = n }; reached = true; words = w })
    going-stop h e q = took true (walked_stop (told true e q)) h _ refl

    pub going_next : {b : Bool} → b ≡ stops_before u k (component_in x) → b ≡ false → Going l u r (k + 1) (n + cell x 0) (w && not (eqb (cell x 0) 0))
    unfolding components_bytes
    going_next e q =
        let y : Component = component_in left in
        let xs : List Component = components_in l in
        let d = split k xs (components_in r) y (g.left_is ∙ f.is) in
        rw add-one record {
          rest = f.rest;
          left_is = d.left_is;
          most = d.most;
          count = omega (arith, g.count, cells-long f, front_some f);
          bytes_is = rw (d.taken_is, components_bytes-append, components_bytes-one) (simp length-append (omega (arith, g.bytes_is, bytes_there f, cells-long f)));
          chars_is = rw d.taken_is (omega (arith, total-append (λ z. length (chars z)) (take k xs) (y ∷ []), g.chars_is, chars-there f));
          chars_most = omega (arith, g.chars_most, chars-there f, bytes_there f, chars-least y, cells-long f);
          words_is = rw (d.taken_is, all_append, ← g.words_is, word_there f);
          walk = g.walk ∙ walked_next (told false e q);
        }

  pub going_end : WholeComponents l → left ≡ [] → Took u (components_in l) (record { amount = record { parts = k; bytes = length l; chars = n }; reached = ends u k; words = w })
  unfolding walked
  going_end h e =
      let z : length l - length left ≡ length l = omega (arith, ap length e) in
      took (ends u k) (rw (none_left e)) h _ (rw z)

-- ---- characters

module _ (s : List ℕ) where
  -- the place where a test is reached
  pub chars-met : (place : Option ℕ) (p : ℕ → Bool) → place ≡ position p s → TookChars (up_to p) s (record { taken = unwrap_or place (length s); reached = is_some place })
  chars-met place p e =
      let some : is_some (position p s) ≡ any p s = told (ltb (position_or_len p s) (length s)) ∙ ap (λ k. ltb k (length s)) (sym (ahead-is p s)) ∙ sym (any-ahead p s) in
      rw (e, position_or_length p s, some) record { is = refl; most = ahead-le p s }
    where
      told : (b : Bool) → is_some (cond b (Some (position_or_len p s)) None) ≡ b
      told true = refl
      told false = refl
