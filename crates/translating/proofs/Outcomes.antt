-- What the converter answers, way by way.
use mathlib.Core.Path.{◌≡◌, refl, ap, sym, subst, ◌∙◌}
use mathlib.Core.Bool.{Bool, true, false, not, ◌&&◌, and-true, and-false, true≢false, false≢true}
use mathlib.Core.List.{List, ◌++◌}
use Prim.Native.Nat.{ℕ, ◌+◌, ◌≤◌, ◌<◌}
use native.Mathlib.Omega.{arith}
use lib.ListN.{length, take, drop, length-take}
use borrow.Author.Tests.{lt-leb}
use Rattle.appending.specs.Appending.{Written, Writes}
use Rattle.calls.specs.Filling.{filled_in, Filled, Gives}
use Rattle.calls.specs.Filling.Filling.{kept}
use Rattle.calls.specs.declared.Question.TheVariants as code
use Rattle.cells.specs.Cells.{pasted}
use Rattle.editions.proofs.AnswerLaws.{unloaded-67, macros-67, narrow-67, long-67, fitting-80}
use Rattle.editions.specs.Convert.{respelled, loads, convert_of}
use Rattle.language.specs.Limits as limit
use Rattle.loading.specs.Texts.{Leaves}
use Rattle.loading.specs.Told.{Loaded, told}
use Rattle.loading.specs.ToldLaws.{numbered-ok}
use Rattle.macros.specs.Load.{load_in, load_of}
use Rattle.macros.proofs.LoadLaws.{plain-loads, accepted-plain}
use Rattle.macros.specs.Marks.{has_macros}
use Rattle.syntax.specs.Ending.{last_place}
use Rattle.syntax.specs.Items.{lines_of}
use Rattle.syntax.specs.Load as spec
use Rattle.syntax.specs.Load.{load_typed}
use Rattle.std.specs.Prelude.{Option, Some, None, MatchOption, Ok, Err, is_ok}
use Rattle.translating.specs.Translating.{taken}

-- ---- "does the text load, has it no macro list"

-- a text that loads as it stands has no macro list, and one without a macro list loads as it stands
module _ (s : List ℕ) (short : length s ≤ limit.text) where
  typed-loads : is_ok (told (load_typed s)) ≡ taken s
  typed-loads = go (has_macros s) refl
    where
      loaded : (x : spec.Loaded) → is_ok (told x) ≡ loads x
      loaded (spec.Loaded.refused n l) = refl
      loaded (spec.Loaded.accepted p) = refl

      unmarked : (x : spec.Loaded) → load_typed s ≡ x → has_macros s ≡ true → loads x ≡ false
      unmarked (spec.Loaded.refused n l) q e = refl
      unmarked (spec.Loaded.accepted p) q e = absurd (true≢false (sym e ∙ accepted-plain s (lines_of s) (last_place s) p q))

      go : (b : Bool) → has_macros s ≡ b → is_ok (told (load_typed s)) ≡ taken s
      go true e =
          loaded (load_typed s) ∙ unmarked (load_typed s) refl e ∙ sym (and-false (loads (load_of s))) ∙ ap (λ b. loads (load_of s) && not b) (sym e)
      go false e =
          loaded (load_typed s) ∙ ap loads (sym (plain-loads limit.table s (omega arith) short e)) ∙ sym (and-true (loads (load_of s)))
          ∙ ap (λ b. loads (load_of s) && not b) (sym e)

  pub taken-by : {c d : List ℕ} {r : Loaded} → Leaves (load_typed s) c r d → is_ok r ≡ taken s
  taken-by {r = r} k = sym (numbered-ok r) ∙ ap is_ok k.is ∙ typed-loads

-- ---- 67

abbrev refused : Filled
refused = Err code.Conversion

module _ (s b : List ℕ) where
  kept_gives : convert_of (length b) s ≡ kept 67 → Gives (convert_of (length b) s) refused b b
  unfolding filled_in
  kept_gives e = subst (λ x. Gives x refused b b) (sym e) (record { result_is = refl; number_is = refl; cells_are = refl })

  pub long-gives : limit.text < length s → Gives (convert_of (length b) s) refused b b
  unfolding load_in
  long-gives h = kept_gives (unloaded-67 (length b) s (rw (lt-leb (length s) limit.text h) refl))

  pub untaken-gives : taken s ≡ false → Gives (convert_of (length b) s) refused b b
  untaken-gives h = kept_gives (go (loads (load_of s)) (has_macros s) refl refl h)
    where
      go : (a m : Bool) → loads (load_of s) ≡ a → has_macros s ≡ m → (a && not m) ≡ false → convert_of (length b) s ≡ kept 67
      go false m e f q = unloaded-67 (length b) s e
      go true true e f q = macros-67 (length b) s f
      go true false e f q = absurd (true≢false q)

-- a row whose first bytes were copied
pub front-copied : {m s : List ℕ} {n : ℕ} (b : List ℕ) → m ≡ s → n ≡ length s → m ++ drop n b ≡ pasted b 0 s
front-copied {m} {s} {n} b e l = let z : n ≡ 0 + length s = omega (arith, l) in λ i. e i ++ drop (z i) b

-- ---- a text that is taken, with what was made of it

module _ (s : List ℕ) {made : List ℕ} {r : Option ℕ} (t : taken s ≡ true) (w : Writes (respelled s) r made) (m : length made ≡ limit.text) (b : List ℕ) where
  pub beyond-gives : r ≡ None → Gives (convert_of (length b) s) refused b b
  beyond-gives h = kept_gives s b (long-67 (length b) s (omega (arith, m, subst (λ r. MatchOption r (length made < length (respelled s)) (λ n. Written (respelled s) n made)) h w.told)))

  module _ {n : ℕ} (h : r ≡ Some n) where
    fits : Written (respelled s) n made
    fits = subst (λ r. MatchOption r (length made < length (respelled s)) (λ n. Written (respelled s) n made)) h w.told

    -- so many bytes stand in the row
    pub counted : n ≤ limit.text
    counted = omega (arith, m, fits.counted, ap length fits.held, length-take n made)

    pub narrow_gives : length b < n → Gives (convert_of (length b) s) refused b b
    narrow_gives l = kept_gives s b (narrow-67 (length b) s (omega (arith, fits.counted)))

    pub fitting-gives : n ≤ length b → {b' : List ℕ} → b' ≡ pasted b 0 (take n made) → Gives (convert_of (length b) s) (Ok n) b b'
    unfolding filled_in
    fitting-gives l {b'} e =
        let q = both (loads (load_of s)) (has_macros s) t in
        let c = fits.counted in
        let f = fitting-80 (length b) s q.0 q.1 (omega (arith, c)) (omega (arith, c, counted)) in
        let z : 0 + length (respelled s) ≡ length (respelled s) = omega arith in
        subst (λ x. Gives x (Ok n) b b') (sym f)
        (record { result_is = ap Ok c; number_is = refl; cells_are = e ∙ ap (pasted b 0) fits.held ∙ ap (λ k. respelled s ++ drop k b) z })
      where
        both : (a m : Bool) → (a && not m) ≡ true → (a ≡ true) × (m ≡ false)
        both true false q = (refl, refl)
        both true true q = absurd (false≢true q)
        both false m q = absurd (false≢true q)
