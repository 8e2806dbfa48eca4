-- Sound strings are whole components and records, and their words are short.
use mathlib.Core.Path.{◌≡◌, refl, sym, subst}
use mathlib.Core.Bool.{cond}
use mathlib.Core.List.{List, [], ◌∷◌}
use Prim.Native.Nat.{ℕ, ◌≤◌}
use native.Mathlib.Omega.{arith}
use lib.Dec.{T, leb}
use lib.ListN.{length, get_or, take, drop, take-append-drop}
use borrow.Author.Tests.{le-leb}
use Rattle.check_strings.proofs.ComponentWalks.{bytes_take, bytes_drop, parts-open, parts_whole}
use Rattle.check_strings.proofs.RecordWalks.{rows-open, rows_whole}
use Rattle.check_strings.specs.Sound.{Bytes, sound_components, sound_records}
use Rattle.language.specs.Limits as limit
use Rattle.language.specs.Values.{Component, Record, chars}
use Rattle.language.specs.Values.Component.{word, address}
use Rattle.layout.specs.Bounds.{Each, Ok, RecordOk, WholeComponents, WholeRecords}
use Rattle.layout.proofs.CellLaws.{each_left, each-drop, each_at}
use Rattle.layout.specs.Components.{components_in, records_in}
use Rattle.layout.specs.Strings.{lengths_in, cut_by, strings_in}
use Rattle.layout.specs.Places as layout
use Rattle.lists.specs.ListLaws.{T-left, T-right}
use Rattle.lists.specs.Lists.{total, all}
use Rattle.check_memory.specs.Passes.{all_strings, expressions, halves}

-- ---- the strings of bytes are bytes

bytes_cut : (ns l : List ℕ) → Bytes l → Each Bytes (cut_by ns l)
unfolding cut_by
bytes_cut [] l h = tt
bytes_cut (n ∷ ns) l h = (bytes_take n l h, bytes_cut ns (drop n l) (bytes_drop n l h))

each_take : {X : Type 0} (P : X → Type 0) (n : ℕ) (xs : List X) → Each P xs → Each P (take n xs)
each_take P n xs h = each_left P (take n xs) (drop n xs) (subst (Each P) (sym (take-append-drop n xs)) h)

module _ (m : List ℕ) (b : Bytes m) where
  bytes-strings : Each Bytes (all_strings m)
  unfolding strings_in
  bytes-strings = bytes_cut (lengths_in layout.strings_count (drop layout.first_length m)) (drop layout.lengths_bytes (drop layout.first_length m)) (bytes_drop layout.lengths_bytes (drop layout.first_length m) (bytes_drop layout.first_length m b))

  pub bytes-string : (k : ℕ) → Bytes (get_or (all_strings m) k [])
  bytes-string = each_at Bytes [] (λ j. omega arith) (all_strings m) bytes-strings

  bytes-expressions : Each Bytes (expressions m)
  bytes-expressions = each_take Bytes 32 (all_strings m) bytes-strings

  bytes_halves : Each Bytes (halves m)
  bytes_halves = each_take Bytes 64 (drop 32 (all_strings m)) (each-drop Bytes 32 (all_strings m) bytes-strings)

-- ---- whole components and records

module _ (l : ℕ) (k : l ≤ limit.addresses) where
  whole-components : (vs : List (List ℕ)) → Each Bytes vs → T (all (sound_components l) vs) → Each WholeComponents vs
  whole-components [] b h = tt
  whole-components (v ∷ vs) b h = (
    parts_whole l v k b.0 (parts-open l v (T-left (sound_components l v) (all (sound_components l) vs) h)),
    whole-components vs b.1 (T-right (sound_components l v) (all (sound_components l) vs) h),
  )

  whole-records : (vs : List (List ℕ)) → Each Bytes vs → T (all (sound_records l) vs) → Each WholeRecords vs
  whole-records [] b h = tt
  whole-records (v ∷ vs) b h = (
    rows_whole l v k b.0 (rows-open l v (T-left (sound_records l v) (all (sound_records l) vs) h)),
    whole-records vs b.1 (T-right (sound_records l v) (all (sound_records l) vs) h),
  )

module _ (m : List ℕ) (b : Bytes m) (l : ℕ) (k : l ≤ limit.addresses) where
  pub whole-expressions : T (all (sound_components l) (expressions m)) → Each WholeComponents (expressions m)
  whole-expressions h = whole-components l k (expressions m) (bytes-expressions m b) h

  pub whole-halves : T (all (sound_records l) (halves m)) → Each WholeRecords (halves m)
  whole-halves h = whole-records l k (halves m) (bytes_halves m b) h

-- ---- words are short

abbrev pub over : Component → ℕ
over x = cond (leb (length (chars x)) limit.word) 0 1

over-one : (x : Component) → Ok x → over x ≡ 0
over-one (word w) h = rw (le-leb (length w) limit.word h.1)
over-one (Component.number z) h = refl
over-one (address n) h = refl

over_none : (xs : List Component) → Each Ok xs → total over xs ≡ 0
over_none [] h = refl
over_none (x ∷ xs) h = omega (arith, over-one x h.0, over_none xs h.1)

over-records : (rs : List Record) → Each RecordOk rs → total (λ r. total over r.parts) rs ≡ 0
over-records [] h = refl
over-records (r ∷ rs) h = omega (arith, over_none r.parts h.0.parts_ok, over-records rs h.1)

pub over-expressions : (vs : List (List ℕ)) → Each WholeComponents vs → total (λ v. total over (components_in v)) vs ≡ 0
over-expressions [] h = refl
over-expressions (v ∷ vs) h = omega (arith, over_none (components_in v) h.0.all_ok, over-expressions vs h.1)

pub over-halves : (vs : List (List ℕ)) → Each WholeRecords vs → total (λ v. total (λ r. total over r.parts) (records_in v)) vs ≡ 0
over-halves [] h = refl
over-halves (v ∷ vs) h = omega (arith, over-records (records_in v) h.0.all_ok, over-halves vs h.1)
