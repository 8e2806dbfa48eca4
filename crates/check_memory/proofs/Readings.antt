-- The state that cells read as, by its strings: what it holds, its faults and its addresses.
use mathlib.Core.Path.{◌≡◌, refl, sym, ap, ◌∙◌, subst}
use mathlib.Core.List.{List, [], ◌∷◌, ◌++◌, map}
use Prim.Native.Nat.{ℕ, ◌+◌, ◌-◌}
use native.Mathlib.Omega.{arith}
use lib.Dec.{T}
use lib.ListN.{length, get_or, drop, length-drop, length-map, take-append-drop, drop_of_length-le}
use lib.Seq.{length-take-le, drop-drop, drop-cons}
use Rattle.characters.specs.Characters.{known}
use Rattle.language.specs.Values.{Component, Record, Store, State}
use Rattle.layout.specs.Cells.{two, three_at}
use Rattle.layout.specs.Components.{components_bytes, components_in, records_in, addresses_in}
use Rattle.layout.specs.Memory.{file_strings, strings, threes_in, files_in, twos_in, state_by, state_in}
use Rattle.lists.specs.ListLaws.{total-map, all-total, none-fail}
use Rattle.lists.specs.Lists.{total, all, each}
use Rattle.machine.specs.Arguments.{records}
use Rattle.machine.specs.Changes.{held, recorded}
use Rattle.machine.specs.WellFormed.{strange, faults, record_faults, overrun, store_faults, addresses}
use Rattle.check_memory.specs.Passes.{all_strings, expressions, halves, record_count}
use Rattle.layout.proofs.StringLaws.{length-strings_in}
use Rattle.layout.specs.Places as layout
use Rattle.check_memory.proofs.Cells.{threes-at}
use Rattle.check_memory.proofs.Files.{again, again_records, length-files_in, strings_of-files, total-of-files, addresses-of-files}

map-again : (vs : List (List ℕ)) → map components_bytes (map components_in vs) ≡ map again vs
map-again [] = refl
map-again (v ∷ vs) = ap (λ us. again v ∷ us) (map-again vs)

total-ones : (rs : List Record) → total (λ r. 1) rs ≡ length rs
total-ones [] = refl
total-ones (r ∷ rs) = omega (arith, total-ones rs)

counts : (vs : List (List ℕ)) → total (λ v. total (λ r. 1) (records_in v)) vs ≡ total (λ v. length (records_in v)) vs
counts [] = refl
counts (v ∷ vs) = omega (arith, total-ones (records_in v), counts vs)

-- a word without strange characters
pub known-none : (w : List ℕ) → T (all known w) → total strange w ≡ 0
known-none w h = none-fail known w h

pub none-known : (w : List ℕ) → total strange w ≡ 0 → T (all known w)
none-known w h = subst T (sym (all-total known w)) (rw h tt)

module _ (m : List ℕ) where
  abbrev pub vs : List (List ℕ)
  vs = all_strings m

  abbrev pub s : State
  s = state_in m

  abbrev pub st : Store
  st = s.store

  abbrev pub stack_string : List ℕ
  stack_string = get_or vs layout.stack_string []

  pub length-strings : length vs ≡ layout.strings_count
  length-strings = length-strings_in (drop layout.first_length m)

  length_rest : length (drop 32 vs) ≡ 67
  length_rest = length-drop 32 vs ∙ rw length-strings

  pub length-expressions : length (expressions m) ≡ 32
  length-expressions = length-take-le 32 vs (omega (arith, length-strings))

  pub length-halves : length (halves m) ≡ 64
  length-halves = length-take-le 64 (drop 32 vs) (omega (arith, length_rest))

  pub outputs_are : drop layout.first_output vs ≡ get_or vs layout.first_output [] ∷ get_or vs layout.second_output [] ∷ []
  outputs_are =
      drop-cons vs layout.first_output [] (omega (arith, length-strings))
      ∙ ap (λ us. get_or vs layout.first_output [] ∷ us) (drop-cons vs layout.second_output [] (omega (arith, length-strings)))
      ∙ ap (λ us. get_or vs layout.first_output [] ∷ get_or vs layout.second_output [] ∷ us) (drop_of_length-le vs {i = layout.strings_count} (omega (arith, length-strings)))

  -- ---- its parts

  pub exprs-long : length st.exprs ≡ 32
  unfolding state_in state_by
  exprs-long = length-map (expressions m) components_in ∙ length-expressions

  pub files-long : length st.files ≡ 32
  unfolding state_in state_by
  files-long = length-files_in 32 (drop 32 vs)

  pub outputs-long : length st.outputs ≡ 2
  unfolding state_in state_by
  outputs-long = length-drop layout.first_output vs ∙ rw length-strings

  pub outputs_is : st.outputs ≡ get_or vs layout.first_output [] ∷ get_or vs layout.second_output [] ∷ []
  unfolding state_in state_by
  outputs_is = outputs_are

  pub last_is : st.last ≡ three_at layout.last_cell m
  unfolding state_in state_by
  last_is = threes-at 8 4 m (omega arith)

  pub next-is : s.next ≡ three_at layout.next_cell m
  unfolding state_in state_by
  next-is = threes-at 8 3 m (omega arith)

  pub places_is : st.places ≡ three_at layout.first_place_cell m ∷ three_at layout.second_place_cell m ∷ []
  unfolding state_in state_by
  places_is = ap (λ n. n ∷ get_or (threes_in layout.scalars_count m) 2 0 ∷ []) (threes-at 8 1 m (omega arith)) ∙ ap (λ n. three_at layout.first_place_cell m ∷ n ∷ []) (threes-at 8 2 m (omega arith))

  pub stack_is : s.stack ≡ twos_in stack_string
  unfolding state_in state_by
  stack_is = refl

  -- ---- its sums

  pub held-is : (f : Component → ℕ)
      → held f st ≡ total (λ v. total f (components_in v)) (expressions m) + total (λ v. total (λ r. total f r.parts) (records_in v)) (halves m)
  unfolding state_in state_by held
  held-is f =
      let e : total (total f) (map components_in (expressions m)) ≡ total (λ v. total f (components_in v)) (expressions m) = total-map (total f) components_in (expressions m) in
      let k = total-of-files (λ r. total f r.parts) 32 (drop 32 vs) (omega (arith, length_rest)) in
      omega (arith, e, k)

  pub recorded-is : recorded (λ r. 1) st ≡ record_count m
  unfolding state_in state_by recorded
  recorded-is = total-of-files (λ r. 1) 32 (drop 32 vs) (omega (arith, length_rest)) ∙ counts (halves m)

  pub addresses_is : addresses st ≡ each addresses_in (halves m)
  unfolding state_in state_by
  addresses_is = addresses-of-files 32 (drop 32 vs) (omega (arith, length_rest))

  exprs-faults : (l : ℕ) → total (total (faults l)) st.exprs ≡ total (λ v. total (faults l) (components_in v)) (expressions m)
  unfolding state_in state_by
  exprs-faults l = total-map (total (faults l)) components_in (expressions m)

  files-faults : (l : ℕ) → total (λ f. total (record_faults l) (records f)) st.files ≡ total (λ v. total (record_faults l) (records_in v)) (halves m)
  unfolding state_in state_by
  files-faults l = total-of-files (record_faults l) 32 (drop 32 vs) (omega (arith, length_rest))

  pub faults-is : (i j : List ℕ) (l : ℕ) → store_faults (i ∷ j ∷ []) l st
      ≡ total (λ v. total (faults l) (components_in v)) (expressions m)
      + total (λ v. total (record_faults l) (records_in v)) (halves m)
      + (total strange (get_or vs layout.first_output []) + total strange (get_or vs layout.second_output []))
      + ((three_at layout.first_place_cell m - length i) + (three_at layout.second_place_cell m - length j))
  unfolding store_faults
  faults-is i j l =
      omega (arith, exprs-faults l, files-faults l, ap (total (total strange)) outputs_is, ap (λ ns. overrun ns (i ∷ j ∷ [])) places_is)

  -- ---- its strings

  abbrev pub tail : List (List ℕ)
  tail = each two (twos_in stack_string) ∷ drop layout.first_output vs

  pub strings-is : strings s ≡ map again (expressions m) ++ (map again_records (halves m) ++ tail)
  unfolding state_in state_by strings
  strings-is =
      let f = strings_of-files 32 (drop 32 vs) (omega (arith, length_rest)) in
      ap (λ us. us ++ (file_strings (files_in 32 (drop 32 vs)) ++ tail)) (map-again (expressions m)) ∙ ap (λ us. map again (expressions m) ++ (us ++ tail)) f

  pub strings-are : vs ≡ expressions m ++ (halves m ++ (stack_string ∷ drop layout.first_output vs))
  strings-are =
      let a : drop layout.stack_string vs ≡ stack_string ∷ drop layout.first_output vs = drop-cons vs layout.stack_string [] (omega (arith, length-strings)) in
      let d : drop 64 (drop 32 vs) ≡ drop layout.stack_string vs = drop-drop 64 32 vs in
      sym (take-append-drop 32 vs)
      ∙ ap (λ us. expressions m ++ us) (sym (take-append-drop 64 (drop 32 vs)) ∙ ap (λ us. halves m ++ us) (d ∙ a))
