-- Where all tests pass, the cells are those of the state that they read as, and that state is well formed.
use mathlib.Core.Path.{◌≡◌, refl, sym, ap, ◌∙◌, subst}
use mathlib.Core.Bool.{Bool, true, cond, ◌&&◌}
use mathlib.Core.List.{List, [], ◌∷◌, ◌++◌, map}
use Prim.Native.Nat.{ℕ, ◌+◌, ◌*◌}
use native.Mathlib.Omega.{arith}
use lib.Dec.{T, leb, ltb, eqb, le→leb}
use lib.ListN.{length, get_or, drop, length-drop, take-append-drop}
use lib.Seq.{drop-drop}
use Rattle.std.proofs.Math.Facts.{yes_eqb}
use Rattle.lists.specs.BoolLaws.{sign-again}
use Rattle.characters.specs.Characters.{known}
use Rattle.check_strings.proofs.ComponentWalks.{bytes_drop}
use Rattle.check_strings.specs.Sound.{Bytes, given}
use Rattle.language.specs.Limits as limit
use Rattle.language.specs.Program.{Program}
use Rattle.language.specs.Values.{Inputs, chars}
use Rattle.layout.proofs.CellLaws.{length-each}
use Rattle.layout.specs.Cells.{two, three, three_at}
use Rattle.layout.specs.Memory.{scalars, strings, state_cells, threes_in, twos_in, state_by, state_in}
use Rattle.layout.specs.Strings.{string_cells}
use Rattle.layout.specs.Places as layout
use Rattle.lists.specs.ListLaws.{Passed, parts, T-left, T-right, T-both}
use Rattle.lists.specs.Lists.{total, all, each}
use Rattle.machine.specs.Changes.{held, recorded, fits}
use Rattle.machine.proofs.WellFormedLaws.{shut-state}
use Rattle.machine.specs.WellFormed.{strange, different, good_return, store_faults, addresses, store_tests, good_store, good_state}
use Rattle.check_memory.specs.Passes.{sizes, sum, zeros, expressions, halves, distinct, sound_output}
use Rattle.check_memory.proofs.Cells.{threes-at, each-threes, each-twos, string_cells-back}
use Rattle.check_memory.proofs.Facts.{Laid, Strings, Totals, Rest}
use Rattle.check_memory.proofs.Files.{again_records, Expressions, expressions-open, Halves, halves-open}
use Rattle.check_memory.proofs.Readings.{vs, s, st, stack_string, known-none, exprs-long, files-long, outputs-long, outputs_is, last_is, next-is, places_is, stack_is, held-is, recorded-is, addresses_is, faults-is, strings-is, strings-are}
use Rattle.check_memory.proofs.Wholes.{bytes-string, whole-expressions, whole-halves, over, over-expressions, over-halves}

module _ (p : Program) (i j m : List ℕ) (long : length m ≡ limit.state) (b : Bytes m) (L : Laid m) (S : Strings m) (C : Totals m) (D : T (distinct m)) (R : Rest p i j m) where
  abbrev l : ℕ
  l = three_at layout.last_cell m

  abbrev ins : Inputs
  ins = i ∷ j ∷ []

  E : Expressions l (expressions m)
  E = expressions-open l (expressions m) S.exprs

  H : Halves l (halves m)
  H = halves-open l (halves m) S.files

  -- ---- the cells

  pub strings-same : strings (s m) ≡ vs m
  strings-same =
      strings-is m
      ∙ ap (λ us. us ++ (map again_records (halves m) ++ (each two (twos_in (stack_string m)) ∷ drop layout.first_output (vs m)))) E.same
      ∙ ap (λ us. expressions m ++ (us ++ (each two (twos_in (stack_string m)) ∷ drop layout.first_output (vs m)))) H.same
      ∙ ap (λ u. expressions m ++ (halves m ++ (u ∷ drop layout.first_output (vs m)))) (each-twos (stack_string m) R.even (bytes-string m b layout.stack_string))
      ∙ sym (strings-are m)

  scalars-same : scalars (s m) ≡ threes_in layout.scalars_count m
  unfolding threes_in state_in state_by
  scalars-same =
      let ns : List ℕ = threes_in layout.scalars_count m in
      let x0 : cond (eqb (three_at layout.plus_cell m) 1) 1 0 ≡ three_at layout.plus_cell m = sign-again (three_at layout.plus_cell m) L.sign in
      let x5 : held (λ x. 1) (st m) ≡ get_or ns 5 0 = held-is m (λ x. 1) ∙ C.parts.is ∙ sym (threes-at 8 5 m (omega arith)) in
      let x6 : held (λ x. length (chars x)) (st m) ≡ get_or ns 6 0 = held-is m (λ x. length (chars x)) ∙ C.chars.is ∙ sym (threes-at 8 6 m (omega arith)) in
      let x7 : recorded (λ r. 1) (st m) ≡ get_or ns 7 0 = recorded-is m ∙ C.records.is ∙ sym (threes-at 8 7 m (omega arith)) in
      λ k. x0 k ∷ get_or ns 1 0 ∷ get_or ns 2 0 ∷ get_or ns 3 0 ∷ get_or ns 4 0 ∷ x5 k ∷ x6 k ∷ x7 k ∷ []

  pub cells_same : state_cells (s m) ≡ m
  unfolding state_cells
  cells_same =
      let d : List ℕ = drop layout.first_length m in
      let n : length d ≡ layout.strings_bytes = length-drop layout.first_length m ∙ omega (arith, long) in
      let q : layout.first_byte + sum (sizes m) ≡ layout.first_length + (layout.lengths_bytes + sum (sizes m)) = omega arith in
      let z : T (zeros (drop (layout.lengths_bytes + sum (sizes m)) d)) = subst (λ u. T (zeros u)) (ap (λ k. drop k m) q ∙ sym (drop-drop (layout.lengths_bytes + sum (sizes m)) layout.first_length m)) L.rest in
      ap (λ ns. each three ns ++ string_cells (strings (s m))) scalars-same
      ∙ ap (λ us. each three (threes_in layout.scalars_count m) ++ string_cells us) strings-same
      ∙ ap (λ u. each three (threes_in layout.scalars_count m) ++ u) (string_cells-back d n (bytes_drop layout.first_length m b) L.room z)
      ∙ ap (λ u. u ++ d) (each-threes 8 m (omega (arith, long)) b)
      ∙ take-append-drop layout.first_length m

  -- ---- the state

  short-words : held over (st m) ≡ 0
  short-words =
      omega (
        arith,
        held-is m over,
        over-expressions (expressions m) (whole-expressions m b l L.last_most S.exprs),
        over-halves (halves m) (whole-halves m b l L.last_most S.files),
      )

  output-long : (k : ℕ) → T (sound_output (get_or (vs m) k [])) → T (leb (length (get_or (vs m) k [])) limit.output)
  output-long k h = T-left (leb (length (get_or (vs m) k [])) limit.output) (all known (get_or (vs m) k [])) h

  output-known : (k : ℕ) → T (sound_output (get_or (vs m) k [])) → total strange (get_or (vs m) k []) ≡ 0
  output-known k h = known-none (get_or (vs m) k []) (T-right (leb (length (get_or (vs m) k [])) limit.output) (all known (get_or (vs m) k [])) h)

  outputs_short : T (all (λ q. leb (length q) limit.output) (st m).outputs)
  outputs_short =
      let f : List ℕ → Bool = λ q. leb (length q) limit.output in
      let o : List ℕ = get_or (vs m) layout.first_output [] in
      let u : List ℕ = get_or (vs m) layout.second_output [] in
      subst (λ qs. T (all f qs)) (sym (outputs_is m))
      (T-both (f o) (f u && true) (output-long layout.first_output R.output_1) (T-both (f u) true (output-long layout.second_output R.output_2) tt))

  limits : T (fits (st m))
  unfolding fits
  limits =
      let h : ℕ = held (λ x. 1) (st m) in
      let c : ℕ = held (λ x. length (chars x)) (st m) in
      let o : ℕ = held over (st m) in
      let r : ℕ = recorded (λ r. 1) (st m) in
      let a0 : Bool = leb h limit.components in
      let a1 : Bool = leb c limit.characters in
      let a2 : Bool = leb o 0 in
      let a3 : Bool = leb r limit.records in
      T-both (a0 && a1 && a2 && a3) (all (λ q. leb (length q) limit.output) (st m).outputs)
      (T-both (a0 && a1 && a2) a3
      (T-both (a0 && a1) a2
      (T-both a0 a1 (le→leb h limit.components (omega (arith, held-is m (λ x. 1), C.parts.fits))) (le→leb c limit.characters (omega (arith, held-is m (λ x. length (chars x)), C.chars.fits))))
      (le→leb o 0 (omega (arith, short-words))))
      (le→leb r limit.records (omega (arith, recorded-is m, C.records.fits))))
      outputs_short

  no_faults : store_faults ins (st m).last (st m) ≡ 0
  no_faults =
      ap (λ k. store_faults ins k (st m)) (last_is m)
      ∙ faults-is m i j l
      ∙ omega (arith, E.faultless, H.faultless, output-known layout.first_output R.output_1, output-known layout.second_output R.output_2, R.place_1, R.place_2)

  addressed : T (all (λ n. ltb 0 n && leb n (st m).last) (addresses (st m)))
  addressed = subst (λ k. T (all (given k) (addresses (st m)))) (sym (last_is m)) (subst (λ ns. T (all (given l) ns)) (sym (addresses_is m)) H.addressed)

  all-different : T (different eqb (addresses (st m)))
  unfolding distinct
  all-different = subst (λ ns. T (different eqb ns)) (sym (addresses_is m)) D

  store-good : T (good_store ins (st m))
  unfolding good_store
  store-good =
      let last : T (leb (st m).last limit.addresses) = le→leb (st m).last limit.addresses (omega (arith, last_is m, L.last_most)) in
      let places : T (eqb (length (st m).places) limit.inputs) = yes_eqb (ap length (places_is m)) in
      let end : Passed (drop 6 (store_tests ins (st m))) = (yes_eqb no_faults, (addressed, (all-different, tt))) in
      parts (store_tests ins (st m)) (
        yes_eqb (exprs-long m),
        (yes_eqb (files-long m), (yes_eqb (outputs-long m), (places, (limits, (last, end))))),
      )

  pub state_good : T (good_state p ins (s m))
  state_good =
      let even : length (stack_string m) ≡ 2 * length (twos_in (stack_string m)) =
      sym (ap length (each-twos (stack_string m) R.even (bytes-string m b layout.stack_string))) ∙ length-each 2 two (λ n. refl) (twos_in (stack_string m)) in
      shut-state p ins (s m) (record {
        store = store-good;
        next = omega (arith, next-is m, R.next);
        depth = omega (arith, ap length (stack_is m), even, R.deep);
        returns = subst (λ ns. T (all (good_return p) ns)) (sym (stack_is m)) R.returns;
      })
