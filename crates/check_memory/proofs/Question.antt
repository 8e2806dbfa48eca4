-- A well-formed memory passes all tests; so question 63 is their conjunction.
use mathlib.Core.Path.{◌≡◌, refl, sym, ap, ◌∙◌, subst}
use mathlib.Core.Bool.{Bool, true, false, cond, ◌&&◌}
use mathlib.Core.List.{List, [], ◌∷◌, ◌++◌, map}
use Prim.Native.Nat.{ℕ, ◌+◌, ◌*◌, ◌-◌, ◌≤◌, ◌<◌}
use native.Mathlib.Omega.{arith}
use lib.Dec.{T, leb, eqb, leb→le, le→leb, eqb→eq}
use lib.ListN.{length, get_or, take, drop, replicate, length-map}
use lib.Seq.{length-take-le, take_at, drop_at, drop-drop, drop-cons}
use borrow.Author.Tests.{lt-leb}
use Rattle.lists.specs.BoolLaws.{sign-most, same_test}
use Rattle.characters.specs.Characters.{known}
use Rattle.check_strings.specs.Sound.{Bytes, given}
use Rattle.language.specs.Limits as limit
use Rattle.language.specs.Program.{Program}
use Rattle.language.specs.Values.{Inputs, chars}
use Rattle.layout.specs.Bounds.{Fine, AtRest}
use Rattle.layout.proofs.CellLaws.{length-each}
use Rattle.layout.specs.Cells.{two, three, three_at}
use Rattle.layout.proofs.FineLaws.{fine-room}
use Rattle.layout.specs.Memory.{scalars, strings, state_cells, threes_in, twos_in, state_of, long_enough, good_memory}
use Rattle.layout.proofs.MemoryLaws.{memory-facts, memory-fine, memory-strings, memory-scalars}
use Rattle.layout.proofs.StringLaws.{length-lengths, lengths_in-lengths}
use Rattle.layout.specs.Strings.{lengths, used, string_cells, lengths_in}
use Rattle.layout.specs.Places as layout
use Rattle.lists.specs.ListLaws.{part, T-left, T-right, T-both, same_bytes-refl}
use Rattle.lists.specs.Lists.{total, all, each, head_or, joined, bytes_equal}
use Rattle.machine.specs.Changes.{held, recorded, fits}
use Rattle.machine.specs.Facts.{StateFacts}
use Rattle.machine.specs.WellFormed.{strange, different, good_program, good_return, good_inputs, store_faults, addresses, store_tests, good_store, good_state}
use Rattle.machine.proofs.WellFormedLaws.{open-state}
use Rattle.check_memory.specs.Passes.{sizes, sum, zeros, laid, expressions, halves, sound, counted, distinct, sound_output, fitting}
use Rattle.check_memory.proofs.Accepts.{cells_same, state_good}
use Rattle.check_memory.proofs.Cells.{threes-at, sum-lengths, replicated-zeros}
use Rattle.check_memory.proofs.Facts.{Laid, laid-open, laid-close, Strings, sound-open, sound-close, Totals, counted-open, counted-close, Rest, fitting-open, fitting-close}
use Rattle.check_memory.proofs.Files.{again, again_records, expressions-close, halves-close}
use Rattle.check_memory.proofs.Readings.{vs, s, st, stack_string, tail, none-known, length-strings, length-expressions, length-halves, outputs_is, last_is, next-is, stack_is, held-is, recorded-is, addresses_is, faults-is, strings-is}

record Limited (a b c : ℕ) (d : Bool) : Type 0 where
  most-a : a ≤ limit.components
  most-b : b ≤ limit.characters
  most-c : c ≤ limit.records
  most-d : T d

limited : (a b o c : ℕ) (d : Bool) → T (leb a limit.components && leb b limit.characters && leb o 0 && leb c limit.records && d) → Limited a b c d
limited a b o c d h =
    let t0 : Bool = leb a limit.components in
    let t1 : Bool = leb b limit.characters in
    let t2 : Bool = leb o 0 in
    let t3 : Bool = leb c limit.records in
    let q = T-left (t0 && t1 && t2 && t3) d h in
    let r = T-left (t0 && t1) t2 (T-left (t0 && t1 && t2) t3 q) in
    record {
      most-a = leb→le a limit.components (T-left t0 t1 r);
      most-b = leb→le b limit.characters (T-right t0 t1 r);
      most-c = leb→le c limit.records (T-right (t0 && t1 && t2) t3 q);
      most-d = T-right (t0 && t1 && t2 && t3) d h;
    }

module _ (p : Program) (i j M : List ℕ) (gp : T (good_program p)) (gi : T (good_inputs (i ∷ j ∷ []))) (g : T (good_memory p (i ∷ j ∷ []) M)) where
  abbrev m : List ℕ
  m = take limit.state M

  abbrev ins : Inputs
  ins = i ∷ j ∷ []

  abbrev l : ℕ
  l = three_at layout.last_cell m

  at_rest : AtRest p ins M
  at_rest = memory-facts p ins M g

  cells : state_cells (s m) ≡ m
  unfolding state_of
  cells = at_rest.cells

  good : T (good_state p ins (s m))
  unfolding state_of
  good = at_rest.good

  fine : Fine (s m)
  unfolding state_of
  fine = memory-fine p ins M gp gi g

  strings-same : vs m ≡ strings (s m)
  unfolding state_of
  strings-same = memory-strings p ins M gp gi g

  scalars-same : threes_in layout.scalars_count m ≡ scalars (s m)
  unfolding state_of
  scalars-same = memory-scalars p ins M gp gi g

  scalar : (k : ℕ) → k < 8 → three_at (3 * k) m ≡ get_or (scalars (s m)) k 0
  scalar k h = sym (threes-at 8 k m h) ∙ ap (λ (ns : List ℕ). get_or ns k 0) scalars-same

  facts : StateFacts p ins (s m)
  facts = open-state p ins (s m) good

  test : (k : ℕ) → T (get_or (store_tests ins (st m)) k true)
  unfolding good_store
  test = part (store_tests ins (st m)) facts.store

  -- ---- the cells

  abbrev ws : List (List ℕ)
  ws = strings (s m)

  ws-long : length ws ≡ layout.strings_count
  ws-long = ap length (sym strings-same) ∙ length-strings m

  behind : drop layout.first_length m ≡ string_cells ws
  unfolding state_cells
  behind = ap (drop layout.first_length) (sym cells) ∙ drop_at (each three (scalars (s m))) (string_cells ws) layout.first_length (length-each 3 three (λ n. refl) (scalars (s m)))

  sizes-are : sizes m ≡ map length ws
  unfolding string_cells
  sizes-are =
      let t : List ℕ = joined ws ++ replicate (layout.room - used ws) 0 in
      ap (lengths_in layout.strings_count) behind ∙ ap (λ k. lengths_in k (lengths ws ++ t)) (sym ws-long) ∙ lengths_in-lengths ws t

  sum_is : sum (sizes m) ≡ used ws
  sum_is = ap sum sizes-are ∙ sum-lengths ws

  zeros-behind : drop (layout.first_byte + sum (sizes m)) m ≡ replicate (layout.room - used ws) 0
  unfolding string_cells used
  zeros-behind =
      let z : List ℕ = replicate (layout.room - used ws) 0 in
      let n : length (lengths ws) ≡ layout.lengths_bytes = length-lengths ws ∙ omega (arith, ws-long) in
      let q : layout.first_byte + sum (sizes m) ≡ layout.first_length + (layout.lengths_bytes + used ws) = omega (arith, sum_is) in
      ap (λ k. drop k m) q ∙ sym (drop-drop (layout.lengths_bytes + used ws) layout.first_length m) ∙ ap (drop (layout.lengths_bytes + used ws)) behind
      ∙ sym (drop-drop (used ws) layout.lengths_bytes (string_cells ws)) ∙ ap (drop (used ws)) (drop_at (lengths ws) (joined ws ++ z) layout.lengths_bytes n) ∙ drop_at (joined ws) z (used ws) refl

  pub is-laid : Laid m
  is-laid = record {
    sign = omega (arith, scalar 0 (omega arith), sign-most (st m).plus);
    last_most = omega (arith, last_is m, fine.last_most);
    room = omega (arith, sum_is, fine-room (s m) fine);
    rest = subst (λ u. T (zeros u)) (sym zeros-behind) (replicated-zeros (layout.room - used ws));
  }

  -- ---- the strings

  all_read : vs m ≡ map again (expressions m) ++ (map again_records (halves m) ++ tail m)
  all_read = strings-same ∙ strings-is m

  long-1 : length (map again (expressions m)) ≡ 32
  long-1 = length-map (expressions m) again ∙ length-expressions m

  long-2 : length (map again_records (halves m)) ≡ 64
  long-2 = length-map (halves m) again_records ∙ length-halves m

  exprs-same : map again (expressions m) ≡ expressions m
  exprs-same = sym (ap (take 32) all_read ∙ take_at (map again (expressions m)) (map again_records (halves m) ++ tail m) 32 long-1)

  rest_read : drop 32 (vs m) ≡ map again_records (halves m) ++ tail m
  rest_read = ap (drop 32) all_read ∙ drop_at (map again (expressions m)) (map again_records (halves m) ++ tail m) 32 long-1

  files-same : map again_records (halves m) ≡ halves m
  files-same = sym (ap (take 64) rest_read ∙ take_at (map again_records (halves m)) (tail m) 64 long-2)

  stack_same : stack_string m ≡ each two (twos_in (stack_string m))
  stack_same =
      let d : drop layout.stack_string (vs m) ≡ tail m = sym (drop-drop 64 32 (vs m)) ∙ ap (drop 64) rest_read ∙ drop_at (map again_records (halves m)) (tail m) 64 long-2 in
      ap (head_or []) (sym (drop-cons (vs m) layout.stack_string [] (omega (arith, length-strings m))) ∙ d)

  faultless : store_faults ins l (st m) ≡ 0
  faultless = ap (λ k. store_faults ins k (st m)) (sym (last_is m)) ∙ eqb→eq (store_faults ins (st m).last (st m)) 0 (test 6)

  addressed : T (all (given l) (addresses (st m)))
  addressed = subst (λ k. T (all (given k) (addresses (st m)))) (last_is m) (test 7)

  pub is-sound : Strings m
  is-sound = record {
    exprs = expressions-close l (expressions m) (record { same = exprs-same; faultless = omega (arith, faultless, faults-is m i j l) });
    files = halves-close l (halves m) (record { same = files-same; faultless = omega (arith, faultless, faults-is m i j l); addressed = subst (λ ns. T (all (given l) ns)) (addresses_is m) addressed });
  }

  -- ---- the rest

  limits : Limited (held (λ x. 1) (st m)) (held (λ x. length (chars x)) (st m)) (recorded (λ r. 1) (st m)) (all (λ q. leb (length q) limit.output) (st m).outputs)
  unfolding fits
  limits = limited (held (λ x. 1) (st m)) (held (λ x. length (chars x)) (st m)) (held (λ x. cond (leb (length (chars x)) limit.word) 0 1) (st m)) (recorded (λ r. 1) (st m)) (all (λ q. leb (length q) limit.output) (st m).outputs) (test 4)

  is-counted : Totals m
  is-counted = record {
    parts = record { is = sym (held-is m (λ x. 1)) ∙ sym (scalar 5 (omega arith)); fits = omega (arith, held-is m (λ x. 1), limits.most-a) };
    chars = record { is = sym (held-is m (λ x. length (chars x))) ∙ sym (scalar 6 (omega arith)); fits = omega (arith, held-is m (λ x. length (chars x)), limits.most-b) };
    records = record { is = sym (recorded-is m) ∙ sym (scalar 7 (omega arith)); fits = omega (arith, recorded-is m, limits.most-c) };
  }

  is-distinct : T (distinct m)
  unfolding distinct
  is-distinct = subst (λ ns. T (different eqb ns)) (addresses_is m) (test 8)

  outputs_short : T (all (λ q. leb (length q) limit.output) (get_or (vs m) layout.first_output [] ∷ get_or (vs m) layout.second_output [] ∷ []))
  outputs_short = subst (λ qs. T (all (λ q. leb (length q) limit.output) qs)) (outputs_is m) limits.most-d

  output-passes : (k : ℕ) → T (leb (length (get_or (vs m) k [])) limit.output) → total strange (get_or (vs m) k []) ≡ 0 → T (sound_output (get_or (vs m) k []))
  output-passes k a z = T-both (leb (length (get_or (vs m) k [])) limit.output) (all known (get_or (vs m) k [])) a (none-known (get_or (vs m) k []) z)

  is-fitting : Rest p i j m
  is-fitting =
      let f = faults-is m i j l in
      let t : Bool = leb (length (get_or (vs m) layout.first_output [])) limit.output in
      let u : Bool = leb (length (get_or (vs m) layout.second_output [])) limit.output in
      let n : length (stack_string m) ≡ 2 * length (twos_in (stack_string m)) = ap length stack_same ∙ length-each 2 two (λ n. refl) (twos_in (stack_string m)) in
      record {
        even = omega (arith, n);
        deep = omega (arith, n, ap length (stack_is m), facts.depth);
        returns = subst (λ ns. T (all (good_return p) ns)) (stack_is m) facts.returns;
        output_1 = output-passes layout.first_output (T-left t (u && true) outputs_short) (omega (arith, faultless, f));
        output_2 = output-passes layout.second_output (T-left u true (T-right t (u && true) outputs_short)) (omega (arith, faultless, f));
        place_1 = omega (arith, faultless, f);
        place_2 = omega (arith, faultless, f);
        next = omega (arith, next-is m, facts.next);
      }

-- question 63 is the conjunction of its tests
module _ (p : Program) (i j M : List ℕ) (gp : T (good_program p)) (gi : T (good_inputs (i ∷ j ∷ []))) (long : limit.state ≤ length M) (b : Bytes (take limit.state M)) where
  abbrev c : List ℕ
  c = take limit.state M

  abbrev tests : Bool
  tests = laid c && (sound c && (counted c && (distinct c && fitting p i j c)))

  to-tests : T (good_memory p (i ∷ j ∷ []) M) → T tests
  to-tests g =
      T-both (laid c) (sound c && (counted c && (distinct c && fitting p i j c))) (laid-close c (is-laid p i j M gp gi g))
      (T-both (sound c) (counted c && (distinct c && fitting p i j c)) (sound-close c (is-sound p i j M gp gi g))
      (T-both (counted c) (distinct c && fitting p i j c) (counted-close c (is-counted p i j M gp gi g))
      (T-both (distinct c) (fitting p i j c) (is-distinct p i j M gp gi g) (fitting-close p i j c (is-fitting p i j M gp gi g)))))

  from-tests : T tests → T (good_memory p (i ∷ j ∷ []) M)
  unfolding good_memory state_of
  from-tests t =
      let t1 = T-right (laid c) (sound c && (counted c && (distinct c && fitting p i j c))) t in
      let t2 = T-right (sound c) (counted c && (distinct c && fitting p i j c)) t1 in
      let t3 = T-right (counted c) (distinct c && fitting p i j c) t2 in
      let L : Laid c = laid-open c (T-left (laid c) (sound c && (counted c && (distinct c && fitting p i j c))) t) in
      let S : Strings c = sound-open c (T-left (sound c) (counted c && (distinct c && fitting p i j c)) t1) in
      let C : Totals c = counted-open c (T-left (counted c) (distinct c && fitting p i j c) t2) in
      let D : T (distinct c) = T-left (distinct c) (fitting p i j c) t3 in
      let R : Rest p i j c = fitting-open p i j c (T-right (distinct c) (fitting p i j c) t3) in
      let n : length c ≡ limit.state = length-take-le limit.state M long in
      let e : state_cells (s c) ≡ c = cells_same p i j c n b L S C D R in
      let q : Bool = bytes_equal (state_cells (s c)) c in
      let same : T q = subst (λ u. T (bytes_equal u c)) (sym e) (same_bytes-refl c) in
      T-both (long_enough M && q) (good_state p (i ∷ j ∷ []) (s c)) (T-both (long_enough M) q (le→leb limit.state (length M) long) same) (state_good p i j c n b L S C D R)

  pub question-63 : good_memory p (i ∷ j ∷ []) M ≡ tests
  question-63 = same_test (good_memory p (i ∷ j ∷ []) M) tests to-tests from-tests

-- a memory that is too short does not pass
pub too_short : (p : Program) (ins : Inputs) (M : List ℕ) → length M < limit.state → good_memory p ins M ≡ false
unfolding good_memory
too_short p ins M h = rw (lt-leb limit.state (length M) h) refl
