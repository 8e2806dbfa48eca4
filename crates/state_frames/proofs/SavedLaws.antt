-- Laws of saved states: the frames of a state give it back, and they have a place in a text.
use Rattle.std.specs.Prelude.{◌≡◌, Bool, true, ℕ, zero, suc, ◌+◌, ◌≤◌, ◌<◌, T, get_or, take, drop}
use Rattle.std.proofs.Math.Path.{refl, sym, ap, subst}
use Rattle.std.proofs.Common.{◌∙◌, arith, length-append}
use Rattle.std.proofs.Math.Bool.{false, cond}
use mathlib.Core.List.{List, [], ◌∷◌, ◌++◌, map, append-nil, append_assoc}
use Rattle.std.proofs.Math.Dec.{eqb}
use Rattle.std.proofs.Math.ListN.{length, length-map}
use Rattle.std.proofs.Math.Seq.{take-append_seam, drop-append_seam}
use borrow.Author.Tests.{eq-eqb, ne_eqb}
use Rattle.layout.specs.EachLaws.{each_keep}
use Rattle.language.specs.Limits as limit
use Rattle.lists.specs.Lists.{filled, keep, each}
use Rattle.language.specs.Program.{Program}
use Rattle.language.specs.Values.{File, State, Inputs}
use Rattle.machine.specs.WellFormed.{good_program, good_inputs, good_state}
use Rattle.layout.specs.Bounds.{Each, Below, Fine}
use Rattle.layout.proofs.CellLaws.{each_append, each_left, each_right, below-append, two_back, two-below, tab-ext}
use Rattle.layout.specs.Cells.{two, two_at, three, tab}
use Rattle.layout.specs.Components.{components_bytes, records_bytes}
use Rattle.layout.proofs.FineLaws.{good-fine, good-strings-below, fine-room}
use Rattle.layout.specs.Memory.{scalars, file_strings, strings, state_cells, state_by}
use Rattle.layout.proofs.MemoryLaws.{threes-back, state_by-back, state_cells-below}
use Rattle.layout.proofs.StringLaws.{strings-short}
use Rattle.layout.specs.Strings.{string_cells}
use Rattle.state_frames.specs.Frames.{Frame, framed}
use Rattle.state_frames.proofs.FrameLaws.{FrameOk}
use Rattle.state_frames.specs.Saved.{head_bytes, expressions_bytes, files_bytes, stack_bytes, head_count, head_numbers, file_contents, file_bytes, numbered, slots, nonempty, frames_of, is_at, contents_at, contents_of, halves, strings_by, numbers_in, numbers_by, restored}

-- ---- contents by kind and index

none : (b : Bool) → ◌≡◌ {A = List ℕ} (cond b [] []) []
none true = refl
none false = refl

module _ (k i : ℕ) where
  pub contents-append : (fs gs : List Frame) → contents_at k i (fs ++ gs) ≡ contents_at k i fs ++ contents_at k i gs
  unfolding contents_at
  contents-append [] gs = refl
  contents-append (f ∷ fs) gs = rw (contents-append fs gs, append_assoc)

  keep_one : (j n : ℕ) (c : List ℕ) (fs gs : List Frame) → contents_at k i gs ≡ contents_at k i fs
      → contents_at k i (cond (filled c) (framed j n c ∷ gs) gs) ≡ contents_at k i (framed j n c ∷ fs)
  unfolding contents_at
  keep_one j n [] fs gs e = rw (none (is_at k i (framed j n []))) e
  keep_one j n (x ∷ c) fs gs e = ap (λ (t : List ℕ). cond (is_at k i (framed j n (x ∷ c))) (x ∷ c) [] ++ t) e

  -- empty frames give nothing
  pub contents-keep : (fs : List Frame) → contents_at k i (keep nonempty fs) ≡ contents_at k i fs
  contents-keep [] = refl
  contents-keep (f ∷ fs) = keep_one f.kind f.index f.contents fs (keep nonempty fs) (contents-keep fs)

  -- frames of another kind
  contents-other : (j n : ℕ) (cs : List (List ℕ)) → eqb k j ≡ false → contents_at k i (numbered j n cs) ≡ []
  unfolding contents_at numbered
  contents-other j n [] h = refl
  contents-other j n (c ∷ cs) h = rw h (contents-other j (suc n) cs h)

  -- an index below the first
  contents-before : (n : ℕ) (cs : List (List ℕ)) → i < n → contents_at k i (numbered k n cs) ≡ []
  unfolding contents_at numbered
  contents-before n [] h = refl
  contents-before n (c ∷ cs) h =
      let e : eqb i n ≡ false = ne_eqb i n (λ q. omega arith) in
      rw (eq-eqb k k refl, e) (contents-before (suc n) cs (omega arith))

contents-numbered : (k n i : ℕ) (cs : List (List ℕ)) → contents_at k (n + i) (numbered k n cs) ≡ get_or cs i []
unfolding contents_at numbered
contents-numbered k n i [] = refl
contents-numbered k n zero (c ∷ cs) =
    let z : n + 0 ≡ n = omega arith in
    subst (λ (m : ℕ). contents_at k m (numbered k n (c ∷ cs)) ≡ c) (sym z)
    (rw (eq-eqb k k refl, eq-eqb n n refl) (ap (λ (t : List ℕ). c ++ t) (contents-before k n (suc n) cs (omega arith)) ∙ append-nil c))
contents-numbered k n (suc i) (c ∷ cs) =
    let e : eqb (n + suc i) n ≡ false = ne_eqb (n + suc i) n (λ q. omega arith) in
    let z : n + suc i ≡ suc n + i = omega arith in
    rw (eq-eqb k k refl, e) (ap (λ (j : ℕ). contents_at k j (numbered k (suc n) cs)) z ∙ contents-numbered k (suc n) i cs)

numbered-at : (k i : ℕ) (cs : List (List ℕ)) → contents_at k (suc i) (numbered k 1 cs) ≡ get_or cs i []
numbered-at k i cs = let z : suc i ≡ 1 + i = omega arith in ap (λ (j : ℕ). contents_at k j (numbered k 1 cs)) z ∙ contents-numbered k 1 i cs

-- ---- the halves of a file's contents

two-first : (n : ℕ) (l : List ℕ) → two_at 0 (two n ++ l) ≡ n
two-first n l = two_back n

pub halves-back : (b a : List ℕ) → halves (file_contents b a) ≡ b ∷ a ∷ []
unfolding file_contents
halves-back [] [] = refl
halves-back [] (y ∷ a) = refl
halves-back (x ∷ b) a =
    let n = length (x ∷ b) in
    let l = (x ∷ b) ++ a in
    let z : 2 + n ≡ suc (suc n) = omega arith in
    let e : take (two_at 0 (two n ++ l)) l ≡ x ∷ b = rw (two-first n l) (take-append_seam (x ∷ b) a) in
    let f : drop (2 + two_at 0 (two n ++ l)) (two n ++ l) ≡ a = rw (two-first n l, z) (drop-append_seam (x ∷ b) a) in
    λ j. e j ∷ f j ∷ []

halves-of-files : (fs : List File) → each halves (map file_bytes fs) ≡ file_strings fs
unfolding file_strings
halves-of-files [] = refl
halves-of-files (f ∷ fs) =
    let e = halves-back (records_bytes f.before) (records_bytes f.after) in
    let t = halves-of-files fs in
    λ j. e j ++ t j

-- ---- the frames of a state

module _ (s : State) where
  -- what each part of the slots gives
  slots_at : (k i : ℕ) → contents_at k i (frames_of s)
      ≡ cond (is_at k i (framed 1 0 (head_bytes s))) (head_bytes s) [] ++ (contents_at k i (numbered 2 1 (expressions_bytes s)) ++ (contents_at k i (numbered 3 1 (files_bytes s)) ++ (contents_at k i (numbered 4 1 s.store.outputs) ++ (cond (is_at k i (framed 5 0 (stack_bytes s))) (stack_bytes s) [] ++ []))))
  unfolding frames_of slots contents_at
  slots_at k i =
      let N2 = numbered 2 1 (expressions_bytes s) in
      let N3 = numbered 3 1 (files_bytes s) in
      let N4 = numbered 4 1 s.store.outputs in
      let N5 : List Frame = framed 5 0 (stack_bytes s) ∷ [] in
      contents-keep k i (slots s)
      ∙ ap (λ (t : List ℕ). cond (is_at k i (framed 1 0 (head_bytes s))) (head_bytes s) [] ++ t)
      (contents-append k i N2 (N3 ++ (N4 ++ N5))
      ∙ ap (λ (t : List ℕ). contents_at k i N2 ++ t) (contents-append k i N3 (N4 ++ N5) ∙ ap (λ (t : List ℕ). contents_at k i N3 ++ t) (contents-append k i N4 N5)))

  pub head_at : contents_at 1 0 (frames_of s) ≡ (head_bytes s)
  head_at =
      slots_at 1 0
      ∙ rw (contents-other 1 0 2 1 (expressions_bytes s) refl, contents-other 1 0 3 1 (files_bytes s) refl, contents-other 1 0 4 1 s.store.outputs refl) (append-nil (head_bytes s))

  pub expr-at : (i : ℕ) → contents_at 2 (suc i) (frames_of s) ≡ get_or (expressions_bytes s) i []
  expr-at i =
      slots_at 2 (suc i)
      ∙ rw (contents-other 2 (suc i) 3 1 (files_bytes s) refl, contents-other 2 (suc i) 4 1 s.store.outputs refl, numbered-at 2 i (expressions_bytes s)) (append-nil (get_or (expressions_bytes s) i []))

  pub file-at : (i : ℕ) → contents_at 3 (suc i) (frames_of s) ≡ get_or (files_bytes s) i []
  file-at i =
      slots_at 3 (suc i)
      ∙ rw (contents-other 3 (suc i) 2 1 (expressions_bytes s) refl, contents-other 3 (suc i) 4 1 s.store.outputs refl, numbered-at 3 i (files_bytes s)) (append-nil (get_or (files_bytes s) i []))

  pub output-at : (i : ℕ) → contents_at 4 (suc i) (frames_of s) ≡ get_or s.store.outputs i []
  output-at i =
      slots_at 4 (suc i)
      ∙ rw (contents-other 4 (suc i) 2 1 (expressions_bytes s) refl, contents-other 4 (suc i) 3 1 (files_bytes s) refl, numbered-at 4 i s.store.outputs) (append-nil (get_or s.store.outputs i []))

  pub stack_at : contents_at 5 0 (frames_of s) ≡ (stack_bytes s)
  stack_at =
      slots_at 5 0
      ∙ rw (contents-other 5 0 2 1 (expressions_bytes s) refl, contents-other 5 0 3 1 (files_bytes s) refl, contents-other 5 0 4 1 s.store.outputs refl) (append-nil (stack_bytes s))

  -- all of one kind
  all_of : (k n : ℕ) (cs : List (List ℕ)) → length cs ≡ n → ((i : ℕ) → contents_at k (suc i) (frames_of s) ≡ get_or cs i [])
      → contents_of k n (frames_of s) ≡ cs
  all_of k n cs h e =
      ap (λ (m : ℕ). tab m (λ i. contents_at k (suc i) (frames_of s))) (sym h) ∙ tab-ext [] cs (λ i. contents_at k (suc i) (frames_of s)) (λ i b. e i)

  module _ (f : Fine s) where
    pub strings-back : strings_by (frames_of s) ≡ strings s
    unfolding strings_by strings
    strings-back =
        let x = all_of 2 limit.expressions (expressions_bytes s) (length-map s.store.exprs components_bytes ∙ f.exprs_is) expr-at in
        let y = all_of 3 limit.files (files_bytes s) (length-map s.store.files file_bytes ∙ f.files_is) file-at in
        let y' = ap (each halves) y ∙ halves-of-files s.store.files in
        let z = all_of 4 limit.outputs s.store.outputs f.outputs_is output-at in
        let r = stack_at in
        λ j. x j ++ (y' j ++ (r j ∷ z j))

    pub numbers-back : numbers_by (frames_of s) ≡ head_numbers s
    unfolding numbers_by
    numbers-back = ap numbers_in (head_at ∙ sym (append-nil (head_bytes s))) ∙ threes-back (head_numbers s) []

    -- "A state written and read back" is that state
    pub restored-back : restored (frames_of s) ≡ s
    unfolding restored state_by
    restored-back = ap (λ vs. state_by vs (numbers_by (frames_of s))) strings-back ∙ ap (state_by (strings s)) numbers-back ∙ state_by-back s f

-- ---- the frames of a well-formed state have a place in a text

-- contents of at most 65,535 bytes
pub record Room (c : List ℕ) : Type 0 where
  pub short : length c < 65536
  pub below : Below 256 c

numbered-ok : (k n : ℕ) (cs : List (List ℕ)) → k < 256 → n + length cs ≤ 256 → Each Room cs → Each FrameOk (numbered k n cs)
unfolding numbered
numbered-ok k n [] b h r = tt
numbered-ok k n (c ∷ cs) b h r = (
  record { kind_below = b; index_below = omega (arith, h); length_below = r.0.short; contents_below = r.0.below },
  numbered-ok k (suc n) cs b (omega (arith, h)) r.1,
)

-- each string is shorter than half of what a frame may hold
abbrev Short : List ℕ → Type 0
Short v = length v < 32000

room_of : (v : List ℕ) → Short v → Below 256 v → Room v
room_of v h b = record { short = omega arith; below = b }

rooms : (vs : List (List ℕ)) → Each Short vs → Each (Below 256) vs → Each Room vs
rooms [] h b = tt
rooms (v ∷ vs) h b = (room_of v h.0 b.0, rooms vs h.1 b.1)

file-room : (b a : List ℕ) → Short b → Short a → Below 256 b → Below 256 a → Room (file_contents b a)
unfolding file_contents
file-room b a h k x y = go (filled (b ++ a))
  where
    go : (q : Bool) → Room (cond q (two (length b) ++ (b ++ a)) [])
    go true =
        record {
          short = simp length-append (omega arith);
          below = below-append 256 (two (length b)) (b ++ a) (two-below (length b) (omega arith)) (below-append 256 b a x y);
        }
    go false = record { short = omega arith; below = tt }

file-rooms : (fs : List File) → Each Short (file_strings fs) → Each (Below 256) (file_strings fs) → Each Room (map file_bytes fs)
unfolding file_strings
file-rooms [] h b = tt
file-rooms (f ∷ fs) h b =
    (file-room (records_bytes f.before) (records_bytes f.after) h.0 h.1.0 b.0 b.1.0, file-rooms fs h.1.1 b.1.1)

numbers-below : (n : ℕ) (ns : List ℕ) → Below 256 (each three ns) → Below 256 (each three (take n ns))
numbers-below zero ns h = tt
numbers-below (suc n) [] h = tt
numbers-below (suc n) (x ∷ ns) h = (h.0, (h.1.0, (h.1.1.0, numbers-below n ns h.1.1.1)))

module _ (p : Program) (ins : Inputs) (s : State) (gp : T (good_program p)) (gi : T (good_inputs ins)) (g : T (good_state p ins s)) where
  abbrev fine : Fine s
  fine = good-fine p ins s gp gi g

  head-below : Below 256 (each three (head_numbers s))
  unfolding state_cells
  head-below = numbers-below head_count (scalars s) (each_left (λ x. x < 256) (each three (scalars s)) (string_cells (strings s)) (state_cells-below p ins s gp gi g))

  slots-ok : Each FrameOk (slots s)
  unfolding slots strings
  slots-ok =
      let A = expressions_bytes s in
      let B = file_strings s.store.files in
      let C = stack_bytes s ∷ s.store.outputs in
      let short : Each Short (strings s) = strings-short (strings s) 32000 (omega (arith, fine-room s fine)) in
      let below : Each (Below 256) (strings s) = good-strings-below p ins s gp gi g in
      let short-B = each_right Short A (B ++ C) short in
      let below-B = each_right (Below 256) A (B ++ C) below in
      let short-C = each_right Short B C short-B in
      let below-C = each_right (Below 256) B C below-B in
      let es = rooms A (each_left Short A (B ++ C) short) (each_left (Below 256) A (B ++ C) below) in
      let fs = file-rooms s.store.files (each_left Short B C short-B) (each_left (Below 256) B C below-B) in
      let rs = rooms C short-C below-C in
      let l2 : length A ≡ limit.expressions = length-map s.store.exprs components_bytes ∙ fine.exprs_is in
      let l3 : length (files_bytes s) ≡ limit.files = length-map s.store.files file_bytes ∙ fine.files_is in
      let l4 = fine.outputs_is in
      let N2 = numbered 2 1 A in
      let N3 = numbered 3 1 (files_bytes s) in
      let N4 = numbered 4 1 s.store.outputs in
      let N5 : List Frame = framed 5 0 (stack_bytes s) ∷ [] in
      let head : FrameOk (framed 1 0 (head_bytes s)) = record { kind_below = omega arith; index_below = omega arith; length_below = omega arith; contents_below = head-below } in
      let stack : FrameOk (framed 5 0 (stack_bytes s)) = record { kind_below = omega arith; index_below = omega arith; length_below = rs.0.short; contents_below = rs.0.below } in (
        head,
        each_append FrameOk N2 (N3 ++ (N4 ++ N5)) (numbered-ok 2 1 A (omega arith) (omega arith) es)
            (each_append FrameOk N3 (N4 ++ N5) (numbered-ok 3 1 (files_bytes s) (omega arith) (omega arith) fs)
            (each_append FrameOk N4 N5 (numbered-ok 4 1 s.store.outputs (omega arith) (omega arith) rs.1) (stack, tt))),
      )

  pub frames-ok : Each FrameOk (frames_of s)
  unfolding frames_of
  frames-ok = each_keep FrameOk nonempty (slots s) slots-ok
