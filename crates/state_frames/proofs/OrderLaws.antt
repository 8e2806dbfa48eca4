-- Question 69, one equation, says what it spells out: frames that rise, are listed and filled are those of the slots that they fill.
use Rattle.std.specs.Prelude.{◌≡◌, ◌⊎◌, ◌↔◌, Bool, true, cond, ◌&&◌, ◌||◌, ℕ, suc, ◌+◌, ◌≤◌, ◌<◌, eqb, ltb, leb, length}
use Rattle.std.proofs.Math.Path.{refl, sym, ap, subst}
use Rattle.std.proofs.Common.{◌∙◌, inl, inr, ⊎_elim, eq-or-lt_of_le, arith, eqb→eq, ltb→lt, leb→le}
use Rattle.std.proofs.Math.Bool.{false}
use mathlib.Core.List.{List, [], ◌∷◌, ◌++◌, append-nil}
use Rattle.std.proofs.Math.Dec.{T}
use Rattle.std.proofs.lemmas.List.{length-map}
use borrow.Author.Tests.{eqb-true, eqb-false, eq-eqb, lt-ltb, le-leb}
use Rattle.layout.specs.EachLaws.{each_map}
use Rattle.lists.specs.AppendLaws.{all_append, any_left, any-right}
use Rattle.lists.specs.BoolLaws.{T-second, T-either}
use Rattle.language.specs.Limits as limit
use Rattle.characters.specs.Characters.{between}
use Rattle.lists.specs.ListLaws.{T-left, T-right, T-both, all_head, all_tail, all_keep}
use Rattle.lists.specs.Lists.{all, any, keep}
use Rattle.language.specs.Program.{Program}
use Rattle.language.specs.Values.{State, Inputs}
use Rattle.machine.specs.WellFormed.{good_state}
use Rattle.machine.proofs.WellFormedLaws.{open-store, open-state}
use Rattle.layout.specs.Bounds.{Each}
use Rattle.layout.specs.Components.{components_bytes}
use lib.Ieee.Bits.{is_true}
use Rattle.state_frames.specs.Frames.{Frame, framed, same_frames}
use Rattle.state_frames.proofs.FrameLaws.{same_frames-eq, same_frames-refl}
use Rattle.state_frames.specs.Saved.{head_bytes, expressions_bytes, files_bytes, stack_bytes, file_bytes, numbered, slots, nonempty, frames_of, is_at, contents_at, restored, well_framed}
use Rattle.state_frames.proofs.SavedLaws.{contents-keep}
use Rattle.state_frames.specs.Order.{precedes, rising, listed, Found, InForm}

-- ---- tests

module _ {X : Type 0} (q : X → Bool) where
  all-kept : (xs : List X) → T (all q (keep q xs))
  all-kept [] = tt
  all-kept (x ∷ xs) = go (q x) refl (all-kept xs)
    where
      go : (b : Bool) → q x ≡ b → T (all q (keep q xs)) → T (all q (cond b (x ∷ keep q xs) (keep q xs)))
      go true e k = rw e k
      go false e k = k

-- ---- the order

abbrev Lower : Frame → Frame → Type 0
Lower f g = (f.kind < g.kind) ⊎ ((f.kind ≡ g.kind) × (f.index < g.index))

pub precedes-lower : (f g : Frame) → T (precedes f g) → Lower f g
unfolding precedes
precedes-lower f g h =
    let a = ltb f.kind g.kind in
    let b = eqb f.kind g.kind in
    let c = ltb f.index g.index in
    T-either a (b && c) h (λ t. inl (ltb→lt f.kind g.kind t)) (λ t. inr (eqb→eq f.kind g.kind (T-left b c t), ltb→lt f.index g.index (T-right b c t)))

pub lower-precedes : (f g : Frame) → Lower f g → T (precedes f g)
unfolding precedes
lower-precedes f g (inl h) = rw (lt-ltb f.kind g.kind h) tt
lower-precedes f g (inr h) =
    let a = eq-eqb f.kind g.kind h.0 in
    let b = lt-ltb f.index g.index h.1 in
    T-second (ltb f.kind g.kind) (eqb f.kind g.kind && ltb f.index g.index) (rw (a, b) tt)

lower-trans : (f g h : Frame) → Lower f g → Lower g h → Lower f h
lower-trans f g h (inl a) (inl b) = inl (omega arith)
lower-trans f g h (inl a) (inr b) = inl (omega arith)
lower-trans f g h (inr a) (inl b) = inl (omega arith)
lower-trans f g h (inr a) (inr b) = inr (omega arith, omega arith)

precedes-trans : (f g h : Frame) → T (precedes f g) → T (precedes g h) → T (precedes f h)
precedes-trans f g h a b = lower-precedes f h (lower-trans f g h (precedes-lower f g a) (precedes-lower g h b))

-- the frame g has the kind and index of f
abbrev at : Frame → Frame → Bool
at f g = is_at f.kind f.index g

-- a frame that precedes another has another kind or index
at-false : (f g : Frame) → ((f.kind ≡ g.kind) × (f.index ≡ g.index) → ⊥) → at f g ≡ false
at-false f g h = go (eqb f.kind g.kind) (eqb f.index g.index) (λ a. eqb→eq f.kind g.kind a) (λ a. eqb→eq f.index g.index a)
  where
    go : (a b : Bool) → (T a → f.kind ≡ g.kind) → (T b → f.index ≡ g.index) → a && b ≡ false
    go false b x y = refl
    go true false x y = refl
    go true true x y = absurd (h (x tt, y tt))

lower-other : (f g : Frame) → Lower f g → (f.kind ≡ g.kind) × (f.index ≡ g.index) → ⊥
lower-other f g (inl a) e = omega (arith, e.0)
lower-other f g (inr a) e = omega (arith, e.1)

not_at : (f g : Frame) → T (precedes f g) → at f g ≡ false
not_at f g h = at-false f g (lower-other f g (precedes-lower f g h))

at-not : (f g : Frame) → T (precedes f g) → at g f ≡ false
at-not f g h = at-false g f (λ e. lower-other f g (precedes-lower f g h) (sym e.0, sym e.1))

at_same : (f g : Frame) → T (at f g) → (f.kind ≡ g.kind) × (f.index ≡ g.index)
at_same f g h =
    let a = eqb f.kind g.kind in
    let b = eqb f.index g.index in
    (eqb→eq f.kind g.kind (T-left a b h), eqb→eq f.index g.index (T-right a b h))

at_true : (f g : Frame) → f.kind ≡ g.kind → f.index ≡ g.index → at f g ≡ true
at_true f g a b = let x = eq-eqb f.kind g.kind a in let y = eq-eqb f.index g.index b in rw (x, y)

-- ---- contents of frames that rise

-- none of the frames that follow has the kind and index of g
later-none : (g : Frame) (fs : List Frame) → T (all (precedes g) fs) → contents_at g.kind g.index fs ≡ []
unfolding contents_at
later-none g [] h = refl
later-none g (f ∷ fs) h = rw (not_at g f (all_head (precedes g) f fs h)) (later-none g fs (all_tail (precedes g) f fs h))

-- a frame of another kind or index gives nothing
skipped : (g f : Frame) (fs : List Frame) → at g f ≡ false → contents_at g.kind g.index (f ∷ fs) ≡ contents_at g.kind g.index fs
unfolding contents_at
skipped g f fs e = rw e

found_first : (f : Frame) (fs : List Frame) → T (all (precedes f) fs) → Found (f ∷ fs) f
unfolding contents_at
found_first f fs h =
    rw (eq-eqb f.kind f.kind refl, eq-eqb f.index f.index refl)
    (ap (λ (t : List ℕ). f.contents ++ t) (later-none f fs h) ∙ append-nil f.contents)

found-more : (f : Frame) (fs gs : List Frame) → T (all (precedes f) gs) → Each (Found fs) gs → Each (Found (f ∷ fs)) gs
found-more f fs [] h k = tt
found-more f fs (g ∷ gs) h k =
    (skipped g f fs (at-not f g (all_head (precedes f) g gs h)) ∙ k.0, found-more f fs gs (all_tail (precedes f) g gs h) k.1)

found-less : (f : Frame) (fs gs : List Frame) → T (all (precedes f) gs) → Each (Found (f ∷ fs)) gs → Each (Found fs) gs
found-less f fs [] h k = tt
found-less f fs (g ∷ gs) h k =
    (sym (skipped g f fs (at-not f g (all_head (precedes f) g gs h))) ∙ k.0, found-less f fs gs (all_tail (precedes f) g gs h) k.1)

pub rising-found : (fs : List Frame) → T (rising fs) → Each (Found fs) fs
rising-found [] h = tt
rising-found (f ∷ fs) h =
    let a = T-left (all (precedes f) fs) (rising fs) h in
    (found_first f fs a, found-more f fs fs a (rising-found fs (T-right (all (precedes f) fs) (rising fs) h)))

rising-keep : (q : Frame → Bool) (fs : List Frame) → T (rising fs) → T (rising (keep q fs))
rising-keep q [] h = tt
rising-keep q (f ∷ fs) h = go (q f) (rising-keep q fs (T-right (all (precedes f) fs) (rising fs) h))
  where
    go : (b : Bool) → T (rising (keep q fs)) → T (rising (cond b (f ∷ keep q fs) (keep q fs)))
    go true k = T-both (all (precedes f) (keep q fs)) (rising (keep q fs)) (all_keep (precedes f) q fs (T-left (all (precedes f) fs) (rising fs) h)) k
    go false k = k

-- ---- frames fill slots

abbrev Placed : List Frame → Frame → Type 0
Placed ss f = T (any (at f) ss)

-- g precedes what has the kind and index of a slot that it precedes
precedes-by : (g f : Frame) (ss : List Frame) → T (all (precedes g) ss) → Placed ss f → T (precedes g f)
precedes-by g f [] h k = absurd k
precedes-by g f (s ∷ ss) h k =
    let a = all_head (precedes g) s ss h in
    T-either (at f s) (any (at f) ss) k
    (λ t. let e = at_same f s t in unfold precedes in rw (e.0, e.1) a)
    (λ t. precedes-by g f ss (all_tail (precedes g) s ss h) t)

all-precede : (g f : Frame) (fs : List Frame) → T (precedes g f) → T (all (precedes f) fs) → T (all (precedes g) fs)
all-precede g f [] h k = tt
all-precede g f (x ∷ fs) h k =
    T-both (precedes g x) (all (precedes g) fs) (precedes-trans g f x h (all_head (precedes f) x fs k)) (all-precede g f fs h (all_tail (precedes f) x fs k))

drop_false : (a b : Bool) → a ≡ false → T (a || b) → T b
drop_false a b e h = rw e at h

narrowed : (g : Frame) (ss fs : List Frame) → T (all (precedes g) fs) → Each (Placed (g ∷ ss)) fs → Each (Placed ss) fs
narrowed g ss [] h k = tt
narrowed g ss (f ∷ fs) h k =
    (drop_false (at f g) (any (at f) ss) (at-not g f (all_head (precedes g) f fs h)) k.0, narrowed g ss fs (all_tail (precedes g) f fs h) k.1)

-- frames fs that rise, are filled, stand each in one of the slots ss, and give each slot its contents
pub record Fits (ss fs : List Frame) : Type 0 where
  pub slots_rise : T (rising ss)
  pub frames_rise : T (rising fs)
  pub full : T (all nonempty fs)
  pub placed : Each (Placed ss) fs
  pub found : Each (Found fs) ss

kept-empty : (g : Frame) (ss fs : List Frame) → g.contents ≡ [] → fs ≡ keep nonempty ss → fs ≡ keep nonempty (g ∷ ss)
kept-empty g ss fs e h = rw e h

pub sparse : (ss fs : List Frame) → Fits ss fs → fs ≡ keep nonempty ss
unfolding contents_at
sparse [] [] x = refl
sparse [] (f ∷ fs) x = absurd x.placed.0
sparse (g ∷ ss) [] x =
    let ih = sparse ss [] (record { slots_rise = T-right (all (precedes g) ss) (rising ss) x.slots_rise; frames_rise = tt; full = tt; placed = tt; found = x.found.1 }) in
    kept-empty g ss [] (sym x.found.0) ih
sparse (g ∷ ss) (f ∷ fs) x = go (at g f) refl (sparse ss)
  where
    before-ss : T (all (precedes g) ss)
    before-ss = T-left (all (precedes g) ss) (rising ss) x.slots_rise

    ss-rise : T (rising ss)
    ss-rise = T-right (all (precedes g) ss) (rising ss) x.slots_rise

    before-fs : T (all (precedes f) fs)
    before-fs = T-left (all (precedes f) fs) (rising fs) x.frames_rise

    fs-rise : T (rising fs)
    fs-rise = T-right (all (precedes f) fs) (rising fs) x.frames_rise

    go : (b : Bool) → at g f ≡ b → ((fs' : List Frame) → Fits ss fs' → fs' ≡ keep nonempty ss) → f ∷ fs ≡ keep nonempty (g ∷ ss)
    go true e ih =
        let k : (g.kind ≡ f.kind) × (g.index ≡ f.index) = at_same g f (rw e tt) in
        let c : contents_at g.kind g.index (f ∷ fs) ≡ f.contents =
        ap (λ (i : ℕ). contents_at i g.index (f ∷ fs)) k.0 ∙ ap (λ (i : ℕ). contents_at f.kind i (f ∷ fs)) k.1 ∙ found_first f fs before-fs
        in
        let c' : f.contents ≡ g.contents = sym c ∙ x.found.0 in
        let same : f ≡ g = λ j. framed (sym k.0 j) (sym k.1 j) (c' j) in
        let after : T (all (precedes g) fs) = subst (λ (h : Frame). T (all (precedes h) fs)) same before-fs in
        let filled-g : nonempty g ≡ true = ap nonempty (sym same) ∙ is_true (nonempty f) (all_head nonempty f fs x.full) in
        let t = ih fs
        (record {
          slots_rise = ss-rise;
          frames_rise = fs-rise;
          full = all_tail nonempty f fs x.full;
          placed = narrowed g ss fs after x.placed.1;
          found = found-less g fs ss before-ss (subst (λ (h : Frame). Each (Found (h ∷ fs)) ss) same x.found.1);
        }) in
        rw filled-g (λ j. same j ∷ t j)
    go false e ih =
        let other : at f g ≡ false = at-false f g (λ k. subst T (sym (at_true g f (sym k.0) (sym k.1)) ∙ e) tt) in
        let in-ss : Placed ss f = drop_false (at f g) (any (at f) ss) other x.placed.0 in
        let first : T (precedes g f) = precedes-by g f ss before-ss in-ss in
        let all_after : T (all (precedes g) (f ∷ fs)) = T-both (precedes g f) (all (precedes g) fs) first (all-precede g f fs first before-fs) in
        let empty : g.contents ≡ [] = sym x.found.0 ∙ later-none g (f ∷ fs) all_after in
        let t = ih (f ∷ fs)
        (record {
          slots_rise = ss-rise;
          frames_rise = x.frames_rise;
          full = x.full;
          placed = narrowed g ss (f ∷ fs) all_after x.placed;
          found = x.found.1;
        }) in
        kept-empty g ss (f ∷ fs) empty t

-- ---- the slots of a state

module _ (k : ℕ) (q : Frame → Bool) where
  -- what holds for every index from n on below n + m
  numbered-all : (n : ℕ) (cs : List (List ℕ)) → ((i : ℕ) (c : List ℕ) → n ≤ i → i < n + length cs → T (q (framed k i c))) → T (all q (numbered k n cs))
  unfolding numbered
  numbered-all n [] h = tt
  numbered-all n (c ∷ cs) h =
      T-both (q (framed k n c)) (all q (numbered k (suc n) cs)) (h n c (omega arith) (omega arith)) (numbered-all (suc n) cs (λ i c a b. h i c (omega arith) (omega arith)))

numbered-rising : (k n : ℕ) (cs : List (List ℕ)) → T (rising (numbered k n cs))
unfolding numbered
numbered-rising k n [] = tt
numbered-rising k n (c ∷ cs) =
    let f = framed k n c in
    let r = numbered k (suc n) cs in
    T-both (all (precedes f) r) (rising r) (numbered-all k (precedes f) (suc n) cs (λ i d a b. lower-precedes f (framed k i d) (inr (refl, omega arith)))) (numbered-rising k (suc n) cs)

not_first : (i n : ℕ) → n ≤ i → (i ≡ n → ⊥) → suc n ≤ i
not_first i n a d = ⊎_elim (λ e. absurd (d (sym e))) (λ l. l) (eq-or-lt_of_le a)

numbered-any : (g : Frame) (k n : ℕ) (cs : List (List ℕ)) → g.kind ≡ k → n ≤ g.index → g.index < n + length cs → T (any (at g) (numbered k n cs))
unfolding numbered
numbered-any g k n [] e a b = absurd (omega arith)
numbered-any g k n (c ∷ cs) e a b = go (eqb g.index n) refl (numbered-any g k (suc n) cs e)
  where
    go : (q : Bool) → eqb g.index n ≡ q → (suc n ≤ g.index → g.index < suc n + length cs → T (any (at g) (numbered k (suc n) cs)))
        → T (at g (framed k n c) || any (at g) (numbered k (suc n) cs))
    go true q h = let x = at_true g (framed k n c) e (eqb-true g.index n q) in rw x tt
    go false q h =
        let d : g.index ≡ n → ⊥ = eqb-false g.index n q in
        let l : suc n ≤ g.index = not_first g.index n a d in
        T-second (at g (framed k n c)) (any (at g) (numbered k (suc n) cs)) (h l (omega arith))

-- frames of a lower kind come first
rising-append : (fs gs : List Frame) → T (rising fs) → T (rising gs) → Each (λ f. T (all (precedes f) gs)) fs → T (rising (fs ++ gs))
rising-append [] gs h k e = k
rising-append (f ∷ fs) gs h k e =
    T-both (all (precedes f) (fs ++ gs)) (rising (fs ++ gs)) (all_append (precedes f) fs gs (T-left (all (precedes f) fs) (rising fs) h) e.0)
    (rising-append fs gs (T-right (all (precedes f) fs) (rising fs) h) k e.1)

numbered-each : (P : Frame → Type 0) (k n : ℕ) (cs : List (List ℕ)) → ((i : ℕ) (c : List ℕ) → P (framed k i c)) → Each P (numbered k n cs)
unfolding numbered
numbered-each P k n [] h = tt
numbered-each P k n (c ∷ cs) h = (h n c, numbered-each P k (suc n) cs h)

lower-kind : (f : Frame) (k n : ℕ) (cs : List (List ℕ)) → f.kind < k → T (all (precedes f) (numbered k n cs))
lower-kind f k n cs h = numbered-all k (precedes f) n cs (λ i c a b. lower-precedes f (framed k i c) (inl h))

module _ (s : State) where
  abbrev N5 : List Frame
  N5 = framed 5 0 (stack_bytes s) ∷ []

  abbrev N4 : List Frame
  N4 = numbered 4 1 s.store.outputs

  abbrev N3 : List Frame
  N3 = numbered 3 1 (files_bytes s)

  abbrev N2 : List Frame
  N2 = numbered 2 1 (expressions_bytes s)

  before-5 : (f : Frame) → f.kind < 5 → T (all (precedes f) N5)
  before-5 f h = T-both (precedes f (framed 5 0 (stack_bytes s))) true (lower-precedes f (framed 5 0 (stack_bytes s)) (inl h)) tt

  before-4 : (f : Frame) → f.kind < 4 → T (all (precedes f) (N4 ++ N5))
  before-4 f h = all_append (precedes f) N4 N5 (lower-kind f 4 1 s.store.outputs h) (before-5 f (omega arith))

  before-3 : (f : Frame) → f.kind < 3 → T (all (precedes f) (N3 ++ (N4 ++ N5)))
  before-3 f h = all_append (precedes f) N3 (N4 ++ N5) (lower-kind f 3 1 (files_bytes s) h) (before-4 f (omega arith))

  before-2 : (f : Frame) → f.kind < 2 → T (all (precedes f) (N2 ++ (N3 ++ (N4 ++ N5))))
  before-2 f h = all_append (precedes f) N2 (N3 ++ (N4 ++ N5)) (lower-kind f 2 1 (expressions_bytes s) h) (before-3 f (omega arith))

  pub slots_rise : T (rising (slots s))
  unfolding slots
  slots_rise =
      let r4 = rising-append N4 N5 (numbered-rising 4 1 s.store.outputs) tt (numbered-each (λ f. T (all (precedes f) N5)) 4 1 s.store.outputs (λ i c. before-5 (framed 4 i c) (omega arith))) in
      let r3 = rising-append N3 (N4 ++ N5) (numbered-rising 3 1 (files_bytes s)) r4 (numbered-each (λ f. T (all (precedes f) (N4 ++ N5))) 3 1 (files_bytes s) (λ i c. before-4 (framed 3 i c) (omega arith))) in
      let r2 = rising-append N2 (N3 ++ (N4 ++ N5)) (numbered-rising 2 1 (expressions_bytes s)) r3 (numbered-each (λ f. T (all (precedes f) (N3 ++ (N4 ++ N5)))) 2 1 (expressions_bytes s) (λ i c. before-3 (framed 2 i c) (omega arith))) in
      T-both (all (precedes (framed 1 0 (head_bytes s))) (N2 ++ (N3 ++ (N4 ++ N5)))) (rising (N2 ++ (N3 ++ (N4 ++ N5)))) (before-2 (framed 1 0 (head_bytes s)) (omega arith)) r2

  module _ (e : length s.store.exprs ≡ limit.expressions) (f : length s.store.files ≡ limit.files) (o : length s.store.outputs ≡ limit.outputs) where
    length-E : length (expressions_bytes s) ≡ limit.expressions
    length-E = length-map s.store.exprs components_bytes ∙ e

    length-F : length (files_bytes s) ≡ limit.files
    length-F = length-map s.store.files file_bytes ∙ f

    -- every slot is listed
    pub slots-listed : T (all listed (slots s))
    unfolding slots listed
    slots-listed =
        let l2 = length-E in
        let l3 = length-F in
        let a2 = numbered-all 2 listed 1 (expressions_bytes s) (λ i c a b. let x = le-leb 1 i a in let y = le-leb i limit.expressions (omega arith) in rw (x, y) tt) in
        let a3 = numbered-all 3 listed 1 (files_bytes s) (λ i c a b. let x = le-leb 1 i a in let y = le-leb i limit.files (omega arith) in rw (x, y) tt) in
        let a4 = numbered-all 4 listed 1 s.store.outputs (λ i c a b. let x = le-leb 1 i a in let y = le-leb i limit.outputs (omega arith) in rw (x, y) tt) in
        all_append listed N2 (N3 ++ (N4 ++ N5)) a2 (all_append listed N3 (N4 ++ N5) a3 (all_append listed N4 N5 a4 tt))

    -- and every listed kind and index is that of a slot
    abbrev N45 : List Frame
    N45 = N4 ++ N5

    abbrev N345 : List Frame
    N345 = N3 ++ N45

    abbrev N2345 : List Frame
    N2345 = N2 ++ N345

    module _ (g : Frame) where
      in_range : (k a b : ℕ) → T (eqb g.kind k && between a b g.index) → (g.kind ≡ k) × (a ≤ g.index) × (g.index ≤ b)
      in_range k a b h =
          let x = eqb g.kind k in
          let y = leb a g.index in
          let z = leb g.index b in
          let t = T-right x (y && z) h in
          (eqb→eq g.kind k (T-left x (y && z) h), leb→le a g.index (T-left y z t), leb→le g.index b (T-right y z t))

      at_head : T (eqb g.kind 1 && between 0 0 g.index) → T (at g (framed 1 0 (head_bytes s)) || any (at g) N2345)
      at_head h = let r = in_range 1 0 0 h in let i : g.index ≡ 0 = omega (arith, r.2) in let x = at_true g (framed 1 0 (head_bytes s)) r.0 i in rw x tt

      at-expr : T (eqb g.kind 2 && between 1 limit.expressions g.index) → T (any (at g) N2345)
      at-expr h =
          let r = in_range 2 1 limit.expressions h in
          any_left (at g) N2 N345 (numbered-any g 2 1 (expressions_bytes s) r.0 r.1 (omega (arith, r.2, length-E)))

      at-file : T (eqb g.kind 3 && between 1 limit.files g.index) → T (any (at g) N345)
      at-file h =
          let r = in_range 3 1 limit.files h in
          any_left (at g) N3 N45 (numbered-any g 3 1 (files_bytes s) r.0 r.1 (omega (arith, r.2, length-F)))

      at-output : T (eqb g.kind 4 && between 1 limit.outputs g.index) → T (any (at g) N45)
      at-output h =
          let r = in_range 4 1 limit.outputs h in
          any_left (at g) N4 N5 (numbered-any g 4 1 s.store.outputs r.0 r.1 (omega (arith, r.2, o)))

      at-stack : T (eqb g.kind 5 && between 0 0 g.index) → T (any (at g) N5)
      at-stack h = let r = in_range 5 0 0 h in let i : g.index ≡ 0 = omega (arith, r.2) in let x = at_true g (framed 5 0 (stack_bytes s)) r.0 i in rw x tt

      abbrev r1 : Bool
      r1 = eqb g.kind 1 && between 0 0 g.index

      abbrev r2 : Bool
      r2 = eqb g.kind 2 && between 1 limit.expressions g.index

      abbrev r3 : Bool
      r3 = eqb g.kind 3 && between 1 limit.files g.index

      abbrev r4 : Bool
      r4 = eqb g.kind 4 && between 1 limit.outputs g.index

      abbrev r5 : Bool
      r5 = eqb g.kind 5 && between 0 0 g.index

      listed-placed : T (listed g) → Placed (slots s) g
      unfolding slots listed
      listed-placed h =
          T-either r1 (r2 || (r3 || (r4 || (r5 || false)))) h at_head
          (λ h2. T-second (at g (framed 1 0 (head_bytes s))) (any (at g) N2345)
          (T-either r2 (r3 || (r4 || (r5 || false))) h2 at-expr
          (λ h3. any-right (at g) N2 N345
          (T-either r3 (r4 || (r5 || false)) h3 at-file
          (λ h4. any-right (at g) N3 N45
          (T-either r4 (r5 || false) h4 at-output
          (λ h5. any-right (at g) N4 N5 (T-either r5 false h5 at-stack (λ z. absurd z)))))))))

    all_placed : (fs : List Frame) → T (all listed fs) → Each (Placed (slots s)) fs
    all_placed [] h = tt
    all_placed (g ∷ fs) h = (listed-placed g (all_head listed g fs h), all_placed fs (all_tail listed g fs h))

-- ---- question 69

module _ (p : Program) (ins : Inputs) (fs : List Frame) where
  abbrev s : State
  s = restored fs

  abbrev same : Bool
  same = same_frames fs (frames_of s)

  spelled : T (well_framed p ins fs) → InForm p ins fs
  unfolding well_framed
  spelled h =
      let g = T-right same (good_state p ins s) h in
      let e : fs ≡ frames_of s = same_frames-eq fs (frames_of s) (T-left same (good_state p ins s) h) in
      let facts = open-store ins s.store (open-state p ins s g).store in
      let r = slots_rise s in
      let l = slots-listed s facts.exprs facts.files facts.outputs in
      let kept : frames_of s ≡ keep nonempty (slots s) = unfold frames_of in refl in
      let is : fs ≡ keep nonempty (slots s) = e ∙ kept in
      let back : keep nonempty (slots s) ≡ fs = sym is in
      record {
        in_order = subst (λ (x : List Frame). T (rising x)) back (rising-keep nonempty (slots s) r);
        all_listed = subst (λ (x : List Frame). T (all listed x)) back (all_keep listed nonempty (slots s) l);
        none_empty = subst (λ (x : List Frame). T (all nonempty x)) back (all-kept nonempty (slots s));
        head_there = subst (λ (x : List Frame). T (any (is_at 1 0) x)) back (unfold slots in tt);
        laid_out =
            each_map (Found (slots s)) (Found fs)
            (λ x q. ap (contents_at x.kind x.index) is ∙ contents-keep x.kind x.index (slots s) ∙ q)
            (slots s) (rising-found (slots s) r);
        well_formed = g;
      }

  asked : InForm p ins fs → T (well_framed p ins fs)
  unfolding well_framed frames_of
  asked f =
      let facts = open-store ins s.store (open-state p ins s f.well_formed).store in
      let e : fs ≡ keep nonempty (slots s) =
      sparse (slots s) fs
      (record {
        slots_rise = slots_rise s;
        frames_rise = f.in_order;
        full = f.none_empty;
        placed = all_placed s facts.exprs facts.files facts.outputs fs f.all_listed;
        found = f.laid_out;
      }) in
      T-both same (good_state p ins s) (subst (λ (x : List Frame). T (same_frames fs x)) e (same_frames-refl fs)) f.well_formed

  -- "Are the frames in order, once each, the head there, none empty, and the state well formed? 69."
  pub means-69 : T (well_framed p ins fs) ↔ InForm p ins fs
  means-69 = (spelled, asked)
