-- Arguments that are the same by their bytes, a slot like a call, and a call that is found in a group of slots.
use Rattle.std.specs.Bool.{passes}
use Rattle.std.specs.Prelude.{Some, ◌≡◌, refl, true, false, List, [], ◌∷◌, ◌++◌, map, ℕ, zero, suc, ◌+◌, ◌-◌, ◌≤◌, ◌<◌, ltb, length, get_or, take, drop}
use Rattle.std.proofs.Common.{sym, ap, ◌∙◌, arith, take-add, take_at, drop_at, length-take-le}
use Rattle.std.proofs.lemmas.List.{drop-take, get_or-drop, get_or-take, length-take}
use Rattle.std.proofs.Math.Decide.{dec_lt}
use Rattle.std.proofs.Math.Seq.{take-take}
use Rattle.layout.specs.Cells.{tab}
use Rattle.lists.specs.Lists.{bytes_equal}
use Rattle.lists.specs.ListLaws.{same_bytes-eq}
use Rattle.macros.specs.Expansion.{just, filled_in, expand, levels}
use Rattle.macros.specs.Pieces.{Given}
use Rattle.macro_code.specs.Code.{given_in, call_in, body_in, macros_in, arguments_in, argument_count, argument_cell}
use Rattle.macro_values.specs.declared.Written.{Written}
use Rattle.macro_values.specs.WritingLaws.{wrote-more, some-within, some-size}
use Rattle.macro_values.specs.Wrote.{is_over, size_of, Wrote}
use Rattle.macro_memory.specs.Memory.{free_slot, slot_at, Like, Found, Alike}
use Rattle.macro_memory.specs.MemoryLaws.{or_left}
use Rattle.macro_memory.specs.declared.Entered.{Entered}
use Rattle.macro_memory.specs.declared.Slot.{Slot}

-- two values, one behind the other, in two halves that are the same
halves : (a b z : List ℕ) → length z ≡ length a → a ++ b ≡ z ++ z → a ≡ b
halves a b z e f =
    sym (take_at a b (length a) refl) ∙ ap (take (length a)) f ∙ take_at z z (length a) e ∙ sym (drop_at z z (length a) e) ∙ sym (ap (drop (length a)) f) ∙ drop_at a b (length a) refl

pub values_same : (a b o q p x y : List ℕ) (v w u : Written) → size_of v ≡ 0 → Wrote (just a) v w o q → Wrote (just b) w u q p → is_over u ≡ false
    → x ≡ take (size_of w) p → y ≡ take (size_of u - size_of w) (drop (size_of w) p) → true ≡ bytes_equal x y → a ≡ b
values_same a b o q p x y v w u none h k within e f same =
    let z : is_over w ≡ false = or_left (is_over w) (ltb (length q) (size_of w + length b)) (is_over u) k.over within in
    let both = (wrote-more a b v w u o q p h k).within within in
    let n : size_of w ≡ length a = omega (arith, (h.within z).0, none) in
    let m : size_of u ≡ size_of w + (size_of u - size_of w) = omega (arith, (k.within within).0) in
    let i : take (size_of v) o ≡ [] = ap (λ j. take j o) none in
    let t : take (size_of u) p ≡ a ++ b = both.1 ∙ ap (λ l. l ++ (a ++ b)) i in
    let r : x ++ y ≡ a ++ b = rw (e, f) (sym (take-add (size_of w) (size_of u - size_of w) p) ∙ ap (λ j. take j p) (sym m) ∙ t) in
    let g : x ≡ y = same_bytes-eq x y (passes (bytes_equal x y) (sym same)) in
    let l : length x ≡ length a = ap length e ∙ length-take-le (size_of w) p (omega (arith, h.most, h.size, k.size)) ∙ n in
    halves a b x l (sym r ∙ ap (λ j. x ++ j) (sym g))

-- the same halves as parts of what is written
pub values_cut : (a b o q p : List ℕ) (v w u : Written) (n m : ℕ) → size_of v ≡ 0 → Wrote (just a) v w o q → Wrote (just b) w u q p → w.count ≡ Some n → u.count ≡ Some m
    → true ≡ bytes_equal (take n (take m p)) (take (length (take m p) - n) (drop n (take m p))) → a ≡ b
values_cut a b o q p v w u n m none h k e f same =
    let x : size_of w ≡ n = some-size w n e in
    let y : size_of u ≡ m = some-size u m f in
    let z : size_of u ≡ size_of w + length b = (k.within (some-within u m f)).0 in
    let low : n ≤ m = omega (arith, x, y, z) in
    let back : m ≡ n + (m - n) = omega (arith, low) in
    let l : length (take m p) ≡ m = length-take-le m p (omega (arith, k.most, y)) in
    values_same a b o q p _ _ v w u none h k (some-within u m f)
    (take-take n m p low ∙ ap (λ j. take j p) (sym x))
    (ap (λ j. take (j - n) (drop n (take m p))) l
    ∙ ap (λ j. take (m - n) (drop n (take j p))) back
    ∙ ap (take (m - n)) (drop-take n (m - n) p)
    ∙ take-take (m - n) (m - n) (drop n p) (omega arith)
    ∙ (λ i. take (sym y i - sym x i) (drop (sym x i) p)))
    same

-- the arguments of two calls
same-tabs : {X Y : Type 0} (g h : X → Y) (n : ℕ) (a b : ℕ → X) → ((j : ℕ) → j < n → g (a j) ≡ h (b j)) → map g (tab n a) ≡ map h (tab n b)
unfolding tab
same-tabs g h zero a b e = refl
same-tabs g h (suc n) a b e =
    let x : g (a 0) ≡ h (b 0) = e 0 (omega arith) in
    let y = same-tabs g h n (λ k. a (suc k)) (λ k. b (suc k)) (λ j l. e (suc j) (omega (arith, l))) in
    λ i. x i ∷ y i

pub alike_all : (s c calls others : List ℕ) (depth i j n : ℕ) → n ≡ argument_count c i → n ≡ argument_count c j
    → ((k : ℕ) → k < n → filled_in (arguments_in s c calls depth) (given_in s c (argument_cell i k)) ≡ filled_in (arguments_in s c others depth) (given_in s c (argument_cell j k)))
    → Alike s c calls others depth i j
unfolding call_in
alike_all s c calls others depth i j n e f same =
    let a : ℕ → Given = λ k. given_in s c (argument_cell i k) in
    let b : ℕ → Given = λ k. given_in s c (argument_cell j k) in
    ap (λ m. map (filled_in (arguments_in s c calls depth)) (tab m a)) (sym e)
    ∙ same-tabs (filled_in (arguments_in s c calls depth)) (filled_in (arguments_in s c others depth)) n a b same
    ∙ ap (λ m. map (filled_in (arguments_in s c others depth)) (tab m b)) f

-- a slot like a call
pub like : (s c calls others : List ℕ) (at : Entered) (x : Slot) (i : ℕ) → x.left ≡ at.left → x.body ≡ at.body → x.calls ≡ others → 1 ≤ at.left → at.left ≤ levels
    → i ≡ get_or others (levels - at.left) 0 → Alike s c calls others (levels - at.left) at.cell i → Like s c calls at x
unfolding arguments_in
like s c calls others at x i a b o some most e same =
    let p : levels - (at.left - 1) ≡ suc (levels - at.left) = omega arith in
    record {
      some = λ z. omega (arith, z, a, some);
      writes_are = λ f n. rw (a, b, o, p) (rw e at (ap (λ env. expand (macros_in s c f n) (at.left - 1) env (body_in s c at.body)) (sym same)));
    }

-- a slot of a group like a call
pub found : (s c calls : List ℕ) (at : Entered) (slots : List Slot) (first n k : ℕ) → k < length (take n (drop first slots)) → Like s c calls at (get_or (take n (drop first slots)) k free_slot)
    → Found s c slots calls at.left at.cell at.body
found s c calls at slots first n k l e =
    let p : get_or (take n (drop first slots)) k free_slot ≡ slot_at slots (first + k) = get_or-take n (drop first slots) k free_slot (omega (arith, l, length-take n (drop first slots))) ∙ get_or-drop first slots k free_slot in
    let h : Like s c calls at (slot_at slots (first + k)) = rw p at e in
    record { changes_nothing = λ f n v r. rw (h.writes_are f n) at (r.absorbed (first + k) h.some) }

-- one number more
pub next-too : (g h : ℕ → List ℕ) (k : ℕ) → ((j : ℕ) → j < k → g j ≡ h j) → g k ≡ h k → (j : ℕ) → j < k + 1 → g j ≡ h j
next-too g h k same e j l = go (dec_lt j k)
  where
    go : Dec (j < k) → g j ≡ h j
    go (yes y) = same j y
    go (no y) =
        let z : j ≡ k = omega (arith, l, y) in
        rw z e
