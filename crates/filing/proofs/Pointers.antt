-- The state at work after the pointer of a file moves.
use mathlib.Core.Path.{◌≡◌, refl, sym, ap, ◌∙◌, subst}
use mathlib.Core.Bool.{Bool, true, false, ◌||◌}
use mathlib.Core.List.{List, [], ◌∷◌, ◌++◌, append_assoc}
use Prim.Native.Nat.{ℕ, suc, ◌+◌, ◌-◌, ◌≤◌, ◌<◌}
use native.Mathlib.Omega.{arith}
use lib.Dec.{T}
use lib.ListN.{length, take, drop, set, length-append, take-append-drop}
use lib.Seq.{take-append-le, drop-append-le, take-append-add, drop-append-add, get_or-set_other, set_comm}
use Rattle.lists.specs.Lists.{any, ahead}
use Rattle.language.specs.Limits as limit
use Rattle.language.specs.Letters.Letter.{P}
use Rattle.language.specs.Values.{Record, File, Store, State}
use Rattle.machine.specs.Arguments.{file_of, records}
use Rattle.machine.specs.Changes.{put_file, past_file, past_by, past, records_to, pointed}
use Rattle.layout.specs.Bounds.{Each, RecordOk}
use Rattle.layout.proofs.CellLaws.{each_append, each_left, each_right}
use Rattle.layout.proofs.ComponentLaws.{records_bytes-append}
use Rattle.layout.specs.Components.{records_bytes}
use Rattle.layout.specs.Memory.{components_held, chars_held, records_held}
use Rattle.layout.proofs.MemoryLaws.{before-encoded, after-encoded}
use Rattle.store.specs.Below.Gaps.{pushed_front, pushed_back}
use Rattle.store.specs.Below.Pool.{string}
use Rattle.strings.specs.Strings.{Movable}
use Rattle.store.specs.Store.{dropped_front, dropped_back, moved_front_to_back, moved_back_to_front}
use Rattle.state.specs.Blocks.{totalled}
use Rattle.layout.specs.Places.{before_string, after_string}
use Rattle.state.specs.Working.{Lies, on_store, nth, filing}
use Rattle.state.proofs.Standing.{string-is}
use Rattle.filing.specs.Files.{Passable, Pointable, pointed_at}
use Rattle.state.proofs.Sequences.{first-bytes, rest-bytes, bytes-within}
use Rattle.filing.proofs.Replaced.{holds-file}

-- the two strings of a file are not one
pub apart : (i j : ℕ) → after_string i ≡ before_string j → ⊥
apart i j q = omega arith

-- ---- bytes from one side of the pointer to the other

module _ (s : List (List ℕ)) (i m : ℕ) where
  abbrev B : List ℕ
  B = string (before_string i) s

  abbrev A : List ℕ
  A = string (after_string i) s

  forward : moved_front_to_back (after_string i) (before_string i) m s ≡ set (set s (before_string i) (B ++ take m A)) (after_string i) (drop m A)
  unfolding moved_front_to_back pushed_back dropped_front
  forward =
      rw (get_or-set_other s (after_string i) (before_string i) (drop m A) [] (λ q. apart i i (sym q)), set_comm s (after_string i) (before_string i) (drop m A) (B ++ take m A) (apart i i))

  backward : moved_back_to_front (before_string i) (after_string i) m s
      ≡ set (set s (before_string i) (take (length B - m) B)) (after_string i) (drop (length B - m) B ++ A)
  unfolding moved_back_to_front pushed_front dropped_back
  backward = rw (get_or-set_other s (before_string i) (after_string i) (take (length B - m) B) [] (apart i i))

-- ---- the pointer at another place of the same records

module _ {t : List (List ℕ)} {n : List ℕ} {s : State} (h : Lies t n s) {i : ℕ} (l : i < limit.files) where
  abbrev old : File
  old = file_of s.store (nth P i)

  before-is : string (before_string i) t ≡ records_bytes old.before
  before-is = string-is h (before_string i) ∙ (before-encoded s h.fine i l).is

  after_is : string (after_string i) t ≡ records_bytes old.after
  after_is = string-is h (after_string i) ∙ (after-encoded s h.fine i l).is

  all_ok : Each RecordOk (records old)
  all_ok =
      each_append RecordOk old.before old.after (before-encoded s h.fine i l).all_ok
      (after-encoded s h.fine i l).all_ok

  holds-pointer : {t' : List (List ℕ)} (xs ys : List Record) → xs ++ ys ≡ records old
      → t' ≡ set (set t (before_string i) (records_bytes xs)) (after_string i) (records_bytes ys)
      → Lies t' n (on_store (put_file (nth P i) xs ys) s)
  unfolding totalled put_file on_store
  holds-pointer xs ys q g =
      let k : Each RecordOk (xs ++ ys) = rw q all_ok in
      holds-file s h.fine i l (record { before = xs; after = ys }) s.store.last (components_held s.store) (chars_held s.store) (records_held s.store)
      (rw q) (rw q) (rw q)
      (record { before_ok = each_left RecordOk xs ys k; after_ok = each_right RecordOk xs ys k }) h.fine.last_most h.fine.components_most h.fine.chars_most
      h.fine.records_most (rw h.strings_is at g) h.numbers

  -- m bytes further on
  moved_on : {t' : List (List ℕ)} (xs ys : List Record) (m : ℕ) → xs ++ ys ≡ records old
      → records_bytes xs ≡ records_bytes old.before ++ take m (records_bytes old.after) → records_bytes ys ≡ drop m (records_bytes old.after)
      → t' ≡ moved_front_to_back (after_string i) (before_string i) m t
      → Lies t' n (on_store (put_file (nth P i) xs ys) s)
  moved_on xs ys m q x y g =
      holds-pointer xs ys q
      (rw (x, y) (rw (forward t i m, before-is, after_is) at g))

  -- b bytes after the front, in the records before the pointer
  moved_back : {t' : List (List ℕ)} (xs ys : List Record) (m b : ℕ) → xs ++ ys ≡ records old → length (records_bytes old.before) - m ≡ b
      → records_bytes xs ≡ take b (records_bytes old.before) → records_bytes ys ≡ drop b (records_bytes old.before) ++ records_bytes old.after
      → t' ≡ moved_back_to_front (before_string i) (after_string i) m t
      → Lies t' n (on_store (put_file (nth P i) xs ys) s)
  moved_back xs ys m b q r x y g =
      holds-pointer xs ys q
      (rw (x, y) (rw (backward t i m, before-is, after_is, r) at g))

  -- bytes of either side can be moved to the other
  on-movable : {m : ℕ} → m ≤ length (records_bytes old.after) → Movable t (after_string i) (before_string i) m
  on-movable w = record { source = omega (arith, l); target = omega (arith, l); within = rw after_is w }

  back-movable : {m : ℕ} → m ≤ length (records_bytes old.before) → Movable t (before_string i) (after_string i) m
  back-movable w = record { source = omega (arith, l); target = omega (arith, l); within = rw before-is w }

-- ---- past the first records

module _ {t : List (List ℕ)} {n : List ℕ} {s : State} (h : Lies t n s) {i k b : ℕ} (pre : Passable s i k b) where
  abbrev f : File
  f = file_of s.store (nth P i)

  pub pass-movable : Movable t (after_string i) (before_string i) b
  pass-movable = on-movable h pre.index (bytes-within records_bytes records_bytes-append f.after k pre.bytes_is)

  pub records-passed : {t' : List (List ℕ)} → t' ≡ moved_front_to_back (after_string i) (before_string i) b t
      → Lies t' n (on_store (past (nth (filing false) i) k) s)
  unfolding past past_by past_file put_file on_store
  records-passed g =
      moved_on h pre.index (f.before ++ take k f.after) (drop k f.after) b
      (append_assoc f.before (take k f.after) (drop k f.after) ∙ ap (λ (l : List Record). f.before ++ l) (take-append-drop k f.after))
      (records_bytes-append f.before (take k f.after) ∙ ap (λ (l : List ℕ). records_bytes f.before ++ l) (sym (first-bytes records_bytes records_bytes-append f.after k pre.bytes_is)))
      (sym (rest-bytes records_bytes records_bytes-append f.after k pre.bytes_is)) g

-- ---- behind the first records of the file

-- "Address 0 is the front of every file"; the pointer right after a record is behind as many records as stand up to it
pub pointed-is : (i n : ℕ) (s : Store) → pointed (nth P i) n s ≡ pointed_at i (records_to n (records (file_of s (nth P i)))) s
unfolding pointed pointed_at
pointed-is i n s = refl

-- records up to the first with q, which stands before the pointer, or after it
module _ (q : Record → Bool) (ts : List Record) where
  before-step : (b : Bool) (xs : List Record) → (any q xs ≡ true → ahead q (xs ++ ts) ≡ ahead q xs) → (b || any q xs) ≡ true
      → ◌≡◌ {A = ℕ} (elim b [ true ↦ 0 | false ↦ suc (ahead q (xs ++ ts)) ]) (elim b [ true ↦ 0 | false ↦ suc (ahead q xs) ])
  before-step true xs k h = refl
  before-step false xs k h = ap suc (k h)

  pub ahead_before : (xs : List Record) → any q xs ≡ true → ahead q (xs ++ ts) ≡ ahead q xs
  ahead_before [] h = absurd (subst T (sym h) tt)
  ahead_before (x ∷ xs) h = before-step (q x) xs (ahead_before xs) h

  after-step : (b : Bool) (xs : List Record) → (any q xs ≡ false → ahead q (xs ++ ts) ≡ length xs + ahead q ts) → (b || any q xs) ≡ false
      → ◌≡◌ {A = ℕ} (elim b [ true ↦ 0 | false ↦ suc (ahead q (xs ++ ts)) ]) (suc (length xs) + ahead q ts)
  after-step true xs k h = absurd (subst T h tt)
  after-step false xs k h = omega (arith, k h)

  pub ahead_after : (xs : List Record) → any q xs ≡ false → ahead q (xs ++ ts) ≡ length xs + ahead q ts
  ahead_after [] h = omega arith
  ahead_after (x ∷ xs) h = after-step (q x) xs (ahead_after xs) h

-- their bytes
pub first-before : (xs ys : List Record) (k : ℕ) {b : ℕ} → k ≤ length xs → b ≡ length (records_bytes (take k xs)) → b ≡ length (records_bytes (take k (xs ++ ys)))
first-before xs ys k h q = rw (take-append-le k xs ys h) q

pub first-after : (xs ys : List Record) (k : ℕ) {b : ℕ} → b ≡ length (records_bytes (take k ys))
    → length (records_bytes xs) + b ≡ length (records_bytes (take (length xs + k) (xs ++ ys)))
first-after xs ys k q = rw (take-append-add xs ys k, records_bytes-append xs (take k ys), length-append (records_bytes xs) (records_bytes (take k ys))) (omega (arith, q))

module _ {t : List (List ℕ)} {n : List ℕ} {s : State} (h : Lies t n s) {i k b : ℕ} (pre : Pointable s i k b) where
  abbrev r : File
  r = file_of s.store (nth P i)

  abbrev x : List ℕ
  x = records_bytes r.before

  abbrev y : List ℕ
  y = records_bytes r.after

  whole_is : records_bytes (records r) ≡ x ++ y
  whole_is = records_bytes-append r.before r.after

  first_is : records_bytes (take k (records r)) ≡ take b (x ++ y)
  first_is = sym (first-bytes records_bytes records_bytes-append (records r) k pre.bytes_is) ∙ ap (take b) whole_is

  rest_is : records_bytes (drop k (records r)) ≡ drop b (x ++ y)
  rest_is = sym (rest-bytes records_bytes records_bytes-append (records r) k pre.bytes_is) ∙ ap (drop b) whole_is

  most : b ≤ length x + length y
  most = omega (arith, bytes-within records_bytes records_bytes-append (records r) k pre.bytes_is, ap length whole_is, length-append x y)

  -- m is how many bytes stand before the pointer
  module _ {m : ℕ} (q : m ≡ length (string (before_string i) t)) where
    m-is : m ≡ length x
    m-is = q ∙ ap length (before-is h pre.index)

    pub point-on-movable : Movable t (after_string i) (before_string i) (b - m)
    point-on-movable = on-movable h pre.index (omega (arith, m-is, most))

    pub pointed-back : {t' : List (List ℕ)} → b ≤ m → t' ≡ moved_back_to_front (before_string i) (after_string i) (m - b) t
        → Lies t' n (on_store (pointed_at i k) s)
    unfolding pointed_at on_store
    pointed-back w g =
        let c : b ≤ length x = omega (arith, m-is) in
        moved_back h pre.index (take k (records r)) (drop k (records r)) (m - b) b (take-append-drop k (records r)) (omega (arith, m-is))
        (first_is ∙ take-append-le b x y c) (rest_is ∙ drop-append-le b x y c) g

    pub pointed-on : {t' : List (List ℕ)} → m < b → t' ≡ moved_front_to_back (after_string i) (before_string i) (b - m) t
        → Lies t' n (on_store (pointed_at i k) s)
    unfolding pointed_at on_store
    pointed-on w g =
        let c : b ≡ length x + (b - m) = omega (arith, m-is) in
        moved_on h pre.index (take k (records r)) (drop k (records r)) (b - m) (take-append-drop k (records r))
        (first_is ∙ ap (λ (z : ℕ). take z (x ++ y)) c ∙ take-append-add x y (b - m)) (rest_is ∙ ap (λ (z : ℕ). drop z (x ++ y)) c ∙ drop-append-add x y (b - m)) g
