-- What the reader's items are: their places lie in the text, their characters are known, and only words and texts have any.
use Rattle.std.specs.Prelude.{Bool, ◌&&◌, ◌||◌, ℕ, ◌+◌, ◌≤◌, ◌<◌, length, get_or, take}
use Rattle.std.proofs.Math.Bool.{true, false, cond, not}
use mathlib.Core.List.{List, [], ◌∷◌, ◌++◌}
use native.Mathlib.Omega.{arith}
use Rattle.std.proofs.Math.Dec.{T, eqb}
use Rattle.std.proofs.Math.ListN.{drop}
use Rattle.std.proofs.Common.{length-drop}
use Rattle.lists.specs.SearchLaws.{ahead-below}
use Rattle.layout.specs.Below.Lists.{all, ahead, head_or, if_any, among}
use Rattle.layout.specs.Below.Quoted.{bytes}
use Rattle.layout.specs.Below.ListLaws.{T-left, T-right, T-both, all-at}
use Rattle.layout.specs.Below.Characters.{known}
use Rattle.layout.specs.Bounds.{Each}
use Rattle.layout.proofs.CellLaws.{each_append, each-drop}
use Rattle.macros.specs.Below.Items.{Sort, sort_of, same_sort, Item, places, is, a_word, a_text, a_mark, pairs, is_pair, pair_of, ends_text, takes_next, char_of, allows, Mode, opens, begins, itself, mode_after, items_at, left_over, read, attach, named, parted, statements, statements_from}
use Rattle.macros.specs.Below.Items.Sort.{separator, word, colon, end, text, wrong}
use Rattle.macros.specs.Below.Items.Stage.{first-star, inside, last-slash}
use Rattle.macros.specs.Below.Items.Mode.{outside, in_word, in_comment, in_text}
use Rattle.acceptance.specs.Drafts.{SoundItem}

module _ (n : ℕ) where
  abbrev SoundMode : Mode → Type 0
  SoundMode outside = Unit {0}
  SoundMode (in_word at w) = at < n
  SoundMode (in_comment at k) = at < n
  SoundMode (in_text at star cs good) = (at < n) × (T good → T (all known cs))

  sound-mark : (k : Sort) (at : ℕ) → at < n → T (is word (a_mark k at) || is text (a_mark k at) || true) → SoundItem n (a_mark k at)
  sound-mark k at h t = record { place = h; plain = t; of_known = λ a b. tt }

  sound-word : (at : ℕ) (w : List ℕ) → at < n → SoundItem n (a_word at w)
  sound-word at w h = record { place = h; plain = tt; of_known = λ a b. absurd a }

  begins-sound : (k : Sort) (at b next : ℕ) → at < n → SoundMode (begins k at b next)
  unfolding begins
  begins-sound separator at b next h = tt
  begins-sound word at b next h = h
  begins-sound colon at b next h = tt
  begins-sound end at b next h = tt
  begins-sound text at b next h = (h, λ t. tt)
  begins-sound wrong at b next h = go (opens b next)
    where
      go : (t : Bool) → SoundMode (cond t (in_comment at first-star) outside)
      go true = h
      go false = tt

  itself-sound : (k : Sort) (at b next : ℕ) → at < n → Each (SoundItem n) (itself k at b next)
  unfolding itself
  itself-sound separator at b next h = tt
  itself-sound word at b next h = tt
  itself-sound colon at b next h = (sound-mark colon at h tt, tt)
  itself-sound end at b next h = (sound-mark end at h tt, tt)
  itself-sound text at b next h = tt
  itself-sound wrong at b next h = go (opens b next)
    where
      go : (t : Bool) → Each (SoundItem n) (cond t [] (a_mark wrong at ∷ []))
      go true = tt
      go false = (sound-mark wrong at h tt, tt)

  -- a star's pair and a byte that stands itself are known characters
  pair-known : (b : ℕ) → T (is_pair b) → T (known (pair_of b))
  unfolding known
  pair-known b h = all-at (λ p. known p.1) pairs tt (ahead (λ p. eqb b p.0) pairs) (0, 0) (ahead-below (λ p. eqb b p.0) pairs h)

  all_append : (cs ds : List ℕ) → T (all known cs) → T (all known ds) → T (all known (cs ++ ds))
  all_append [] ds h k = k
  all_append (c ∷ cs) ds h k = T-both (known c) (all known (cs ++ ds)) (T-left (known c) (all known cs) h) (all_append cs ds (T-right (known c) (all known cs) h) k)

  char_known : (star : Bool) (b : ℕ) → T (allows star b) → T (all known (char_of star b))
  unfolding allows char_of
  char_known true b h = T-both (known (pair_of b)) true (pair-known b h) tt
  char_known false b h = go (eqb b 42) h
    where
      go : (t : Bool) → T (t || (known b && not (among b (bytes "\n'")))) → T (all known (cond t [] (b ∷ [])))
      go true h = tt
      go false h = T-both (known b) true (T-left (known b) (not (among b (bytes "\n'"))) h) tt

  mode-sound : (m : Mode) (at b next : ℕ) → at < n → SoundMode m → SoundMode (mode_after m at b next)
  unfolding mode_after
  mode-sound outside at b next h s = begins-sound (sort_of b) at b next h
  mode-sound (in_word p w) at b next h s = go (same_sort word (sort_of b))
    where
      go : (t : Bool) → SoundMode (cond t (in_word p (w ++ (b ∷ []))) (begins (sort_of b) at b next))
      go true = s
      go false = begins-sound (sort_of b) at b next h
  mode-sound (in_comment p first-star) at b next h s = s
  mode-sound (in_comment p inside) at b next h s = s
  mode-sound (in_comment p last-slash) at b next h s = tt
  mode-sound (in_text p star cs good) at b next h s = go (ends_text star b)
    where
      go : (t : Bool) → SoundMode (cond t outside (in_text p (takes_next star b) (cs ++ char_of star b) (good && allows star b)))
      go true = tt
      go false = (s.0, λ g. all_append cs (char_of star b) (s.1 (T-left good (allows star b) g)) (char_known star b (T-right good (allows star b) g)))

  items-sound : (m : Mode) (at b next : ℕ) → at < n → SoundMode m → Each (SoundItem n) (items_at m at b next)
  unfolding items_at
  items-sound outside at b next h s = itself-sound (sort_of b) at b next h
  items-sound (in_word p w) at b next h s = go (same_sort word (sort_of b))
    where
      go : (t : Bool) → Each (SoundItem n) (cond t [] (a_word p w ∷ itself (sort_of b) at b next))
      go true = tt
      go false = (sound-word p w s, itself-sound (sort_of b) at b next h)
  items-sound (in_comment p k) at b next h s = tt
  items-sound (in_text p star cs good) at b next h s = go (ends_text star b) (eqb b 39)
    where
      go : (t u : Bool) → Each (SoundItem n) (cond t (a_text p cs (good && u) ∷ cond u [] (a_mark end at ∷ [])) [])
      go true true = (record { place = s.0; plain = tt; of_known = λ a g. s.1 (T-left good true g) }, tt)
      go true false = (record { place = s.0; plain = tt; of_known = λ a g. s.1 (T-left good false g) }, (sound-mark end at h tt, tt))
      go false u = tt

  left-sound : (m : Mode) → SoundMode m → Each (SoundItem n) (left_over m)
  unfolding left_over
  left-sound outside s = tt
  left-sound (in_word p w) s = (sound-word p w s, tt)
  left-sound (in_comment p k) s = (sound-mark wrong p s tt, tt)
  left-sound (in_text p star cs good) s = (record { place = s.0; plain = tt; of_known = λ a g. absurd g }, tt)

  read-sound : (m : Mode) (at : ℕ) (r : List ℕ) → SoundMode m → at + length r ≤ n → Each (SoundItem n) (read m at r)
  unfolding read
  read-sound m at [] s h = left-sound m s
  read-sound m at (b ∷ r) s h =
      let here : at < n = omega arith in
      each_append (SoundItem n) (items_at m at b (get_or r 0 0)) (read (mode_after m at b (get_or r 0 0)) (at + 1) r)
      (items-sound m at b (get_or r 0 0) here s)
      (read-sound (mode_after m at b (get_or r 0 0)) (at + 1) r (mode-sound m at b (get_or r 0 0) here s) (omega arith))

  attach-sound : (i : Item) (js : List Item) → SoundItem n i → Each (SoundItem n) js → Each (SoundItem n) (attach i js)
  unfolding attach
  attach-sound i js h k = go (is word i && if_any false (is colon) js)
    where
      go : (t : Bool)
          → Each (SoundItem n) (cond t (record { at = i.at; sort = word; chars = i.chars; good = i.good; colon = places (take 1 js) } ∷ drop 1 js) (i ∷ js))
      go true = (record { place = h.place; plain = tt; of_known = λ a g. absurd a }, each-drop (SoundItem n) 1 js k)
      go false = (h, k)

  named-sound : (js : List Item) → Each (SoundItem n) js → Each (SoundItem n) (named js)
  unfolding named
  named-sound [] h = tt
  named-sound (i ∷ js) h = attach-sound i (named js) h.0 (named-sound js h.1)

  pub head-sound : (xs : List (List Item)) → Each (Each (SoundItem n)) xs → Each (SoundItem n) (head_or [] xs)
  head-sound [] h = tt
  head-sound (x ∷ xs) h = h.0

  parted-sound : (i : Item) (xs : List (List Item)) → SoundItem n i → Each (Each (SoundItem n)) xs → Each (Each (SoundItem n)) (parted i xs)
  unfolding parted
  parted-sound i xs h k = go (is end i)
    where
      go : (t : Bool) → Each (Each (SoundItem n)) (cond t ([] ∷ xs) ((i ∷ head_or [] xs) ∷ drop 1 xs))
      go true = (tt, k)
      go false = ((h, head-sound xs k), each-drop (Each (SoundItem n)) 1 xs k)

  parts-sound : (js : List Item) → Each (SoundItem n) js → Each (Each (SoundItem n)) (statements js)
  unfolding statements
  parts-sound [] h = (tt, tt)
  parts-sound (i ∷ js) h = parted-sound i (statements js) h.0 (parts-sound js h.1)

-- every item of every statement from a place on, and of every statement of a text
pub statements-sound-from : (s : List ℕ) (n : ℕ) → n ≤ length s → Each (Each (SoundItem (length s))) (statements_from n (drop n s))
statements-sound-from s n h =
    let r : List ℕ = drop n s in
    parts-sound (length s) (named (read outside n r))
    (named-sound (length s) (read outside n r) (read-sound (length s) outside n r tt (omega (arith, length-drop n s, h))))

pub statements-sound : (s : List ℕ) → Each (Each (SoundItem (length s))) (statements_from 0 s)
statements-sound s = statements-sound-from s 0 (omega arith)
