-- The reader at other places: naturality of items, of words with their colons, of statements; and statements in the other edition.
use Rattle.std.specs.Prelude.{◌≡◌, Bool, true, ◌&&◌, length, get_or, take}
use Rattle.std.proofs.Math.Path.{refl, ap, sym}
use Rattle.std.proofs.Common.{◌∙◌, arith, length-append}
use Rattle.std.proofs.Math.Bool.{false, cond}
use mathlib.Core.List.{List, [], ◌∷◌, ◌++◌, map, map-append, append_assoc}
use Prim.Native.Nat.{ℕ, ◌+◌}
use Rattle.std.proofs.Math.Dec.{eqb}
use Rattle.std.proofs.Math.ListN.{drop}
use Rattle.std.proofs.lemmas.List.{get_or_at, drop-map, take-map}
use Rattle.std.proofs.lemmas.List.Elements.{filter-append}
use Rattle.lists.specs.Lists.{head_or, if_any, keep, each}
use Rattle.syntax.specs.Items.{Sort, sort_of, same_sort, Item, is, places, a_word, a_text, a_mark, ends_text, takes_next, char_of, allows, Mode, opens, begins, itself, mode_after, items_at, left_over, read, attach, named, parted, statements, line_of, up_from, lines_of, line_at}
use Rattle.syntax.specs.Items.Sort.{separator, word, colon, end, text, wrong}
use Rattle.syntax.specs.Items.Stage.{first-star, inside, last-slash}
use Rattle.syntax.specs.Items.Mode.{outside, in_word, in_comment, in_text}
use Rattle.syntax.specs.Statements.{is_operator, operator, behind}
use Rattle.syntax.proofs.LineLaws.{line-here}
use Rattle.syntax.proofs.LoadLaws.{named-leads}
use Rattle.macros.proofs.LineLaws.{line_on}
use Rattle.editions.proofs.MapLaws.{map-cond, map-head_or, map-if_any}
use Rattle.editions.specs.Moving.{moved}
use Rattle.editions.proofs.MovingLaws.{moved-places}
use Rattle.editions.specs.Rewriting.{reading, next_place, next_line, nowhere, colon_next, operators_in}
use Rattle.editions.specs.Turning.{respelled_item, turned_if, turned, turned_items}

-- Places

-- the reader of the specification
pub read-places : (m : Mode) (n : ℕ) (r : List ℕ) → read m n r ≡ reading next_place m n r
unfolding read reading
read-places m n [] = refl
read-places m n (b ∷ r) = ap (λ js. items_at m n b (get_or r 0 0) ++ js) (read-places (mode_after m n b (get_or r 0 0)) (n + 1) r)

module _ (f : ℕ → ℕ) where
  abbrev pub moved_mode : Mode → Mode
  moved_mode outside = outside
  moved_mode (in_word at w) = in_word (f at) w
  moved_mode (in_comment at k) = in_comment (f at) k
  moved_mode (in_text at star cs good) = in_text (f at) star cs good

  cond-mode : (b : Bool) (x y : Mode) → moved_mode (cond b x y) ≡ cond b (moved_mode x) (moved_mode y)
  cond-mode true x y = refl
  cond-mode false x y = refl

  moved-begins : (k : Sort) (n b next : ℕ) → begins k (f n) b next ≡ moved_mode (begins k n b next)
  unfolding begins
  moved-begins separator n b next = refl
  moved-begins word n b next = refl
  moved-begins colon n b next = refl
  moved-begins end n b next = refl
  moved-begins text n b next = refl
  moved-begins wrong n b next = sym (cond-mode (opens b next) (in_comment n first-star) outside)

  moved-itself : (k : Sort) (n b next : ℕ) → itself k (f n) b next ≡ map (moved f) (itself k n b next)
  unfolding itself
  moved-itself separator n b next = refl
  moved-itself word n b next = refl
  moved-itself colon n b next = refl
  moved-itself end n b next = refl
  moved-itself text n b next = refl
  moved-itself wrong n b next = sym (map-cond (moved f) (opens b next) [] (a_mark wrong n ∷ []))

  moved-after : (m : Mode) (n b next : ℕ) → mode_after (moved_mode m) (f n) b next ≡ moved_mode (mode_after m n b next)
  unfolding mode_after
  moved-after outside n b next = moved-begins (sort_of b) n b next
  moved-after (in_word at w) n b next =
      ap (cond (same_sort word (sort_of b)) (in_word (f at) (w ++ (b ∷ [])))) (moved-begins (sort_of b) n b next)
      ∙ sym (cond-mode (same_sort word (sort_of b)) (in_word at (w ++ (b ∷ []))) (begins (sort_of b) n b next))
  moved-after (in_comment at first-star) n b next = refl
  moved-after (in_comment at inside) n b next = refl
  moved-after (in_comment at last-slash) n b next = refl
  moved-after (in_text at star cs good) n b next =
      sym (cond-mode (ends_text star b) outside (in_text at (takes_next star b) (cs ++ char_of star b) (good && allows star b)))

  moved-items : (m : Mode) (n b next : ℕ) → items_at (moved_mode m) (f n) b next ≡ map (moved f) (items_at m n b next)
  unfolding items_at
  moved-items outside n b next = moved-itself (sort_of b) n b next
  moved-items (in_word at w) n b next =
      ap (λ js. cond (same_sort word (sort_of b)) [] (a_word (f at) w ∷ js)) (moved-itself (sort_of b) n b next)
      ∙ sym (map-cond (moved f) (same_sort word (sort_of b)) [] (a_word at w ∷ itself (sort_of b) n b next))
  moved-items (in_comment at k) n b next = refl
  moved-items (in_text at star cs good) n b next =
      ap (λ js. cond (ends_text star b) (a_text (f at) cs (good && eqb b 39) ∷ js) []) (sym (map-cond (moved f) (eqb b 39) [] (a_mark end n ∷ [])))
      ∙ sym (map-cond (moved f) (ends_text star b) (a_text at cs (good && eqb b 39) ∷ cond (eqb b 39) [] (a_mark end n ∷ [])) [])

  moved-left : (m : Mode) → left_over (moved_mode m) ≡ map (moved f) (left_over m)
  unfolding left_over
  moved-left outside = refl
  moved-left (in_word at w) = refl
  moved-left (in_comment at k) = refl
  moved-left (in_text at star cs good) = refl

  module _ (g h : ℕ → ℕ → ℕ) where
    -- f takes the places of some bytes by g to their places by h; the place past the last byte may be any
    abbrev pub Follows : ℕ → List ℕ → Type 0
    Follows n [] = Unit {0}
    Follows n (b ∷ []) = Unit {0}
    Follows n (b ∷ c ∷ r) = (f (g n b) ≡ h (f n) b) × Follows (g n b) (c ∷ r)

    one-moved : (m : Mode) (n b : ℕ) (r : List ℕ)
        → reading h (moved_mode (mode_after m n b (get_or r 0 0))) (h (f n) b) r ≡ map (moved f) (reading g (mode_after m n b (get_or r 0 0)) (g n b) r)
        → reading h (moved_mode m) (f n) (b ∷ r) ≡ map (moved f) (reading g m n (b ∷ r))
    unfolding reading
    one-moved m n b r k =
        ap (λ js. js ++ reading h (mode_after (moved_mode m) (f n) b (get_or r 0 0)) (h (f n) b) r) (moved-items m n b (get_or r 0 0))
        ∙ ap (λ l. map (moved f) (items_at m n b (get_or r 0 0)) ++ reading h l (h (f n) b) r) (moved-after m n b (get_or r 0 0))
        ∙ ap (λ js. map (moved f) (items_at m n b (get_or r 0 0)) ++ js) k
        ∙ sym (map-append (moved f) (items_at m n b (get_or r 0 0)) (reading g (mode_after m n b (get_or r 0 0)) (g n b) r))

    pub moved-reading : (m : Mode) (n : ℕ) (r : List ℕ) → Follows n r → reading h (moved_mode m) (f n) r ≡ map (moved f) (reading g m n r)
    unfolding reading
    moved-reading m n [] k = moved-left m
    moved-reading m n (b ∷ []) k = one-moved m n b [] (moved-left (mode_after m n b 0))
    moved-reading m n (b ∷ c ∷ r) k =
        one-moved m n b (c ∷ r)
        (ap (λ z. reading h (moved_mode (mode_after m n b c)) z (c ∷ r)) (sym k.0) ∙ moved-reading (mode_after m n b c) (g n b) (c ∷ r) k.1)

  -- Words with their colons, and statements

  moved-attach : (i : Item) (js : List Item) → attach (moved f i) (map (moved f) js) ≡ map (moved f) (attach i js)
  unfolding attach
  moved-attach i js =
      λ k. (ap (λ b. cond (is word i && b) (shown (places (take 1 (map (moved f) js))) ∷ drop 1 (map (moved f) js)) (moved f i ∷ map (moved f) js)) (map-if_any (moved f) false (is colon) js)
      ∙ ap (λ ps. cond (is word i && if_any false (is colon) js) (shown ps ∷ drop 1 (map (moved f) js)) (moved f i ∷ map (moved f) js))
      (ap places (take-map (moved f) 1 js) ∙ moved-places f (take 1 js))
      ∙ ap (λ zs. cond (is word i && if_any false (is colon) js) (shown (map f (places (take 1 js))) ∷ zs) (moved f i ∷ map (moved f) js)) (drop-map (moved f) 1 js)
      ∙ sym (map-cond (moved f) (is word i && if_any false (is colon) js)
      (record { at = i.at; sort = word; chars = i.chars; good = i.good; colon = places (take 1 js) } ∷ drop 1 js) (i ∷ js))) k
    where
      shown : List ℕ → Item
      shown ps = record { at = f i.at; sort = word; chars = i.chars; good = i.good; colon = ps }

  pub moved_named : (js : List Item) → named (map (moved f) js) ≡ map (moved f) (named js)
  unfolding named
  moved_named [] = refl
  moved_named (i ∷ js) = ap (attach (moved f i)) (moved_named js) ∙ moved-attach i (named js)

  moved-parted : (i : Item) (xs : List (List Item)) → parted (moved f i) (map (map (moved f)) xs) ≡ map (map (moved f)) (parted i xs)
  unfolding parted
  moved-parted i xs =
      ap (λ zs. cond (is end i) ([] ∷ map (map (moved f)) xs) ((moved f i ∷ zs) ∷ drop 1 (map (map (moved f)) xs))) (map-head_or (map (moved f)) [] xs)
      ∙ ap (λ zs. cond (is end i) ([] ∷ map (map (moved f)) xs) (map (moved f) (i ∷ head_or [] xs) ∷ zs)) (drop-map (map (moved f)) 1 xs)
      ∙ sym (map-cond (map (moved f)) (is end i) ([] ∷ xs) ((i ∷ head_or [] xs) ∷ drop 1 xs))

  pub moved-statements : (js : List Item) → statements (map (moved f) js) ≡ map (map (moved f)) (statements js)
  unfolding statements
  moved-statements [] = refl
  moved-statements (i ∷ js) = ap (parted (moved f i)) (moved-statements js) ∙ moved-parted i (statements js)

-- the lines of places

abbrev pub lines_by : List ℕ → ℕ → ℕ
lines_by s = line_at (lines_of s)

-- the line of a byte and of the next one
line-next : (u : List ℕ) (b c : ℕ) (r : List ℕ) (n : ℕ) → n ≡ length u
    → lines_by (u ++ (b ∷ c ∷ r)) (n + 1) ≡ next_line (lines_by (u ++ (b ∷ c ∷ r)) n) b
line-next u b c r n h =
    let s = u ++ (b ∷ c ∷ r) in
    let l = length-append u (b ∷ c ∷ r) in
    line-here s (n + 1) 1 (omega (arith, h, l)) ∙ line_on s n (omega (arith, h, l)) ∙ ap (λ k. line_of s n + cond (eqb 10 k) 1 0) (get_or_at u b (c ∷ r) 0 n (sym h))
    ∙ go (eqb 10 b) ∙ ap (λ k. next_line k b) (sym (line-here s n 1 (omega (arith, h, l))))
  where
    go : (t : Bool) → line_of (u ++ (b ∷ c ∷ r)) n + cond t 1 0 ≡ cond t (line_of (u ++ (b ∷ c ∷ r)) n + 1) (line_of (u ++ (b ∷ c ∷ r)) n)
    go true = refl
    go false = omega arith

lines-follow : (s u r : List ℕ) (n : ℕ) → n ≡ length u → s ≡ u ++ r → Follows (lines_by s) next_place next_line n r
lines-follow s u [] n h e = tt
lines-follow s u (b ∷ []) n h e = tt
lines-follow s u (b ∷ c ∷ r) n h e = (
  rw e (line-next u b c r n h),
  lines-follow s (u ++ (b ∷ [])) (c ∷ r) (n + 1) (omega (arith, h, length-append u (b ∷ []))) (e ∙ sym (append_assoc u (b ∷ []) (c ∷ r))),
)

line_first : (s : List ℕ) → lines_by s 0 ≡ 1
unfolding lines_of up_from line_of
line_first [] = refl
line_first (b ∷ s) = refl

-- a function that tells the line of each place of a text; the row of its lines is one
pub record Lines (f : ℕ → ℕ) (s : List ℕ) : Type 0 where
  pub first : f 0 ≡ 1
  pub follows : Follows f next_place next_line 0 s

pub its-lines : (s : List ℕ) → Lines (lines_by s) s
its-lines s = record { first = line_first s; follows = lines-follow s [] s 0 refl refl }

pub read-lines : (f : ℕ → ℕ) (s : List ℕ) → Lines f s → map (moved f) (read outside 0 s) ≡ reading next_line outside 1 s
read-lines f s l =
    ap (map (moved f)) (read-places outside 0 s)
    ∙ sym (moved-reading f next_place next_line outside 0 s l.follows)
    ∙ ap (λ n. reading next_line outside n s) l.first

-- A colon is the next item wherever the bytes stand

anywhere : (g : ℕ → ℕ → ℕ) (n : ℕ) (r : List ℕ) → Follows (λ k. 0) g nowhere n r
anywhere g n [] = tt
anywhere g n (b ∷ []) = tt
anywhere g n (b ∷ c ∷ r) = (refl, anywhere g (g n b) (c ∷ r))

pub colon-anywhere : (g : ℕ → ℕ → ℕ) (n : ℕ) (r : List ℕ) → if_any false (is colon) (named (reading g outside n r)) ≡ colon_next r
unfolding colon_next
colon-anywhere g n r =
    named-leads (reading g outside n r)
    ∙ sym (map-if_any (moved (λ k. 0)) false (is colon) (reading g outside n r))
    ∙ ap (if_any false (is colon)) (sym (moved-reading (λ k. 0) g nowhere outside n r (anywhere g n r)))

-- Statements in the other edition

turned_none : (x : List Item) → turned_if false x ≡ x
unfolding turned_if
turned_none [] = refl
turned_none (i ∷ js) = ap (λ zs. i ∷ zs) (turned_none js)

unfoldable turned_from : Bool → List (List Item) → List (List Item)
turned_from p [] = []
turned_from p (x ∷ xs) = turned_if p x ∷ map turned xs

from_all : (xs : List (List Item)) → turned_from true xs ≡ map turned xs
unfolding turned_from
from_all [] = refl
from_all (x ∷ xs) = refl

from-head : (p : Bool) (xs : List (List Item)) → head_or [] (turned_from p xs) ≡ turned_if p (head_or [] xs)
unfolding turned_from turned_if
from-head p [] = refl
from-head p (x ∷ xs) = refl

from-rest : (p : Bool) (xs : List (List Item)) → drop 1 (turned_from p xs) ≡ map turned (drop 1 xs)
unfolding turned_from
from-rest p [] = refl
from-rest p (x ∷ xs) = refl

statements_from-items : (p : Bool) (js : List Item) → statements (turned_items p js) ≡ turned_from p (statements js)
unfolding statements turned_items turned_from turned_if parted
statements_from-items p [] = refl
statements_from-items p (i ∷ js) = go (is end i) (p && is_operator i) refl refl (λ q. statements_from-items q js)
  where
    S : List (List Item)
    S = statements js

    go : (a b : Bool) → is end i ≡ a → (p && is_operator i) ≡ b → ((q : Bool) → statements (turned_items q js) ≡ turned_from q S)
        → statements (cond a (i ∷ turned_items true js) (cond b (respelled_item i ∷ turned_items false js) (i ∷ turned_items p js))) ≡ turned_from p (parted i S)
    go true b e q ih = rw e (ap (λ zs. [] ∷ zs) (ih true ∙ from_all S))
    go false true e q ih =
        rw (e, q)
        (ap (λ zs. (respelled_item i ∷ head_or [] zs) ∷ drop 1 zs) (ih false)
        ∙ ap (λ zs. (respelled_item i ∷ zs) ∷ drop 1 (turned_from false S)) (from-head false S ∙ turned_none (head_or [] S))
        ∙ ap (λ zs. (respelled_item i ∷ head_or [] S) ∷ zs) (from-rest false S))
    go false false e q ih =
        rw (e, q)
        (ap (λ zs. (i ∷ head_or [] zs) ∷ drop 1 zs) (ih p)
        ∙ ap (λ zs. (i ∷ zs) ∷ drop 1 (turned_from p S)) (from-head p S)
        ∙ ap (λ zs. (i ∷ turned_if p (head_or [] S)) ∷ zs) (from-rest p S))

pub turned-statements : (js : List Item) → statements (turned_items true js) ≡ map turned (statements js)
turned-statements js = statements_from-items true js ∙ from_all (statements js)

-- The operators of the items are those of the statements

each-head : (xs : List (List Item)) → each operator xs ≡ operator (head_or [] xs) ++ each operator (drop 1 xs)
unfolding behind
each-head [] = refl
each-head (x ∷ xs) = refl

operators-first : (p : Bool) (js : List Item) → keep (is word) (cond p (operator (head_or [] (statements js))) [] ++ each operator (drop 1 (statements js))) ≡ operators_in p js
unfolding statements operators_in parted behind
operators-first true [] = refl
operators-first false [] = refl
operators-first p (i ∷ js) = go (is end i) p (is_operator i) refl refl (λ q. operators-first q js)
  where
    S : List (List Item)
    S = statements js

    go : (a p b : Bool) → is end i ≡ a → is_operator i ≡ b → ((q : Bool) → keep (is word) (cond q (operator (head_or [] S)) [] ++ each operator (drop 1 S)) ≡ operators_in q js)
        → keep (is word) (cond p (operator (head_or [] (parted i S))) [] ++ each operator (drop 1 (parted i S)))
        ≡ cond a (operators_in true js) (cond (p && b) (keep (is word) (i ∷ []) ++ operators_in false js) (operators_in p js))
    go true true b e q ih = rw e (ap (keep (is word)) (each-head S) ∙ ih true)
    go true false b e q ih = rw e (ap (keep (is word)) (each-head S) ∙ ih true)
    go false true true e q ih = rw (e, q) (filter-append (is word) (i ∷ []) (each operator (drop 1 S)) ∙ ap (λ zs. keep (is word) (i ∷ []) ++ zs) (ih false))
    go false true false e q ih = rw (e, q) (ih true)
    go false false b e q ih = rw e (ih false)

pub operators-same : (js : List Item) → keep (is word) (each operator (statements js)) ≡ operators_in true js
operators-same js = ap (keep (is word)) (each-head (statements js)) ∙ operators-first true js
