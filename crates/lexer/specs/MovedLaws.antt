-- The items of a text's rest, counted from place n of the text on: they are those of the rest alone with all places moved by n; and so are its tokens.
use Rattle.std.specs.Prelude.{◌≡◌, Bool, true, false, cond, ◌&&◌, List, [], ◌∷◌, map, ℕ, ◌+◌, ◌-◌, ◌≤◌, eqb, length, get_or, take, drop}
use Rattle.std.proofs.Math.Path.{refl}
use Rattle.std.proofs.Common.{sym, ap, ◌∙◌, length-drop, drop-drop}
use Rattle.std.proofs.lemmas.List.{map-append}
use native.Mathlib.Omega.{arith}
use Rattle.scanner.specs.Below.Lists.{if_any}
use Rattle.scanner.specs.Below.Items as items
use Rattle.scanner.specs.Below.Items.{sort_of, same_sort, Item, is, places, a_word, a_text, a_mark, ends_text, Mode, opens, begins, itself, mode_after, items_at, left_over, read, attach, named}
use Rattle.scanner.specs.Below.Items.Sort.{separator, word, colon, end, text, wrong}
use Rattle.scanner.specs.Below.Items.Stage.{first-star, inside, last-slash}
use Rattle.scanner.specs.Below.Items.Mode.{outside, in_word, in_comment, in_text}
use Rattle.scanner.specs.declared.Sort.{Sort}
use Rattle.std.specs.Prelude.{Option, None, Some, IfSome}
use Rattle.std.specs.Option.{is_none, option_to_list}
use Rattle.lexer.specs.declared.Token.{Token}
use Rattle.lexer.specs.Tokens.{part, chars_by, chars_of, item_of, ColonWithin, moved_colon, items_from, Stands, NextToken, moved}

-- a token's colon stands in front of what is read next
pub colon-most : {s : List ℕ} {t : Token} → Stands s t → IfSome t.colon (λ c. c ≤ t.next)
colon-most {s} {t} k = go t.colon k.colon_within
  where
    go : (c : Option ℕ) → ColonWithin t.end t.next c → IfSome c (λ p. p ≤ t.next)
    go None w = tt
    go (Some c) w = w.1

-- places, an item, and what the reader has begun, moved by n
abbrev shifted : ℕ → List ℕ → List ℕ
shifted n ps = map (λ p. n + p) ps

abbrev pub shift : ℕ → Item → Item
shift n i = record { at = n + i.at; sort = i.sort; chars = i.chars; good = i.good; colon = shifted n i.colon }

abbrev shift_all : ℕ → List Item → List Item
shift_all n js = map (shift n) js

abbrev shift_mode : ℕ → Mode → Mode
shift_mode n outside = outside
shift_mode n (in_word at w) = in_word (n + at) w
shift_mode n (in_comment at k) = in_comment (n + at) k
shift_mode n (in_text at star cs good) = in_text (n + at) star cs good

-- what a byte is by itself, as a function of its place, is nothing or a mark; and it begins one of four modes
pub itself-case : (P : (ℕ → List Item) → Type 0) → P (λ n. []) → ((k : items.Sort) → P (λ n. a_mark k n ∷ [])) → (k : items.Sort) (b next : ℕ) → P (λ n. itself k n b next)
unfolding itself
itself-case P z f separator b next = z
itself-case P z f word b next = z
itself-case P z f colon b next = f colon
itself-case P z f end b next = f end
itself-case P z f text b next = z
itself-case P z f wrong b next = elim (opens b next) as (λ t. P (λ n. cond t [] (a_mark wrong n ∷ []))) [ true ↦ z | false ↦ f wrong ]

pub begins-case : (P : (ℕ → Mode) → Type 0) → P (λ n. outside) → ((b : ℕ) → P (λ n. in_word n (b ∷ []))) → P (λ n. in_comment n first-star) → P (λ n. in_text n false [] true)
    → (k : items.Sort) (b next : ℕ) → P (λ n. begins k n b next)
unfolding begins
begins-case P z w c x separator b next = z
begins-case P z w c x word b next = w b
begins-case P z w c x colon b next = z
begins-case P z w c x end b next = z
begins-case P z w c x text b next = x
begins-case P z w c x wrong b next = elim (opens b next) as (λ t. P (λ n. cond t (in_comment n first-star) outside)) [ true ↦ c | false ↦ z ]

itself-shifts : (k : items.Sort) (n p b next : ℕ) → itself k (n + p) b next ≡ shift_all n (itself k p b next)
itself-shifts k n p b next = itself-case (λ f. f (n + p) ≡ shift_all n (f p)) refl (λ k. refl) k b next

begins-shifts : (k : items.Sort) (n p b next : ℕ) → begins k (n + p) b next ≡ shift_mode n (begins k p b next)
begins-shifts k n p b next = begins-case (λ f. f (n + p) ≡ shift_mode n (f p)) refl (λ b. refl) refl refl k b next

cond-shifts : (n : ℕ) (t : Bool) (xs ys : List Item) → cond t (shift_all n xs) (shift_all n ys) ≡ shift_all n (cond t xs ys)
cond-shifts n true xs ys = refl
cond-shifts n false xs ys = refl

abbrev Step : ℕ → Mode → ℕ → ℕ → ℕ → Type 0
Step n m p b next =
    (items_at (shift_mode n m) (n + p) b next ≡ shift_all n (items_at m p b next))
    × (mode_after (shift_mode n m) (n + p) b next ≡ shift_mode n (mode_after m p b next))

step-shifts : (m : Mode) (n p b next : ℕ) → Step n m p b next
unfolding items_at mode_after
step-shifts outside n p b next = (itself-shifts (sort_of b) n p b next, begins-shifts (sort_of b) n p b next)
step-shifts (in_word at w) n p b next = go (same_sort word (sort_of b)) refl
  where
    go : (t : Bool) → same_sort word (sort_of b) ≡ t → Step n (in_word at w) p b next
    go true e = rw e (refl, refl)
    go false e = rw e (ap (λ js. shift n (a_word at w) ∷ js) (itself-shifts (sort_of b) n p b next), begins-shifts (sort_of b) n p b next)
step-shifts (in_comment at first-star) n p b next = (refl, refl)
step-shifts (in_comment at inside) n p b next = (refl, refl)
step-shifts (in_comment at last-slash) n p b next = (refl, refl)
step-shifts (in_text at star cs good) n p b next = go (ends_text star b) refl
  where
    go : (t : Bool) → ends_text star b ≡ t → Step n (in_text at star cs good) p b next
    go true e = rw e (ap (λ js. shift n (a_text at cs (good && eqb b 39)) ∷ js) (cond-shifts n (eqb b 39) [] (a_mark end p ∷ [])), refl)
    go false e = rw e (refl, refl)

left-shifts : (m : Mode) (n : ℕ) → left_over (shift_mode n m) ≡ shift_all n (left_over m)
unfolding left_over
left-shifts outside n = refl
left-shifts (in_word at w) n = refl
left-shifts (in_comment at k) n = refl
left-shifts (in_text at star cs good) n = refl

read-shifts : (m : Mode) (n p : ℕ) (r : List ℕ) → read (shift_mode n m) (n + p) r ≡ shift_all n (read m p r)
unfolding read
read-shifts m n p [] = left-shifts m n
read-shifts m n p (b ∷ r) =
    let next : ℕ = get_or r 0 0 in
    let q = step-shifts m n p b next in
    let one : n + p + 1 ≡ n + (p + 1) = omega arith in
    let tail : read (mode_after (shift_mode n m) (n + p) b next) (n + p + 1) r ≡ shift_all n (read (mode_after m p b next) (p + 1) r) = rw (q.1, one) (read-shifts (mode_after m p b next) n (p + 1) r) in
    rw (q.0, tail) (sym (map-append (shift n) (items_at m p b next) (read (mode_after m p b next) (p + 1) r)))

-- a word with its colon
drop-shifts : {X Y : Type 0} (f : X → Y) (xs : List X) → drop 1 (map f xs) ≡ map f (drop 1 xs)
drop-shifts f [] = refl
drop-shifts f (x ∷ xs) = refl

colon-shifts : (n : ℕ) (js : List Item) → places (take 1 (shift_all n js)) ≡ shifted n (places (take 1 js))
colon-shifts n [] = refl
colon-shifts n (j ∷ js) = refl

any-shifts : (n : ℕ) (js : List Item) → if_any false (is colon) (shift_all n js) ≡ if_any false (is colon) js
any-shifts n [] = refl
any-shifts n (j ∷ js) = refl

attach-shifts : (n : ℕ) (i : Item) (js : List Item) → attach (shift n i) (shift_all n js) ≡ shift_all n (attach i js)
unfolding attach
attach-shifts n i js =
    let whole : Item = record { at = i.at; sort = word; chars = i.chars; good = i.good; colon = places (take 1 js) } in
    rw (any-shifts n js, colon-shifts n js, drop-shifts (shift n) js)
    (cond-shifts n (is word i && if_any false (is colon) js) (whole ∷ drop 1 js) (i ∷ js))

named-shifts : (n : ℕ) (js : List Item) → named (shift_all n js) ≡ shift_all n (named js)
unfolding named
named-shifts n [] = refl
named-shifts n (i ∷ js) = ap (attach (shift n i)) (named-shifts n js) ∙ attach-shifts n i (named js)

-- What stands in s from place n + p on, where r is its rest from place n on
module _ (s : List ℕ) (n : ℕ) {r : List ℕ} (h : drop n s ≡ r) where
  rest_is : (p : ℕ) → drop (n + p) s ≡ drop p r
  rest_is p = sym (drop-drop p n s) ∙ ap (drop p) h

  items-shift : (p : ℕ) → items_from s (n + p) ≡ shift_all n (items_from r p)
  items-shift p = ap (λ l. named (read outside (n + p) l)) (rest_is p) ∙ ap named (read-shifts outside n p (drop p r)) ∙ named-shifts n (read outside p (drop p r))

  part-shifts : (a e : ℕ) → part s (n + a) (n + e) ≡ part r a e
  part-shifts a e =
      let l : n + e - (n + a) ≡ e - a = omega arith in
      rw (rest_is a, l) refl

  -- a token, its item and what it promises
  chars-moved-by : (k : Option Sort) (t : Token) → chars_by k s (moved n t) ≡ chars_by k r t
  chars-moved-by None t = refl
  chars-moved-by (Some Sort.Word) t = part-shifts t.at t.end
  chars-moved-by (Some Sort.Colon) t = refl
  chars-moved-by (Some Sort.End) t = refl
  chars-moved-by (Some Sort.Text) t = let l : n + t.at + 1 ≡ n + (t.at + 1) = omega arith in rw (l, part-shifts (t.at + 1) t.end) refl
  chars-moved-by (Some Sort.Wrong) t = refl

  chars-moved : (t : Token) → chars_of s (moved n t) ≡ chars_of r t
  unfolding chars_of
  chars-moved t = chars-moved-by t.sort t

  colon-moved : (c : Option ℕ) → option_to_list (moved_colon n c) ≡ shifted n (option_to_list c)
  colon-moved None = refl
  colon-moved (Some c) = refl

  pub item-moved : (t : Token) → item_of s (moved n t) ≡ shift n (item_of r t)
  item-moved t = rw (chars-moved t, colon-moved t.colon) refl

  within-moved : (e m : ℕ) (c : Option ℕ) → ColonWithin e m c → ColonWithin (n + e) (n + m) (moved_colon n c)
  within-moved e m None w = tt
  within-moved e m (Some c) w = (omega (arith, w.0), omega (arith, w.1))

  module _ (le : n ≤ length s) where
    pub moved-stands : {t : Token} → Stands r t → Stands s (moved n t)
    moved-stands {t} k =
        let long : length r ≡ length s - n = sym (ap length h) ∙ length-drop n s in
        record {
          own = omega (arith, k.own);
          behind = omega (arith, k.behind);
          most = omega (arith, k.most);
          colon_within = within-moved t.end t.next t.colon k.colon_within;
          some = λ z. omega (arith, k.some z);
          ending = λ z. omega (arith, k.ending z);
          fine = k.fine;
          count = ap length (chars-moved t) ∙ k.count;
        }

    pub moved-next : {i : ℕ} {t : Token} → NextToken r i t → NextToken s (n + i) (moved n t)
    moved-next {i} {t} k =
        record {
          from = omega (arith, k.from);
          stands = moved-stands k.stands;
          is = items-shift i ∙ ap (shift_all n) k.is
              ∙ rw (item-moved t, items-shift t.next) (sym (cond-shifts n (is_none t.sort) [] (item_of r t ∷ items_from r t.next)));
        }
