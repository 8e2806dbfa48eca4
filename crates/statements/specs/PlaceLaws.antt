-- The places of a statement's items ascend: no item, and no colon of one, stands before the place where the reader began.
use Rattle.std.specs.Prelude.{◌≡◌, refl, Bool, true, false, cond, ◌&&◌, List, [], ◌∷◌, ◌++◌, ℕ, ◌+◌, ◌≤◌, T, leb, eqb, get_or, take, drop}
use Rattle.std.proofs.Common.{arith, le→leb}
use Rattle.layout.specs.Below.Lists.{all, head_or, if_any}
use Rattle.layout.specs.Below.ListLaws.{T-left, T-both, all_head, all_tail}
use Rattle.lexer.specs.Below.Items.{Sort, sort_of, same_sort, Item, is, places, ends_text, Mode, begins, itself, mode_after, items_at, left_over, read, attach, named, parted, statements}
use Rattle.lexer.specs.Below.Items.Sort.{word, colon, end}
use Rattle.lexer.specs.Below.Items.Stage.{first-star, inside, last-slash}
use Rattle.lexer.specs.Below.Items.Mode.{outside, in_word, in_comment, in_text}
use Rattle.lexer.specs.Below.SyntaxVerdict.{lowest}
use Rattle.lexer.specs.MovedLaws.{itself-case, begins-case}
use Rattle.lexer.specs.Tokens.{items_from}
use Rattle.statements.specs.LowestLaws.{lowest-first}
use Rattle.statements.specs.Places.{none_before, stands_from, all_from}
use Rattle.statements.specs.StatementAt.{statement_at}

all-joined : (p : ℕ) (xs ys : List Item) → T (all_from p xs) → T (all_from p ys) → T (all_from p (xs ++ ys))
all-joined p [] ys h k = k
all-joined p (x ∷ xs) ys h k = T-both (stands_from p x) (all_from p (xs ++ ys)) (all_head (stands_from p) x xs h) (all-joined p xs ys (all_tail (stands_from p) x xs h) k)

-- what the reader has begun, it began at p or later
abbrev began : ℕ → Mode → Type 0
began p outside = Unit {0}
began p (in_word at w) = p ≤ at
began p (in_comment at k) = p ≤ at
began p (in_text at star cs good) = p ≤ at

bare : (p n : ℕ) → p ≤ n → T (leb p n && true)
bare p n h = T-both (leb p n) true (le→leb p n h) tt

one : (p n : ℕ) → p ≤ n → T ((leb p n && true) && true)
one p n h = T-both (leb p n && true) true (bare p n h) tt

itself-from : (k : Sort) (p n b next : ℕ) → p ≤ n → T (all_from p (itself k n b next))
itself-from k p n b next h = itself-case (λ f. T (all_from p (f n))) tt (λ k. one p n h) k b next

begins-from : (k : Sort) (p n b next : ℕ) → p ≤ n → began p (begins k n b next)
begins-from k p n b next h = begins-case (λ f. began p (f n)) tt (λ b. h) h h k b next

abbrev Step : ℕ → Mode → ℕ → ℕ → ℕ → Type 0
Step p m n b next = T (all_from p (items_at m n b next)) × began p (mode_after m n b next)

step_from : (m : Mode) (p n b next : ℕ) → p ≤ n → began p m → Step p m n b next
unfolding items_at mode_after
step_from outside p n b next h g = (itself-from (sort_of b) p n b next h, begins-from (sort_of b) p n b next h)
step_from (in_word at w) p n b next h g = go (same_sort word (sort_of b)) refl
  where
    go : (t : Bool) → same_sort word (sort_of b) ≡ t → Step p (in_word at w) n b next
    go true e = rw e (tt, g)
    go false e = rw e (T-both (leb p at && true) (all_from p (itself (sort_of b) n b next)) (bare p at g) (itself-from (sort_of b) p n b next h), begins-from (sort_of b) p n b next h)
step_from (in_comment at first-star) p n b next h g = (tt, g)
step_from (in_comment at inside) p n b next h g = (tt, g)
step_from (in_comment at last-slash) p n b next h g = (tt, tt)
step_from (in_text at star cs good) p n b next h g = go (ends_text star b) refl
  where
    marks : Bool → List Item
    marks t = cond t [] (Rattle.lexer.specs.Below.Items.a_mark end n ∷ [])

    go : (t : Bool) → ends_text star b ≡ t → Step p (in_text at star cs good) n b next
    go true e =
        rw e (T-both (leb p at && true) (all_from p (marks (eqb b 39))) (bare p at g) (elim (eqb b 39) as (λ t. T (all_from p (marks t))) [ true ↦ tt | false ↦ one p n h ]), tt)
    go false e = rw e (tt, g)

left-from : (m : Mode) (p : ℕ) → began p m → T (all_from p (left_over m))
unfolding left_over
left-from outside p g = tt
left-from (in_word at w) p g = one p at g
left-from (in_comment at k) p g = one p at g
left-from (in_text at star cs good) p g = one p at g

read_from : (m : Mode) (p n : ℕ) (r : List ℕ) → p ≤ n → began p m → T (all_from p (read m n r))
unfolding read
read_from m p n [] h g = left-from m p g
read_from m p n (b ∷ r) h g =
    let next : ℕ = get_or r 0 0 in
    let q = step_from m p n b next h g in
    all-joined p (items_at m n b next) (read (mode_after m n b next) (n + 1) r) q.0 (read_from (mode_after m n b next) p (n + 1) r (omega arith) q.1)

all_drop : (p : ℕ) (js : List Item) → T (all_from p js) → T (all_from p (drop 1 js))
all_drop p [] h = tt
all_drop p (j ∷ js) h = all_tail (stands_from p) j js h

-- the place of the colon that a word takes
colon-place : (p : ℕ) (js : List Item) → T (all_from p js) → T (all (leb p) (places (take 1 js)))
colon-place p [] h = tt
colon-place p (j ∷ js) h = T-both (leb p j.at) true (T-left (leb p j.at) (all (leb p) j.colon) (all_head (stands_from p) j js h)) tt

attach-from : (p : ℕ) (i : Item) (js : List Item) → T (stands_from p i) → T (all_from p js) → T (all_from p (attach i js))
unfolding attach
attach-from p i js h k = go (is word i && if_any false (is colon) js)
  where
    go : (t : Bool) → T (all_from p (cond t (record { at = i.at; sort = word; chars = i.chars; good = i.good; colon = places (take 1 js) } ∷ drop 1 js) (i ∷ js)))
    go true =
        T-both (leb p i.at && all (leb p) (places (take 1 js))) (all_from p (drop 1 js))
        (T-both (leb p i.at) (all (leb p) (places (take 1 js))) (T-left (leb p i.at) (all (leb p) i.colon) h) (colon-place p js k))
        (all_drop p js k)
    go false = T-both (stands_from p i) (all_from p js) h k

named_from : (p : ℕ) (js : List Item) → T (all_from p js) → T (all_from p (named js))
unfolding named
named_from p [] h = tt
named_from p (i ∷ js) h = attach-from p i (named js) (all_head (stands_from p) i js h) (named_from p js (all_tail (stands_from p) i js h))

first-from : (p : ℕ) (js : List Item) → T (all_from p js) → T (all_from p (head_or [] (statements js)))
unfolding statements parted
first-from p [] h = tt
first-from p (i ∷ js) h = go (is end i) (first-from p js (all_tail (stands_from p) i js h))
  where
    go : (t : Bool) → T (all_from p (head_or [] (statements js))) → T (all_from p (head_or [] (cond t ([] ∷ statements js) ((i ∷ head_or [] (statements js)) ∷ drop 1 (statements js)))))
    go true k = tt
    go false k = T-both (stands_from p i) (all_from p (head_or [] (statements js))) (all_head (stands_from p) i js h) k

-- all items of the statement at n stand at n or later
pub statement-from : (s : List ℕ) (n p : ℕ) → p ≤ n → T (all_from p (statement_at s n))
unfolding statement_at
statement-from s n p h = first-from p (items_from s n) (named_from p _ (read_from outside p n (drop n s) h tt))

-- the places of items
pub places-from : (p : ℕ) (js : List Item) → T (all_from p js) → T (none_before p (places js))
places-from p [] h = tt
places-from p (j ∷ js) h =
    T-both (leb p j.at) (none_before p (places js)) (T-left (leb p j.at) (all (leb p) j.colon) (all_head (stands_from p) j js h))
    (places-from p js (all_tail (stands_from p) j js h))

-- so the first at fault is the lowest
pub lowest-places : (p : ℕ) (js : List Item) → T (all_from p js) → lowest p (places js) ≡ p
lowest-places p js h = lowest-first p (places js) (places-from p js h)
