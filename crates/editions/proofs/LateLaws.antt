-- Words are read no earlier than where the reader stands: the operators of the unread rest of a text stand in that rest.
use Rattle.std.specs.Prelude.{◌≡◌, refl, Bool, true, false, cond, not, ◌&&◌, ◌||◌, List, [], ◌∷◌, ◌++◌, ℕ, ◌+◌, ◌≤◌, T, eqb, leb, get_or, take, drop}
use Rattle.std.proofs.Common.{subst, arith, leb→le, le→leb}
use Rattle.lists.specs.AppendLaws.{all_append}
use Rattle.lists.specs.Lists.{all, if_any}
use Rattle.lists.specs.ListLaws.{T-left, T-right, T-both}
use Rattle.syntax.specs.Items.{Sort, sort_of, same_sort, Item, is, places, a_word, a_text, a_mark, ends_text, takes_next, char_of, allows, Mode, opens, begins, itself, mode_after, items_at, left_over, read, attach, named}
use Rattle.syntax.specs.Items.Sort.{separator, word, colon, end, text, wrong}
use Rattle.syntax.specs.Items.Stage.{first-star, inside, last-slash}
use Rattle.syntax.specs.Items.Mode.{outside, in_word, in_comment, in_text}
use Rattle.syntax.specs.Statements.{is_operator}
use Rattle.editions.specs.Rewriting.{operators_in}

-- Words stand no earlier than where the reader is

abbrev late : ℕ → Item → Bool
late q i = not (is word i) || leb q i.at

-- a word that has begun did so no earlier than q
abbrev pub Since : ℕ → Mode → Type 0
Since q outside = Unit {0}
Since q (in_word at w) = T (leb q at)
Since q (in_comment at k) = Unit {0}
Since q (in_text at star cs good) = Unit {0}

late-itself : (q : ℕ) (k : Sort) (n b next : ℕ) → T (all (late q) (itself k n b next))
unfolding itself
late-itself q separator n b next = tt
late-itself q word n b next = tt
late-itself q colon n b next = tt
late-itself q end n b next = tt
late-itself q text n b next = tt
late-itself q wrong n b next = go (opens b next)
  where
    go : (o : Bool) → T (all (late q) (cond o [] (a_mark wrong n ∷ [])))
    go true = tt
    go false = tt

since-begins : (q : ℕ) (k : Sort) (n b next : ℕ) → T (leb q n) → Since q (begins k n b next)
unfolding begins
since-begins q separator n b next h = tt
since-begins q word n b next h = h
since-begins q colon n b next h = tt
since-begins q end n b next h = tt
since-begins q text n b next h = tt
since-begins q wrong n b next h = go (opens b next)
  where
    go : (o : Bool) → Since q (cond o (in_comment n first-star) outside)
    go true = tt
    go false = tt

late-items : (q : ℕ) (m : Mode) (n b next : ℕ) → Since q m → T (all (late q) (items_at m n b next))
unfolding items_at
late-items q outside n b next s = late-itself q (sort_of b) n b next
late-items q (in_word at w) n b next s = go (same_sort word (sort_of b))
  where
    go : (t : Bool) → T (all (late q) (cond t [] (a_word at w ∷ itself (sort_of b) n b next)))
    go true = tt
    go false = T-both (leb q at) (all (late q) (itself (sort_of b) n b next)) s (late-itself q (sort_of b) n b next)
late-items q (in_comment at k) n b next s = tt
late-items q (in_text at star cs good) n b next s = go (ends_text star b) (eqb b 39)
  where
    go : (t c : Bool) → T (all (late q) (cond t (a_text at cs (good && c) ∷ cond c [] (a_mark end n ∷ [])) []))
    go true true = tt
    go true false = tt
    go false c = tt

since-after : (q : ℕ) (m : Mode) (n b next : ℕ) → Since q m → T (leb q n) → Since q (mode_after m n b next)
unfolding mode_after
since-after q outside n b next s h = since-begins q (sort_of b) n b next h
since-after q (in_word at w) n b next s h = go (same_sort word (sort_of b))
  where
    go : (t : Bool) → Since q (cond t (in_word at (w ++ (b ∷ []))) (begins (sort_of b) n b next))
    go true = s
    go false = since-begins q (sort_of b) n b next h
since-after q (in_comment at first-star) n b next s h = tt
since-after q (in_comment at inside) n b next s h = tt
since-after q (in_comment at last-slash) n b next s h = tt
since-after q (in_text at star cs good) n b next s h = go (ends_text star b)
  where
    go : (t : Bool) → Since q (cond t outside (in_text at (takes_next star b) (cs ++ char_of star b) (good && allows star b)))
    go true = tt
    go false = tt

late-left : (q : ℕ) (m : Mode) → Since q m → T (all (late q) (left_over m))
unfolding left_over
late-left q outside s = tt
late-left q (in_word at w) s = T-both (leb q at) true s tt
late-left q (in_comment at k) s = tt
late-left q (in_text at star cs good) s = tt

further : (q n : ℕ) → T (leb q n) → T (leb q (n + 1))
further q n h = le→leb q (n + 1) (omega (arith, leb→le q n h))

late-read : (q : ℕ) (m : Mode) (n : ℕ) (r : List ℕ) → Since q m → T (leb q n) → T (all (late q) (read m n r))
unfolding read
late-read q m n [] s h = late-left q m s
late-read q m n (b ∷ r) s h =
    all_append (late q) (items_at m n b (get_or r 0 0)) (read (mode_after m n b (get_or r 0 0)) (n + 1) r) (late-items q m n b (get_or r 0 0) s)
    (late-read q (mode_after m n b (get_or r 0 0)) (n + 1) r (since-after q m n b (get_or r 0 0) s h) (further q n h))

late-attach : (q : ℕ) (i : Item) (js : List Item) → T (late q i) → T (all (late q) js) → T (all (late q) (attach i js))
unfolding attach
late-attach q i js h k = go (is word i) refl (if_any false (is colon) js)
  where
    rest : (js : List Item) → T (all (late q) js) → T (all (late q) (drop 1 js))
    rest [] k = tt
    rest (j ∷ js) k = T-right (late q j) (all (late q) js) k

    go : (a : Bool) → is word i ≡ a → (b : Bool)
        → T (all (late q) (cond (a && b) (record { at = i.at; sort = word; chars = i.chars; good = i.good; colon = places (take 1 js) } ∷ drop 1 js) (i ∷ js)))
    go true e true = T-both (leb q i.at) (all (late q) (drop 1 js)) (subst (λ a. T (not a || leb q i.at)) e h) (rest js k)
    go true e false = T-both (late q i) (all (late q) js) h k
    go false e b = T-both (late q i) (all (late q) js) h k

late-named : (q : ℕ) (js : List Item) → T (all (late q) js) → T (all (late q) (named js))
unfolding named
late-named q [] h = tt
late-named q (i ∷ js) h = late-attach q i (named js) (T-left (late q i) (all (late q) js) h) (late-named q js (T-right (late q i) (all (late q) js) h))

-- the first of some operators stands no earlier than q
abbrev pub Later : ℕ → List Item → Type 0
Later q [] = Unit {0}
Later q (i ∷ js) = q ≤ i.at

late-operators : (q : ℕ) (p : Bool) (js : List Item) → T (all (late q) js) → Later q (operators_in p js)
unfolding operators_in
late-operators q p [] h = tt
late-operators q p (i ∷ js) h = go (is end i) (p && is_operator i) (is word i) refl (λ t. late-operators q t js (T-right (late q i) (all (late q) js) h))
  where
    here : T (late q i)
    here = T-left (late q i) (all (late q) js) h

    go : (a b c : Bool) → is word i ≡ c → ((t : Bool) → Later q (operators_in t js))
        → Later q (cond a (operators_in true js) (cond b (cond c (i ∷ []) [] ++ operators_in false js) (operators_in p js)))
    go true b c e ih = ih true
    go false true true e ih = leb→le q i.at (subst (λ c. T (not c || leb q i.at)) e here)
    go false true false e ih = ih false
    go false false c e ih = ih p

-- The operators from a place on, after the reader stood in a mode
pub later : (p : Bool) (m : Mode) (n : ℕ) (r : List ℕ) → Since n m → Later n (operators_in p (named (read m n r)))
later p m n r s = late-operators n p (named (read m n r)) (late-named n (read m n r) (late-read n m n r s (le→leb n n (omega arith))))

pub sooner : (a b : ℕ) (os : List Item) → a ≤ b → Later b os → Later a os
sooner a b [] h k = tt
sooner a b (i ∷ js) h k = omega arith
