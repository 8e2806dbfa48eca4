-- "A label or switch name spelled as an instruction, a declaration, SEKCJA, KONS or KONP of either edition is refused": which words these are, and where
-- the question stands.
use Rattle.std.specs.Prelude.{◌≡◌, refl, Bool, true, false, not, ◌||◌, List, [], ◌∷◌, ◌++◌, map, ℕ, suc, T, length, get_or, take, drop}
use Rattle.std.proofs.Common.{ap, sym, ◌∙◌, arith}
use Prim.Native.String.{String}
use lib.Ieee.Bits.{is_true}
use mathlib.Core.Bool.{or_assoc}
use Rattle.std.proofs.lemmas.List.Elements.{filter_agree}
use Rattle.language.specs.Below.Lists.{all, any, ahead, keep, bytes_equal}
use Rattle.language.specs.Below.ListLaws.{all_head, all_tail}
use Rattle.language.specs.Below.Quoted.{bytes}
use Rattle.syntax.specs.Items.{Item, is, places}
use Rattle.syntax.specs.Items.Sort.{word}
use Rattle.syntax.proofs.LoadLaws.{decides}
use Rattle.syntax.specs.Questions.{questions}
use Rattle.syntax.specs.Statements.{Keyword, editions, keywords, words_of, own, reserved, same_keyword, keyword_of, labels_in}
use Rattle.syntax.specs.Statements.Keyword.{unknown}
use Rattle.syntax.specs.Tables.{Draft}
use Rattle.syntax.specs.Verdict.{Question, ask, lowest, decide, first_no}
use Rattle.syntax.specs.Verdict.Verdict.{yes, refuse}

-- ---- the words

-- one of the two words of a pair
abbrev pub in_pair : List ℕ → String × String × Keyword → Bool
in_pair w r = bytes_equal w (bytes r.0) || bytes_equal w (bytes r.1)

-- 46 Polish words and 44 that only the English edition has: 90
pub words-90 : length (words_of false ++ keep (own true) (words_of true)) ≡ 90
unfolding own
words-90 = refl

any-either : (w : List ℕ) (rs : List (String × String × Keyword))
    → (any (bytes_equal w) (map (λ r. bytes r.0) rs) || any (bytes_equal w) (map (λ r. bytes r.1) rs)) ≡ any (in_pair w) rs
any-either w [] = refl
any-either w (r ∷ rs) =
    go (bytes_equal w (bytes r.0)) (bytes_equal w (bytes r.1)) (any (bytes_equal w) (map (λ r. bytes r.0) rs)) (any (bytes_equal w) (map (λ r. bytes r.1) rs))
    ∙ ap (λ t. in_pair w r || t) (any-either w rs)
  where
    go : (a b c d : Bool) → ((a || c) || (b || d)) ≡ ((a || b) || (c || d))
    go true b c d = refl
    go false true true d = refl
    go false true false d = refl
    go false false c d = refl

-- a word is one of these if it is one of a pair
pub reserved-pair : (w : List ℕ) → reserved w ≡ any (in_pair w) editions
unfolding reserved
reserved-pair w = any-either w editions

-- the first of a list that passes, if any does, is in the list
found : {X : Type 0} (p q : X → Bool) (d : X) (xs : List X) → T (all q xs) → q d ≡ false → q (get_or xs (ahead p xs) d) ≡ any p xs
found p q d [] h e = e
found p q d (x ∷ xs) h e = go (p x) (found p q d xs (all_tail q x xs h) e) (all_head q x xs h)
  where
    go : (b : Bool) → q (get_or xs (ahead p xs) d) ≡ any p xs → T (q x) → q (get_or (x ∷ xs) (elim b [ true ↦ 0 | false ↦ suc (ahead p xs) ]) d) ≡ (b || any p xs)
    go true f h = is_true (q x) h
    go false f h = f

any-spelled : (w : List ℕ) (rs ss : List (String × String × Keyword))
    → any (λ k. bytes_equal w (bytes k.0)) (map {B = String × Keyword} (λ r. (r.0, r.2)) rs ++ map {B = String × Keyword} (λ r. (r.1, r.2)) ss)
    ≡ (any (bytes_equal w) (map (λ r. bytes r.0) rs) || any (bytes_equal w) (map (λ r. bytes r.1) ss))
any-spelled w [] [] = refl
any-spelled w [] (s ∷ ss) = ap (λ t. bytes_equal w (bytes s.1) || t) (any-spelled w [] ss)
any-spelled w (r ∷ rs) ss =
    ap (λ t. bytes_equal w (bytes r.0) || t) (any-spelled w rs ss)
    ∙ sym (or_assoc (bytes_equal w (bytes r.0)) (any (bytes_equal w) (map (λ r. bytes r.0) rs)) (any (bytes_equal w) (map (λ r. bytes r.1) ss)))

-- and if, as an operator, it is a keyword
pub reserved-keyword : (i : Item) → is word i ≡ true → reserved i.chars ≡ not (same_keyword unknown (keyword_of i))
unfolding reserved keyword_of
reserved-keyword i e =
    let p : String × Keyword → Bool = λ k. bytes_equal i.chars (bytes k.0) in
    let q : String × Keyword → Bool = λ k. not (same_keyword unknown k.1) in
    sym (found p q ("", unknown) keywords tt refl ∙ any-spelled i.chars editions editions) ∙ rw e refl

-- ---- the question

-- "after 06, is the label none of these? 70": it stands between 06 and 01, and asks for each label of the statement whether it is one of a pair
pub record Asked70 (d : Draft) (x : List Item) : Type 0 where
  pub order : map (λ q. q.number) (questions d x) ≡ 14 ∷ 15 ∷ 16 ∷ 0 ∷ 10 ∷ 8 ∷ 6 ∷ 70 ∷ 1 ∷ 2 ∷ 11 ∷ []
  pub stands : get_or (questions d x) 7 (ask 0 []) ≡ ask 70 (places (keep (λ l. any (in_pair l.chars) editions) (labels_in x)))

pub asked-70 : (d : Draft) (x : List Item) → Asked70 d x
unfolding questions
asked-70 d x =
    record {
      order = refl;
      stands = ap (λ ls. ask 70 (places ls)) (filter_agree (λ l. reserved l.chars) (λ l. any (in_pair l.chars) editions) (λ l. reserved-pair l.chars) (labels_in x));
    }

passed : (qs rs : List Question) → first_no qs ≡ yes → first_no (qs ++ rs) ≡ first_no rs
unfolding first_no decide
passed [] rs h = refl
passed (q ∷ qs) rs h = go q.faults h (passed qs rs)
  where
    go : (ps : List ℕ) → decide q.number ps (first_no qs) ≡ yes → (first_no qs ≡ yes → first_no (qs ++ rs) ≡ first_no rs)
        → decide q.number ps (first_no (qs ++ rs)) ≡ first_no rs
    go [] e k = k e
    go (p ∷ ps) e k = absurd (let z : ◌≡◌ {A = ℕ} 0 1 = cc in omega arith)

-- where all questions before it are answered yes, such a label is refused, and the lowest place counts
pub refused-70 : (d : Draft) (x : List Item) (l : Item) (ls : List Item) → first_no (take 7 (questions d x)) ≡ yes
    → keep (λ l. reserved l.chars) (labels_in x) ≡ l ∷ ls → first_no (questions d x) ≡ refuse 70 (lowest l.at (places ls))
unfolding questions
refused-70 d x l ls h e =
    passed (take 7 (questions d x)) (drop 7 (questions d x)) h ∙ ap (λ ls. first_no (ask 70 (places ls) ∷ drop 8 (questions d x))) e
    ∙ decides 70 l.at (places ls) (drop 8 (questions d x))
