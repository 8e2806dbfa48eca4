-- The 46 pairs of words: one computed test over all of them, and what follows of any word at all.
use Rattle.std.specs.Prelude.{◌≡◌, Bool, cond, ◌&&◌, ◌||◌, List, [], ◌∷◌, ◌++◌, map, ℕ, suc, ◌+◌, ◌-◌, T, eqb, leb, ltb, length, get_or}
use Rattle.std.proofs.Math.Path.{refl}
use Rattle.std.proofs.Common.{ap, sym, subst, ◌∙◌, eqb→eq, leb→le, le-ltb, lt-ltb, arith}
use Rattle.std.proofs.Math.Bool.{true, false, not}
use Rattle.std.specs.Bool.{beq}
use Rattle.std.proofs.lemmas.Bool.{false≢true, or_parts}
use Prim.Native.String.{String}
use Rattle.language.specs.Limits as limit
use Rattle.language.specs.Instructions.{operation, operator_of}
use Rattle.lists.specs.Lists.{all, any, ahead, every, filled, head_or, each, bytes_equal}
use Rattle.lists.specs.ListLaws.{part, all_head, all_tail, same_bytes-eq}
use Rattle.lists.specs.Quoted.{bytes}
use Rattle.lists.specs.TableLaws.{beq-eq}
use Rattle.syntax.specs.Items.{sort_of, same_sort, a_word}
use Rattle.syntax.specs.Items.Sort.{word}
use Rattle.syntax.specs.Statements.{Keyword, editions, keywords, words_of, own, keyword_of, same_keyword}
use Rattle.syntax.specs.Statements.Keyword.{none, unknown, SEKCJA, KONS, KONP, switch, instr}
use Rattle.layout.proofs.ArgumentLaws.{operator-back, operator-range}
use Rattle.editions.specs.Convert.{beside, respell}

-- what a word means as an operator, in either edition
abbrev pub means : List ℕ → Keyword
means w = keyword_of (a_word 0 w)

-- a keyword by a number of its own, so that a test can tell two of them apart
abbrev pub keyword_code : Keyword → ℕ
keyword_code none = 0
keyword_code unknown = 1
keyword_code SEKCJA = 2
keyword_code KONS = 3
keyword_code KONP = 4
keyword_code (switch false) = 5
keyword_code (switch true) = 6
keyword_code (instr op) = 6 + (operation op).number

abbrev keyword_at : ℕ → Keyword
keyword_at n = cond (ltb 6 n) (instr (operator_of (n - 6))) (get_or (none ∷ unknown ∷ SEKCJA ∷ KONS ∷ KONP ∷ switch false ∷ switch true ∷ []) n unknown)

code-back : (k : Keyword) → keyword_at (keyword_code k) ≡ k
code-back none = refl
code-back unknown = refl
code-back SEKCJA = refl
code-back KONS = refl
code-back KONP = refl
code-back (switch false) = refl
code-back (switch true) = refl
code-back (instr o) =
    let n = (operation o).number in
    let past : ltb 6 (6 + n) ≡ true = lt-ltb 6 (6 + n) (omega (arith, (operator-range o).0)) in
    let back : 6 + n - 6 ≡ n = omega arith in
    rw (past, back, operator-back o) refl

same_code : (k l : Keyword) → keyword_code k ≡ keyword_code l → k ≡ l
same_code k l e = sym (code-back k) ∙ ap keyword_at e ∙ code-back l

-- all bytes may stand in a word
abbrev pub spelled : List ℕ → Bool
spelled w = all (λ b. same_sort word (sort_of b)) w

-- What a word of a pair passes: back again; the same keyword; one edition's own becomes the other's; 2 to 8 bytes, and so many bytes of words
-- beside it; SEKCJA and SECTION choose different editions; KONP is one word
abbrev pub tests : List ℕ → List Bool
tests w =
    bytes_equal (respell (respell w)) w
    ∷ eqb (keyword_code (means (respell w))) (keyword_code (means w))
    ∷ beq (own true (respell w)) (own false w)
    ∷ beq (own false (respell w)) (own true w)
    ∷ leb 2 (length w)
    ∷ leb (length w) 8
    ∷ leb 2 (length (respell w))
    ∷ leb (length (respell w)) 8
    ∷ spelled (respell w)
    ∷ (not (same_keyword SEKCJA (means w)) || beq (bytes_equal (respell w) (bytes "SECTION")) (not (bytes_equal w (bytes "SECTION"))))
    ∷ (not (same_keyword KONP (means w)) || bytes_equal w (bytes "KONP"))
    ∷ []

abbrev pub right : List ℕ → Bool
right w = every (tests w)

-- "One fact covers all pairs of names": all 46 words of either edition pass, by one computed test
pub pair-back : (english : Bool) → T (all right (words_of english))
unfolding respell own sort_of keyword_of
pair-back true = tt
pair-back false = tt

-- what passes for all words of a list passes for a word that is one of them
all_any : (f : List ℕ → Bool) (w : List ℕ) (ws : List (List ℕ)) → T (all f ws) → any (bytes_equal w) ws ≡ true → T (f w)
all_any f w [] h e = absurd (false≢true e)
all_any f w (v ∷ ws) h e = go (bytes_equal w v) refl e (all_any f w ws (all_tail f v ws h))
  where
    go : (b : Bool) → bytes_equal w v ≡ b → (b || any (bytes_equal w) ws) ≡ true → (any (bytes_equal w) ws ≡ true → T (f w)) → T (f w)
    go true q k ih = subst (λ (u : List ℕ). T (f u)) (sym (same_bytes-eq w v (subst T (sym q) tt))) (all_head f v ws h)
    go false q k ih = ih k

module _ (w : List ℕ) where
  pub none_beside : (rs : List (String × String × Keyword))
      → any (bytes_equal w) (map (λ r. bytes r.0) rs) ≡ false → any (bytes_equal w) (map (λ r. bytes r.1) rs) ≡ false
      → each (λ r. beside w (bytes r.0) (bytes r.1)) rs ≡ []
  none_beside [] g h = refl
  none_beside (r ∷ rs) g h =
      let p = or_parts (bytes_equal w (bytes r.0)) (any (bytes_equal w) (map (λ r. bytes r.0) rs)) g in
      let q = or_parts (bytes_equal w (bytes r.1)) (any (bytes_equal w) (map (λ r. bytes r.1) rs)) h in
      rw (p.0, q.0) (none_beside rs p.1 q.1)

  none_ahead : (ks : List (String × Keyword)) → any (bytes_equal w) (map (λ k. bytes k.0) ks) ≡ false
      → get_or ks (ahead (λ k. bytes_equal w (bytes k.0)) ks) ("", unknown) ≡ ("", unknown)
  none_ahead [] g = refl
  none_ahead (k ∷ ks) g =
      let p = or_parts (bytes_equal w (bytes k.0)) (any (bytes_equal w) (map (λ k. bytes k.0) ks)) g in
      subst (λ b. get_or (k ∷ ks) (elim b [ true ↦ 0 | false ↦ suc (ahead (λ k. bytes_equal w (bytes k.0)) ks) ]) ("", unknown) ≡ ("", unknown)) (sym p.0) (none_ahead ks p.1)

  any-both : (rs ss : List (String × String × Keyword))
      → any (bytes_equal w) (map (λ r. bytes r.0) rs) ≡ false → any (bytes_equal w) (map (λ r. bytes r.1) ss) ≡ false
      → any (bytes_equal w) (map (λ k. bytes k.0) (map {B = String × Keyword} (λ r. (r.0, r.2)) rs ++ map {B = String × Keyword} (λ r. (r.1, r.2)) ss)) ≡ false
  any-both [] [] g h = refl
  any-both [] (s ∷ ss) g h =
      let p = or_parts (bytes_equal w (bytes s.1)) (any (bytes_equal w) (map (λ r. bytes r.1) ss)) h in
      rw p.0 (any-both [] ss refl p.1)
  any-both (r ∷ rs) ss g h =
      let p = or_parts (bytes_equal w (bytes r.0)) (any (bytes_equal w) (map (λ r. bytes r.0) rs)) g in
      rw p.0 (any-both rs ss p.1 h)

  -- A word is one of the 92, or respell leaves it and it is no keyword and no edition's own
  data Either : Type 0 where
    paired : T (right w) → Either
    other : respell w ≡ w → means w ≡ unknown → own true w ≡ false → own false w ≡ false → Either

  either : Either
  unfolding respell own keyword_of
  either = go (any (bytes_equal w) (words_of false)) (any (bytes_equal w) (words_of true)) refl refl
    where
      go : (a b : Bool) → any (bytes_equal w) (words_of false) ≡ a → any (bytes_equal w) (words_of true) ≡ b → Either
      go true b p q = paired (all_any right w (words_of false) (pair-back false) p)
      go false true p q = paired (all_any right w (words_of true) (pair-back true) q)
      go false false p q =
          other (ap (head_or w) (none_beside editions p q)) (ap (λ (k : String × Keyword). k.1) (none_ahead keywords (any-both editions editions p q)))
          (ap (λ a. a && not (any (bytes_equal w) (words_of false))) q) (ap (λ a. a && not (any (bytes_equal w) (words_of true))) p)

-- what the tests say of one of the 92, one by one
test : (w : List ℕ) → T (right w) → (i : ℕ) → T (get_or (tests w) i true)
test w t i = part (tests w) t i

short : (w : List ℕ) → T (leb (length w) 8) → ltb limit.item (length w) ≡ false
short w h = le-ltb limit.item (length w) (omega (arith, leb→le (length w) 8 h))

long : (w : List ℕ) → T (leb 2 (length w)) → T (filled w)
long [] h = absurd h
long (b ∷ w) h = tt

-- "there and back": of every word
pub respell-back : (w : List ℕ) → respell (respell w) ≡ w
respell-back w = go (either w)
  where
    go : Either w → respell (respell w) ≡ w
    go (paired t) = same_bytes-eq (respell (respell w)) w (test w t 0)
    go (other a b c d) = ap respell a ∙ a

pub keyword-kept : (w : List ℕ) → means (respell w) ≡ means w
keyword-kept w = go (either w)
  where
    go : Either w → means (respell w) ≡ means w
    go (paired t) = same_code (means (respell w)) (means w) (eqb→eq (keyword_code (means (respell w))) (keyword_code (means w)) (test w t 1))
    go (other a b c d) = ap means a

-- one edition's own words become the other's
pub own-turned : (e : Bool) (w : List ℕ) → own (not e) (respell w) ≡ own e w
own-turned e w = go e (either w)
  where
    go : (e : Bool) → Either w → own (not e) (respell w) ≡ own e w
    go true (paired t) = beq-eq (own false (respell w)) (own true w) (test w t 3)
    go true (other a b c d) = ap (own false) a ∙ d ∙ sym c
    go false (paired t) = beq-eq (own true (respell w)) (own false w) (test w t 2)
    go false (other a b c d) = ap (own true) a ∙ c ∙ sym d

-- no word becomes too long, no byte that ends a word comes in
pub long_kept : (w : List ℕ) → ltb limit.item (length (respell w)) ≡ ltb limit.item (length w)
long_kept w = go (either w)
  where
    go : Either w → ltb limit.item (length (respell w)) ≡ ltb limit.item (length w)
    go (paired t) = short (respell w) (test w t 7) ∙ sym (short w (test w t 5))
    go (other a b c d) = ap (λ (v : List ℕ). ltb limit.item (length v)) a

pub spelled_kept : (w : List ℕ) → T (spelled w) → T (spelled (respell w))
spelled_kept w h = go (either w)
  where
    go : Either w → T (spelled (respell w))
    go (paired t) = test w t 8
    go (other a b c d) = subst (λ (v : List ℕ). T (spelled v)) (sym a) h

pub filled-kept : (w : List ℕ) → T (filled w) → T (filled (respell w))
filled-kept w h = go (either w)
  where
    go : Either w → T (filled (respell w))
    go (paired t) = long (respell w) (test w t 6)
    go (other a b c d) = subst (λ (v : List ℕ). T (filled v)) (sym a) h

-- a test that passes wherever another does
chosen : (a b : Bool) → a ≡ true → T (not a || b) → T b
chosen true b e t = t
chosen false b e t = absurd (false≢true e)

-- the edition that the first word chooses
pub edition-turned : (w : List ℕ) → same_keyword SEKCJA (means w) ≡ true → bytes_equal (respell w) (bytes "SECTION") ≡ not (bytes_equal w (bytes "SECTION"))
edition-turned w h = go (either w)
  where
    go : Either w → bytes_equal (respell w) (bytes "SECTION") ≡ not (bytes_equal w (bytes "SECTION"))
    go (paired t) =
        beq-eq (bytes_equal (respell w) (bytes "SECTION")) (not (bytes_equal w (bytes "SECTION")))
        (chosen (same_keyword SEKCJA (means w)) (beq (bytes_equal (respell w) (bytes "SECTION")) (not (bytes_equal w (bytes "SECTION")))) h (test w t 9))
    go (other a b c d) = absurd (false≢true (ap (same_keyword SEKCJA) (sym b) ∙ h))

-- "The program of 01 looks for KONP in either edition": no other word is KONP
pub konp-only : (w : List ℕ) → same_keyword KONP (means w) ≡ true → w ≡ bytes "KONP"
konp-only w h = go (either w)
  where
    go : Either w → w ≡ bytes "KONP"
    go (paired t) = same_bytes-eq w (bytes "KONP") (chosen (same_keyword KONP (means w)) (bytes_equal w (bytes "KONP")) h (test w t 10))
    go (other a b c d) = absurd (false≢true (ap (same_keyword KONP) (sym b) ∙ h))
