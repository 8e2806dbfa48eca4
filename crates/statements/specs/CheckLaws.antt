-- The verdict of questions 14, 15 and 16 from token to token, and that it is that of the specification.
use Rattle.std.specs.Prelude.{◌≡◌, Bool, true, false, cond, List, [], ◌∷◌, ◌++◌, ℕ, min, ltb, eqb, length, Ok, Err}
use Rattle.std.proofs.Math.Path.{refl, ap}
use Rattle.std.proofs.Common.{sym, ◌∙◌, arith, lt-ltb, ltb-true, ltb-false}
use Rattle.std.proofs.lemmas.Bool.{true≢false, false≢true}
use Rattle.std.proofs.lemmas.Cmp.{nat_cmp_total, on_total, then_total}
use Rattle.std.specs.Cmp.{IsTotalOrder}
use Rattle.std.specs.Ordering.{nat_cmp, is_lt, ord_min}
use Rattle.std.specs.declared.cmp.Ordering.{Ordering}
use Rattle.std.specs.declared.cmp.Ordering.TheVariants.{Less, Equal, Greater}
use Rattle.lexer.specs.declared.Token.{Token}
use Rattle.lexer.specs.Tokens.{item_of, chars_of, Stands, NextToken}
use Rattle.layout.specs.Below.Lists.{filled, keep}
use Rattle.statements.specs.declared.Refusal.{Refusal}
use Rattle.statements.specs.declared.Question.{Question}
use Rattle.statements.specs.declared.Question.TheVariants.{Byte, Text, Length}
use Rattle.statements.specs.Questions.{question_number}
use Rattle.statements.specs.StatementAt.{statement_at, stops}
use Rattle.statements.specs.StatementLaws.{at-stop, at_item}
use Rattle.lexer.specs.Below.Items.{Item, is, places}
use Rattle.lexer.specs.Below.Items.Sort.{wrong}
use Rattle.lexer.specs.Below.SyntaxVerdict.{ask, lowest, decide, first_no}
use Rattle.statements.specs.Checks.{bad_token, item_verdict, worst, token_verdict}
use Rattle.statements.specs.FaultLaws.{lowest-min}
use Rattle.statements.specs.Faults.{Verdict, verdict_of, no, refusal_cmp, worse}
use Rattle.statements.specs.Groups.{bad_text, too_long, item_questions}

-- ---- a token's verdict

filled-length : (w : List ℕ) → filled w ≡ ltb 0 (length w)
filled-length [] = refl
filled-length (b ∷ w) = sym (lt-ltb 0 (length (b ∷ w)) (omega arith))

module _ {s : List ℕ} {t : Token} (h : Stands s t) where
  bad_text-is : bad_text (item_of s t) ≡ bad_token t
  bad_text-is = rw (filled-length (chars_of s t), h.count) refl

  too-long_is : too_long (item_of s t) ≡ ltb 60 t.len
  too-long_is = rw h.count refl

  pub token-told : token_verdict t ≡ item_verdict (item_of s t)
  token-told = sym (rw (bad_text-is, too-long_is) refl)

-- from token to token
module _ {s : List ℕ} {n : ℕ} {t : Token} (k : NextToken s n t) where
  pub worst-stop : stops t.sort ≡ true → worst (statement_at s n) ≡ Ok tt
  unfolding worst
  worst-stop z = rw (at-stop k z) refl

  pub worst-item : stops t.sort ≡ false → worst (statement_at s n) ≡ worse (token_verdict t) (worst (statement_at s t.next))
  unfolding worst
  worst-item z = ap worst (at_item k z) ∙ ap (λ (v : Verdict). worse v (worst (statement_at s t.next))) (sym (token-told k.stands))

-- ---- two rows

-- the first of three in a total order
module _ {X : Type 0} (R : X → X → Ordering) (total : IsTotalOrder R) where
  is-less : (o : Ordering) → is_lt o ≡ true → o ≡ Less
  is-less Less e = refl
  is-less Equal e = absurd (false≢true e)
  is-less Greater e = absurd (false≢true e)

  less-on : (a b c : X) → is_lt (R c b) ≡ true → is_lt (R b a) ≡ true → is_lt (R c a) ≡ true
  less-on a b c e f = ap is_lt (total.trans c b a (is-less (R c b) e) (is-less (R b a) f))

  not-less : (a b c : X) → is_lt (R c b) ≡ false → is_lt (R b a) ≡ false → is_lt (R c a) ≡ false
  not-less a b c e f = go (R c b) refl (is_lt (R c a)) refl
    where
      go : (o : Ordering) → R c b ≡ o → (t : Bool) → is_lt (R c a) ≡ t → t ≡ false
      go o q false z = refl
      go Less q true z = absurd (true≢false (sym (ap is_lt q) ∙ e))
      go Equal q true z = absurd (true≢false (sym z ∙ ap is_lt (total.congr c b a q) ∙ f))
      go Greater q true z =
          let back : R b c ≡ Less = total.antisymm b c ∙ rw q refl in
          absurd (true≢false (sym (less-on a c b (ap is_lt back) z) ∙ f))

  pub first_assoc : (a b c : X) → ord_min R (ord_min R a b) c ≡ ord_min R a (ord_min R b c)
  first_assoc a b c = go (is_lt (R b a)) refl (is_lt (R c b)) refl
    where
      go : (s : Bool) → is_lt (R b a) ≡ s → (t : Bool) → is_lt (R c b) ≡ t → ord_min R (ord_min R a b) c ≡ ord_min R a (ord_min R b c)
      go true e true f = rw (e, f, less-on a b c f e) refl
      go true e false f = rw (e, f) (rw e refl)
      go false e true f = rw (e, f) refl
      go false e false f = rw (e, f) (rw (e, not-less a b c f e) refl)

refusals-total : IsTotalOrder refusal_cmp
refusals-total = then_total (on_total (λ (r : Refusal). question_number r.question) nat_cmp_total) (on_total (λ (r : Refusal). r.at) nat_cmp_total)

pub worse-clear : (v : Verdict) → worse v (Ok tt) ≡ v
worse-clear (Ok u) = refl
worse-clear (Err r) = refl

pub worse_assoc : (u v w : Verdict) → worse (worse u v) w ≡ worse u (worse v w)
worse_assoc (Ok a) v w = refl
worse_assoc (Err r) (Ok b) w = refl
worse_assoc (Err r) (Err q) (Ok c) = refl
worse_assoc (Err r) (Err q) (Err p) = ap Err (first_assoc refusal_cmp refusals-total r q p)

pub worst-append : (xs ys : List Item) → worst (xs ++ ys) ≡ worse (worst xs) (worst ys)
unfolding worst
worst-append [] ys = refl
worst-append (x ∷ xs) ys = ap (worse (item_verdict x)) (worst-append xs ys) ∙ sym (worse_assoc (item_verdict x) (worst xs) (worst ys))

-- ---- the verdict

-- of two places at fault in one question the lower
first-place : (n : Question) (p q : ℕ) → nat_cmp (question_number n) (question_number n) ≡ Equal → worse (no n p) (no n q) ≡ no n (min p q)
first-place n p q e = rw e (go (ltb q p) refl (eqb q p))
  where
    at : ℕ → Refusal
    at k = record { question = n; at = k }

    go : (t : Bool) → ltb q p ≡ t → (b : Bool) → ◌≡◌ {A = Verdict} (Err (cond (is_lt (cond t Less (cond b Equal Greater))) (at q) (at p))) (no n (min p q))
    go true z b = let l = ltb-true q p z in let m : q ≡ min p q = omega arith in ap (no n) m
    go false z true = let l = ltb-false q p z in let m : p ≡ min p q = omega arith in ap (no n) m
    go false z false = let l = ltb-false q p z in let m : p ≡ min p q = omega arith in ap (no n) m

-- the first of three questions that has a place at fault, and the lowest of its places
told : List ℕ → List ℕ → List ℕ → Verdict
told (p ∷ ps) qs rs = no Byte (lowest p ps)
told [] (q ∷ qs) rs = no Text (lowest q qs)
told [] [] (r ∷ rs) = no Length (lowest r rs)
told [] [] [] = Ok tt

with : Bool → ℕ → List ℕ → List ℕ
with b p ps = cond b (p ∷ ps) ps

one_more : (p : ℕ) (a b c : Bool) (ps qs rs : List ℕ)
    → told (with a p ps) (with b p qs) (with c p rs) ≡ worse (cond a (no Byte p) (cond b (no Text p) (cond c (no Length p) (Ok tt)))) (told ps qs rs)
unfolding told with lowest
one_more p true b c (x ∷ ps) qs rs = ap (no Byte) (lowest-min p x ps) ∙ sym (first-place Byte p (lowest x ps) refl)
one_more p true b c [] (x ∷ qs) rs = refl
one_more p true b c [] [] (x ∷ rs) = refl
one_more p true b c [] [] [] = refl
one_more p false true c (x ∷ ps) qs rs = refl
one_more p false true c [] (x ∷ qs) rs = ap (no Text) (lowest-min p x qs) ∙ sym (first-place Text p (lowest x qs) refl)
one_more p false true c [] [] (x ∷ rs) = refl
one_more p false true c [] [] [] = refl
one_more p false false true (x ∷ ps) qs rs = refl
one_more p false false true [] (x ∷ qs) rs = refl
one_more p false false true [] [] (x ∷ rs) = ap (no Length) (lowest-min p x rs) ∙ sym (first-place Length p (lowest x rs) refl)
one_more p false false true [] [] [] = refl
one_more p false false false ps qs rs = refl

kept-more : (q : Item → Bool) (i : Item) (js : List Item) → places (keep q (i ∷ js)) ≡ with (q i) i.at (places (keep q js))
unfolding with
kept-more q i js = go (q i)
  where
    go : (b : Bool) → places (cond b (i ∷ keep q js) (keep q js)) ≡ cond b (i.at ∷ places (keep q js)) (places (keep q js))
    go true = refl
    go false = refl

told-worst : (x : List Item) → told (places (keep (is wrong) x)) (places (keep bad_text x)) (places (keep too_long x)) ≡ worst x
unfolding told worst
told-worst [] = refl
told-worst (i ∷ js) =
    rw (kept-more (is wrong) i js, kept-more bad_text i js, kept-more too_long i js)
    (one_more i.at (is wrong i) (bad_text i) (too_long i) (places (keep (is wrong) js)) (places (keep bad_text js)) (places (keep too_long js))
    ∙ ap (worse (item_verdict i)) (told-worst js))

told-decides : (ps qs rs : List ℕ) → first_no (ask 14 ps ∷ ask 15 qs ∷ ask 16 rs ∷ []) ≡ verdict_of (told ps qs rs)
unfolding told first_no decide
told-decides (p ∷ ps) qs rs = refl
told-decides [] (q ∷ qs) rs = refl
told-decides [] [] (r ∷ rs) = refl
told-decides [] [] [] = refl

pub worst-decides : (x : List Item) → first_no (item_questions x) ≡ verdict_of (worst x)
worst-decides x = told-decides (places (keep (is wrong) x)) (places (keep bad_text x)) (places (keep too_long x)) ∙ ap verdict_of (told-worst x)
