-- The arguments of an accepted instruction stand in one list of its forms, and each reads as its form.
use Rattle.std.specs.Prelude.{◌≡◌, refl, Bool, true, false, cond, not, ◌&&◌, ◌||◌, List, [], ◌∷◌, map, ℕ, suc, ◌≤◌, T, leb, ltb, eqb, length, get_or, drop}
use Rattle.std.proofs.Common.{ap, sym, ◌∙◌, subst, arith, T_not, eqb→eq, leb→le, eqb-true, le-ltb}
use Rattle.std.proofs.Math.Dec.{eqb_refl}
use Rattle.std.proofs.Math.Seq.{drop-nil}
use lib.Ieee.Bits.{is_false}
use Rattle.lists.specs.BoolLaws.{T-first, T-second}
use Rattle.layout.specs.Below.Lists.{all, any, ahead, filled, head_or, keep, among}
use Rattle.layout.specs.Below.Quoted.{bytes}
use Rattle.layout.specs.Below.ListLaws.{T-left, T-right, T-both, all_among}
use Rattle.layout.specs.Below.ListsTableLaws.{up_to, below}
use Rattle.layout.specs.Below.Letters.{Letter, letters, letter_code}
use Rattle.layout.specs.Below.Letters.Letter.{A}
use Rattle.layout.specs.Below.Instructions.{operation, operator_of}
use Rattle.layout.specs.Below.Program.{Op}
use Rattle.layout.specs.Below.LanguageValues.{numeral}
use Rattle.layout.proofs.ArgumentLaws.{operator-back, operator-below}
use Rattle.layout.specs.Bounds.{Each}
use Rattle.layout.proofs.CellLaws.{each_of}
use Rattle.macros.specs.Below.ArgumentForms.{form_in, is_indexed, word_reads, reads, Argument, accepting, read_by, alternatives, most, least}
use Rattle.macros.specs.Below.Items.{Item, is}
use Rattle.macros.specs.Below.Items.Sort.{word, text}
use Rattle.acceptance.specs.Reading.{fits, apart, agree, agreed, may_end, right_number, right_forms}
use Rattle.acceptance.proofs.RowLaws.{or-not, any_found, any-more, any-unkeep, any-mapped, each_map, each_keep, each-kept, each-mapped, each_both}

pub forms-right : (op : Op) → T (right_forms op)
forms-right op = subst (λ (o : Op). T (right_forms o)) (operator-back op) (below (λ n. right_forms (operator_of n)) 64 tt (operation op).number (operator-below op))

-- An item reads as a form

-- the six forms that are no letter's, or none of them
pub record Other (f : ℕ) : Type 0 where
  pub no_t : eqb f 116 ≡ false
  pub no_n : eqb f 110 ≡ false
  pub no_c : eqb f 99 ≡ false
  pub no_l : eqb f 108 ≡ false
  pub no_w : eqb f 119 ≡ false
  pub no_x : eqb f 120 ≡ false

module _ (P : ℕ → Type 0) (t : P 116) (n : P 110) (c : P 99) (l : P 108) (w : P 119) (x : P 120) (other : (f : ℕ) → Other f → P f) where
  is-form : (f k : ℕ) → eqb f k ≡ true → P k → P f
  is-form f k e h = subst P (sym (eqb-true f k e)) h

  pub by_form : (f : ℕ) → P f
  by_form f = go (eqb f 116) (eqb f 110) (eqb f 99) (eqb f 108) (eqb f 119) (eqb f 120) refl refl refl refl refl refl
    where
      go : (b₁ b₂ b₃ b₄ b₅ b₆ : Bool) → eqb f 116 ≡ b₁ → eqb f 110 ≡ b₂ → eqb f 99 ≡ b₃ → eqb f 108 ≡ b₄ → eqb f 119 ≡ b₅ → eqb f 120 ≡ b₆ → P f
      go true b₂ b₃ b₄ b₅ b₆ e₁ e₂ e₃ e₄ e₅ e₆ = is-form f 116 e₁ t
      go false true b₃ b₄ b₅ b₆ e₁ e₂ e₃ e₄ e₅ e₆ = is-form f 110 e₂ n
      go false false true b₄ b₅ b₆ e₁ e₂ e₃ e₄ e₅ e₆ = is-form f 99 e₃ c
      go false false false true b₅ b₆ e₁ e₂ e₃ e₄ e₅ e₆ = is-form f 108 e₄ l
      go false false false false true b₆ e₁ e₂ e₃ e₄ e₅ e₆ = is-form f 119 e₅ w
      go false false false false false true e₁ e₂ e₃ e₄ e₅ e₆ = is-form f 120 e₆ x
      go false false false false false false e₁ e₂ e₃ e₄ e₅ e₆ = other f (record { no_t = e₁; no_n = e₂; no_c = e₃; no_l = e₄; no_w = e₅; no_x = e₆ })

-- any other form is a letter's, and the word is that letter with its index
pub record Lettered (w : List ℕ) (f : ℕ) : Type 0 where
  pub by : Letter
  pub form_is : f ≡ letter_code by
  pub indexed : T (is_indexed w by)

pub other-reads : (w : List ℕ) (f : ℕ) → Other f → T (word_reads w f) → Lettered w f
unfolding word_reads
other-reads w f o h =
    let q : Letter → Bool = λ l. eqb f (letter_code l) && is_indexed w l in
    let l = get_or letters (ahead q letters) A in
    let k : T (q l) = any_found q letters A (rw (o.no_n, o.no_c, o.no_l, o.no_w, o.no_x) at h) in
    record {
      by = l;
      form_is = eqb→eq f (letter_code l) (T-left (eqb f (letter_code l)) (is_indexed w l) k);
      indexed = T-right (eqb f (letter_code l)) (is_indexed w l) k;
    }

absent-text : (w : List ℕ) → T (word_reads w 116) → ⊥
unfolding word_reads
absent-text w h = h

no-word-as-text : (w : List ℕ) (f : ℕ) → T (word_reads w f) → eqb f 116 ≡ false
no-word-as-text w f h = go (eqb f 116) refl
  where
    go : (b : Bool) → eqb f 116 ≡ b → b ≡ false
    go true e = absurd (absent-text w (subst (λ (k : ℕ). T (word_reads w k)) (eqb-true f 116 e) h))
    go false e = refl

-- texts read as texts, and words as anything else
pub text-reads : (i : Item) (f : ℕ) → T (reads i f) → is text i ≡ eqb f 116
unfolding reads
text-reads i f h = go (is text i) h
  where
    single : (b : Bool) → T (b || false) → true ≡ b
    single true h = refl
    single false h = absurd h

    go : (b : Bool) → T (cond b (form_in "t" f) (word_reads i.chars f)) → b ≡ eqb f 116
    go true h = single (eqb f 116) h
    go false h = sym (no-word-as-text i.chars f h)

pub as-word : (i : Item) (f : ℕ) → eqb f 116 ≡ false → T (reads i f) → T (word_reads i.chars f)
unfolding reads
as-word i f e h = let k : is text i ≡ false = text-reads i f h ∙ e in rw k at h

-- an item that reads as a number is a word
pub numeral-word : (i : Item) → T (is word i || is text i || not (filled i.chars)) → T (reads i 110) → T (numeral i.chars) → T (is word i)
numeral-word i h r k = let e : is text i ≡ false = text-reads i 110 r in go (is word i) i.chars (rw e at h) k
  where
    go : (b : Bool) (w : List ℕ) → T (b || false || not (filled w)) → T (numeral w) → T b
    go true w h k = tt
    go false [] h k = absurd k
    go false (x ∷ w) h k = h

letter-form : (f : ℕ) → T (form_in "ABCDEINPQTYZ" f) → Other f
letter-form f h =
    record { no_t = differs 116 tt; no_n = differs 110 tt; no_c = differs 99 tt; no_l = differs 108 tt; no_w = differs 119 tt; no_x = differs 120 tt }
  where
    differs : (k : ℕ) → T (all (λ g. not (eqb g k)) (bytes "ABCDEINPQTYZ")) → eqb f k ≡ false
    differs k t = is_false (eqb f k) (all_among (λ g. not (eqb g k)) (bytes "ABCDEINPQTYZ") t f h)

head-letter : (i : Item) (f : ℕ) → T (form_in "ABCDEINPQTYZ" f) → T (reads i f) → head_or 0 i.chars ≡ f
head-letter i f h k =
    let o = letter-form f h in
    let r = other-reads i.chars f o (as-word i f o.no_t k) in
    eqb→eq (head_or 0 i.chars) (letter_code r.by) (T-left (eqb (head_or 0 i.chars) (letter_code r.by)) _ r.indexed) ∙ sym r.form_is

apart-never : (i : Item) (x y : ℕ) → T (apart x y) → T (reads i x) → T (reads i y) → ⊥
apart-never i x y a h k = go (is text i) (sym (text-reads i x h)) (sym (text-reads i y k)) a
  where
    letters-differ : T (form_in "ABCDEINPQTYZ" x && form_in "ABCDEINPQTYZ" y && not (eqb x y)) → ⊥
    letters-differ t =
        let u = T-left (form_in "ABCDEINPQTYZ" x && form_in "ABCDEINPQTYZ" y) (not (eqb x y)) t in
        let e : x ≡ y =
        sym (head-letter i x (T-left (form_in "ABCDEINPQTYZ" x) (form_in "ABCDEINPQTYZ" y) u) h)
        ∙ head-letter i y (T-right (form_in "ABCDEINPQTYZ" x) (form_in "ABCDEINPQTYZ" y) u) k in
        T_not (eqb x y) (T-right (form_in "ABCDEINPQTYZ" x && form_in "ABCDEINPQTYZ" y) (not (eqb x y)) t) (subst (λ (z : ℕ). T (eqb x z)) e (eqb_refl x))

    go : (b : Bool) → eqb x 116 ≡ b → eqb y 116 ≡ b → T (apart x y) → ⊥
    go true e f t = letters-differ (rw (e, f) at t)
    go false e f t = letters-differ (rw (e, f) at t)

-- The arguments in the lists of forms

-- n arguments may come, whatever they are
record Readable (n : ℕ) (alts : List (List (List ℕ))) : Type 0 where
  some : T (filled alts)
  ends : Each (λ a. T (all (among 45) (drop n a))) alts
  agrees : Each (λ a. Each (λ b. T (agree n a b)) alts) alts

abbrev pub NoDash : List Argument → Type 0
NoDash args = Each (λ a. T (not (form_in "-" a.form))) args

each-among : (ns : List ℕ) → Each (λ n. T (among n ns)) ns
each-among [] = tt
each-among (n ∷ ns) = (T-first (eqb n n) (among n ns) (eqb_refl n), each_map _ _ (λ m h. T-second (eqb m n) (among m ns) h) ns (each-among ns))

-- the form that an argument is given is in its place's list, and the argument reads so
taken : (q : ℕ → Bool) (fs : List ℕ) → T (not (form_in "-" (head_or 45 (keep q fs)))) → T (q (head_or 45 (keep q fs))) × T (among (head_or 45 (keep q fs)) fs)
taken q fs h = go (keep q fs) (each-kept q fs) (each_keep (λ n. T (among n fs)) q fs (each-among fs)) h
  where
    go : (ks : List ℕ) → Each (λ n. T (q n)) ks → Each (λ n. T (among n fs)) ks → T (not (form_in "-" (head_or 45 ks)))
        → T (q (head_or 45 ks)) × T (among (head_or 45 ks) fs)
    go [] a b h = absurd h
    go (k ∷ ks) a b h = (a.0, b.0)

any-reads : (i : Item) (x : ℕ) (fs : List ℕ) → T (reads i x) → T (all (apart x) fs) → T (any (reads i) fs) → ⊥
any-reads i x [] h a k = k
any-reads i x (f ∷ fs) h a k = go (reads i f) refl k (any-reads i x fs h (T-right (apart x f) (all (apart x) fs) a))
  where
    go : (b : Bool) → reads i f ≡ b → T (b || any (reads i) fs) → (T (any (reads i) fs) → ⊥) → ⊥
    go true e k r = apart-never i x f (T-left (apart x f) (all (apart x) fs) a) h (subst T (sym e) tt)
    go false e k r = r k

drop-again : {X : Type 0} (n : ℕ) (l : List X) → drop n (drop 1 l) ≡ drop (suc n) l
drop-again n [] = drop-nil n
drop-again n (x ∷ l) = refl

abbrev argument_by : Item → List (List (List ℕ)) → Argument
argument_by i live = record { item = i; form = head_or 45 (keep (reads i) (head_or [] (head_or [] live))) }

-- what the first list takes, every list that takes the item takes in the same form
same-form : (n : ℕ) (i : Item) (f : ℕ) (a b : List (List ℕ)) → T (agree (suc (suc n)) a b) → T (reads i f) → T (among f (head_or [] a)) → T (any (reads i) (head_or [] b))
    → T (among f (head_or [] b))
same-form n i f a b g h m k = go (among f (head_or [] b)) (all_among q (head_or [] a) (T-left (all q (head_or [] a)) (agree (suc n) (drop 1 a) (drop 1 b)) g) f m)
  where
    q : ℕ → Bool
    q x = among x (head_or [] b) || all (apart x) (head_or [] b)

    go : (t : Bool) → T (t || all (apart f) (head_or [] b)) → T t
    go true u = tt
    go false u = any-reads i f (head_or [] b) h u k

tails-agree : (n : ℕ) (live : List (List (List ℕ))) → Each (λ a. Each (λ b. T (agree (suc (suc n)) a b)) live) live
    → Each (λ a. Each (λ b. T (agree (suc n) a b)) (map (drop 1) live)) (map (drop 1) live)
tails-agree n live h =
    each-mapped (λ a. Each (λ b. T (agree (suc n) a b)) (map (drop 1) live)) (drop 1) live
    (each_map _ _
    (λ a k. each-mapped (λ b. T (agree (suc n) (drop 1 a) b)) (drop 1) live (each_map _ _ (λ b t. T-right (all (λ x. among x (head_or [] b) || all (apart x) (head_or [] b)) (head_or [] a)) (agree (suc n) (drop 1 a) (drop 1 b)) t) live k)) live h)

Fits-by : List Item → Type 0
Fits-by js = (alts : List (List (List ℕ))) → Readable (length js) alts → NoDash (read_by alts js) → T (any (fits (read_by alts js)) alts)

more-fits : (js : List Item) (i : Item) (alts live : List (List (List ℕ)))
    → Each (λ a. T (all (among 45) (drop (suc (length js)) a))) live
    → Each (λ a. Each (λ b. T (agree (suc (length js)) a b)) live) live
    → Each (λ a. T (any (reads i) (head_or [] a))) live
    → NoDash (argument_by i live ∷ read_by (map (drop 1) (cond (filled live) live alts)) js)
    → Fits-by js
    → T (any (fits (argument_by i live ∷ read_by (map (drop 1) (cond (filled live) live alts)) js)) live)
unfolding Fits-by read_by
more-fits js i alts [] e g k d ih = absurd d.0
more-fits [] i alts (a ∷ live) e g k d ih =
    let t = taken (reads i) (head_or [] a) d.0 in
    T-first (among (argument_by i (a ∷ live)).form (head_or [] a) && all (among 45) (drop 1 a)) _
    (T-both (among (argument_by i (a ∷ live)).form (head_or [] a)) (all (among 45) (drop 1 a)) t.1 e.0)
more-fits (j ∷ js) i alts (a ∷ live) e g k d ih =
    let n = length js in
    let f = (argument_by i (a ∷ live)).form in
    let t = taken (reads i) (head_or [] a) d.0 in
    let tails = map (drop 1) (a ∷ live) in
    let rest = read_by tails (j ∷ js) in
    let r : Readable (suc n) tails = record {
      some = tt;
      ends =
          each-mapped (λ b. T (all (among 45) (drop (suc n) b))) (drop 1) (a ∷ live)
          (each_map _ _ (λ b h. subst (λ (l : List (List ℕ)). T (all (among 45) l)) (sym (drop-again (suc n) b)) h) (a ∷ live) e);
      agrees = tails-agree n (a ∷ live) g;
    } in
    any-more (λ b. fits rest (drop 1 b)) (λ b. among f (head_or [] b) && fits rest (drop 1 b)) (a ∷ live)
    (each_map _ _ (λ b h u. T-both (among f (head_or [] b)) (fits rest (drop 1 b)) (same-form n i f a b h.0 t.0 t.1 h.1) u) (a ∷ live)
    (each_both (λ b. T (agree (suc (suc n)) a b)) (λ b. T (any (reads i) (head_or [] b))) (a ∷ live) g.0 k))
    (any-mapped (fits rest) (drop 1) (a ∷ live) (ih tails r d.1))

all_fit : (js : List Item) → Fits-by js
unfolding Fits-by read_by accepting
all_fit [] [] r d = absurd r.some
all_fit [] (a ∷ alts) r d = T-first (all (among 45) a) _ r.ends.0
all_fit (i ∷ js) alts r d =
    let q : List (List ℕ) → Bool = λ a. any (reads i) (head_or [] a) in
    let live = keep q alts in
    let n = suc (length js) in
    any-unkeep (fits (argument_by i live ∷ read_by (map (drop 1) (cond (filled live) live alts)) js)) q alts
    (more-fits js i alts live (each_keep _ q alts r.ends) (each_keep _ q alts (each_map _ _ (λ a h. each_keep (λ b. T (agree n a b)) q alts h) alts r.agrees)) (each-kept q alts) d
    (all_fit js))

-- the arguments of an instruction, as many as it takes, none left out: they stand in one list of its forms
pub arguments-fit : (op : Op) (js : List Item) → length js ≤ most op → least op ≤ length js → NoDash (read_by (alternatives op) js)
    → T (any (fits (read_by (alternatives op) js)) (alternatives op)) × (length js ≤ 3)
unfolding Fits-by
arguments-fit op js h k d =
    let n = length js in
    let alts = alternatives op in
    let most-3 : most op ≤ 3 = leb→le (most op) 3 (T-left (leb (most op) 3) (up_to (right_number op) 4) (forms-right op)) in
    let right = below (right_number op) 4 (T-right (leb (most op) 3) (up_to (right_number op) 4) (forms-right op)) n (omega arith) in
    let not-less : T (not (ltb n (least op))) = rw (le-ltb n (least op) k) tt in
    let not_more : T (not (ltb (most op) n)) = rw (le-ltb (most op) n h) tt in
    let t : T (may_end n alts && agreed n alts) = or-not (ltb (most op) n) _ (or-not (ltb n (least op)) _ right not-less) not_more in
    let u = T-left (may_end n alts) (agreed n alts) t in
    let r : Readable n alts = record {
      some = T-left (filled alts) (all (λ a. all (among 45) (drop n a)) alts) u;
      ends =
          each_of (λ a. all (among 45) (drop n a)) (λ a. T (all (among 45) (drop n a))) (λ a x. x) alts
          (T-right (filled alts) (all (λ a. all (among 45) (drop n a)) alts) u);
      agrees =
          each_of (λ a. all (agree n a) alts) (λ a. Each (λ b. T (agree n a b)) alts) (λ a x. each_of (agree n a) (λ b. T (agree n a b)) (λ b y. y) alts x) alts
          (T-right (may_end n alts) (agreed n alts) t);
    } in
    (all_fit js alts r d, omega arith)

-- each of them reads as its form
pub arguments-read : (js : List Item) (alts : List (List (List ℕ))) → NoDash (read_by alts js) → Each (λ a. T (reads a.item a.form)) (read_by alts js)
unfolding read_by accepting
arguments-read [] alts d = tt
arguments-read (i ∷ js) alts d =
    let live = accepting i alts in
    ((taken (reads i) (head_or [] (head_or [] live)) d.0).0, arguments-read js (map (drop 1) (cond (filled live) live alts)) d.1)

-- what holds of each item holds of each argument's
pub arguments-of : (P : Item → Type 0) (js : List Item) (alts : List (List (List ℕ))) → Each P js → Each (λ a. P a.item) (read_by alts js)
unfolding read_by accepting
arguments-of P [] alts h = tt
arguments-of P (i ∷ js) alts h = let live = accepting i alts in (h.0, arguments-of P js (map (drop 1) (cond (filled live) live alts)) h.1)

pub of-arguments : (P : Item → Type 0) (js : List Item) (alts : List (List (List ℕ))) → Each (λ a. P a.item) (read_by alts js) → Each P js
unfolding read_by accepting
of-arguments P [] alts h = tt
of-arguments P (i ∷ js) alts h = let live = accepting i alts in (h.0, of-arguments P js (map (drop 1) (cond (filled live) live alts)) h.1)

pub arguments-count : (js : List Item) (alts : List (List (List ℕ))) → length (read_by alts js) ≡ length js
unfolding read_by accepting
arguments-count [] alts = refl
arguments-count (i ∷ js) alts = let live = accepting i alts in ap suc (arguments-count js (map (drop 1) (cond (filled live) live alts)))
