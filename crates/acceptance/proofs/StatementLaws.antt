-- What a statement without faults brings: fine items, names, texts and numbers.
use Rattle.std.specs.Prelude.{◌≡◌, refl, Bool, true, false, cond, not, ◌&&◌, ◌||◌, List, [], ◌∷◌, ◌++◌, map, ℕ, ◌+◌, ◌-◌, ◌≤◌, T, leb, ltb, length, ℤ, nat_abs}
use Rattle.std.proofs.Common.{sym, subst, arith, lt→ltb, le→leb, nltb→le, leb-false}
use Rattle.std.proofs.lemmas.List.{length-map}
use Rattle.std.specs.Int.Signed.{le_z}
use Rattle.std.proofs.Math.Facts.{T_not-not}
use lib.Ieee.Bits.{is_false}
use Rattle.layout.proofs.Below.ValueLaws.{same_number-refl}
use Rattle.lists.specs.BoolLaws.{same_test}
use Rattle.layout.specs.Below.Lists.{all, any, filled, keep, bytes_equal}
use Rattle.layout.specs.Below.ListLaws.{T-left, T-right, T-both, same_bytes-eq, same_bytes-refl}
use Rattle.layout.specs.Below.Characters.{known}
use Rattle.layout.specs.Below.Limits as limit
use Rattle.layout.specs.Below.Program.{identifier}
use Rattle.layout.specs.Below.LanguageValues.{same_number, numeral, in_range}
use Rattle.layout.specs.Below.WellFormed.{good_word, good_text, different}
use Rattle.layout.specs.Bounds.{Each}
use Rattle.layout.proofs.CellLaws.{each_append}
use Rattle.macros.specs.Below.Items.{Item, is, places}
use Rattle.macros.specs.Below.Items.Sort.{word, colon, text}
use Rattle.macros.specs.Below.Questions.{first_faults, operator_faults, beyond}
use Rattle.macros.specs.Below.Statements.{Keyword, same_keyword, keyword_of, is_operator, front, behind, labels_in, is_name, one_name}
use Rattle.macros.specs.Below.Statements.Keyword.{unknown, SEKCJA}
use Rattle.macros.specs.Below.Tables.{Tables, contents, new_texts, new_numbers, number_in}
use Rattle.acceptance.proofs.RowLaws.{append-none, map-none, drop-none, keep-none, each_map, each_both, each_keep, each-kept, each-unkeep, each-mapped}
use Rattle.acceptance.proofs.ArgumentLaws.{word-apart}
use Rattle.acceptance.proofs.FreshLaws.{fresh_holds, fresh-different, fresh-from}
use Rattle.acceptance.specs.Drafts.{SoundItem, FineItem, in_texts, in_numbers, SoundName}

-- 15 and 16

fine-item : (n : ℕ) (i : Item) → SoundItem n i → T (not (is text i && not (i.good && filled i.chars))) → T (not (ltb limit.item (length i.chars))) → FineItem n i
fine-item n i h k l =
    let short : length i.chars ≤ limit.item = nltb→le limit.item (length i.chars) l in
    record {
      sound = h;
      short = short;
      good = λ t.
          let g : T (i.good && filled i.chars) = good (is text i) (i.good && filled i.chars) k t in
          T-both (good_word i.chars) (leb (length i.chars) limit.item)
          (T-both (filled i.chars) (all known i.chars) (T-right i.good (filled i.chars) g) (h.of_known t (T-left i.good (filled i.chars) g)))
          (le→leb (length i.chars) limit.item short);
    }
  where
    good : (a b : Bool) → T (not (a && not b)) → T a → T b
    good true b h t = T_not-not b h
    good false b h t = absurd t

pub fine-items : (n : ℕ) (x : List Item) → Each (SoundItem n) x → places (keep (λ i. is text i && not (i.good && filled i.chars)) x) ≡ []
    → places (keep (λ i. ltb limit.item (length i.chars)) x) ≡ [] → Each (FineItem n) x
fine-items n x h k l =
    let p : Item → Bool = λ i. is text i && not (i.good && filled i.chars) in
    let q : Item → Bool = λ i. ltb limit.item (length i.chars) in
    each_map _ _ (λ i e. fine-item n i e.0 e.1.0 e.1.1) x
    (each_both (SoundItem n) (λ i. T (not (p i)) × T (not (q i))) x h
    (each_both (λ i. T (not (p i))) (λ i. T (not (q i))) x (keep-none p x (map-none (λ i. i.at) (keep p x) k)) (keep-none q x (map-none (λ i. i.at) (keep q x) l))))

-- Parts of a statement

pub each-front : (P : Item → Type 0) (x : List Item) → Each P x → Each P (front x)
unfolding front
each-front P [] h = tt
each-front P (i ∷ js) h = go (is_operator i) (each-front P js h.1)
  where
    go : (b : Bool) → Each P (front js) → Each P (cond b [] (i ∷ front js))
    go true k = tt
    go false k = (h.0, k)

pub each-behind : (P : Item → Type 0) (x : List Item) → Each P x → Each P (behind x)
unfolding behind
each-behind P [] h = tt
each-behind P (i ∷ js) h = go (is_operator i) (each-behind P js h.1)
  where
    go : (b : Bool) → Each P (behind js) → Each P (cond b (i ∷ js) (behind js))
    go true k = h
    go false k = k

-- 00 and 10: what stands in front of the operator are names

sekcja-word : (i : Item) → T (same_keyword SEKCJA (keyword_of i)) → T (is word i)
unfolding keyword_of
sekcja-word i h = go (is word i) _ h
  where
    go : (b : Bool) (k : Keyword) → T (same_keyword SEKCJA (cond b k unknown)) → T b
    go true k h = tt
    go false k h = h

first-front : (x : List Item) → first_faults x ≡ [] → front x ≡ []
unfolding first_faults front
first-front [] h = refl
first-front (i ∷ js) h = go (filled i.colon) refl (same_keyword SEKCJA (keyword_of i)) refl h
  where
    go : (a : Bool) → filled i.colon ≡ a → (b : Bool) → same_keyword SEKCJA (keyword_of i) ≡ b → cond (not a && b) (one_name identifier i.at js) (i.at ∷ []) ≡ []
        → cond (is_operator i) [] (i ∷ front js) ≡ []
    go true e b f h = absurd (let z : ◌≡◌ {A = ℕ} 0 1 = cc in omega arith)
    go false e false f h = absurd (let z : ◌≡◌ {A = ℕ} 0 1 = cc in omega arith)
    go false e true f h = rw (is_false (is colon i) (word-apart i (sekcja-word i (subst T (sym f) tt))).1, e) refl

pub front-names : (first english : Bool) (x : List Item) → cond first (first_faults x) [] ≡ [] → cond first [] (operator_faults english x) ≡ [] → Each (λ i. T (is_name i)) (front x)
unfolding operator_faults
front-names true english x h k = rw (first-front x h) tt
front-names false english x h k =
    let q : Item → Bool = λ i. not (is_name i) in
    each_map _ _ (λ i e. T_not-not (is_name i) e) (front x)
    (keep-none q (front x) (map-none (λ i. i.at) (keep q (front x)) (append-none (places (keep q (front x))) _ k).0))

pub label-names : (n : ℕ) (x : List Item) → Each (FineItem n) x → Each (λ i. T (is_name i)) (front x) → Each (SoundName n) (labels_in x)
label-names n x h k =
    each_keep (SoundName n) (is word) (front x)
    (each_map _ _ (λ i e. record { fine = e.0; name = e.1 }) (front x) (each_both (FineItem n) (λ i. T (is_name i)) (front x) (each-front (FineItem n) x h) k))

-- Texts and numbers that are new

pub same_bytes-sym : (v w : List ℕ) → bytes_equal v w ≡ bytes_equal w v
same_bytes-sym v w = same_test (bytes_equal v w) (bytes_equal w v) (turn v w) (turn w v)
  where
    turn : (v w : List ℕ) → T (bytes_equal v w) → T (bytes_equal w v)
    turn v w h = subst (λ (u : List ℕ). T (bytes_equal u v)) (same_bytes-eq v w h) (same_bytes-refl v)

pub same_number-sym : (x y : ℤ) → same_number x y ≡ same_number y x
same_number-sym x y = same_test (same_number x y) (same_number y x) (turn x y) (turn y x)
  where
    turn : (x y : ℤ) → T (same_number x y) → T (same_number y x)
    turn x y h = T-both (le_z y x) (le_z x y) (T-right (le_z x y) (le_z y x) h) (T-left (le_z x y) (le_z y x) h)

-- at most n in size, or else in the table
small-or : (n m : ℕ) (b : Bool) → (T (ltb n m) → T b) → T (leb m n || b)
small-or n m b f = go (leb m n) refl
  where
    go : (t : Bool) → leb m n ≡ t → T (t || b)
    go true e = tt
    go false e = f (lt→ltb n m (leb-false m n e))

module _ (n : ℕ) (t : Tables) (js : List Item) (fine : Each (FineItem n) js) where
  abbrev long_text : Item → Bool
  long_text i = is text i && ltb 1 (length i.chars)

  pub texts-after : Each (λ w. T (ltb 1 (length w) && good_text w)) t.texts → Each (λ w. T (ltb 1 (length w) && good_text w)) (t.texts ++ contents (new_texts t js))
  texts-after h =
      let P : Item → Type 0 = λ i. T (ltb 1 (length i.chars) && good_text i.chars) in
      let new : Each P (keep long_text js) =
      each_map _ _
      (λ i e. T-both (ltb 1 (length i.chars)) (good_text i.chars) (T-right (is text i) (ltb 1 (length i.chars)) e.1) (e.0.good (T-left (is text i) (ltb 1 (length i.chars)) e.1)))
      (keep long_text js)
      (each_both (FineItem n) (λ i. T (long_text i)) (keep long_text js) (each_keep (FineItem n) long_text js fine) (each-kept long_text js)) in
      each_append _ t.texts (contents (new_texts t js)) h
      (each-mapped _ (λ i. i.chars) (new_texts t js) (fresh-from bytes_equal same_bytes-sym same_bytes-refl (λ i. i.chars) P t.texts (keep long_text js) new))

  pub texts-kept : Each (λ i. T (is text i) → T (in_texts (t.texts ++ contents (new_texts t js)) i.chars)) js
  texts-kept =
      each_map _ _ (λ i e k. small-or 1 (length i.chars) _ (λ l. e (T-both (is text i) (ltb 1 (length i.chars)) k l))) js
      (each-unkeep (λ i. T (any (bytes_equal i.chars) (t.texts ++ contents (new_texts t js)))) long_text js
      (fresh_holds bytes_equal same_bytes-sym same_bytes-refl (λ i. i.chars) t.texts (keep long_text js)))

  pub texts-apart : T (different bytes_equal t.texts) → T (different bytes_equal (t.texts ++ contents (new_texts t js)))
  texts-apart h = fresh-different bytes_equal same_bytes-sym same_bytes-refl (λ i. i.chars) t.texts (keep long_text js) h

  abbrev large_number : Item → Bool
  large_number i = is word i && numeral i.chars && ltb limit.small (nat_abs (number_in i))

  pub numbers_after : Each (λ i. T (is word i) → T (numeral i.chars) → T (in_range (number_in i))) js
      → Each (λ z. T (ltb limit.small (nat_abs z) && in_range z)) t.numbers
      → Each (λ z. T (ltb limit.small (nat_abs z) && in_range z)) (t.numbers ++ map number_in (new_numbers t js))
  numbers_after r h =
      let P : Item → Type 0 = λ i. T (ltb limit.small (nat_abs (number_in i)) && in_range (number_in i)) in
      let R : Item → Type 0 = λ i. T (is word i) → T (numeral i.chars) → T (in_range (number_in i)) in
      let new : Each P (keep large_number js) =
      each_map _ _ (λ i e.
      let a = is word i in
      let b = numeral i.chars in
      let c = ltb limit.small (nat_abs (number_in i)) in
      let k = T-left (a && b) c e.1 in
      T-both c (in_range (number_in i)) (T-right (a && b) c e.1) (e.0 (T-left a b k) (T-right a b k))) (keep large_number js)
      (each_both R (λ i. T (large_number i)) (keep large_number js) (each_keep R large_number js r) (each-kept large_number js)) in
      each_append _ t.numbers (map number_in (new_numbers t js)) h
      (each-mapped _ number_in (new_numbers t js) (fresh-from same_number same_number-sym same_number-refl number_in P t.numbers (keep large_number js) new))

  pub numbers-kept : Each (λ i. T (is word i) → T (numeral i.chars) → T (in_numbers (t.numbers ++ map number_in (new_numbers t js)) (number_in i))) js
  numbers-kept =
      each_map _ _
      (λ i e k l. small-or limit.small (nat_abs (number_in i)) _ (λ m. e (T-both (is word i && numeral i.chars) (ltb limit.small (nat_abs (number_in i))) (T-both (is word i) (numeral i.chars) k l) m))) js
      (each-unkeep (λ i. T (any (same_number (number_in i)) (t.numbers ++ map number_in (new_numbers t js)))) large_number js
      (fresh_holds same_number same_number-sym same_number-refl number_in t.numbers (keep large_number js)))

  pub numbers_apart : T (different same_number t.numbers) → T (different same_number (t.numbers ++ map number_in (new_numbers t js)))
  numbers_apart h = fresh-different same_number same_number-sym same_number-refl number_in t.numbers (keep large_number js) h

-- 11: what is held and what comes are within a limit
pub within : (most held : ℕ) (js : List Item) → beyond most held (places js) ≡ [] → held ≤ most → held + length js ≤ most
within most held js h k = omega (arith, drop-none (most - held) (places js) h, length-map js (λ i. i.at))
