-- Elements follow one another, and what an apostrophe joins is one.
use Rattle.std.specs.Prelude.{Option, Some, None, unwrap_or, is_some}
use Rattle.std.specs.Option.{is_none}
use Rattle.std.proofs.lemmas.Option.{none-some, same_Some}
use mathlib.Core.Path.{◌≡◌, refl, ap, sym, ◌∙◌, subst}
use mathlib.Core.Bool.{Bool, true, false, cond, not, ◌&&◌, true≢false, false≢true}
use mathlib.Core.List.{List, [], ◌∷◌, map}
use Prim.Native.Nat.{ℕ, suc, ◌+◌, ◌-◌, ◌<◌, ◌≤◌}
use native.Mathlib.Nat.{le_refl}
use native.Mathlib.Decide.{dec_lt}
use native.Mathlib.Omega.{arith}
use lib.Dec.{eqb}
use lib.ListN.{length, get_or, take, drop, length-take, length-drop, drop_of_length-le}
use lib.Seq.{drop-drop, get_or-drop}
use borrow.Author.Tests.{eq-eqb, ne_eqb, eqb-true}
use Rattle.macros.proofs.PlaceLaws.{marked-length}
use Rattle.lists.specs.Lists.{filled, if_any}
use Rattle.scanner.specs.declared.Sort.{Sort}
use Rattle.scanner.specs.Sorts.{sort_in}
use Rattle.syntax.specs.Items as items
use Rattle.syntax.specs.Items.{sort_of, same_sort, Item, is, a_word, a_mark, begins, itself, mode_after, items_at, left_over, read}
use Rattle.syntax.specs.Items.Sort.{separator, word, colon, end, text, wrong}
use Rattle.syntax.specs.Items.Mode.{outside}
use Rattle.syntax.proofs.ItemLaws.{reads_word, items-found}
use Rattle.syntax.specs.Scan.{word_length, text_length, is_closed, text_found, Gap, gap_from, in_gap, passes, Found, found_here, found_in, found_after, items_then}
use Rattle.syntax.specs.Scan.Gap.{clear, unclosed}
use Rattle.syntax.specs.Scan.Found.{no_item, found}
use Rattle.syntax.proofs.SortLaws.{same-sort}
use Rattle.scanner.proofs.Loops.{drop_here, get_d-here}
use Rattle.lexer.specs.declared.Token.{Token}
use Rattle.lexer.specs.Tokens.{part, chars_of, item_of, found_by, TokenAt}
use Rattle.lexer.proofs.Finding.{is_spelled, no-chars}
use Rattle.macros.specs.Elements.{Element, element_of, end_of, is_word, is_mark, is_joined, link, linked}
use Rattle.macros.specs.Marks.{byte_at, new_reader, marked}
use Rattle.macro_elements.specs.ElementAt.{elements_from, argument_value, Lent, Held, JoinedEnd, TextEnd, FirstElement, NextElement, JoinsUpTo, JoinsNone}
use Rattle.macro_elements.specs.declared.Element as code
use Rattle.macro_elements.proofs.Bytes.{any-default}
use Rattle.macro_elements.proofs.Marking.{word-marked, bytes-marked, Copied, later, Joined, joined-here, byte-copied}

-- A word that is found: its bytes, and the place behind it

abbrev Wordly : List ℕ → Found → Type 0
Wordly m no_item = Unit {0}
Wordly m (found i e) = is word i ≡ true → (i.chars ≡ take (word_length (drop i.at m)) (drop i.at m)) × (e ≡ i.at + word_length (drop i.at m))

word_first : (b : ℕ) (r : List ℕ) → sort_of b ≡ word → word_length (b ∷ r) ≡ suc (word_length r)
unfolding word_length
word_first b r e = rw e refl

wordly-here : (k : items.Sort) (m : List ℕ) (n b : ℕ) (r : List ℕ) → drop n m ≡ b ∷ r → sort_of b ≡ k → Wordly m (found_here k n b r)
unfolding found_here text_found
wordly-here separator m n b r e z = tt
wordly-here word m n b r e z = λ h. (rw (e, word_first b r z) refl, rw (e, word_first b r z) (omega arith))
wordly-here colon m n b r e z = λ h. absurd (false≢true h)
wordly-here end m n b r e z = λ h. absurd (false≢true h)
wordly-here text m n b r e z = λ h. absurd (false≢true h)
wordly-here wrong m n b r e z = λ h. absurd (false≢true h)

wordly-in : (m : List ℕ) (n : ℕ) (l : List ℕ) → drop n m ≡ l → Wordly m (found_in n l)
unfolding found_in
wordly-in m n [] e = tt
wordly-in m n (b ∷ r) e = wordly-here (sort_of b) m n b r e refl

wordly-after : (m : List ℕ) (g : Gap) → Wordly m (found_after m g)
unfolding found_after
wordly-after m (clear e) = wordly-in m e (drop e m) refl
wordly-after m (unclosed p) = λ h. absurd (false≢true h)

wordly : {m : List ℕ} {n : ℕ} {t : Token} → TokenAt m n t → Wordly m (found_by m t)
wordly {m} {n} {t} k = rw k.is at (wordly-after m (gap_from outside n (drop n m)))

-- a word that stands at a place
some_word : (b : ℕ) (r : List ℕ) → 0 < word_length (b ∷ r) → sort_of b ≡ word
unfolding word_length
some_word b r h = go (same_sort word (sort_of b)) refl h
  where
    go : (w : Bool) → same_sort word (sort_of b) ≡ w → 0 < cond w (suc (word_length r)) 0 → sort_of b ≡ word
    go true e k = same-sort word (sort_of b) e
    go false e k = absurd (omega arith)

no_word : 0 < word_length [] → ⊥
unfolding word_length
no_word h = omega arith

read_word : (n : ℕ) (l : List ℕ) → 0 < word_length l → read outside n l ≡ a_word n (take (word_length l) l) ∷ read outside (n + word_length l) (drop (word_length l) l)
unfolding read mode_after items_at itself begins
read_word n [] h = absurd (no_word h)
read_word n (b ∷ r) h =
    let z = some_word b r h in
    let p : n + 1 + word_length r ≡ n + suc (word_length r) = omega arith in
    rw (z, word_first b r z) (reads_word n (n + 1) (b ∷ []) r ∙ ap (λ (k : ℕ). a_word n (b ∷ take (word_length r) r) ∷ read outside k (drop (word_length r) r)) p)

read-star : (n : ℕ) (r : List ℕ) → read outside n (42 ∷ r) ≡ a_mark wrong n ∷ read outside (n + 1) r
unfolding read mode_after items_at itself begins sort_of
read-star n r = refl

-- Whether a joining apostrophe stands at a place

abbrev leads : ℕ → List Element → Bool
leads p ts = if_any false (λ u. is_mark 39 u && eqb u.at p) ts

unled : (p : ℕ) (ts : List Element) → leads p ts ≡ false → is_joined p ts ≡ false
unfolding is_joined
unled p [] h = refl
unled p (u ∷ []) h = refl
unled p (u ∷ (t ∷ ts)) h = rw h refl

link-leads : (p : ℕ) (t : Element) (ts : List Element) → leads p (link t ts) ≡ (is_mark 39 t && eqb t.at p)
unfolding link
link-leads p t ts = go (is_word t && is_joined (end_of t) ts)
  where
    go : (b : Bool)
        → leads p (cond b (record { at = t.at; sort = t.sort; byte = t.byte; typed = t.typed; joined = map (λ u. u.typed) (take 1 (drop 1 ts)) } ∷ drop 2 ts) (t ∷ ts))
        ≡ (is_mark 39 t && eqb t.at p)
    go true = refl
    go false = refl

abbrev elements_of : List ℕ → List Item → List Element
elements_of s js = linked (map (element_of s) js)

none-led : (w e a : Bool) → (a ≡ true → e ≡ false) → ((w && e) && a) ≡ false
none-led true e true h = rw (h refl) refl
none-led false e true h = refl
none-led true true false h = refl
none-led true false false h = refl
none-led false e false h = refl

item-leads : (s : List ℕ) (p : ℕ) (i : Item) (js : List Item) → (eqb i.at p ≡ true → eqb 39 (byte_at s i.at) ≡ false) → leads p (elements_of s (i ∷ js)) ≡ false
unfolding linked element_of
item-leads s p i js h =
    link-leads p (element_of s i) (linked (map (element_of s) js)) ∙ none-led (same_sort wrong i.sort) (eqb 39 (byte_at s i.at)) (eqb i.at p) h

text-item : (s : List ℕ) (p : ℕ) (i : Item) (js : List Item) → same_sort wrong i.sort ≡ false → leads p (elements_of s (i ∷ js)) ≡ false
unfolding linked element_of
text-item s p i js h = link-leads p (element_of s i) (linked (map (element_of s) js)) ∙ rw h refl

other-leads : (s : List ℕ) (p : ℕ) (js : List Item) → (get_or s p 10 ≡ 39 → ⊥) → leads p (elements_of s js) ≡ false
unfolding linked
other-leads s p [] h = refl
other-leads s p (i ∷ js) h =
    item-leads s p i js (λ e. let z : i.at ≡ p = eqb-true i.at p e in ne_eqb 39 (byte_at s i.at) (λ y. h (rw z at (sym y))))

-- what is found at an apostrophe is a text
found-text : (s m : List ℕ) (p : ℕ) (r : List ℕ) → leads p (elements_of s (items_then m (found_in p (39 ∷ r)))) ≡ false
unfolding items_then found_in found_here text_found sort_of
found-text s m p r = text-item s p _ (read outside (cond (is_closed (drop (text_length false r) r)) (p + 1 + text_length false r + 1) (p + 1 + text_length false r)) (drop (cond (is_closed (drop (text_length false r) r)) (p + 1 + text_length false r + 1) (p + 1 + text_length false r)) m)) refl

text-leads : (s m : List ℕ) (p : ℕ) (r : List ℕ) → drop p m ≡ 39 ∷ r → leads p (elements_of s (read outside p (drop p m))) ≡ false
unfolding found_after gap_from in_gap passes sort_of
text-leads s m p r e =
    let g : gap_from outside p (drop p m) ≡ clear p = rw e refl in
    let i : read outside p (drop p m) ≡ items_then m (found_in p (39 ∷ r)) = items-found m p ∙ rw (g, e) refl in
    rw i (found-text s m p r)

module _ (s m : List ℕ) (copy : m ≡ marked s) where
  copied : (p : ℕ) → Copied (drop p m) (drop p s)
  copied p = rw copy (later p new_reader 0 s)

  pub same_length : length m ≡ length s
  same_length = ap length copy ∙ marked-length new_reader 0 s

  words_same : (p : ℕ) → word_length (drop p m) ≡ word_length (drop p s)
  words_same p = let c = copied p in rw c.is (word-marked c.reader c.place (drop p s))

  bytes_same : (p : ℕ) → take (word_length (drop p m)) (drop p m) ≡ take (word_length (drop p s)) (drop p s)
  bytes_same p = let c = copied p in rw (words_same p, c.is) (bytes-marked c.reader c.place (drop p s))

  word_typed : (p e : ℕ) → e ≡ p + word_length (drop p m) → take (word_length (drop p m)) (drop p m) ≡ part s p e
  word_typed p e h = bytes_same p ∙ (let k : word_length (drop p s) ≡ e - p = omega (arith, words_same p, h) in ap (λ (j : ℕ). take j (drop p s)) k)

  nothing-leads : (p : ℕ) → length s ≤ p → leads p (elements_of s (read outside p (drop p m))) ≡ false
  unfolding linked read left_over
  nothing-leads p l = rw (drop_of_length-le m {i = p} (omega (arith, same_length))) refl

  not-joined : (p : ℕ) → (p < length s → get_or s p 0 ≡ 39 → get_or m p 0 ≡ 42 → ⊥) → is_joined p (elements_of s (read outside p (drop p m))) ≡ false
  not-joined p h = unled p (elements_of s (read outside p (drop p m))) (go (dec_lt p (length s)))
    where
      inside : (b : Bool) → p < length s → eqb (get_or s p 0) 39 ≡ b → leads p (elements_of s (read outside p (drop p m))) ≡ false
      inside true l e =
          let q = eqb-true (get_or s p 0) 39 e in
          let own : get_or (drop p m) 0 0 ≡ get_or (drop p s) 0 0 = byte-copied (copied p) (λ y. h l q (sym (get_d-here m p 0) ∙ y)) in
          let byte : get_or m p 0 ≡ 39 = sym (get_d-here m p 0) ∙ own ∙ get_d-here s p 0 ∙ q in
          text-leads s m p (drop (p + 1) m) (drop_here m p (omega (arith, same_length)) ∙ ap (λ (b : ℕ). b ∷ drop (p + 1) m) byte)
      inside false l e = other-leads s p (read outside p (drop p m)) (λ y. true≢false (sym (eq-eqb (get_or s p 0) 39 (any-default s p l ∙ y)) ∙ e))

      go : Dec (p < length s) → leads p (elements_of s (read outside p (drop p m))) ≡ false
      go (yes l) = inside (eqb (get_or s p 0) 39) l refl
      go (no l) = nothing-leads p (omega arith)

-- a word, the apostrophe right behind it, and the parameter
joined-three : (v u x : Element) (ts : List Element) → is_word v ≡ true → is_mark 39 u ≡ true → u.at ≡ end_of v → is_word x ≡ true → x.at ≡ end_of v + 1 → not (filled x.joined) ≡ true
    → link v (u ∷ (x ∷ ts)) ≡ record { at = v.at; sort = v.sort; byte = v.byte; typed = v.typed; joined = x.typed ∷ [] } ∷ ts
unfolding link is_joined
joined-three v u x ts a b c d e f = rw (a, b, c, d, e, f, eq-eqb (end_of v) (end_of v) refl, eq-eqb (end_of v + 1) (end_of v + 1) refl) refl

-- what is neither a word nor a text is none of them
unspelled : (q : Sort) → is_spelled (Some q) ≡ false → (same_sort word (sort_in (Some q)) ≡ false) × (same_sort text (sort_in (Some q)) ≡ false)
unspelled Sort.Word e = absurd (true≢false e)
unspelled Sort.Colon e = (refl, refl)
unspelled Sort.End e = (refl, refl)
unspelled Sort.Text e = absurd (true≢false e)
unspelled Sort.Wrong e = (refl, refl)

-- What an element of the copy is
module _ {s m : List ℕ} {n : ℕ} {t : Token} (l : Lent s m n) (k : TokenAt m n t) where
  abbrev from_next : List Element
  from_next = elements_of s (read outside t.next (drop t.next m))

  rest_from : (p : ℕ) → elements_of s (read outside p (drop p m)) ≡ elements_from s p
  unfolding elements_from
  rest_from p = ap (λ (w : List ℕ). elements_of s (read outside p (drop p w))) l.copy

  read_found : read outside n (drop n m) ≡ items_then m (found_by m t)
  read_found = items-found m n ∙ ap (items_then m) k.is

  none_from : t.sort ≡ None → elements_from s n ≡ []
  unfolding items_then linked
  none_from z = let e : read outside n (drop n m) ≡ [] = read_found ∙ rw z refl in sym (rest_from n) ∙ ap (elements_of s) e

  some-from : is_some t.sort ≡ true → elements_from s n ≡ link (element_of s (item_of m t)) from_next
  unfolding items_then linked
  some-from z =
      let e : read outside n (drop n m) ≡ item_of m t ∷ read outside t.next (drop t.next m) = read_found ∙ rw z refl in
      sym (rest_from n) ∙ ap (elements_of s) e

  abbrev plain_element : Sort → ℕ → ℕ → code.Element
  plain_element q b e = record { sort = q; byte = b; at = t.at; end = e; next = t.next; joined = None }

  plain-held : (q : Sort) (b e : ℕ) → t.at ≤ e → e ≤ length s → Held s (plain_element q b e)
  plain-held q b e g h =
      let y = k.stands in
      record {
        own = g;
        ends = h;
        small = l.size;
        joined_ends = tt;
        most = omega (arith, y.most, same_length s m l.copy);
      }

  some_bytes : is_some t.sort ≡ true → t.at < t.next
  some_bytes z = let y = k.stands.some z in omega (arith, k.stands.behind)

  -- an element that is no word
  alone : (q : Sort) (b e : ℕ) → t.sort ≡ Some q → is word (item_of m t) ≡ false → element_of s (item_of m t) ≡ argument_value s (plain_element q b e)
      → elements_from s n ≡ argument_value s (plain_element q b e) ∷ elements_from s t.next
  unfolding link element_of
  alone q b e z w h = some-from (ap is_some z) ∙ rw w (λ j. h j ∷ rest_from t.next j)

  pub none_next : t.sort ≡ None → NextElement s n None
  none_next z = record { none = λ y. none_from z; some = λ x y. absurd (none-some x y) }

  known : {x : code.Element} → FirstElement s n x → NextElement s n (Some x)
  known {x} h = record { none = λ y. absurd (none-some x (sym y)); some = λ u y. subst (λ (v : code.Element). FirstElement s n v) (same_Some x u y) h }

  plain-next : (q : Sort) (b e : ℕ) → t.sort ≡ Some q → t.at ≤ e → e ≤ length s → is word (item_of m t) ≡ false → element_of s (item_of m t) ≡ argument_value s (plain_element q b e) → NextElement s n (Some (plain_element q b e))
  plain-next q b e z g h w v = known (record { from = k.from; held = plain-held q b e g h; more = some_bytes (ap is_some z); is = alone q b e z w v })

  pub text-next : (b e : ℕ) → b ≡ get_or s t.at 10 → t.sort ≡ Some Sort.Text → TextEnd s t.at e → NextElement s n (Some (plain_element Sort.Text b e))
  unfolding element_of
  text-next b e f x h = plain-next Sort.Text b e x (omega (arith, h.from)) h.most (rw x refl) (rw (x, f, h.is) refl)

  pub mark-next : (q : Sort) (b : ℕ) → b ≡ get_or s t.at 10 → t.sort ≡ Some q → is_spelled (Some q) ≡ false → NextElement s n (Some (plain_element q b t.at))
  unfolding element_of
  mark-next q b f x p =
      let y = k.stands in
      let o : t.at - t.at ≡ 0 = omega arith in
      let u = unspelled q p in
      plain-next q b t.at x (le_refl t.at) (omega (arith, y.own, y.behind, y.most, same_length s m l.copy)) (rw x u.0) (rw (no-chars m t (ap is_spelled x ∙ p), x, u.1, f, o) refl)

  -- a word
  module _ (w : t.sort ≡ Some Sort.Word) where
    word-shape : (chars_of m t ≡ take (word_length (drop t.at m)) (drop t.at m)) × (t.next ≡ t.at + word_length (drop t.at m))
    word-shape = let q : is_none t.sort ≡ false = rw w refl in (rw q at (wordly k)) (rw w refl)

    word_is : (b : ℕ) → b ≡ get_or s t.at 10 → element_of s (item_of m t) ≡ argument_value s (plain_element Sort.Word b t.next)
    unfolding element_of
    word_is b f = rw (word-shape.0, word_typed s m l.copy t.at t.next word-shape.1, w, f) refl

    word-ends : end_of (element_of s (item_of m t)) ≡ t.next
    unfolding element_of
    word-ends =
        let y = k.stands in
        rw (word-shape.0, word_typed s m l.copy t.at t.next word-shape.1, w)
        (simp (length-take, length-drop) (omega (arith, y.own, y.behind, y.most, same_length s m l.copy)))

    pub word_next : (b : ℕ) → b ≡ get_or s t.at 10 → JoinsNone s m t.next → NextElement s n (Some (plain_element Sort.Word b t.next))
    unfolding link element_of
    word_next b f j =
        let y = k.stands in
        let o : is_joined (end_of (element_of s (item_of m t))) from_next ≡ false = rw word-ends (not-joined s m l.copy t.next j) in
        let q : is word (item_of m t) ≡ true = rw w refl in
        known
        (record {
          from = k.from;
          held = plain-held Sort.Word b t.next (omega (arith, y.own, y.behind)) (omega (arith, y.most, same_length s m l.copy));
          more = some_bytes (ap is_some w);
          is = some-from (ap is_some w) ∙ rw (q, o) (λ i. word_is b f i ∷ rest_from t.next i);
        })

    -- a word and the parameter that is joined to it
    module _ {e : ℕ} (j : JoinsUpTo s m t.next e) where
      abbrev p : ℕ
      p = t.next

      abbrev joined_element : ℕ → code.Element
      joined_element b = record { sort = Sort.Word; byte = b; at = t.at; end = p; next = e; joined = Some e }

      bytes-there : (get_or (drop p s) 0 0 ≡ 39) × (get_or (drop p m) 0 0 ≡ 42)
      bytes-there = (get_d-here s p 0 ∙ j.joins.0, get_d-here m p 0 ∙ j.joins.1)

      there : Joined (drop p m) (drop p s)
      there = joined-here (copied s m l.copy p) bytes-there.0 bytes-there.1

      one_on : (v : List ℕ) → drop 1 (drop p v) ≡ drop (p + 1) v
      one_on v = drop-drop 1 p v

      long : 0 < word_length (drop (p + 1) m)
      long = let h : 0 < word_length (drop (p + 1) s) = rw (one_on s) at there.long in omega (arith, words_same s m l.copy (p + 1))

      ends : e ≡ p + 1 + word_length (drop (p + 1) s)
      ends = omega (arith, j.is, words_same s m l.copy (p + 1))

      plain-there : get_or m e 0 ≡ get_or s e 0
      plain-there =
          let h : get_or (drop (p + 1) m) (word_length (drop (p + 1) s)) 0 ≡ get_or (drop (p + 1) s) (word_length (drop (p + 1) s)) 0 = rw (one_on s, one_on m) at there.plain in
          rw ends (sym (get_or-drop (p + 1) m (word_length (drop (p + 1) s)) 0) ∙ h ∙ get_or-drop (p + 1) s (word_length (drop (p + 1) s)) 0)

      -- the apostrophe, the parameter, and what follows
      abbrev parameter_item : Item
      parameter_item = a_word (p + 1) (take (word_length (drop (p + 1) m)) (drop (p + 1) m))

      read-parameter : read outside (p + 1) (drop (p + 1) m) ≡ parameter_item ∷ read outside e (drop e m)
      read-parameter =
          let k₁ : p + 1 + word_length (drop (p + 1) m) ≡ e = sym j.is in
          read_word (p + 1) (drop (p + 1) m) long ∙ rw (drop-drop, k₁) refl

      read-joined : read outside p (drop p m) ≡ a_mark wrong p ∷ (parameter_item ∷ read outside e (drop e m))
      read-joined =
          let h : drop p m ≡ 42 ∷ drop (p + 1) m = drop_here m p (omega (arith, j.within, same_length s m l.copy)) ∙ ap (λ (b : ℕ). b ∷ drop (p + 1) m) j.joins.1 in
          ap (read outside p) h ∙ read-star p (drop (p + 1) m) ∙ ap (λ (is : List Item). a_mark wrong p ∷ is) read-parameter

      abbrev parameter_element : Element
      parameter_element = record { at = p + 1; sort = word; byte = byte_at s (p + 1); typed = part s (p + 1) e; joined = [] }

      abbrev apostrophe : Element
      apostrophe = record { at = p; sort = wrong; byte = byte_at s p; typed = []; joined = [] }

      parameter-is : element_of s parameter_item ≡ parameter_element
      unfolding element_of
      parameter-is = rw (word_typed s m l.copy (p + 1) e j.is) refl

      parameter-ends : end_of parameter_element ≡ e
      parameter-ends = simp (length-take, length-drop) (omega (arith, ends, j.most, same_length s m l.copy))

      parameter-alone : link parameter_element (elements_of s (read outside e (drop e m))) ≡ parameter_element ∷ elements_from s e
      unfolding link
      parameter-alone =
          let o = not-joined s m l.copy e (λ h x y. omega (arith, plain-there)) in
          rw (parameter-ends, o) (λ i. parameter_element ∷ rest_from e i)

      apostrophe-alone : (ts : List Element) → link (element_of s (a_mark wrong p)) ts ≡ apostrophe ∷ ts
      unfolding link element_of
      apostrophe-alone ts = refl

      linked-there : from_next ≡ apostrophe ∷ (parameter_element ∷ elements_from s e)
      unfolding linked
      linked-there =
          let behind = ap (λ (x : Element). link x (elements_of s (read outside e (drop e m)))) parameter-is ∙ parameter-alone in
          ap (elements_of s) read-joined
          ∙ ap (λ (ts : List Element). link (element_of s (a_mark wrong p)) ts) behind
          ∙ apostrophe-alone (parameter_element ∷ elements_from s e)

      pub joined_next : (b : ℕ) → b ≡ get_or s t.at 10 → NextElement s n (Some (joined_element b))
      unfolding element_of
      joined_next b f =
          let y = k.stands in
          let q : is word (item_of m t) ≡ true = rw w refl in
          let near : eqb 39 (byte_at s p) ≡ true = eq-eqb 39 (byte_at s p) (sym (sym (any-default s p j.within) ∙ j.joins.0)) in
          let v : Element = element_of s (item_of m t) in
          let three = joined-three v apostrophe parameter_element (elements_from s e) q near (sym word-ends) refl (ap (λ (i : ℕ). i + 1) (sym word-ends)) refl in
          let size = same_length s m l.copy in
          known
          (record {
            from = k.from;
            held =
                record {
                  own = omega (arith, y.own, y.behind);
                  ends = omega (arith, y.most, size);
                  small = l.size;
                  joined_ends = (omega (arith, ends), le_refl e);
                  most = omega (arith, j.most, size);
                };
            more = let x = some_bytes (ap is_some w) in omega (arith, ends);
            is =
                some-from (ap is_some w)
                ∙ ap (link v) linked-there
                ∙ three
                ∙ ap (λ (u : Element). record { at = u.at; sort = u.sort; byte = u.byte; typed = u.typed; joined = part s (p + 1) e ∷ [] } ∷ elements_from s e) (word_is b f);
          })

    pub word-next : (b : ℕ) → b ≡ get_or s t.at 10 → (o : Option ℕ) → JoinedEnd s m t.next o
        → NextElement s n (Some (record { sort = Sort.Word; byte = b; at = t.at; end = t.next; next = unwrap_or o t.next; joined = o }))
    word-next b f None j = word_next b f j
    word-next b f (Some e) j = joined_next j b f
