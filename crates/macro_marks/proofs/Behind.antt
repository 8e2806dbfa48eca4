-- Where the reader of joining apostrophes stands behind an item.
use mathlib.Core.Path.{◌≡◌, refl, ap, sym, subst, ◌∙◌}
use mathlib.Core.Bool.{Bool, true, false, cond, ◌&&◌, and-true, true≢false, false≢true}
use mathlib.Core.List.{List, [], ◌∷◌}
use Prim.Native.Nat.{ℕ, ◌+◌, ◌≤◌}
use native.Mathlib.Nat.{add-zero}
use native.Mathlib.Omega.{arith}
use lib.Dec.{eqb}
use lib.ListN.{length, get_or, drop, length-drop}
use lib.Seq.{drop-drop, get_or-drop}
use Rattle.std.specs.Prelude.{None, is_some}
use Rattle.language.specs.Program.{identifier}
use Rattle.lexer.specs.declared.Token.{Token}
use Rattle.lexer.specs.Tokens.{item_of, chars_of, found_by, TokenAt}
use Rattle.macros.specs.Marks.{byte_at, Part, passed_by, item_passed, part_after, Reader, parameters_in, word_in, joins}
use Rattle.macros.proofs.PlainLaws.{here}
use Rattle.syntax.specs.Items.{Sort, sort_of, Item, is, a_mark, opens, begins, itself, mode_after, items_at}
use Rattle.syntax.specs.Items.Sort.{separator, word, colon, end, text, wrong}
use Rattle.syntax.specs.Items.Mode.{outside, in_word, in_text}
use Rattle.syntax.specs.Scan.{word_length, passes, Gap, gap_from, Found, text_found, found_here, found_in, found_after, item_at}
use Rattle.syntax.specs.Scan.Gap.{clear, unclosed}
use Rattle.syntax.specs.Scan.Found.{no_item, found}
use Rattle.syntax.proofs.SortLaws.{same-sort}
use Rattle.macro_marks.specs.Parts.{word_joins}
use Rattle.macro_marks.proofs.Leading.{reader, Leads, leads-none, leads_one, leads-both, unjoined, no_word, Stops, GapLeads, gap_leads, WordStops, word-stops, word_first, word-leads, joins_at, word_out, text-leads}

-- behind a word the reader is still in it
abbrev pub behind : List ℕ → Part → Item → Reader
behind s p i = cond (is word i) (reader (in_word i.at i.chars) p false) (reader outside (item_passed p (byte_at s i.at) i) false)

abbrev pub FoundLeads : List ℕ → Part → ℕ → Found → Type 0
FoundLeads s p n no_item = (e : ℕ) × (drop e s ≡ []) × Leads s (reader outside p false) n (reader outside p false) e
FoundLeads s p n (found i e) = Leads s (reader outside p false) n (behind s p i) e × (is word i ≡ true → WordStops (drop e s))

module _ (s : List ℕ) (p : Part) where
  found-more : (n m : ℕ) (x : Found) → Leads s (reader outside p false) n (reader outside p false) m → FoundLeads s p m x → FoundLeads s p n x
  found-more n m no_item g h = (h.0, h.1, leads-both s g h.2)
  found-more n m (found i e) g h = (leads-both s g h.0, h.1)

  mark-here : (i : Item) (n b : ℕ) (r : List ℕ) → drop n s ≡ b ∷ r → mode_after outside n b (get_or r 0 0) ≡ outside → items_at outside n b (get_or r 0 0) ≡ i ∷ []
      → Leads s (reader outside p false) n (reader outside (item_passed p (byte_at s n) i) false) (n + 1)
  unfolding part_after word_in
  mark-here i n b r e m k =
      let st = reader outside p false in
      leads_one s st (reader outside (item_passed p (byte_at s n) i) false) n b r e (unjoined st n b r (no_word st b r refl) ∙ rw (m, k, (here n s b r e).0) refl)

  text_first : (n b : ℕ) (r : List ℕ) → drop n s ≡ b ∷ r → sort_of b ≡ text → Leads s (reader outside p false) n (reader (in_text n false [] true) p false) (n + 1)
  unfolding part_after word_in mode_after items_at begins itself
  text_first n b r e z =
      let st = reader outside p false in
      leads_one s st (reader (in_text n false [] true) p false) n b r e (unjoined st n b r (no_word st b r refl) ∙ rw z refl)

  here-leads : (k : Sort) (n b : ℕ) (r : List ℕ) → drop n s ≡ b ∷ r → sort_of b ≡ k → passes k (opens b (get_or r 0 0)) ≡ false → FoundLeads s p n (found_here k n b r)
  unfolding passes found_here text_found mode_after items_at begins itself
  here-leads separator n b r e z h = absurd (true≢false h)
  here-leads word n b r e z h =
      let f = (here n s b r e).1 in
      let q : drop (word_length r) r ≡ drop (n + 1 + word_length r) s = ap (drop (word_length r)) (sym f) ∙ drop-drop (word_length r) (n + 1) s in
      (leads-both s (word_first s p false n b r e z) (word-leads s p false n (b ∷ []) (n + 1) r f), λ y. subst WordStops q (word-stops r))
  here-leads colon n b r e z h = (mark-here (a_mark colon n) n b r e (rw z refl) (rw z refl), λ y. absurd (false≢true y))
  here-leads end n b r e z h = (mark-here (a_mark end n) n b r e (rw z refl) (rw z refl), λ y. absurd (false≢true y))
  here-leads text n b r e z h = (leads-both s (text_first n b r e z) (text-leads s p n false [] true (n + 1) r (here n s b r e).1), λ y. absurd (false≢true y))
  here-leads wrong n b r e z h = (mark-here (a_mark wrong n) n b r e (rw (z, h) refl) (rw (z, h) refl), λ y. absurd (false≢true y))

  found-leads : (e : ℕ) (r : List ℕ) → drop e s ≡ r → Stops r → FoundLeads s p e (found_in e r)
  unfolding found_in
  found-leads e [] q h = (e, q, leads-none s (reader outside p false) e)
  found-leads e (b ∷ r) q h = here-leads (sort_of b) e b r q refl h

  item-leads : (n : ℕ) → n ≤ length s → FoundLeads s p n (item_at s n)
  unfolding found_after
  item-leads n l = go (gap_from outside n (drop n s)) (gap_leads s p outside n (drop n s) refl refl (simp length-drop (omega arith)))
    where
      go : (x : Gap) → GapLeads s p outside n x → FoundLeads s p n (found_after s x)
      go (clear e) h = found-more n e (found_in e (drop e s)) h.0 (found-leads e (drop e s) refl h.1)
      go (unclosed q) h = (h (behind s p (a_mark wrong q)), λ y. absurd (false≢true y))

-- ---- whether the word before place e is joined to the one behind it

pub joins-there : (s : List ℕ) (p : Part) (at : ℕ) (w : List ℕ) (e : ℕ) (r : List ℕ) → drop e s ≡ r → joins_at (reader (in_word at w) p false) r ≡ word_joins s w (parameters_in p) e
unfolding joins word_in
joins-there s p at w e [] h =
    let b : byte_at s e ≡ 10 = ap (λ (i : ℕ). get_or s i 10) (sym (add-zero e)) ∙ sym (get_or-drop e s 0 10) ∙ ap (λ (l : List ℕ). get_or l 0 10) h in
    rw b refl
joins-there s p at w e (b ∷ r) h =
    let q = here e s b r h in
    rw (q.0, q.1, and-true (eqb b 39 && identifier w)) refl

-- ---- one token further

module _ {s : List ℕ} {n : ℕ} {t : Token} (k : TokenAt s n t) (l : n ≤ length s) (p : Part) where
  abbrev item : Item
  item = item_of s t

  by_token : FoundLeads s p n (found_by s t)
  by_token = subst (λ (x : Found). FoundLeads s p n x) k.is (item-leads s p n l)

  pub none-leads : t.sort ≡ None → (e : ℕ) × (drop e s ≡ []) × Leads s (reader outside p false) n (reader outside p false) e
  none-leads z = rw z at by_token

  pub by-item : is_some t.sort ≡ true → FoundLeads s p n (found item t.next)
  by-item z = rw z at by_token

  pub passes_on : is_some t.sort ≡ true → (is word item && word_joins s (chars_of s t) (parameters_in p) t.next) ≡ false
      → Leads s (reader outside p false) n (reader outside (item_passed p (byte_at s t.at) item) false) t.next
  passes_on z h = go (is word item) refl h (by-item z).0 (by-item z).1
    where
      passed-word : is word item ≡ true → passed_by p (chars_of s t ∷ []) ≡ item_passed p (byte_at s t.at) item
      passed-word e = rw (same-sort word item.sort e) refl

      go : (b : Bool) → is word item ≡ b → (b && word_joins s (chars_of s t) (parameters_in p) t.next) ≡ false
          → Leads s (reader outside p false) n (cond b (reader (in_word t.at (chars_of s t)) p false) (reader outside (item_passed p (byte_at s t.at) item) false)) t.next
          → (b ≡ true → WordStops (drop t.next s))
          → Leads s (reader outside p false) n (reader outside (item_passed p (byte_at s t.at) item) false) t.next
      go true e f g w =
          leads-both s g
          (subst (λ (q : Part). Leads s (reader (in_word t.at (chars_of s t)) p false) t.next (reader outside q false) t.next) (passed-word e)
          (word_out s p false t.at (chars_of s t) t.next (drop t.next s) refl (w refl) (joins-there s p t.at (chars_of s t) t.next (drop t.next s) refl ∙ f)))
      go false e f g w = g
