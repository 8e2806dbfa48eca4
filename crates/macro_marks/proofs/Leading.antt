-- The reader of joining apostrophes from item to item: what it copies on its way, and where it stands then.
use mathlib.Core.Path.{◌≡◌, refl, ap, sym, subst, ◌∙◌}
use mathlib.Core.Bool.{Bool, true, false, cond, ◌&&◌, and-true, and-false, true≢false, false≢true}
use mathlib.Core.List.{List, [], ◌∷◌, ◌++◌, append_assoc, append-nil}
use Prim.Native.Nat.{ℕ, suc, ◌+◌}
use native.Mathlib.Nat.{add-zero}
use native.Mathlib.Omega.{arith}
use lib.Dec.{eqb}
use lib.ListN.{length, get_or, take, drop, length-append}
use borrow.Author.Tests.{eqb-true}
use Rattle.syntax.proofs.ItemLaws.{new_line}
use Rattle.language.specs.Program.{identifier}
use Rattle.macros.specs.Marks.{Part, passed_by, part_after, Reader, word_in, joins, reader_after, marked_from}
use Rattle.macros.proofs.PlainLaws.{here}
use Rattle.syntax.specs.Items.{sort_of, same_sort, ends_text, takes_next, char_of, allows, Mode, opens, begins, itself, mode_after, items_at}
use Rattle.syntax.specs.Items.Sort.{word}
use Rattle.syntax.specs.Items.Stage.{first-star, inside, last-slash}
use Rattle.syntax.specs.Items.Mode.{outside, in_word, in_comment, in_text}
use Rattle.syntax.specs.Scan.{word_length, text_length, is_closed, passes, in_gap, Gap, gap_end, gap_from}
use Rattle.syntax.specs.Scan.Gap.{clear, unclosed}
use Rattle.syntax.proofs.ItemLaws.{between_items, passed}

abbrev pub reader : Mode → Part → Bool → Reader
reader m p j = record { mode = m; part = p; joined = j }

-- From place n to place e of the text s the reader copies
pub record Leads (s : List ℕ) (st : Reader) (n : ℕ) (st' : Reader) (e : ℕ) : Type 0 where
  pub bytes : List ℕ
  pub is : drop n s ≡ bytes ++ drop e s
  pub size : e ≡ n + length bytes
  pub gives : marked_from st n (drop n s) ≡ bytes ++ marked_from st' e (drop e s)

module _ (s : List ℕ) where
  pub leads-as : (st st' : Reader) (n : ℕ) → marked_from st n (drop n s) ≡ marked_from st' n (drop n s) → Leads s st n st' n
  leads-as st st' n h = record { bytes = []; is = refl; size = omega arith; gives = h }

  pub leads-none : (st : Reader) (n : ℕ) → Leads s st n st n
  leads-none st n = leads-as st st n refl

  pub leads-end : (st st' : Reader) (n : ℕ) → drop n s ≡ [] → Leads s st n st' n
  unfolding marked_from
  leads-end st st' n h = leads-as st st' n (rw h refl)

  pub leads_one : (st st' : Reader) (n b : ℕ) (r : List ℕ) → drop n s ≡ b ∷ r → marked_from st n (b ∷ r) ≡ b ∷ marked_from st' (n + 1) r → Leads s st n st' (n + 1)
  leads_one st st' n b r e h =
      let f : drop (n + 1) s ≡ r = (here n s b r e).1 in
      record { bytes = b ∷ []; is = rw (e, f) refl; size = omega arith; gives = rw (e, f) h }

  pub leads-both : {st st' st'' : Reader} {n m e : ℕ} → Leads s st n st' m → Leads s st' m st'' e → Leads s st n st'' e
  leads-both {st} {st'} {st''} {n} {m} {e} g h =
      record {
        bytes = g.bytes ++ h.bytes;
        is = g.is ∙ ap (λ (w : List ℕ). g.bytes ++ w) h.is ∙ sym (append_assoc g.bytes h.bytes (drop e s));
        size = simp length-append (omega (arith, g.size, h.size));
        gives = g.gives ∙ ap (λ (w : List ℕ). g.bytes ++ w) h.gives ∙ sym (append_assoc g.bytes h.bytes (marked_from st'' e (drop e s)));
      }

-- ---- bytes that do not join

pub unjoined : (st : Reader) (n b : ℕ) (r : List ℕ) → joins st b r ≡ false
    → marked_from st n (b ∷ r)
    ≡ b ∷ marked_from (reader (mode_after st.mode n b (get_or r 0 0)) (part_after st.part b (items_at st.mode n b (get_or r 0 0))) (st.joined && same_sort word (sort_of b))) (n + 1) r
unfolding marked_from reader_after
unjoined st n b r h = rw h refl

pub other_byte : (st : Reader) (b : ℕ) (r : List ℕ) → eqb b 39 ≡ false → joins st b r ≡ false
unfolding joins
other_byte st b r h = rw h refl

pub no_word : (st : Reader) (b : ℕ) (r : List ℕ) → word_in st.mode ≡ [] → joins st b r ≡ false
unfolding joins
no_word st b r h = rw (h, and-false (eqb b 39)) refl

pub is_joined : (st : Reader) (b : ℕ) (r : List ℕ) → st.joined ≡ true → joins st b r ≡ false
unfolding joins
is_joined st b r h = rw (h, and-false (eqb b 39 && identifier (word_in st.mode))) refl

-- ---- gaps

gap-byte : (m : Mode) (n b next : ℕ) → between_items m ≡ true → in_gap m b next ≡ true
    → (items_at m n b next ≡ []) × (between_items (mode_after m n b next) ≡ true) × (word_in m ≡ [])
unfolding items_at mode_after in_gap word_in
gap-byte outside n b next g h = let p = passed (sort_of b) n b next h in (p.0, p.1, refl)
gap-byte (in_word at w) n b next g h = absurd (false≢true g)
gap-byte (in_comment at first-star) n b next g h = (refl, refl, refl)
gap-byte (in_comment at inside) n b next g h = (refl, refl, refl)
gap-byte (in_comment at last-slash) n b next g h = (refl, refl, refl)
gap-byte (in_text at star cs good) n b next g h = absurd (false≢true g)

-- the byte behind a gap, if there is one, is not a gap's
abbrev pub Stops : List ℕ → Type 0
Stops [] = Unit {0}
Stops (b ∷ r) = passes (sort_of b) (opens b (get_or r 0 0)) ≡ false

abbrev pub GapLeads : List ℕ → Part → Mode → ℕ → Gap → Type 0
GapLeads s p m n (clear e) = Leads s (reader m p false) n (reader outside p false) e × Stops (drop e s)
GapLeads s p m n (unclosed q) = (st : Reader) → Leads s (reader m p false) n st (length s)

module _ (s : List ℕ) (p : Part) where
  gap_more : (m l : Mode) (n : ℕ) (x : Gap) → Leads s (reader m p false) n (reader l p false) (n + 1) → GapLeads s p l (n + 1) x → GapLeads s p m n x
  gap_more m l n (clear e) g h = (leads-both s g h.0, h.1)
  gap_more m l n (unclosed q) g h = λ st. leads-both s g (h st)

  gap-one : (m : Mode) (n b : ℕ) (r : List ℕ) → drop n s ≡ b ∷ r → between_items m ≡ true → in_gap m b (get_or r 0 0) ≡ true
      → Leads s (reader m p false) n (reader (mode_after m n b (get_or r 0 0)) p false) (n + 1)
  unfolding part_after
  gap-one m n b r e g h =
      let k = gap-byte m n b (get_or r 0 0) g h in
      leads_one s (reader m p false) (reader (mode_after m n b (get_or r 0 0)) p false) n b r e
      (unjoined (reader m p false) n b r (no_word (reader m p false) b r k.2) ∙ rw k.0 refl)

  pub gap_leads : (m : Mode) (n : ℕ) (r : List ℕ) → between_items m ≡ true → drop n s ≡ r → n + length r ≡ length s → GapLeads s p m n (gap_from m n r)
  unfolding gap_from gap_end in_gap
  gap_leads outside n [] g e l = (leads-none s (reader outside p false) n, rw e tt)
  gap_leads (in_word at w) n [] g e l = absurd (false≢true g)
  gap_leads (in_comment at k) n [] g e l = λ st.
      let q : n ≡ length s = omega arith in
      subst (λ (i : ℕ). Leads s (reader (in_comment at k) p false) n st i) q (leads-end s (reader (in_comment at k) p false) st n e)
  gap_leads (in_text at star cs good) n [] g e l = absurd (false≢true g)
  gap_leads m n (b ∷ r) g e l =
      go (in_gap m b (get_or r 0 0)) refl (λ z. gap_leads (mode_after m n b (get_or r 0 0)) (n + 1) r z (here n s b r e).1 (omega arith))
    where
      stays : (i : Mode) → between_items i ≡ true → in_gap i b (get_or r 0 0) ≡ false → Leads s (reader i p false) n (reader outside p false) n × Stops (drop n s)
      stays outside z h = (leads-none s (reader outside p false) n, rw e h)
      stays (in_word at w) z h = absurd (false≢true z)
      stays (in_comment at k) z h = absurd (true≢false h)
      stays (in_text at star cs good) z h = absurd (false≢true z)

      later : Gap
      later = gap_from (mode_after m n b (get_or r 0 0)) (n + 1) r

      go : (t : Bool) → in_gap m b (get_or r 0 0) ≡ t → (between_items (mode_after m n b (get_or r 0 0)) ≡ true → GapLeads s p (mode_after m n b (get_or r 0 0)) (n + 1) later)
          → GapLeads s p m n (cond t later (clear n))
      go true h ih = gap_more m (mode_after m n b (get_or r 0 0)) n later (gap-one m n b r e g h) (ih (gap-byte m n b (get_or r 0 0) g h).1)
      go false h ih = stays m g h

-- ---- words

pub word-unquoted : (b : ℕ) → same_sort word (sort_of b) ≡ true → eqb b 39 ≡ false
unfolding sort_of
word-unquoted b h = go (eqb b 39) refl
  where
    go : (t : Bool) → eqb b 39 ≡ t → t ≡ false
    go true e = absurd (false≢true (rw (eqb-true b 39 e) at h))
    go false e = refl

pub longer : (n k : ℕ) → n + 1 + k ≡ n + suc k
longer n k = omega arith

-- the byte behind a word, if there is one, is not a word's
abbrev pub WordStops : List ℕ → Type 0
WordStops [] = Unit {0}
WordStops (b ∷ r) = same_sort word (sort_of b) ≡ false

pub word-stops : (r : List ℕ) → WordStops (drop (word_length r) r)
unfolding word_length
word-stops [] = tt
word-stops (b ∷ r) = go (same_sort word (sort_of b)) refl (word-stops r)
  where
    go : (t : Bool) → same_sort word (sort_of b) ≡ t → WordStops (drop (word_length r) r) → WordStops (drop (cond t (suc (word_length r)) 0) (b ∷ r))
    go true e k = k
    go false e k = e

module _ (s : List ℕ) (p : Part) (j : Bool) where
  word_byte : (at : ℕ) (w : List ℕ) (n b : ℕ) (r : List ℕ) → drop n s ≡ b ∷ r → same_sort word (sort_of b) ≡ true
      → Leads s (reader (in_word at w) p j) n (reader (in_word at (w ++ (b ∷ []))) p j) (n + 1)
  unfolding mode_after items_at part_after
  word_byte at w n b r e h =
      let st = reader (in_word at w) p j in
      leads_one s st (reader (in_word at (w ++ (b ∷ []))) p j) n b r e (unjoined st n b r (other_byte st b r (word-unquoted b h)) ∙ rw (h, and-true j) refl)

  pub word_first : (n b : ℕ) (r : List ℕ) → drop n s ≡ b ∷ r → sort_of b ≡ word → Leads s (reader outside p j) n (reader (in_word n (b ∷ [])) p j) (n + 1)
  unfolding mode_after items_at part_after begins itself
  word_first n b r e h =
      let st = reader outside p j in
      let g : same_sort word (sort_of b) ≡ true = rw h refl in
      leads_one s st (reader (in_word n (b ∷ [])) p j) n b r e (unjoined st n b r (other_byte st b r (word-unquoted b g)) ∙ rw (h, and-true j) refl)

  pub word-leads : (at : ℕ) (w : List ℕ) (n : ℕ) (r : List ℕ) → drop n s ≡ r
      → Leads s (reader (in_word at w) p j) n (reader (in_word at (w ++ take (word_length r) r)) p j) (n + word_length r)
  unfolding word_length
  word-leads at w n [] e = rw (append-nil w, add-zero n) (leads-none s (reader (in_word at w) p j) n)
  word-leads at w n (b ∷ r) e = go (same_sort word (sort_of b)) refl (word-leads at (w ++ (b ∷ [])) (n + 1) r (here n s b r e).1)
    where
      go : (t : Bool) → same_sort word (sort_of b) ≡ t
          → Leads s (reader (in_word at (w ++ (b ∷ []))) p j) (n + 1) (reader (in_word at ((w ++ (b ∷ [])) ++ take (word_length r) r)) p j) (n + 1 + word_length r)
          → Leads s (reader (in_word at w) p j) n (reader (in_word at (w ++ take (cond t (suc (word_length r)) 0) (b ∷ r))) p j) (n + cond t (suc (word_length r)) 0)
      go true h rest = leads-both s (word_byte at w n b r e h) (rw (append_assoc w (b ∷ []) (take (word_length r) r), longer n (word_length r)) at rest)
      go false h rest = rw (append-nil w, add-zero n) (leads-none s (reader (in_word at w) p j) n)

-- whether the byte in front of r joins
abbrev pub joins_at : Reader → List ℕ → Bool
joins_at st [] = false
joins_at st (b ∷ r) = joins st b r

-- behind a word that is joined to nothing
pub word_out : (s : List ℕ) (p : Part) (j : Bool) (at : ℕ) (w : List ℕ) (n : ℕ) (r : List ℕ) → drop n s ≡ r → WordStops r → joins_at (reader (in_word at w) p j) r ≡ false
    → Leads s (reader (in_word at w) p j) n (reader outside (passed_by p (w ∷ [])) false) n
unfolding mode_after items_at part_after word_in
word_out s p j at w n [] e h f = leads-end s (reader (in_word at w) p j) (reader outside (passed_by p (w ∷ [])) false) n e
word_out s p j at w n (b ∷ r) e h f =
    let out = reader outside (passed_by p (w ∷ [])) false in
    leads-as s (reader (in_word at w) p j) out n (rw e (unjoined (reader (in_word at w) p j) n b r f ∙ rw (h, and-false j) refl ∙ sym (unjoined out n b r (no_word out b r refl))))

-- ---- texts

text-place : (t : Bool) (n k : ℕ) → cond t (n + 1 + k + 1) (n + 1 + k) ≡ cond t (n + suc k + 1) (n + suc k)
text-place true n k = omega arith
text-place false n k = omega arith

module _ (s : List ℕ) (p : Part) (at : ℕ) where
  abbrev texted : Bool → List ℕ → Bool → Reader
  texted star cs good = reader (in_text at star cs good) p false

  abbrev out : Reader
  out = reader outside (passed_by p []) false

  text-ends : (star : Bool) (cs : List ℕ) (good : Bool) (n b : ℕ) (r : List ℕ) → drop n s ≡ b ∷ r → ends_text star b ≡ true → (t : Bool) → eqb b 39 ≡ t
      → Leads s (texted star cs good) n out (cond t (n + 1) n)
  unfolding mode_after items_at part_after word_in begins itself sort_of
  text-ends star cs good n b r e h true f =
      leads_one s (texted star cs good) out n b r e (unjoined (texted star cs good) n b r (no_word (texted star cs good) b r refl) ∙ rw (h, f) refl)
  text-ends star cs good n b r e h false f =
      leads-as s (texted star cs good) out n
      (rw (e, new_line star b h f) (unjoined (texted star cs good) n 10 r (no_word (texted star cs good) 10 r refl) ∙ rw (rw (new_line star b h f) at h) refl ∙ sym (unjoined out n 10 r (no_word out 10 r refl))))

  text-byte : (star : Bool) (cs : List ℕ) (good : Bool) (n b : ℕ) (r : List ℕ) → drop n s ≡ b ∷ r → ends_text star b ≡ false
      → Leads s (texted star cs good) n (texted (takes_next star b) (cs ++ char_of star b) (good && allows star b)) (n + 1)
  unfolding mode_after items_at part_after word_in
  text-byte star cs good n b r e h =
      leads_one s (texted star cs good) (texted (takes_next star b) (cs ++ char_of star b) (good && allows star b)) n b r e
      (unjoined (texted star cs good) n b r (no_word (texted star cs good) b r refl) ∙ rw h refl)

  pub text-leads : (star : Bool) (cs : List ℕ) (good : Bool) (n : ℕ) (r : List ℕ) → drop n s ≡ r
      → Leads s (texted star cs good) n out (cond (is_closed (drop (text_length star r) r)) (n + text_length star r + 1) (n + text_length star r))
  unfolding text_length
  text-leads star cs good n [] e = rw (add-zero n) (leads-end s (texted star cs good) out n e)
  text-leads star cs good n (b ∷ r) e =
      go (ends_text star b) refl (text-leads (takes_next star b) (cs ++ char_of star b) (good && allows star b) (n + 1) r (here n s b r e).1)
    where
      d : Bool
      d = takes_next star b

      go : (t : Bool) → ends_text star b ≡ t
          → Leads s (texted d (cs ++ char_of star b) (good && allows star b)) (n + 1) out (cond (is_closed (drop (text_length d r) r)) (n + 1 + text_length d r + 1) (n + 1 + text_length d r))
          → Leads s (texted star cs good) n out
          (cond (is_closed (drop (cond t 0 (suc (text_length d r))) (b ∷ r))) (n + cond t 0 (suc (text_length d r)) + 1) (n + cond t 0 (suc (text_length d r))))
      go true h rest = rw (add-zero n) (text-ends star cs good n b r e h (eqb b 39) refl)
      go false h rest =
          leads-both s (text-byte star cs good n b r e h) (rw (text-place (is_closed (drop (text_length d r) r)) n (text_length d r)) at rest)
