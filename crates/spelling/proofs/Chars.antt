-- One turn of the loops over a text's bytes, as laws over lists; and what two rows of bytes being the same comes to.
use mathlib.Core.Path.{◌≡◌, refl, ap, sym, subst, ◌∙◌}
use mathlib.Core.Bool.{Bool, true, false, cond}
use mathlib.Core.List.{List, [], ◌∷◌, ◌++◌, append_assoc, append-nil}
use Prim.Native.Nat.{ℕ, suc, ◌+◌, ◌-◌, ◌≤◌, ◌<◌}
use native.Mathlib.Nat.{zero-add, add-zero}
use native.Mathlib.Numerals.{add-one}
use native.Mathlib.Omega.{arith}
use lib.Dec.{eqb}
use lib.ListN.{length, get_or, set, length-append}
use lib.Seq.{set_split, take-length}
use Rattle.words.specs.Below.Cells.{pasted}
use Rattle.words.proofs.Below.CellsLaws.{pasted-none, pasted-pasted}
use Rattle.scanner.specs.Below.Items.{pair_of, takes_next, char_of}
use Rattle.scanner.specs.Below.SyntaxScan.{text_chars}
use Rattle.scanner.proofs.Loops.{drop_here}
use Rattle.lexer.specs.Tokens.{part}
use Rattle.std.proofs.Common.{Some, None, unwrap_or}
use borrow.Author.Tests.{eqb-true, ne_eqb}
use Rattle.scanner.specs.Scans.{if_pair}
use Rattle.spelling.specs.Spelling.{Gives, Put, text_in, FitsText}

-- what a byte gives
pub pair_gives : (b : ℕ) → Gives true b (Some (unwrap_or (if_pair (pair_of b)) 0))
unfolding char_of
pair_gives b = go (eqb (pair_of b) 0) refl
  where
    go : (t : Bool) → eqb (pair_of b) 0 ≡ t → pair_of b ∷ [] ≡ unwrap_or (cond t None (Some (pair_of b))) 0 ∷ []
    go true e = rw (eqb-true (pair_of b) 0 e)
    go false e = refl

pub star_gives : (b : ℕ) → b ≡ 42 → Gives false b None
unfolding char_of
star_gives b e = rw e

pub itself_gives : (b : ℕ) → (b ≡ 42 → ⊥) → Gives false b (Some b)
unfolding char_of
itself_gives b n = rw (ne_eqb b 42 n)

-- its character, put
pub puts_none : (d : List ℕ) (j : ℕ) {cs : List ℕ} → cs ≡ [] → Put d j cs j d
puts_none d j e = rw e (record { is = pasted-none d j; next = sym (add-zero j) })

pub puts_one : (d : List ℕ) (j c : ℕ) {cs : List ℕ} → cs ≡ c ∷ [] → j < length d → Put d j cs (j + 1) (set d j c)
puts_one d j c e h = rw e (record { is = rw (set_split d j c h, add-one) refl; next = refl })

-- a part, byte by byte
pub part-here : (s : List ℕ) (i e : ℕ) → i < e → e ≤ length s → part s i e ≡ get_or s i 0 ∷ part s (i + 1) e
part-here s i e h l =
    let k : e - i ≡ suc (e - (i + 1)) = omega arith in
    rw (k, drop_here s i (omega arith)) refl

pub part_none : (s : List ℕ) (i e : ℕ) → e ≤ i → part s i e ≡ []
part_none s i e h = let k : e - i ≡ 0 = omega arith in rw k refl

-- the characters from place i on, with `star` there
abbrev pub left : List ℕ → ℕ → ℕ → Bool → List ℕ
left s i e star = text_chars star (part s i e)

pub left-on : (s : List ℕ) (i e : ℕ) (star : Bool) → i < e → e ≤ length s → left s i e star ≡ char_of star (get_or s i 0) ++ left s (i + 1) e (takes_next star (get_or s i 0))
unfolding text_chars
left-on s i e star h l = rw (part-here s i e h l) refl

pub left-none : (s : List ℕ) (i e : ℕ) (star : Bool) → e ≤ i → left s i e star ≡ []
unfolding text_chars
left-none s i e star h = rw (part_none s i e h) refl

-- Written out: the characters `done` are, and the others are left
pub record Putting (s : List ℕ) (a e : ℕ) (d : List ℕ) (i j : ℕ) (star : Bool) (o : List ℕ) : Type 0 where
  pub from : a ≤ i
  pub most : i ≤ e
  pub done : List ℕ
  pub place : j ≡ length done
  pub is : o ≡ pasted d 0 done
  pub rest : done ++ left s i e star ≡ text_in s a e

pub put-begins : {s : List ℕ} {a e : ℕ} {d : List ℕ} → a ≤ e → Putting s a e d a 0 false d
put-begins {s} {a} {e} {d} h = record { from = omega arith; most = h; done = []; place = refl; is = pasted-none d 0; rest = refl }

module _ {s : List ℕ} {a e : ℕ} {d : List ℕ} {i j : ℕ} {star : Bool} {o : List ℕ} (fits : FitsText s a e d) (c : Putting s a e d i j star o) (h : i < e) where
  abbrev its : List ℕ
  its = char_of star (get_or s i 0)

  whole : (c.done ++ its) ++ left s (i + 1) e (takes_next star (get_or s i 0)) ≡ text_in s a e
  whole =
      append_assoc c.done its (left s (i + 1) e (takes_next star (get_or s i 0)))
      ∙ ap (λ l. c.done ++ l) (sym (left-on s i e star h fits.between.most)) ∙ c.rest

  count : length c.done + length its ≤ length d
  count = omega (arith, fits.room, simp length-append at (ap length whole))

  pub put-room : length o ≡ length d → j + length its ≤ length o
  put-room q = omega (arith, c.place, count)

  pub put_on : {r : ℕ} {o' : List ℕ} → Put o j its r o' → Putting s a e d (i + 1) r (takes_next star (get_or s i 0)) o'
  put_on p =
      record {
        from = omega (arith, c.from);
        most = omega arith;
        done = c.done ++ its;
        place = p.next ∙ rw c.place (sym (length-append c.done its));
        is = p.is ∙ rw (c.is, c.place) (ap (λ (k : ℕ). pasted (pasted d 0 c.done) k its) (sym (zero-add (length c.done))) ∙ pasted-pasted d 0 c.done its (omega (arith, count)));
        rest = whole;
      }

pub put-done : {s : List ℕ} {a e : ℕ} {d : List ℕ} {i j : ℕ} {star : Bool} {o : List ℕ} → Putting s a e d i j star o → e ≤ i → Put d 0 (text_in s a e) j o
put-done {s} {a} {e} {d} {i} {j} {star} c h =
    let q : c.done ≡ text_in s a e = sym (append-nil c.done) ∙ ap (λ l. c.done ++ l) (sym (left-none s i e star h)) ∙ c.rest in
    record { is = c.is ∙ ap (pasted d 0) q; next = c.place ∙ ap length q ∙ omega arith }

-- a part as a text of its own
own-part : (bs : List ℕ) → part bs 0 (length bs) ≡ bs
own-part bs = let e : length bs - 0 ≡ length bs = omega arith in rw e (take-length bs)

own-text : (bs : List ℕ) → text_in bs 0 (length bs) ≡ text_chars false bs
own-text bs = ap (text_chars false) (own-part bs)

pub fits-own : {s : List ℕ} {a e : ℕ} {d : List ℕ} → FitsText s a e d → FitsText (part s a e) 0 (length (part s a e)) d
fits-own {s} {a} {e} f = record { between = record { order = omega arith; most = omega arith }; room = rw (own-text (part s a e)) f.room }

pub own-done : (s : List ℕ) (a e : ℕ) {d : List ℕ} {i j : ℕ} {star : Bool} {o : List ℕ} → Putting (part s a e) 0 (length (part s a e)) d i j star o → length (part s a e) ≤ i
    → Put d 0 (text_in s a e) j o
own-done s a e {d} {j = j} {o = o} c h = subst (λ (cs : List ℕ). Put d 0 cs j o) (own-text (part s a e)) (put-done c h)
