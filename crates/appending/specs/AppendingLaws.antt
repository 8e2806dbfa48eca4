-- What is written grows by what is put behind it.
use Rattle.std.specs.Prelude.{◌≡◌, refl, Option, Some, None, MatchOption, List, [], ◌++◌, ℕ, ◌+◌, ◌<◌, length, take, drop}
use Rattle.std.proofs.Common.{sym, ap, subst, ◌∙◌, arith, append_assoc, length-append, length-take, take_at}
use Rattle.appending.specs.Appending.{Written, Writes, Behind, Beyond, Appends}

-- at first nothing is
pub written_none : (c : List ℕ) → Written [] 0 c
written_none c = record { counted = refl; held = refl }

-- what stands in front of the index behind what is put
pub behind-front : {c : List ℕ} {n : ℕ} {w d : List ℕ} {r : ℕ} → Behind c n w d r → take r d ≡ take n c ++ w
behind-front {c} {n} {w} {r} k =
    let m : length (take n c ++ w) ≡ r = simp (length-append, length-take) (omega (arith, k.counted, k.fits)) in
    ap (take r) (k.held ∙ sym (append_assoc (take n c) w (drop (n + length w) c))) ∙ take_at (take n c ++ w) (drop (n + length w) c) r m

module _ {x : List ℕ} {n : ℕ} {c : List ℕ} (g : Written x n c) where
  pub written-more : {w d : List ℕ} {r : ℕ} → Behind c n w d r → Written (x ++ w) r d
  written-more {w} k = record { counted = omega (arith, k.counted, g.counted, length-append x w); held = behind-front k ∙ ap (λ y. y ++ w) g.held }

  -- where what is put does not fit, the whole does not
  pub written-beyond : (w : List ℕ) → length c < n + length w → length c < length (x ++ w)
  written-beyond w h = omega (arith, g.counted, length-append x w)

  pub writes-more : {w d : List ℕ} {r : Option ℕ} → Appends c n w r d → length d ≡ length c → Writes (x ++ w) r d
  writes-more {w} {r = None} k l = record { told = omega (arith, l, written-beyond w k.told.long) }
  writes-more {r = Some n} k l = record { told = written-more k.told }

-- what is put, and that it does not fit
module _ {c : List ℕ} {n : ℕ} {w : List ℕ} {r : Option ℕ} {d : List ℕ} (k : Appends c n w r d) where
  pub fitted : {m : ℕ} → r ≡ Some m → Behind c n w d m
  fitted e = subst (λ r. MatchOption r (Beyond c n w d) (Behind c n w d)) e k.told

  pub unfit : r ≡ None → length c < n + length w
  unfit e =
      let h : Beyond c n w d = subst (λ r. MatchOption r (Beyond c n w d) (Behind c n w d)) e k.told in
      h.long
