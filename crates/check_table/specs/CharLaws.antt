-- Characters four to a cell: those of a name or a text, and the zeros behind them.
use Rattle.std.specs.Prelude.{◌≡◌, refl, Bool, cond, List, [], ◌∷◌, ℕ, zero, suc, ◌+◌, ◌*◌, ◌/◌, ◌%◌, ◌≤◌, ◌<◌, T, eqb, length, take, drop}
use Rattle.std.proofs.Common.{sym, ◌∙◌, subst, eqb→eq, length-drop, length-take-le, get_or-take, get_or-drop, ext_get_or, lt-ltb, le-ltb}
use Rattle.std.proofs.Math.Path.{ap}
use Rattle.std.proofs.Math.Decide.{dec_lt}
use native.Mathlib.Omega.{arith}
use Rattle.std.proofs.Math.ListN.{get_or-eq_default}
use Rattle.characters.specs.Characters.{known}
use Rattle.lists.specs.ListLaws.{T-both, all-at}
use Rattle.lists.specs.Lists.{all}
use Rattle.layout.specs.Bounds.{Below}
use Rattle.layout.proofs.CellLaws.{length-fours, each_at, each-drop}
use Rattle.layout.specs.Cells.{cell, four, fours, unfours}
use Rattle.check_parts.specs.Parts.{alphanumeric, char, char_fits, chars_fit}
use Rattle.check_parts.specs.PassLaws.{each_below, all-below}
use Rattle.check_table.specs.StandLaws.{stands, stands-cell, cells-stand}

-- ---- four by four

pub length-unfours : (l : List ℕ) → length (unfours l) ≡ 4 * length l
unfolding unfours
length-unfours [] = refl
length-unfours (x ∷ l) = omega (arith, length-unfours l)

-- character j is in cell j / 4
unfours-cell : (l : List ℕ) (q r : ℕ) → r < 4 → cell (unfours l) (4 * q + r) ≡ cell (unfours (cell l q ∷ [])) r
unfolding unfours
unfours-cell [] zero zero h = refl
unfours-cell [] zero (suc zero) h = refl
unfours-cell [] zero (suc (suc zero)) h = refl
unfours-cell [] zero (suc (suc (suc zero))) h = refl
unfours-cell [] zero (suc (suc (suc (suc r)))) h = refl
unfours-cell [] (suc q) zero h = refl
unfours-cell [] (suc q) (suc zero) h = refl
unfours-cell [] (suc q) (suc (suc zero)) h = refl
unfours-cell [] (suc q) (suc (suc (suc zero))) h = refl
unfours-cell [] (suc q) (suc (suc (suc (suc r)))) h = refl
unfours-cell (x ∷ l) zero zero h = refl
unfours-cell (x ∷ l) zero (suc zero) h = refl
unfours-cell (x ∷ l) zero (suc (suc zero)) h = refl
unfours-cell (x ∷ l) zero (suc (suc (suc zero))) h = refl
unfours-cell (x ∷ l) zero (suc (suc (suc (suc r)))) h = absurd (omega (arith, h))
unfours-cell (x ∷ l) (suc q) r h =
    let e : 4 * suc q + r ≡ suc (suc (suc (suc (4 * q + r)))) = omega arith in
    rw e (unfours-cell l q r h)

-- cells are what their characters are
pub fours-unfours : (l : List ℕ) → fours (length l) (unfours l) ≡ l
unfolding fours unfours
fours-unfours [] = refl
fours-unfours (x ∷ l) = let e : x % 256 + 256 * (x / 256 % 256) + 65536 * (x / 65536 % 256) + 16777216 * (x / 16777216) ≡ x = omega arith in rw (e, fours-unfours l)

fours-ext : (n : ℕ) (v w : List ℕ) → ((j : ℕ) → cell v j ≡ cell w j) → fours n v ≡ fours n w
unfolding fours
fours-ext zero v w h = refl
fours-ext (suc n) v w h =
    let t = fours-ext n (drop 4 v) (drop 4 w) (λ j. get_or-drop 4 v j 0 ∙ h (4 + j) ∙ sym (get_or-drop 4 w j 0)) in
    rw (h 0, h 1, h 2, h 3, t)

-- bytes are read back, and zeros behind them
bytes_back : (a b c d : ℕ) → a < 256 → b < 256 → c < 256 → let x : ℕ = a + 256 * b + 65536 * c + 16777216 * d in
    (x % 256 ≡ a) × (x / 256 % 256 ≡ b) × (x / 65536 % 256 ≡ c) × (x / 16777216 ≡ d)
bytes_back a b c d p q r = (omega arith, omega arith, omega arith, omega arith)

four-back : (w : List ℕ) → Below 256 w → let x : ℕ = four w in
    (x % 256 ≡ cell w 0) × (x / 256 % 256 ≡ cell w 1) × (x / 65536 % 256 ≡ cell w 2) × (x / 16777216 ≡ cell w 3)
four-back w k =
    let at : (j : ℕ) → cell w j < 256 = each_at (λ x. x < 256) 0 (omega arith) w k in
    bytes_back (cell w 0) (cell w 1) (cell w 2) (cell w 3) (at 0) (at 1) (at 2)

pub unfours-fours : (n : ℕ) (w : List ℕ) → Below 256 w → (j : ℕ) → j < 4 * n → cell (unfours (fours n w)) j ≡ cell w j
unfolding fours unfours
unfours-fours zero w k j h = absurd (omega (arith, h))
unfours-fours (suc n) w k zero h = (four-back w k).0
unfours-fours (suc n) w k (suc zero) h = (four-back w k).1
unfours-fours (suc n) w k (suc (suc zero)) h = (four-back w k).2
unfours-fours (suc n) w k (suc (suc (suc zero))) h = (four-back w k).3
unfours-fours (suc n) w k (suc (suc (suc (suc j)))) h =
    let z : 4 + j ≡ suc (suc (suc (suc j))) = omega arith in
    unfours-fours n (drop 4 w) (each-drop (λ x. x < 256) 4 w k) j (omega (arith, h)) ∙ get_or-drop 4 w j 0 ∙ ap (cell w) z

-- what each element passes
pub all-cells : (q : ℕ → Bool) (w : List ℕ) → ((j : ℕ) → j < length w → T (q (cell w j))) → T (all q w)
all-cells q [] h = tt
all-cells q (x ∷ w) h = T-both (q x) (all q w) (h 0 (omega arith)) (all-cells q w (λ j b. h (suc j) (omega (arith, b))))

-- ---- the 15 cells of a name or a text

module _ (t : List ℕ) (at n : ℕ) (inside : at + 15 ≤ length t) (short : n ≤ 60) where
  abbrev cs : List ℕ
  cs = take 15 (drop at t)

  abbrev u : List ℕ
  u = unfours cs

  abbrev w : List ℕ
  w = take n u

  length-cs : length cs ≡ 15
  length-cs = length-take-le 15 (drop at t) (rw length-drop (omega arith))

  length-u : length u ≡ 60
  length-u = omega (arith, length-unfours cs, length-cs)

  pub length-w : length w ≡ n
  length-w = length-take-le n u (omega (arith, length-u))

  cs-cell : (j : ℕ) → j < 15 → cell cs j ≡ cell t (at + j)
  cs-cell j b = get_or-take 15 (drop at t) j 0 b ∙ get_or-drop at t j 0

  pub char_is : (j : ℕ) → j < 60 → cell u j ≡ char t at j
  unfolding char
  char_is j b =
      let e : 4 * (j / 4) + j % 4 ≡ j = omega arith in
      ap (λ (i : ℕ). cell u i) (sym e) ∙ unfours-cell cs (j / 4) (j % 4) (omega arith) ∙ ap (λ (x : ℕ). cell (unfours (x ∷ [])) (j % 4)) (cs-cell (j / 4) (omega arith))

  pub w_cell : (j : ℕ) → j < n → cell w j ≡ char t at j
  w_cell j b = get_or-take n u j 0 b ∙ char_is j (omega arith)

  -- zeros behind the characters
  abbrev pub Behind : Type 0
  Behind = (j : ℕ) → n ≤ j → j < 60 → char t at j ≡ 0

  w-all : Behind → (j : ℕ) → cell w j ≡ cell u j
  w-all z j = go (dec_lt j n) (dec_lt j 60)
    where
      go : Dec (j < n) → Dec (j < 60) → cell w j ≡ cell u j
      go (yes b) d = get_or-take n u j 0 b
      go (no b) (yes d) = get_or-eq_default w 0 {n = j} (omega (arith, length-w)) ∙ sym (char_is j d ∙ z j (omega arith) d)
      go (no b) (no d) = get_or-eq_default w 0 {n = j} (omega (arith, length-w)) ∙ sym (get_or-eq_default u 0 {n = j} (omega (arith, length-u)))

  pub chars-stand : Behind → T (stands t at (fours 15 w))
  chars-stand z =
      let e : fours 15 w ≡ cs = fours-ext 15 w u (w-all z) ∙ ap (λ (k : ℕ). fours k u) (sym length-cs) ∙ fours-unfours cs in
      rw e (cells-stand t at cs (λ j b. sym (cs-cell j (omega (arith, b, length-cs)))))

  pub stand-chars : Below 256 w → T (stands t at (fours 15 w)) → Behind
  stand-chars k h j a b =
      let l : length (fours 15 w) ≡ length cs = length-fours 15 w ∙ sym length-cs in
      let e : fours 15 w ≡ cs =
      ext_get_or 0 (fours 15 w) cs l (λ i c. sym (stands-cell t at (fours 15 w) h i c) ∙ sym (cs-cell i (omega (arith, c, length-fours 15 w)))) in
      sym (char_is j b) ∙ ap (λ (l : List ℕ). cell (unfours l) j) (sym e) ∙ unfours-fours 15 w k j (omega arith) ∙ get_or-eq_default w 0 {n = j} (omega (arith, length-w))

  -- as they are tested, character by character
  module _ (name : Bool) where
    abbrev pub good : ℕ → Bool
    good b = cond name (alphanumeric b) (known b)

    char-in : (j : ℕ) → j < n → char_fits t at n name j ≡ good (char t at j)
    unfolding char_fits
    char-in j b = rw (lt-ltb j n b)

    char-out : (j : ℕ) → n ≤ j → char_fits t at n name j ≡ eqb (char t at j) 0
    unfolding char_fits
    char-out j b = rw (le-ltb j n b)

    pub chars-good : T (chars_fit t at n name) → T (all good w)
    chars-good h =
        all-cells good w (λ j b.
        let c : j < n = omega (arith, b, length-w) in
        subst T (char-in j c ∙ ap good (sym (w_cell j c))) (each_below (char_fits t at n name) 60 h j (omega arith)))

    pub chars-end : T (chars_fit t at n name) → Behind
    chars-end h j a b = eqb→eq (char t at j) 0 (subst T (char-out j a) (each_below (char_fits t at n name) 60 h j b))

    pub chars_fit-of : T (all good w) → Behind → T (chars_fit t at n name)
    chars_fit-of h z = all-below (char_fits t at n name) 60 (λ j b. go j b (dec_lt j n))
      where
        go : (j : ℕ) → j < 60 → Dec (j < n) → T (char_fits t at n name j)
        go j b (yes c) = subst T (ap good (w_cell j c) ∙ sym (char-in j c)) (all-at good w h j 0 (omega (arith, length-w)))
        go j b (no c) = subst T (ap (λ (x : ℕ). eqb x 0) (sym (z j (omega arith) b)) ∙ sym (char-out j (omega arith))) tt
