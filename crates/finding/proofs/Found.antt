-- A search by its index, and what it says of the program that a table holds.
use mathlib.Core.Path.{◌≡◌, refl, sym, ap, ◌∙◌, subst}
use mathlib.Core.Bool.{Bool, true, false, ◌||◌}
use mathlib.Core.List.{List, [], ◌∷◌, ◌++◌, map}
use Prim.Native.Nat.{ℕ, suc, ◌+◌, ◌*◌, ◌%◌, ◌≤◌, ◌<◌}
use native.Mathlib.Omega.{arith}
use lib.Dec.{T, eqb, ltb, leb-suc-suc}
use lib.ListN.{length, get_or, take, drop, replicate, length-map, length-drop}
use lib.IntN.{ℤ, pos, nat_abs}
use lib.Seq.{take_at, drop-drop, get_or-take, get_or-drop, length-take-le}
use borrow.Author.Tests.{eq-eqb, ne_eqb, lt-ltb}
use Rattle.std.specs.Option.{IfSome}
use Rattle.std.specs.Prelude.{Option, Some, None, cond, not, position, unwrap_or, is_some}
use Rattle.std.proofs.lemmas.List.Quantifiers.{position-Some}
use Rattle.std.specs.List.{position_or_len}
use Rattle.std.proofs.lemmas.List.{get_or-map}
use Rattle.acceptance.proofs.StatementLaws.{same_bytes-sym}
use Rattle.language.specs.Limits as limit
use Rattle.language.specs.Program.{Label, Program, no_label}
use Rattle.language.specs.Values.{same_number}
use Rattle.layout.proofs.CellLaws.{each_in, uncode-code, length-fours, take-unfours, block_at, first_cell, padded-at}
use Rattle.layout.specs.Cells.{cell, fours, code, uncode}
use Rattle.layout.specs.Table.{label_cells, text_cells, counts, chars_in, text_in, label_in}
use Rattle.layout.specs.Places as layout
use Rattle.lists.specs.Lists.{any, ahead, bytes_equal}
use Rattle.lists.specs.SearchLaws.{ahead-is, position_or_length}
use Rattle.machine.proofs.ValueLaws.{same_number-eq, same_number-refl}
use Rattle.packed.specs.Packed.{table_of}
use Rattle.table.proofs.Keys.{Missed, FirstHit, found_at, found_none}
use Rattle.writing.proofs.Growing.{code_part, labels_part, texts_part, switches_part, entries_part, numbers_part, parts, in_parts, label-long, text-long, sizes}
use Rattle.writing.proofs.Held.{text_count, label_count, number_count}
use Rattle.writing.proofs.Parts.{labels_at, texts-at, numbers-at}
use Rattle.writing.specs.Writing.{Short, HoldsProgram, IsNumber}
use Rattle.finding.specs.Finding.{Counted, Locates, LocatesFor, Tells, TellsFor}

-- ---- names and texts as they stand in the table

chars-back : (c t r : List ℕ) (k : ℕ) → drop k c ≡ fours 15 t ++ r → Short t → chars_in c (length t) k ≡ t
chars-back c t r k e s = rw (e, take_at (fours 15 t) r 15 (length-fours 15 t)) (take-unfours 15 t (omega (arith, s.most)) s.below)

behind : (c b r : List ℕ) (x k : ℕ) → drop k c ≡ x ∷ b ++ r → drop (1 + k) c ≡ b ++ r
behind c b r x k e = let z : k + 1 ≡ 1 + k = omega arith in rw z at (sym (drop-drop 1 k c) ∙ ap (drop 1) e)

module _ (c : List ℕ) (p : Program) (h : HoldsProgram c p) where
  held : table_of c ≡ parts p
  held = h.is ∙ in_parts p

  pub text-read : (k : ℕ) → k < length p.texts → text_in (table_of c) k ≡ get_or p.texts k []
  text-read k b =
      let t : List ℕ = get_or p.texts k [] in
      let x : List ℕ = parts p in
      let e = texts-at (counts p) (code_part p) (labels_part p) (texts_part p) (switches_part p) (entries_part p) (numbers_part p) (sizes p h.tabular) in
      let q = block_at 16 text_cells text-long x _ layout.first_text 2048 [] p.texts k e b in
      let n : cell x (layout.first_text + 16 * k) ≡ length t = first_cell x (text_cells t) q.0 (layout.first_text + 16 * k) q.1 (omega arith) in
      let z : 1 + (layout.first_text + 16 * k) ≡ layout.first_characters + 16 * k = omega arith in
      let f : drop (layout.first_characters + 16 * k) x ≡ fours 15 t ++ q.0 = rw z at (behind x (fours 15 t) q.0 (length t) (layout.first_text + 16 * k) q.1) in
      ap (λ (y : List ℕ). text_in y k) held ∙ rw n (chars-back x t q.0 (layout.first_characters + 16 * k) f (each_in Short p.texts h.tabular.texts_short k [] b))

  pub name-read : (k : ℕ) → k < length p.labels → (label_in (table_of c) k).name ≡ (get_or p.labels k no_label).name
  name-read k b =
      let l : Label = get_or p.labels k no_label in
      let x : List ℕ = parts p in
      let at : ℕ = layout.first_label + 16 * k in
      let e = labels_at (counts p) (code_part p) (labels_part p) (texts_part p) (switches_part p) (entries_part p) (numbers_part p) (sizes p h.tabular) in
      let q = block_at 16 label_cells label-long x _ layout.first_label 2048 no_label p.labels k e b in
      let s : Short l.name = each_in (λ y. Short y.name) p.labels h.tabular.names_short k no_label b in
      let m = s.most in
      let n : cell x at ≡ length l.name + 64 * l.target = first_cell x (label_cells l) q.0 at q.1 (omega arith) in
      let r : cell x at % 64 ≡ length l.name = rw n (omega arith) in
      let f = behind x (fours 15 l.name) q.0 (length l.name + 64 * l.target) at q.1 in
      ap (λ (y : List ℕ). (label_in y k).name) held ∙ rw r (chars-back x l.name q.0 (1 + at) f s)

  pub number_read : (k : ℕ) → k < length p.numbers → cell (table_of c) (layout.first_number + k) ≡ code (get_or p.numbers k (pos 0))
  number_read k b =
      let e = numbers-at (counts p) (code_part p) (labels_part p) (texts_part p) (switches_part p) (entries_part p) (numbers_part p) (sizes p h.tabular) in
      ap (λ (y : List ℕ). cell y (layout.first_number + k)) held
      ∙ padded-at (parts p) (map code p.numbers) (replicate 1752 0) layout.first_number 128 e k (rw length-map b) ∙ get_or-map code p.numbers k (pos 0) 0 b

-- ---- numbers by their codes

same_code : (z y : ℤ) → nat_abs z ≤ limit.size → nat_abs y ≤ limit.size → eqb (code y) (code z) ≡ same_number z y
same_code z y h k = go (same_number z y) refl
  where
    go : (b : Bool) → same_number z y ≡ b → eqb (code y) (code z) ≡ b
    go true e = eq-eqb (code y) (code z) (ap code (sym (same_number-eq z y (subst T (sym e) tt))))
    go false e =
        ne_eqb (code y) (code z) (λ f.
        let q : z ≡ y = sym (uncode-code z h) ∙ ap uncode (sym f) ∙ uncode-code y k in
        subst T (ap (same_number z) q ∙ e) (same_number-refl z))

-- ---- the place of the first that passes, in rows that pass alike

module _ {X Y : Type 0} (q : X → Bool) (t : Y → Bool) (d : X) (e : Y) where
  position-alike : (xs : List X) (ys : List Y) → length xs ≡ length ys → ((j : ℕ) → j < length xs → q (get_or xs j d) ≡ t (get_or ys j e)) → position_or_len q xs ≡ position_or_len t ys
  position-alike [] [] l h = refl
  position-alike [] (y ∷ ys) l h = absurd (omega (arith, l))
  position-alike (x ∷ xs) [] l h = absurd (omega (arith, l))
  position-alike (x ∷ xs) (y ∷ ys) l h =
      let r = position-alike xs ys (omega (arith, l)) (λ j b. h (suc j) (omega (arith, b))) in
      λ i. cond (not (h 0 (omega arith) i)) (1 + r i) 0

  position-same : (xs : List X) (ys : List Y) → length xs ≡ length ys → ((j : ℕ) → j < length xs → q (get_or xs j d) ≡ t (get_or ys j e)) → position q xs ≡ position t ys
  position-same xs ys l h = let r = position-alike xs ys l h in λ i. cond (ltb (r i) (l i)) (Some (r i)) None

-- ---- the three searches

module _ (c w : List ℕ) where
  abbrev pub text_hit : ℕ → Bool
  text_hit j = bytes_equal (text_in (table_of c) j) w

  abbrev pub name_hit : ℕ → Bool
  name_hit j = bytes_equal (label_in (table_of c) j).name w

  text-tests : (p : Program) → HoldsProgram c p → (j : ℕ) → j < length p.texts → text_hit j ≡ bytes_equal w (get_or p.texts j [])
  text-tests p h j l = ap (λ (t : List ℕ). bytes_equal t w) (text-read c p h j l) ∙ same_bytes-sym (get_or p.texts j []) w

  name-tests : (p : Program) → HoldsProgram c p → (j : ℕ) → j < length p.labels → name_hit j ≡ bytes_equal w (get_or p.labels j no_label).name
  name-tests p h j l = ap (λ (t : List ℕ). bytes_equal t w) (name-read c p h j l) ∙ same_bytes-sym (get_or p.labels j no_label).name w

  text_found : (n k : ℕ) → n ≡ cell (table_of c) 4 → n ≤ 128 → Missed text_hit k → k < n → text_hit k ≡ true → Locates c (λ p. p.texts) (bytes_equal w) (Some k)
  text_found n k is top m l e =
      record {
        is = λ p h. found_at (bytes_equal w) [] p.texts text_hit (text-tests p h) k (omega (arith, is, text_count c p h)) m e;
        most = omega arith;
      }

  text-none : (n : ℕ) → n ≡ cell (table_of c) 4 → Missed text_hit n → Locates c (λ p. p.texts) (bytes_equal w) None
  text-none n is m =
      record { is = λ p h. found_none (bytes_equal w) [] p.texts text_hit (text-tests p h) n (is ∙ text_count c p h) m; most = tt }

  name-found : (n k : ℕ) → n ≡ cell (table_of c) 1 → n ≤ 128 → Missed name_hit k → k < n → name_hit k ≡ true → Locates c (λ p. p.labels) (λ l. bytes_equal w l.name) (Some k)
  name-found n k is top m l e =
      record {
        is = λ p h. found_at (λ x. bytes_equal w x.name) no_label p.labels name_hit (name-tests p h) k (omega (arith, is, label_count c p h)) m e;
        most = omega arith;
      }

  name-none : (n : ℕ) → n ≡ cell (table_of c) 1 → Missed name_hit n → Locates c (λ p. p.labels) (λ l. bytes_equal w l.name) None
  name-none n is m =
      record { is = λ p h. found_none (λ x. bytes_equal w x.name) no_label p.labels name_hit (name-tests p h) n (is ∙ label_count c p h) m; most = tt }

  pub text-located : {n : ℕ} (r : Option ℕ) → n ≡ cell (table_of c) 4 → n ≤ 128 → FirstHit text_hit n r → Locates c (λ p. p.texts) (bytes_equal w) r
  text-located None is top h = text-none _ is h
  text-located (Some k) is top h = text_found _ k is top h.2 h.0 h.1

  pub name-located : {n : ℕ} (r : Option ℕ) → n ≡ cell (table_of c) 1 → n ≤ 128 → FirstHit name_hit n r → Locates c (λ p. p.labels) (λ l. bytes_equal w l.name) r
  name-located None is top h = name-none _ is h
  name-located (Some k) is top h = name-found _ k is top h.2 h.0 h.1

module _ (c : List ℕ) (v : ℕ) where
  abbrev pub number_hit : ℕ → Bool
  number_hit j = eqb (get_or c (layout.first_number + j) 0) v

  number-tests : (z : ℤ) (p : Program) → HoldsProgram c p → IsNumber v z p → (j : ℕ) → j < length p.numbers → number_hit j ≡ same_number z (get_or p.numbers j (pos 0))
  number-tests z p h a j l =
      let r : get_or c (layout.first_number + j) 0 ≡ code (get_or p.numbers j (pos 0)) = sym (get_or-take 8192 c (layout.first_number + j) 0 (omega (arith, h.tabular.numbers_most))) ∙ number_read c p h j l in
      (λ i. eqb (r i) (a.is i)) ∙ same_code z (get_or p.numbers j (pos 0)) a.small (each_in (λ y. nat_abs y ≤ limit.size) p.numbers h.tabular.numbers_small j (pos 0) l)

  -- the numbers as they stand in the table
  abbrev codes : ℕ → List ℕ
  codes n = take n (drop layout.first_number c)

  pub number-located : {n : ℕ} {r : Option ℕ} → n ≡ cell (table_of c) 5 → n ≤ 128 → layout.first_number + n ≤ length c → r ≡ position (λ x. eqb x v) (codes n)
      → LocatesFor c (IsNumber v) (λ p. p.numbers) same_number r
  number-located {n} {r} is top room e =
      record {
        is = λ z p h a.
            let x : n ≡ length p.numbers = is ∙ number_count c p h in
            e ∙ position-same (λ y. eqb y v) (same_number z) 0 (pos 0) (codes n) p.numbers (size ∙ x)
            (λ j l. let b : j < n = omega (arith, l, size) in
            ap (λ y. eqb y v) (get_or-take n (drop layout.first_number c) j 0 b ∙ get_or-drop layout.first_number c j 0) ∙ number-tests z p h a j (omega (arith, b, x)));
        most = few r e;
      }
    where
      size : length (codes n) ≡ n
      size = length-take-le n (drop layout.first_number c) (omega (arith, length-drop layout.first_number c, room))

      few : (o : Option ℕ) → o ≡ position (λ x. eqb x v) (codes n) → IfSome o (λ k. k < 128)
      few None q = tt
      few (Some k) q = omega (arith, (position-Some (λ x. eqb x v) (codes n) k 0 (sym q)).0, size, top)

-- ---- a place, or the count where there is none

module _ {X : Type 0} (q : X → Bool) where
  pub place_or : (xs : List X) {o : Option ℕ} {n v : ℕ} → o ≡ position q xs → n ≡ length xs → v ≡ unwrap_or o n → v ≡ ahead q xs
  place_or xs e f g = g ∙ (λ i. unwrap_or (e i) (f i)) ∙ position_or_length q xs

pub most-or : (o : Option ℕ) (n v : ℕ) → IfSome o (λ k. k < 128) → n ≤ 128 → v ≡ unwrap_or o n → v ≤ 128
most-or (Some k) n v h l e = omega (arith, h, e)
most-or None n v h l e = omega (arith, l, e)

-- the place in the list, or the count, of whatever program the cells c hold
pub told_or : {X : Type 0} {c : List ℕ} {f : Program → List X} {q : X → Bool} {o : Option ℕ} {n v : ℕ} → Locates c f q o → ((p : Program) → HoldsProgram c p → n ≡ length (f p)) → n ≤ 128 → v ≡ unwrap_or o n
    → Tells c (λ p. ahead q (f p)) 128 v
told_or {X} {c} {f} {q} {o} {n} {v} t m l e = record { is = λ p h. place_or q (f p) (t.is p h) (m p h) e; most = most-or o n v t.most l e }

pub number_told : (c : List ℕ) (v : ℕ) {o : Option ℕ} {n k : ℕ} → LocatesFor c (IsNumber v) (λ p. p.numbers) same_number o → n ≡ cell (table_of c) 5 → n ≤ 128 → k ≡ unwrap_or o n
    → TellsFor c (IsNumber v) (λ z p. ahead (same_number z) p.numbers) 128 k
number_told c v {o} {n} {k} t is l e = record { is = λ z p h a. place_or (same_number z) p.numbers (t.is z p h a) (is ∙ number_count c p h) e; most = most-or o n k t.most l e }

pub text_told : (c w : List ℕ) {o : Option ℕ} {n v : ℕ} → Locates c (λ p. p.texts) (bytes_equal w) o → n ≡ cell (table_of c) 4 → n ≤ 128 → v ≡ unwrap_or o n
    → Tells c (λ p. ahead (bytes_equal w) p.texts) 128 v
text_told c w t is l e = told_or t (λ p h. is ∙ text_count c p h) l e

pub label_told : (c w : List ℕ) {o : Option ℕ} {n v : ℕ} → Locates c (λ p. p.labels) (λ l. bytes_equal w l.name) o → n ≡ cell (table_of c) 1 → n ≤ 128 → v ≡ unwrap_or o n
    → Tells c (λ p. ahead (λ l. bytes_equal w l.name) p.labels) 128 v
label_told c w t is l e = told_or t (λ p h. is ∙ label_count c p h) l e

-- something passes where there is a place
pub some_any : {X : Type 0} (q : X → Bool) (xs : List X) {o : Option ℕ} → o ≡ position q xs → any q xs ≡ is_some o
some_any {X} q xs e = any_ahead xs ∙ ap (λ (n : ℕ). ltb n (length xs)) (ahead-is q xs) ∙ sym (some_cond (ltb (position_or_len q xs) (length xs))) ∙ ap is_some (sym e)
  where
    some_cond : (b : Bool) → is_some (cond b (Some (position_or_len q xs)) None) ≡ b
    some_cond true = refl
    some_cond false = refl

    any_ahead : (ys : List X) → any q ys ≡ ltb (ahead q ys) (length ys)
    any_ahead [] = refl
    any_ahead (y ∷ ys) =
        elim (q y) as (λ b. (b || any q ys) ≡ ltb (elim b [ true ↦ 0 | false ↦ suc (ahead q ys) ]) (suc (length ys))) [
          | true ↦ sym (lt-ltb 0 (suc (length ys)) (omega arith))
          | false ↦ any_ahead ys ∙ sym (leb-suc-suc (suc (ahead q ys)) (length ys))
        ]

-- ---- what is asked, from the program that the table holds

module _ (c : List ℕ) (p : Program) (h : HoldsProgram c p) where
  pub labels-counted : Counted c 1 128
  labels-counted = record { most = omega (arith, label_count c p h, h.tabular.labels_most) }
