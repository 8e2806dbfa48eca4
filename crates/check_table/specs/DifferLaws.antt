-- Texts and numbers that differ, by their cells.
use Rattle.std.specs.Prelude.{◌≡◌, Bool, ◌&&◌, ℕ, suc, ◌+◌, ◌*◌, ◌-◌, ◌≤◌, ◌<◌, eqb, drop}
use Rattle.std.proofs.Math.Path.{sym, ap, ap₂, subst}
use Rattle.std.proofs.Common.{◌∙◌, length-drop, length-take-le, get_or-take, get_or-drop}
use Rattle.std.proofs.Math.Bool.{not}
use mathlib.Core.List.{List}
use native.Mathlib.Omega.{arith}
use Rattle.std.proofs.Math.Dec.{T, eqb→eq, eqb_refl}
use Rattle.std.proofs.Math.ListN.{length, take}
use Rattle.std.proofs.Math.Seq.{ext_get_or}
use Rattle.language.specs.Values.{same_number}
use Rattle.lists.specs.ListLaws.{T-left, T-right, T-both, same_bytes-eq, same_bytes-refl}
use Rattle.lists.specs.Lists.{bytes_equal}
use Rattle.machine.specs.WellFormed.{different}
use Rattle.layout.proofs.CellLaws.{length-fours}
use Rattle.layout.specs.Cells.{cell, unfours, tab}
use Rattle.layout.specs.Table.{text_cells, text_in, number_in}
use Rattle.layout.specs.Places as layout
use Rattle.check_parts.specs.Parts.{passes, text_fits, texts_same, number_fits}
use Rattle.check_parts.specs.PassLaws.{passes-each, passes-all, each_below, all-below, different-tab}
use Rattle.check_table.specs.Checks.{text_new, text_stays, number_new, number_stays}
use Rattle.check_table.specs.NameLaws.{kept_good, text-sound, text-complete}
use Rattle.check_table.specs.SearchLaws.{alike, passes-alike, same_codes, number_good, number-alike}
use Rattle.check_table.specs.StandLaws.{stands, stands-cell}

pub alike-within : (f g : ℕ → Bool) (n k : ℕ) → ((i : ℕ) → k ≤ i → i < k + n → f i ≡ g i) → passes f n k ≡ passes g n k
alike-within f g n k e =
    alike (passes f n k) (passes g n k) (λ h. passes-all g n k (λ i a b. subst T (e i a b) (passes-each f n k h i a b)))
    (λ h. passes-all f n k (λ i a b. subst T (sym (e i a b)) (passes-each g n k h i a b)))

-- ---- two texts

module _ (t : List ℕ) (long : length t ≡ 8192) where
  abbrev Written : ℕ → Type 0
  Written k = T (stands t (layout.first_text + 16 * k) (text_cells (text_in t k)))

  module _ (i j : ℕ) (bi : i < 128) (bj : j < 128) where
    abbrev eq_at : ℕ → Bool
    eq_at q = eqb (cell t (layout.first_text + 16 * i + q)) (cell t (layout.first_text + 16 * j + q))

    fifteen : (k q : ℕ) → k < 128 → q < 15 → cell (take 15 (drop (layout.first_characters + 16 * k) t)) q ≡ cell t (layout.first_text + 16 * k + suc q)
    fifteen k q b c = get_or-take 15 (drop (layout.first_characters + 16 * k) t) q 0 c ∙ get_or-drop (layout.first_characters + 16 * k) t q 0 ∙ ap (cell t) (omega arith)

    fifteen-long : (k : ℕ) → k < 128 → length (take 15 (drop (layout.first_characters + 16 * k) t)) ≡ 15
    fifteen-long k b = length-take-le 15 (drop (layout.first_characters + 16 * k) t) (rw length-drop (omega (arith, long)))

    same_text : T (texts_same t i j) → text_in t i ≡ text_in t j
    unfolding texts_same
    same_text h =
        let at : (q : ℕ) → q < 16 → cell t (layout.first_text + 16 * i + q) ≡ cell t (layout.first_text + 16 * j + q) =
        λ q b. eqb→eq (cell t (layout.first_text + 16 * i + q)) (cell t (layout.first_text + 16 * j + q)) (each_below eq_at 16 h q b) in
        let zi : layout.first_text + 16 * i + 0 ≡ layout.first_text + 16 * i = omega arith in
        let zj : layout.first_text + 16 * j + 0 ≡ layout.first_text + 16 * j = omega arith in
        let first : cell t (layout.first_text + 16 * i) ≡ cell t (layout.first_text + 16 * j) = ap (cell t) (sym zi) ∙ at 0 (omega arith) ∙ ap (cell t) zj in
        let rest : take 15 (drop (layout.first_characters + 16 * i) t) ≡ take 15 (drop (layout.first_characters + 16 * j) t) =
        ext_get_or 0 (take 15 (drop (layout.first_characters + 16 * i) t)) (take 15 (drop (layout.first_characters + 16 * j) t)) (fifteen-long i bi ∙ sym (fifteen-long j bj)) (λ q b.
        let c : q < 15 = omega (arith, b, fifteen-long i bi) in
        fifteen i q bi c ∙ at (suc q) (omega (arith, c)) ∙ sym (fifteen j q bj c)) in
        ap₂ (λ (n : ℕ) (l : List ℕ). take n (unfours l)) first rest

    text_same : Written i → Written j → text_in t i ≡ text_in t j → T (texts_same t i j)
    unfolding texts_same
    text_same hi hj e =
        all-below eq_at 16 (λ q b.
        let l : (w : List ℕ) → q < length (text_cells w) = λ w. omega (arith, b, length-fours 15 w) in
        let z : cell t (layout.first_text + 16 * i + q) ≡ cell t (layout.first_text + 16 * j + q) =
        stands-cell t (layout.first_text + 16 * i) (text_cells (text_in t i)) hi q (l (text_in t i)) ∙ ap (λ (w : List ℕ). cell (text_cells w) q) e ∙ sym (stands-cell t (layout.first_text + 16 * j) (text_cells (text_in t j)) hj q (l (text_in t j))) in
        subst (λ (x : ℕ). T (eqb (cell t (layout.first_text + 16 * i + q)) x)) z (eqb_refl (cell t (layout.first_text + 16 * i + q))))

    texts-alike : Written i → Written j → texts_same t i j ≡ bytes_equal (text_in t i) (text_in t j)
    texts-alike hi hj =
        alike (texts_same t i j) (bytes_equal (text_in t i) (text_in t j)) (λ h. subst (λ (w : List ℕ). T (bytes_equal (text_in t i) w)) (same_text h) (same_bytes-refl (text_in t i)))
        (λ h. text_same hi hj (same_bytes-eq (text_in t i) (text_in t j) h))

  -- ---- all texts

  module _ (n : ℕ) (few : n ≤ 128) where
    abbrev news : ℕ → Bool
    news i = passes (λ j. not (bytes_equal (text_in t i) (text_in t j))) (n - (i + 1)) (i + 1)

    new-alike : ((k : ℕ) → k < n → Written k) → (i : ℕ) → i < n → text_new t n i ≡ news i
    unfolding text_new
    new-alike w i b =
        alike-within (λ j. not (texts_same t i j)) (λ j. not (bytes_equal (text_in t i) (text_in t j))) (n - (i + 1)) (i + 1) (λ j c d.
        ap not (texts-alike i j (omega (arith, b, few)) (omega (arith, c, d, few, b)) (w i b) (w j (omega (arith, c, d, b)))))

    pub record TextsFact : Type 0 where
      pub good : (k : ℕ) → k < n → T (kept_good (text_in t k))
      pub written : (k : ℕ) → k < n → T (stands t (layout.first_text + 16 * k) (text_cells (text_in t k)))
      pub new : T (different bytes_equal (tab n (text_in t)))

    pub texts-sound : T (passes (text_stays t n) n 0) → TextsFact
    unfolding text_stays
    texts-sound h =
        let each-ok : (k : ℕ) → k < n → T (text_fits t k && text_new t n k) = each_below (text_stays t n) n h in
        let fit : (k : ℕ) → k < n → T (text_fits t k) = λ k b. T-left (text_fits t k) (text_new t n k) (each-ok k b) in
        let w : (k : ℕ) → k < n → Written k = λ k b. (text-sound t long k (omega (arith, b, few)) (fit k b)).1 in
        record {
          good = λ k b. (text-sound t long k (omega (arith, b, few)) (fit k b)).0;
          written = w;
          new = subst T (sym (different-tab (text_in t) bytes_equal n)) (all-below news n (λ i b. subst T (new-alike w i b) (T-right (text_fits t i) (text_new t n i) (each-ok i b))));
        }

    pub texts-complete : TextsFact → T (passes (text_stays t n) n 0)
    unfolding text_stays
    texts-complete q =
        let new : T (passes news n 0) = subst T (different-tab (text_in t) bytes_equal n) q.new in
        all-below (text_stays t n) n (λ i b.
        T-both (text_fits t i) (text_new t n i) (text-complete t long i (omega (arith, b, few)) (q.good i b) (q.written i b)) (subst T (sym (new-alike q.written i b)) (each_below news n new i b)))

-- ---- all numbers

module _ (t : List ℕ) (n : ℕ) where
  abbrev number_news : ℕ → Bool
  number_news i = passes (λ j. not (same_number (number_in t i) (number_in t j))) (n - (i + 1)) (i + 1)

  number_new-alike : (i : ℕ) → number_new t n i ≡ number_news i
  unfolding number_new
  number_new-alike i =
      passes-alike (λ j. not (eqb (cell t (layout.first_number + i)) (cell t (layout.first_number + j)))) (λ j. not (same_number (number_in t i) (number_in t j)))
      (λ j. ap not (sym (same_codes (cell t (layout.first_number + i)) (cell t (layout.first_number + j))))) (n - (i + 1)) (i + 1)

  pub record NumbersFact : Type 0 where
    pub good : (k : ℕ) → k < n → T (number_good (number_in t k))
    pub new : T (different same_number (tab n (number_in t)))

  pub numbers-sound : T (passes (number_stays t n) n 0) → NumbersFact
  unfolding number_stays
  numbers-sound h =
      let each-ok : (k : ℕ) → k < n → T (number_fits t k && number_new t n k) = each_below (number_stays t n) n h in
      record {
        good = λ k b. subst T (number-alike t k) (T-left (number_fits t k) (number_new t n k) (each-ok k b));
        new = subst T (sym (different-tab (number_in t) same_number n)) (all-below number_news n (λ i b. subst T (number_new-alike i) (T-right (number_fits t i) (number_new t n i) (each-ok i b))));
      }

  pub numbers-complete : NumbersFact → T (passes (number_stays t n) n 0)
  unfolding number_stays
  numbers-complete q =
      let new : T (passes number_news n 0) = subst T (different-tab (number_in t) same_number n) q.new in
      all-below (number_stays t n) n (λ i b.
      T-both (number_fits t i) (number_new t n i) (subst T (sym (number-alike t i)) (q.good i b)) (subst T (sym (number_new-alike i)) (each_below number_news n new i b)))
