-- Switches of a table and their entries: tested one by one, they are well formed, written as they are read, and end with the last entry.
use Rattle.std.specs.Prelude.{◌≡◌, refl, true, false, cond, not, ◌&&◌, ◌||◌, ltb}
use Rattle.std.proofs.Math.Path.{sym, subst}
use Rattle.std.proofs.Common.{ap, ◌∙◌, arith, lt→ltb, eqb-true}
use Rattle.std.proofs.Math.Bool.{Bool}
use mathlib.Core.List.{List, [], ◌∷◌, ◌++◌, map, map-append}
use Prim.Native.Nat.{ℕ, zero, suc, ◌+◌, ◌-◌, ◌/◌, ◌%◌, ◌<◌}
use Rattle.std.proofs.Math.Dec.{T, eqb, eqb→eq, eqb_refl}
use Rattle.std.proofs.Math.ListN.{length}
use Rattle.std.proofs.lemmas.List.{length-map}
use Rattle.std.proofs.lemmas.Bool.{eqb-false}
use Rattle.language.specs.Program.{Entry, Switch, Program}
use Rattle.lists.specs.ListLaws.{T-left, T-right, T-both}
use Rattle.lists.specs.Lists.{total, all, filled, each}
use Rattle.machine.specs.WellFormed.{good_text, kept_text, good_entry, good_switch}
use Rattle.layout.proofs.CellLaws.{length-tab}
use Rattle.layout.specs.Cells.{cell, tab}
use Rattle.layout.specs.Table.{text_ref, switch_cell, switch_cells, entry_cell, text_by, entry_in, switch_in}
use Rattle.layout.specs.Places as layout
use Rattle.table.specs.Reads.{switch_first, switch_size}
use Rattle.check_parts.specs.Parts.{passes, ref_fits, entry_fits}
use Rattle.check_parts.specs.PassLaws.{passes-each, passes-all, each_below, all-below, all-tab}
use Rattle.check_table.specs.Checks.{switch_fits, switches_fit}
use Rattle.check_table.specs.NameLaws.{stands-cons, stands-head, stands-tail}
use Rattle.check_table.specs.RefLaws.{Kept, TextRef, ref-sound, ref-complete}
use Rattle.check_table.specs.SearchLaws.{T-is, either, left_or, right_or}
use Rattle.check_table.specs.StandLaws.{stands, stands-append, stands-map}

empty-is : (w : List ℕ) → T (not (filled w)) → w ≡ []
empty-is [] h = refl
empty-is (x ∷ w) h = absurd h

filled-tab : {X : Type 0} (n : ℕ) (g : ℕ → X) → filled (tab n g) ≡ ltb 0 n
unfolding tab
filled-tab zero g = refl
filled-tab (suc n) g = sym (T-is (ltb 0 (suc n)) (lt→ltb 0 (suc n) (omega arith)))

odd-bit : (x : ℕ) → cond (eqb (x % 2) 1) 1 0 ≡ x % 2
odd-bit x = go (eqb (x % 2) 1) refl
  where
    go : (b : Bool) → eqb (x % 2) 1 ≡ b → cond b 1 0 ≡ x % 2
    go true e = sym (eqb-true (x % 2) 1 e)
    go false e = let n = eqb-false (x % 2) 1 e in omega arith

module _ (t : List ℕ) (p : Program) (kept : Kept t p) where
  -- ---- entry e

  module _ (named : Bool) (e : ℕ) where
    abbrev x : ℕ
    x = cell t (layout.first_entry + e)

    abbrev v : ℕ
    v = x / 128

    abbrev w : List ℕ
    w = text_by t v

    abbrev a₁ : Bool
    a₁ = ltb (x % 128) (cell t 1)

    abbrev a₂ : Bool
    a₂ = eqb v 0 || (named && ref_fits t v)

    abbrev b₁ : Bool
    b₁ = ltb (x % 128) (length p.labels)

    abbrev b₃ : Bool
    b₃ = named && good_text w && kept_text p w

    abbrev b₂ : Bool
    b₂ = not (filled w) || b₃

    entry-text : T a₂ → T b₂ × (text_ref p w ≡ v)
    entry-text h = either (eqb v 0) (named && ref_fits t v) h none some
      where
        none : T (eqb (x / 128) 0) → T b₂ × (text_ref p w ≡ v)
        none z = let y : x / 128 ≡ 0 = eqb→eq (x / 128) 0 z in rw y (tt, refl)

        some : T (named && ref_fits t (x / 128)) → T b₂ × (text_ref p w ≡ v)
        some s =
            let r : TextRef t p kept v = ref-sound t p kept v (T-right named (ref_fits t v) s) in
            (right_or (not (filled w)) b₃ (T-both (named && good_text w) (kept_text p w) (T-both named (good_text w) (T-left named (ref_fits t v) s) r.good) r.has), r.is)

    pub entry-sound : T (entry_fits t named e) → T (good_entry p named (entry_in t e)) × (entry_cell p (entry_in t e) ≡ x)
    unfolding entry_fits
    entry-sound h =
        let q = entry-text (T-right a₁ a₂ h) in
        (T-both b₁ b₂ (subst (λ (m : ℕ). T (ltb (x % 128) m)) (sym kept.label_count) (T-left a₁ a₂ h)) q.0, omega (arith, q.1))

    text-entry : T b₂ → text_ref p w ≡ v → T a₂
    text-entry h r = either (not (filled w)) b₃ h none some
      where
        none : T (not (filled w)) → T a₂
        none z =
            let y : w ≡ [] = empty-is w z in
            let u : v ≡ 0 = sym r ∙ ap (text_ref p) y in
            left_or (eqb v 0) (named && ref_fits t v) (subst (λ (n : ℕ). T (eqb n 0)) (sym u) tt)

        some : T b₃ → T a₂
        some s =
            let s₂ = T-left (named && good_text w) (kept_text p w) s in
            right_or (eqb v 0) (named && ref_fits t v)
            (T-both named (ref_fits t v) (T-left named (good_text w) s₂)
            (ref-complete t p kept v (record { good = T-right named (good_text w) s₂; has = T-right (named && good_text w) (kept_text p w) s; is = r })))

    pub entry-complete : T (good_entry p named (entry_in t e)) → entry_cell p (entry_in t e) ≡ x → T (entry_fits t named e)
    unfolding entry_fits
    entry-complete h k =
        let r : text_ref p w ≡ v = omega (arith, k) in
        T-both a₁ a₂ (subst (λ (m : ℕ). T (ltb (x % 128) m)) kept.label_count (T-left b₁ b₂ h)) (text-entry (T-right b₁ b₂ h) r)

  -- ---- switch k, whose entries begin at entry `from`

  module _ (k from : ℕ) where
    abbrev y : ℕ
    y = cell t (layout.first_switch + k)

    abbrev s : ℕ
    s = switch_size t k

    abbrev named' : Bool
    named' = eqb (y % 2) 1

    abbrev sw : Switch
    sw = switch_in t k

    abbrev entry_of : ℕ → Entry
    entry_of j = entry_in t (switch_first t k + j)

    abbrev c₁ : Bool
    c₁ = eqb (switch_first t k) from

    abbrev c₂ : Bool
    c₂ = ltb 0 s

    abbrev c₃ : Bool
    c₃ = passes (entry_fits t named') (from + s - from) from

    pub entries-long : length sw.entries ≡ s
    entries-long = length-tab s entry_of

    pub record SwitchFact : Type 0 where
      pub good : T (good_switch p sw)
      pub is : switch_cell from sw ≡ y
      pub written : T (stands t (layout.first_entry + from) (map (entry_cell p) sw.entries))

    entry_place : (j : ℕ) → switch_first t k ≡ from → cell t (layout.first_entry + (switch_first t k + j)) ≡ cell t (layout.first_entry + from + j)
    entry_place j f = ap (cell t) (omega (arith, f))

    pub switch-sound : T (switch_fits t k from) → SwitchFact
    unfolding switch_fits good_switch
    switch-sound h =
        let f : switch_first t k ≡ from = eqb→eq (switch_first t k) from (T-left c₁ c₂ (T-left (c₁ && c₂) c₃ h)) in
        let fits : (j : ℕ) → j < s → T (entry_fits t named' (switch_first t k + j)) =
        λ j b. passes-each (entry_fits t named') (from + s - from) from (T-right (c₁ && c₂) c₃ h) (switch_first t k + j) (omega (arith, f)) (omega (arith, f, b)) in
        let goods : T (all (good_entry p named') sw.entries) =
        subst T (sym (all-tab entry_of (good_entry p named') s)) (all-below (λ j. good_entry p named' (entry_of j)) s (λ j b. (entry-sound named' (switch_first t k + j) (fits j b)).0)) in
        record {
          good = T-both (filled sw.entries) (all (good_entry p named') sw.entries) (subst T (sym (filled-tab s entry_of)) (T-right c₁ c₂ (T-left (c₁ && c₂) c₃ h))) goods;
          is = omega (arith, odd-bit y, entries-long, f);
          written = subst T (sym (stands-map t entry_of (entry_cell p) (layout.first_entry + from) s))
              (all-below (λ j. eqb (entry_cell p (entry_of j)) (cell t (layout.first_entry + from + j))) s (λ j b.
              subst (λ (n : ℕ). T (eqb (entry_cell p (entry_of j)) n)) ((entry-sound named' (switch_first t k + j) (fits j b)).1 ∙ entry_place j f) (eqb_refl (entry_cell p (entry_of j)))));
        }

    pub switch-complete : SwitchFact → T (switch_fits t k from)
    unfolding switch_fits good_switch
    switch-complete q =
        let f : switch_first t k ≡ from = omega (arith, q.is, entries-long, odd-bit y) in
        let good-all = subst T (all-tab entry_of (good_entry p named') s) (T-right (filled sw.entries) (all (good_entry p named') sw.entries) q.good) in
        let cells-all = subst T (stands-map t entry_of (entry_cell p) (layout.first_entry + from) s) q.written in
        let fits : (j : ℕ) → j < s → T (entry_fits t named' (switch_first t k + j)) =
        λ j b. entry-complete named' (switch_first t k + j) (each_below (λ j. good_entry p named' (entry_of j)) s good-all j b)
        (eqb→eq (entry_cell p (entry_of j)) (cell t (layout.first_entry + from + j)) (each_below (λ j. eqb (entry_cell p (entry_of j)) (cell t (layout.first_entry + from + j))) s cells-all j b) ∙ sym (entry_place j f)) in
        T-both (c₁ && c₂) c₃
        (T-both c₁ c₂ (subst (λ (n : ℕ). T (eqb (switch_first t k) n)) f (eqb_refl (switch_first t k))) (subst T (filled-tab s entry_of) (T-left (filled sw.entries) (all (good_entry p named') sw.entries) q.good)))
        (passes-all (entry_fits t named') (from + s - from) from (λ i a b.
        let z : switch_first t k + (i - from) ≡ i = omega (arith, f, a) in
        subst (λ (n : ℕ). T (entry_fits t named' n)) z (fits (i - from) (omega (arith, a, b)))))

  -- ---- all switches from k on

  abbrev entries_of : Switch → List Entry
  entries_of w = w.entries

  pub record SwitchesFact (k from : ℕ) (ws : List Switch) : Type 0 where
    pub good : T (all (good_switch p) ws)
    pub cells : T (stands t (layout.first_switch + k) (switch_cells from ws))
    pub written : T (stands t (layout.first_entry + from) (map (entry_cell p) (each entries_of ws)))
    pub end : from + total (λ w. length w.entries) ws ≡ cell t 3

  -- one before the others
  module _ (k from : ℕ) (ws : List Switch) where
    rest-written : stands t (layout.first_entry + from) (map (entry_cell p) ((sw k from).entries ++ each entries_of ws))
        ≡ (stands t (layout.first_entry + from) (map (entry_cell p) (sw k from).entries) && stands t (layout.first_entry + (from + s k from)) (map (entry_cell p) (each entries_of ws)))
    rest-written =
        let xs : List Entry = (sw k from).entries in
        let z : layout.first_entry + from + length (map (entry_cell p) xs) ≡ layout.first_entry + (from + s k from) = omega (arith, length-map xs (entry_cell p), entries-long k from) in
        ap (stands t (layout.first_entry + from)) (map-append (entry_cell p) xs (each entries_of ws))
        ∙ stands-append t (layout.first_entry + from) (map (entry_cell p) xs) (map (entry_cell p) (each entries_of ws))
        ∙ ap (λ (n : ℕ). stands t (layout.first_entry + from) (map (entry_cell p) xs) && stands t n (map (entry_cell p) (each entries_of ws))) z

    next_place : suc (layout.first_switch + k) ≡ layout.first_switch + (k + 1)
    next_place = omega arith

    next-from : from + length (sw k from).entries ≡ from + s k from
    next-from = omega (arith, entries-long k from)

    pub joined : SwitchFact k from → SwitchesFact (k + 1) (from + s k from) ws → SwitchesFact k from (switch_in t k ∷ ws)
    unfolding switch_cells
    joined a b = record {
      good = T-both (good_switch p (switch_in t k)) (all (good_switch p) ws) a.good b.good;
      cells = stands-cons t (layout.first_switch + k) (layout.first_switch + (k + 1)) (switch_cell from (switch_in t k)) (switch_cells (from + length (switch_in t k).entries) ws) next_place (sym a.is)
          (subst (λ (n : ℕ). T (stands t (layout.first_switch + (k + 1)) (switch_cells n ws))) (sym next-from) b.cells);
      written = subst T (sym rest-written) (T-both (stands t (layout.first_entry + from) (map (entry_cell p) (sw k from).entries)) (stands t (layout.first_entry + (from + s k from)) (map (entry_cell p) (each entries_of ws))) a.written b.written);
      end = omega (arith, b.end, next-from);
    }

    pub parted : SwitchesFact k from (switch_in t k ∷ ws) → SwitchFact k from × SwitchesFact (k + 1) (from + s k from) ws
    unfolding switch_cells
    parted q =
        let l : List ℕ = switch_cells (from + length (switch_in t k).entries) ws in
        let w₁ : Bool = stands t (layout.first_entry + from) (map (entry_cell p) (sw k from).entries) in
        let w₂ : Bool = stands t (layout.first_entry + (from + s k from)) (map (entry_cell p) (each entries_of ws)) in
        let both : T (w₁ && w₂) = subst T rest-written q.written in (
          record {
            good = T-left (good_switch p (switch_in t k)) (all (good_switch p) ws) q.good;
            is = stands-head t (layout.first_switch + k) (layout.first_switch + (k + 1)) (switch_cell from (switch_in t k)) l next_place q.cells;
            written = T-left w₁ w₂ both;
          },
          record {
            good = T-right (good_switch p (switch_in t k)) (all (good_switch p) ws) q.good;
            cells = subst (λ (n : ℕ). T (stands t (layout.first_switch + (k + 1)) (switch_cells n ws))) next-from (stands-tail t (layout.first_switch + k) (layout.first_switch + (k + 1)) (switch_cell from (switch_in t k)) l next_place q.cells);
            written = T-right w₁ w₂ both;
            end = omega (arith, q.end, next-from);
          },
        )

  shifted : (k : ℕ) (h : ℕ → Switch) → ((i : ℕ) → h i ≡ switch_in t (k + i)) → (i : ℕ) → h (suc i) ≡ switch_in t (k + 1 + i)
  shifted k h e i = let z : k + suc i ≡ k + 1 + i = omega arith in e (suc i) ∙ ap (switch_in t) z

  begun : (k : ℕ) (h : ℕ → Switch) → ((i : ℕ) → h i ≡ switch_in t (k + i)) → h zero ≡ switch_in t k
  begun k h e = let z : k + 0 ≡ k = omega arith in e zero ∙ ap (switch_in t) z

  sound-from : (n k from : ℕ) (h : ℕ → Switch) → ((i : ℕ) → h i ≡ switch_in t (k + i)) → T (switches_fit t n k from) → SwitchesFact k from (tab n h)
  unfolding switches_fit tab stands switch_cells
  sound-from zero k from h e q = record { good = tt; cells = tt; written = tt; end = omega (arith, eqb→eq from (cell t 3) q) }
  sound-from (suc n) k from h e q =
      let a : Bool = switch_fits t k from in
      let b : Bool = switches_fit t n (k + 1) (from + switch_size t k) in
      let ws : List Switch = tab n (λ i. h (suc i)) in
      subst (λ (w : Switch). SwitchesFact k from (w ∷ ws)) (sym (begun k h e))
      (joined k from ws (switch-sound k from (T-left a b q)) (sound-from n (k + 1) (from + switch_size t k) (λ i. h (suc i)) (shifted k h e) (T-right a b q)))

  complete-from : (n k from : ℕ) (h : ℕ → Switch) → ((i : ℕ) → h i ≡ switch_in t (k + i)) → SwitchesFact k from (tab n h) → T (switches_fit t n k from)
  unfolding switches_fit tab
  complete-from zero k from h e q = let z : from ≡ cell t 3 = omega (arith, q.end) in subst (λ (m : ℕ). T (eqb from m)) z (eqb_refl from)
  complete-from (suc n) k from h e q =
      let a : Bool = switch_fits t k from in
      let b : Bool = switches_fit t n (k + 1) (from + switch_size t k) in
      let ws : List Switch = tab n (λ i. h (suc i)) in
      let r = parted k from ws (subst (λ (w : Switch). SwitchesFact k from (w ∷ ws)) (begun k h e) q) in
      T-both a b (switch-complete k from r.0) (complete-from n (k + 1) (from + switch_size t k) (λ i. h (suc i)) (shifted k h e) r.1)

  pub switches-sound : (n : ℕ) → T (switches_fit t n 0 0) → SwitchesFact 0 0 (tab n (switch_in t))
  switches-sound n h = sound-from n 0 0 (switch_in t) (λ i. let z : i ≡ 0 + i = omega arith in ap (switch_in t) z) h

  pub switches-complete : (n : ℕ) → SwitchesFact 0 0 (tab n (switch_in t)) → T (switches_fit t n 0 0)
  switches-complete n h = complete-from n 0 0 (switch_in t) (λ i. let z : i ≡ 0 + i = omega arith in ap (switch_in t) z) h
