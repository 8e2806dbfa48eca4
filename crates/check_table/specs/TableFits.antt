-- Question 62 asked of the cells is question 62: a table passes just where its cells are those of the program that they read as, and that
-- program is well formed.
use Rattle.std.specs.Prelude.{◌≡◌, Bool, ◌&&◌, List, [], ◌∷◌, ◌++◌, map, leb, ltb, eqb, length, replicate}
use Rattle.std.proofs.Math.Path.{refl, ap, subst}
use Rattle.std.proofs.Common.{sym, ◌∙◌, arith, le→leb, lt→ltb}
use Prim.Native.Nat.{ℕ, suc, ◌+◌, ◌*◌, ◌-◌, ◌≤◌, ◌<◌}
use Rattle.std.proofs.Math.Decide.{dec_lt}
use Rattle.std.proofs.Math.Dec.{T, leb→le, ltb→lt, eqb→eq, eqb_refl}
use Rattle.std.proofs.lemmas.List.{length-map}
use Rattle.language.specs.Program.{Label, Switch, Program}
use Rattle.lists.specs.ListLaws.{T-left, T-right, T-both}
use Rattle.lists.specs.Lists.{each}
use Rattle.layout.proofs.CellLaws.{length-tab, length-each, length-fours, length-padded}
use Rattle.layout.specs.Cells.{cell, code, tab, padded}
use Rattle.layout.specs.Table.{instr_cells, label_cells, text_cells, switch_cells, entry_cell, all_entries, counts, table_cells, text_in, number_in, instr_in, label_in, switch_in, program_in}
use Rattle.layout.specs.Places as layout
use Rattle.check_parts.specs.Parts.{zeros}
use Rattle.check_parts.specs.PassLaws.{passes-each, passes-all, all-below}
use Rattle.check_table.specs.Checks.{counts_fit, rest_zero}
use Rattle.check_table.specs.SearchLaws.{code-uncode}
use Rattle.check_table.specs.StandLaws.{stands, stands-append, stands-zeros, stands-padded, stands-map}

pub label-long : (l : Label) → length (label_cells l) ≡ 16
label-long l = ap suc (length-fours 15 l.name)

pub text-long : (w : List ℕ) → length (text_cells w) ≡ 16
text-long w = ap suc (length-fours 15 w)

switches-long : (from : ℕ) (ws : List Switch) → length (switch_cells from ws) ≡ length ws
unfolding switch_cells
switches-long from [] = refl
switches-long from (w ∷ ws) = ap suc (switches-long (from + length w.entries) ws)

-- a part of the table, with the zeros behind it, and what comes then
part-stands : (t : List ℕ) (a n : ℕ) (l : List ℕ) (m : ℕ) (rest : List ℕ) → length l ≡ m → m ≤ n
    → stands t a (padded n l ++ rest) ≡ ((stands t a l && zeros t (a + m) (a + n)) && stands t (a + n) rest)
part-stands t a n l m rest e b =
    stands-append t a (padded n l) rest
    ∙ ap (λ (k : ℕ). stands t a (padded n l) && stands t (a + k) rest) (length-padded n l (omega (arith, e, b)))
    ∙ ap (λ (x : Bool). x && stands t (a + n) rest) (stands-padded t a n l m e)

zeros-join : (t : List ℕ) (a b c : ℕ) → a ≤ b → b ≤ c → T (zeros t a b) → T (zeros t b c) → T (zeros t a c)
zeros-join t a b c p q h k = passes-all f (c - a) a (λ i x y. go i x y (dec_lt i b))
  where
    f : ℕ → Bool
    f i = eqb (cell t i) 0

    go : (i : ℕ) → a ≤ i → i < a + (c - a) → Dec (i < b) → T (eqb (cell t i) 0)
    go i x y (yes z) = passes-each (λ i. eqb (cell t i) 0) (b - a) a h i x (omega (arith, x, z))
    go i x y (no z) = passes-each (λ i. eqb (cell t i) 0) (c - b) b k i (omega arith) (omega (arith, y, p, q))

zeros-left : (t : List ℕ) (a b c : ℕ) → b ≤ c → T (zeros t a c) → T (zeros t a b)
zeros-left t a b c q h = passes-all (λ i. eqb (cell t i) 0) (b - a) a (λ i x y. passes-each (λ i. eqb (cell t i) 0) (c - a) a h i x (omega (arith, x, y, q)))

zeros-right : (t : List ℕ) (a b c : ℕ) → a ≤ b → T (zeros t a c) → T (zeros t b c)
zeros-right t a b c q h = passes-all (λ i. eqb (cell t i) 0) (c - b) b (λ i x y. passes-each (λ i. eqb (cell t i) 0) (c - a) a h i (omega (arith, x, q)) (omega (arith, x, y, q)))

module _ (t : List ℕ) (long : length t ≡ 8192) where
  abbrev p : Program
  p = program_in t

  -- ---- the program's lists

  pub code-are : p.code ≡ tab (cell t 0) (instr_in t)
  unfolding program_in
  code-are = refl

  pub labels-are : p.labels ≡ tab (cell t 1) (label_in t)
  unfolding program_in
  labels-are = refl

  pub switches_are : p.switches ≡ tab (cell t 2) (switch_in t)
  unfolding program_in
  switches_are = refl

  pub texts_are : p.texts ≡ tab (cell t 4) (text_in t)
  unfolding program_in
  texts_are = refl

  pub numbers_are : p.numbers ≡ tab (cell t 5) (number_in t)
  unfolding program_in
  numbers_are = refl

  pub code_count : length p.code ≡ cell t 0
  code_count = ap length code-are ∙ length-tab (cell t 0) (instr_in t)

  pub label_count : length p.labels ≡ cell t 1
  label_count = ap length labels-are ∙ length-tab (cell t 1) (label_in t)

  pub switch_count : length p.switches ≡ cell t 2
  switch_count = ap length switches_are ∙ length-tab (cell t 2) (switch_in t)

  pub text_count : length p.texts ≡ cell t 4
  text_count = ap length texts_are ∙ length-tab (cell t 4) (text_in t)

  pub number_count : length p.numbers ≡ cell t 5
  number_count = ap length numbers_are ∙ length-tab (cell t 5) (number_in t)

  -- ---- the counts

  pub record Counts : Type 0 where
    pub code_some : 0 < cell t 0
    pub code_few : cell t 0 ≤ 512
    pub labels_few : cell t 1 ≤ 128
    pub switches_few : cell t 2 ≤ 32
    pub entries_few : cell t 3 ≤ 128
    pub texts_few : cell t 4 ≤ 128
    pub numbers_few : cell t 5 ≤ 128
    pub none_6 : cell t 6 ≡ 0
    pub none_7 : cell t 7 ≡ 0

  abbrev c₀ : Bool
  c₀ = ltb 0 (cell t 0)

  abbrev c₁ : Bool
  c₁ = leb (cell t 0) 512

  abbrev c₂ : Bool
  c₂ = leb (cell t 1) 128

  abbrev c₃ : Bool
  c₃ = leb (cell t 2) 32

  abbrev c₄ : Bool
  c₄ = leb (cell t 3) 128

  abbrev c₅ : Bool
  c₅ = leb (cell t 4) 128

  abbrev c₆ : Bool
  c₆ = leb (cell t 5) 128

  abbrev c₇ : Bool
  c₇ = eqb (cell t 6) 0

  abbrev c₈ : Bool
  c₈ = eqb (cell t 7) 0

  pub counts-sound : T (counts_fit t) → Counts
  unfolding counts_fit
  counts-sound h =
      let d₇ = T-left (c₀ && c₁ && c₂ && c₃ && c₄ && c₅ && c₆ && c₇) c₈ h in
      let d₆ = T-left (c₀ && c₁ && c₂ && c₃ && c₄ && c₅ && c₆) c₇ d₇ in
      let d₅ = T-left (c₀ && c₁ && c₂ && c₃ && c₄ && c₅) c₆ d₆ in
      let d₄ = T-left (c₀ && c₁ && c₂ && c₃ && c₄) c₅ d₅ in
      let d₃ = T-left (c₀ && c₁ && c₂ && c₃) c₄ d₄ in
      let d₂ = T-left (c₀ && c₁ && c₂) c₃ d₃ in
      let d₁ = T-left (c₀ && c₁) c₂ d₂ in
      record {
        code_some = ltb→lt 0 (cell t 0) (T-left c₀ c₁ d₁);
        code_few = leb→le (cell t 0) 512 (T-right c₀ c₁ d₁);
        labels_few = leb→le (cell t 1) 128 (T-right (c₀ && c₁) c₂ d₂);
        switches_few = leb→le (cell t 2) 32 (T-right (c₀ && c₁ && c₂) c₃ d₃);
        entries_few = leb→le (cell t 3) 128 (T-right (c₀ && c₁ && c₂ && c₃) c₄ d₄);
        texts_few = leb→le (cell t 4) 128 (T-right (c₀ && c₁ && c₂ && c₃ && c₄) c₅ d₅);
        numbers_few = leb→le (cell t 5) 128 (T-right (c₀ && c₁ && c₂ && c₃ && c₄ && c₅) c₆ d₆);
        none_6 = eqb→eq (cell t 6) 0 (T-right (c₀ && c₁ && c₂ && c₃ && c₄ && c₅ && c₆) c₇ d₇);
        none_7 = eqb→eq (cell t 7) 0 (T-right (c₀ && c₁ && c₂ && c₃ && c₄ && c₅ && c₆ && c₇) c₈ h);
      }

  zero_is : (x : ℕ) → x ≡ 0 → T (eqb x 0)
  zero_is x e = subst (λ (y : ℕ). T (eqb y 0)) (sym e) tt

  pub counts-complete : Counts → T (counts_fit t)
  unfolding counts_fit
  counts-complete q =
      let d₁ = T-both c₀ c₁ (lt→ltb 0 (cell t 0) q.code_some) (le→leb (cell t 0) 512 q.code_few) in
      let d₂ = T-both (c₀ && c₁) c₂ d₁ (le→leb (cell t 1) 128 q.labels_few) in
      let d₃ = T-both (c₀ && c₁ && c₂) c₃ d₂ (le→leb (cell t 2) 32 q.switches_few) in
      let d₄ = T-both (c₀ && c₁ && c₂ && c₃) c₄ d₃ (le→leb (cell t 3) 128 q.entries_few) in
      let d₅ = T-both (c₀ && c₁ && c₂ && c₃ && c₄) c₅ d₄ (le→leb (cell t 4) 128 q.texts_few) in
      let d₆ = T-both (c₀ && c₁ && c₂ && c₃ && c₄ && c₅) c₆ d₅ (le→leb (cell t 5) 128 q.numbers_few) in
      let d₇ = T-both (c₀ && c₁ && c₂ && c₃ && c₄ && c₅ && c₆) c₇ d₆ (zero_is (cell t 6) q.none_6) in
      T-both (c₀ && c₁ && c₂ && c₃ && c₄ && c₅ && c₆ && c₇) c₈ d₇ (zero_is (cell t 7) q.none_7)

  -- ---- the parts, where the counts are right

  module _ (n : Counts) (entries-count : length (all_entries p) ≡ cell t 3) where
    abbrev l₁ : List ℕ
    l₁ = each (instr_cells p) p.code

    abbrev l₂ : List ℕ
    l₂ = each label_cells p.labels

    abbrev l₃ : List ℕ
    l₃ = each text_cells p.texts

    abbrev l₄ : List ℕ
    l₄ = switch_cells 0 p.switches

    abbrev l₅ : List ℕ
    l₅ = map (entry_cell p) (all_entries p)

    abbrev l₆ : List ℕ
    l₆ = map code p.numbers

    abbrev s₀ : Bool
    s₀ = stands t 0 (counts p)

    abbrev s₁ : Bool
    s₁ = stands t 8 l₁ && zeros t (layout.first_instruction + 4 * cell t 0) layout.first_label

    abbrev s₂ : Bool
    s₂ = stands t layout.first_label l₂ && zeros t (layout.first_label + 16 * cell t 1) layout.first_text

    abbrev s₃ : Bool
    s₃ = stands t layout.first_text l₃ && zeros t (layout.first_text + 16 * cell t 4) layout.first_switch

    abbrev s₄ : Bool
    s₄ = stands t layout.first_switch l₄ && zeros t (layout.first_switch + cell t 2) layout.first_entry

    abbrev s₅ : Bool
    s₅ = stands t layout.first_entry l₅ && zeros t (layout.first_entry + cell t 3) layout.first_number

    abbrev s₆ : Bool
    s₆ = stands t layout.first_number l₆ && zeros t (layout.first_number + cell t 5) 6440

    abbrev s₇ : Bool
    s₇ = stands t 6440 (replicate 1752 0)

    abbrev b₆ : List ℕ
    b₆ = padded 128 l₆ ++ replicate 1752 0

    abbrev b₅ : List ℕ
    b₅ = padded 128 l₅ ++ b₆

    abbrev b₄ : List ℕ
    b₄ = padded 32 l₄ ++ b₅

    abbrev b₃ : List ℕ
    b₃ = padded 2048 l₃ ++ b₄

    abbrev b₂ : List ℕ
    b₂ = padded 2048 l₂ ++ b₃

    abbrev b₁ : List ℕ
    b₁ = padded 2048 l₁ ++ b₂

    e₁ : length l₁ ≡ 4 * cell t 0
    e₁ = length-each 4 (instr_cells p) (λ i. refl) p.code ∙ ap (λ (m : ℕ). 4 * m) code_count

    e₂ : length l₂ ≡ 16 * cell t 1
    e₂ = length-each 16 label_cells label-long p.labels ∙ ap (λ (m : ℕ). 16 * m) label_count

    e₃ : length l₃ ≡ 16 * cell t 4
    e₃ = length-each 16 text_cells text-long p.texts ∙ ap (λ (m : ℕ). 16 * m) text_count

    e₄ : length l₄ ≡ cell t 2
    e₄ = switches-long 0 p.switches ∙ switch_count

    e₅ : length l₅ ≡ cell t 3
    e₅ = length-map (all_entries p) (entry_cell p) ∙ entries-count

    e₆ : length l₆ ≡ cell t 5
    e₆ = length-map p.numbers code ∙ number_count

    table-stands : stands t 0 (table_cells p) ≡ (s₀ && (s₁ && (s₂ && (s₃ && (s₄ && (s₅ && (s₆ && s₇)))))))
    unfolding table_cells
    table-stands =
        stands-append t 0 (counts p) b₁
        ∙ ap (λ (x : Bool). s₀ && x) (part-stands t 8 2048 l₁ (4 * cell t 0) b₂ e₁ (omega (arith, n.code_few))
        ∙ ap (λ (x : Bool). s₁ && x) (part-stands t layout.first_label 2048 l₂ (16 * cell t 1) b₃ e₂ (omega (arith, n.labels_few))
        ∙ ap (λ (x : Bool). s₂ && x) (part-stands t layout.first_text 2048 l₃ (16 * cell t 4) b₄ e₃ (omega (arith, n.texts_few))
        ∙ ap (λ (x : Bool). s₃ && x) (part-stands t layout.first_switch 32 l₄ (cell t 2) b₅ e₄ n.switches_few
        ∙ ap (λ (x : Bool). s₄ && x) (part-stands t layout.first_entry 128 l₅ (cell t 3) b₆ e₅ n.entries_few
        ∙ ap (λ (x : Bool). s₅ && x) (part-stands t layout.first_number 128 l₆ (cell t 5) (replicate 1752 0) e₆ n.numbers_few))))))

    pub record Standing : Type 0 where
      pub p₀ : T (stands t 0 (counts p))
      pub p₁ : T (stands t 8 l₁)
      pub p₂ : T (stands t layout.first_label l₂)
      pub p₃ : T (stands t layout.first_text l₃)
      pub p₄ : T (stands t layout.first_switch l₄)
      pub p₅ : T (stands t layout.first_entry l₅)
      pub zero : T (rest_zero t)

    abbrev z₁ : Bool
    z₁ = zeros t (layout.first_instruction + 4 * cell t 0) layout.first_label

    abbrev z₂ : Bool
    z₂ = zeros t (layout.first_label + 16 * cell t 1) layout.first_text

    abbrev z₃ : Bool
    z₃ = zeros t (layout.first_text + 16 * cell t 4) layout.first_switch

    abbrev z₄ : Bool
    z₄ = zeros t (layout.first_switch + cell t 2) layout.first_entry

    abbrev z₅ : Bool
    z₅ = zeros t (layout.first_entry + cell t 3) layout.first_number

    abbrev z₆ : Bool
    z₆ = zeros t (layout.first_number + cell t 5) 8192

    numbers-stand : T (stands t layout.first_number l₆)
    numbers-stand =
        subst (λ zs. T (stands t layout.first_number (map code zs))) (sym numbers_are)
        (subst T (sym (stands-map t (number_in t) code layout.first_number (cell t 5)))
        (all-below (λ i. eqb (code (number_in t i)) (cell t (layout.first_number + i))) (cell t 5) (λ i b.
        subst (λ (y : ℕ). T (eqb (code (number_in t i)) y)) (code-uncode (cell t (layout.first_number + i))) (eqb_refl (code (number_in t i))))))

    last-zeros : s₇ ≡ zeros t 6440 8192
    last-zeros = stands-zeros t 1752 6440

    pub opened : T (stands t 0 (table_cells p)) → Standing
    unfolding rest_zero
    opened h =
        let h₀ = subst T table-stands h in
        let h₁ = T-right s₀ (s₁ && (s₂ && (s₃ && (s₄ && (s₅ && (s₆ && s₇)))))) h₀ in
        let h₂ = T-right s₁ (s₂ && (s₃ && (s₄ && (s₅ && (s₆ && s₇))))) h₁ in
        let h₃ = T-right s₂ (s₃ && (s₄ && (s₅ && (s₆ && s₇)))) h₂ in
        let h₄ = T-right s₃ (s₄ && (s₅ && (s₆ && s₇))) h₃ in
        let h₅ = T-right s₄ (s₅ && (s₆ && s₇)) h₄ in
        let h₆ = T-right s₅ (s₆ && s₇) h₅ in
        let g₁ = T-left s₁ (s₂ && (s₃ && (s₄ && (s₅ && (s₆ && s₇))))) h₁ in
        let g₂ = T-left s₂ (s₃ && (s₄ && (s₅ && (s₆ && s₇)))) h₂ in
        let g₃ = T-left s₃ (s₄ && (s₅ && (s₆ && s₇))) h₃ in
        let g₄ = T-left s₄ (s₅ && (s₆ && s₇)) h₄ in
        let g₅ = T-left s₅ (s₆ && s₇) h₅ in
        let g₆ = T-left s₆ s₇ h₆ in
        let last : T z₆ = zeros-join t (layout.first_number + cell t 5) 6440 8192 (omega (arith, n.numbers_few)) (omega arith) (T-right (stands t layout.first_number l₆) (zeros t (layout.first_number + cell t 5) 6440) g₆) (subst T last-zeros (T-right s₆ s₇ h₆)) in
        record {
          p₀ = T-left s₀ (s₁ && (s₂ && (s₃ && (s₄ && (s₅ && (s₆ && s₇)))))) h₀;
          p₁ = T-left (stands t 8 l₁) z₁ g₁;
          p₂ = T-left (stands t layout.first_label l₂) z₂ g₂;
          p₃ = T-left (stands t layout.first_text l₃) z₃ g₃;
          p₄ = T-left (stands t layout.first_switch l₄) z₄ g₄;
          p₅ = T-left (stands t layout.first_entry l₅) z₅ g₅;
          zero = T-both (z₁ && z₂ && z₃ && z₄ && z₅) z₆ (T-both (z₁ && z₂ && z₃ && z₄) z₅ (T-both (z₁ && z₂ && z₃) z₄ (T-both (z₁ && z₂) z₃ (T-both z₁ z₂ (T-right (stands t 8 l₁) z₁ g₁) (T-right (stands t layout.first_label l₂) z₂ g₂)) (T-right (stands t layout.first_text l₃) z₃ g₃)) (T-right (stands t layout.first_switch l₄) z₄ g₄)) (T-right (stands t layout.first_entry l₅) z₅ g₅)) last;
        }

    pub shut : Standing → T (stands t 0 (table_cells p))
    unfolding rest_zero
    shut q =
        let h₅ = T-left (z₁ && z₂ && z₃ && z₄ && z₅) z₆ q.zero in
        let h₄ = T-left (z₁ && z₂ && z₃ && z₄) z₅ h₅ in
        let h₃ = T-left (z₁ && z₂ && z₃) z₄ h₄ in
        let h₂ = T-left (z₁ && z₂) z₃ h₃ in
        let last : T z₆ = T-right (z₁ && z₂ && z₃ && z₄ && z₅) z₆ q.zero in
        let g₆ = T-both (stands t layout.first_number l₆) (zeros t (layout.first_number + cell t 5) 6440) numbers-stand (zeros-left t (layout.first_number + cell t 5) 6440 8192 (omega arith) last) in
        let g₇ = subst T (sym last-zeros) (zeros-right t (layout.first_number + cell t 5) 6440 8192 (omega (arith, n.numbers_few)) last) in
        subst T (sym table-stands)
        (T-both s₀ (s₁ && (s₂ && (s₃ && (s₄ && (s₅ && (s₆ && s₇)))))) q.p₀
        (T-both s₁ (s₂ && (s₃ && (s₄ && (s₅ && (s₆ && s₇))))) (T-both (stands t 8 l₁) z₁ q.p₁ (T-left z₁ z₂ h₂))
        (T-both s₂ (s₃ && (s₄ && (s₅ && (s₆ && s₇)))) (T-both (stands t layout.first_label l₂) z₂ q.p₂ (T-right z₁ z₂ h₂))
        (T-both s₃ (s₄ && (s₅ && (s₆ && s₇))) (T-both (stands t layout.first_text l₃) z₃ q.p₃ (T-right (z₁ && z₂) z₃ h₃))
        (T-both s₄ (s₅ && (s₆ && s₇)) (T-both (stands t layout.first_switch l₄) z₄ q.p₄ (T-right (z₁ && z₂ && z₃) z₄ h₄))
        (T-both s₅ (s₆ && s₇) (T-both (stands t layout.first_entry l₅) z₅ q.p₅ (T-right (z₁ && z₂ && z₃ && z₄) z₅ h₅))
        (T-both s₆ s₇ g₆ g₇)))))))
