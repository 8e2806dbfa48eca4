-- What is added at the end of one of a program's lists: its cells behind those that are there, its count one more, all other cells as they were.
use mathlib.Core.Path.{◌≡◌, refl, sym, ap, ◌∙◌}
use mathlib.Core.Bool.{Bool, true, false, cond, ◌||◌}
use mathlib.Core.List.{List, [], ◌∷◌, ◌++◌, map, append_assoc, append-nil}
use Prim.Native.Nat.{ℕ, suc, ◌+◌, ◌*◌, ◌-◌, ◌≤◌, ◌<◌}
use native.Mathlib.Omega.{arith}
use lib.Dec.{T, leb}
use lib.ListN.{length, set, length-append, length-map}
use lib.IntN.{ℤ, nat_abs}
use Rattle.std.proofs.lemmas.List.{map_push}
use Rattle.lists.specs.AppendLaws.{any_left}
use Rattle.blocks.specs.Below.Cells.{pasted}
use Rattle.blocks.specs.Below.Instructions.{operation}
use Rattle.blocks.specs.Below.Limits as limit
use Rattle.blocks.specs.Below.Program.{Arg, Instr, Entry, Program}
use Rattle.blocks.specs.Below.Program.Arg.{nothing, letter, label, switch, class, text}
use Rattle.blocks.specs.Below.LanguageValues.{same_number}
use Rattle.blocks.specs.Below.LayoutBounds.{Each}
use Rattle.blocks.proofs.Below.LayoutCellLaws.{each_append, length-each, length-padded}
use Rattle.blocks.specs.Below.LayoutCells.{cell, code, padded}
use Rattle.blocks.specs.Below.Table.{text_ref, number_ref, arg_cell, instr_cells, label_cells, text_cells, switch_cells, entry_cell, all_entries, counts, table_cells}
use Rattle.blocks.specs.Below.LayoutPlaces as layout
use Rattle.blocks.specs.Below.Lists.{any, ahead, each, bytes_equal}
use Rattle.blocks.specs.Below.WellFormed.{kept_text, kept_number}
use Rattle.writing.specs.Writing.{Short, kept_arg, KeptInstr, KeptEntry, Tabular, with_text, with_number}
use Rattle.writing.proofs.Parts.{padded-more, laid, Sizes, in_texts, in_numbers}
pub use Rattle.layout.specs.EachLaws.{each_map}
pub use Rattle.layout.proofs.TableLaws.{length-label_cells as label-long, length-text_cells as text-long, length-switch_cells as switches-long}

-- ---- lists

module _ {X : Type 0} (q : X → Bool) where
  -- a search that succeeds ends before what is added
  pub ahead-left : (xs ys : List X) → T (any q xs) → ahead q (xs ++ ys) ≡ ahead q xs
  ahead-left [] ys h = absurd h
  ahead-left (x ∷ xs) ys h = go (q x) h (ahead-left xs ys)
    where
      go : (b : Bool) → T (b || any q xs) → (T (any q xs) → ahead q (xs ++ ys) ≡ ahead q xs)
          → ◌≡◌ {A = ℕ} (elim b [ true ↦ 0 | false ↦ suc (ahead q (xs ++ ys)) ]) (elim b [ true ↦ 0 | false ↦ suc (ahead q xs) ])
      go true t k = refl
      go false t k = ap suc (k t)

module _ {X Y : Type 0} where
  pub each_snoc : (f : X → List Y) (xs : List X) (y : X) → each f (xs ++ (y ∷ [])) ≡ each f xs ++ f y
  each_snoc f [] y = append-nil (f y)
  each_snoc f (x ∷ xs) y = ap (λ (l : List Y). f x ++ l) (each_snoc f xs y) ∙ sym (append_assoc (f x) (each f xs) (f y))

  -- two functions that agree on all elements
  pub each_same : (P : X → Type 0) (f g : X → List Y) → ((x : X) → P x → f x ≡ g x) → (xs : List X) → Each P xs → each f xs ≡ each g xs
  each_same P f g e [] h = refl
  each_same P f g e (x ∷ xs) h = let a = e x h.0 in let b = each_same P f g e xs h.1 in λ j. a j ++ b j

  pub map_same : (P : X → Type 0) (f g : X → Y) → ((x : X) → P x → f x ≡ g x) → (xs : List X) → Each P xs → map f xs ≡ map g xs
  map_same P f g e [] h = refl
  map_same P f g e (x ∷ xs) h = let a = e x h.0 in let b = map_same P f g e xs h.1 in λ j. a j ∷ b j

pub one_more : {X : Type 0} (xs : List X) (y : X) → length (xs ++ (y ∷ [])) ≡ suc (length xs)
one_more xs y = simp length-append (omega arith)

-- ---- the parts of a table

abbrev pub code_part : Program → List ℕ
code_part p = padded 2048 (each (instr_cells p) p.code)

abbrev pub labels_part : Program → List ℕ
labels_part p = padded 2048 (each label_cells p.labels)

abbrev pub texts_part : Program → List ℕ
texts_part p = padded 2048 (each text_cells p.texts)

abbrev pub switches_part : Program → List ℕ
switches_part p = padded 32 (switch_cells 0 p.switches)

abbrev pub entries_part : Program → List ℕ
entries_part p = padded 128 (map (entry_cell p) (all_entries p))

abbrev pub numbers_part : Program → List ℕ
numbers_part p = padded 128 (map code p.numbers)

abbrev pub parts : Program → List ℕ
parts p = laid (counts p) (code_part p) (labels_part p) (texts_part p) (switches_part p) (entries_part p) (numbers_part p)

pub in_parts : (p : Program) → table_cells p ≡ parts p
unfolding table_cells
in_parts p = refl

module _ (p : Program) where
  pub code-long : length (each (instr_cells p) p.code) ≡ 4 * length p.code
  code-long = length-each 4 (instr_cells p) (λ i. refl) p.code

  pub labels-long : length (each label_cells p.labels) ≡ 16 * length p.labels
  labels-long = length-each 16 label_cells label-long p.labels

  pub texts-long : length (each text_cells p.texts) ≡ 16 * length p.texts
  texts-long = length-each 16 text_cells text-long p.texts

  pub sizes : Tabular p → Sizes (counts p) (code_part p) (labels_part p) (texts_part p) (switches_part p) (entries_part p) (numbers_part p)
  sizes h =
      record {
        a_is = refl;
        b_is = length-padded 2048 (each (instr_cells p) p.code) (omega (arith, code-long, h.code_most));
        c_is = length-padded 2048 (each label_cells p.labels) (omega (arith, labels-long, h.labels_most));
        d_is = length-padded 2048 (each text_cells p.texts) (omega (arith, texts-long, h.texts_most));
        e_is = length-padded 32 (switch_cells 0 p.switches) (omega (arith, switches-long 0 p.switches, h.switches_most));
        f_is = length-padded 128 (map (entry_cell p) (all_entries p)) (omega (arith, length-map (all_entries p) (entry_cell p), h.entries_most));
        g_is = length-padded 128 (map code p.numbers) (omega (arith, length-map p.numbers code, h.numbers_most));
      }

-- ---- references do not change when a table grows

kept-ref : (b y : Bool) (x k m n : ℕ) → T (b || y) → (T y → m ≡ n) → cond b x (k + m) ≡ cond b x (k + n)
kept-ref true y x k m n h e = refl
kept-ref false y x k m n h e = ap (λ (i : ℕ). k + i) (e h)

or_right : (b x y : Bool) → T (b || x) → (T x → T y) → T (b || y)
or_right true x y h f = tt
or_right false x y h f = f h

module _ (p r : Program) (texts : (t : List ℕ) → T (kept_text p t) → (text_ref p t ≡ text_ref r t) × T (kept_text r t))
    (numbers : (z : ℤ) → T (kept_number p z) → (number_ref p z ≡ number_ref r z) × T (kept_number r z)) where
  arg-stays : (a : Arg) → T (kept_arg p a) → (arg_cell p a ≡ arg_cell r a) × T (kept_arg r a)
  arg-stays nothing h = (refl, tt)
  arg-stays (letter l n) h = (refl, tt)
  arg-stays (label k) h = (refl, tt)
  arg-stays (switch k) h = (refl, tt)
  arg-stays (class cs) h = (refl, tt)
  arg-stays (text t) h = let k = texts t h in (ap (λ (n : ℕ). 5 + 8 * n) k.0, k.1)
  arg-stays (Arg.number z) h = let k = numbers z h in (ap (λ (n : ℕ). 6 + 8 * n) k.0, k.1)

  instr-stays : (i : Instr) → KeptInstr p i → instr_cells p i ≡ instr_cells r i
  instr-stays i k =
      let a = (arg-stays i.first k.first).0 in
      let b = (arg-stays i.second k.second).0 in
      let c = (arg-stays i.third k.third).0 in
      λ j. ((operation i.op).number + 64 * i.line) ∷ a j ∷ b j ∷ c j ∷ []

  instr-kept : (i : Instr) → KeptInstr p i → KeptInstr r i
  instr-kept i k =
      record { first = (arg-stays i.first k.first).1; second = (arg-stays i.second k.second).1; third = (arg-stays i.third k.third).1 }

  entry-stays : (e : Entry) → KeptEntry p e → entry_cell p e ≡ entry_cell r e
  entry-stays e k = ap (λ (n : ℕ). e.label + 128 * n) (texts e.text k.kept).0

  entry_kept : (e : Entry) → KeptEntry p e → KeptEntry r e
  entry_kept e k = record { low = k.low; kept = (texts e.text k.kept).1 }

-- ---- a text

module _ (w : List ℕ) (p : Program) where
  more-texts : (t : List ℕ) → T (kept_text p t) → (text_ref p t ≡ text_ref (with_text w p) t) × T (kept_text (with_text w p) t)
  unfolding with_text
  more-texts t h = (
    kept-ref (leb (length t) 1) (any (bytes_equal t) p.texts) (cell t 0) 256 (ahead (bytes_equal t) p.texts) (ahead (bytes_equal t) (p.texts ++ (w ∷ []))) h
        (λ k. sym (ahead-left (bytes_equal t) p.texts (w ∷ []) k)),
    or_right (leb (length t) 1) (any (bytes_equal t) p.texts) (any (bytes_equal t) (p.texts ++ (w ∷ []))) h (any_left (bytes_equal t) p.texts (w ∷ [])),
  )

  same_numbers : (z : ℤ) → T (kept_number p z) → (number_ref p z ≡ number_ref (with_text w p) z) × T (kept_number (with_text w p) z)
  unfolding with_text
  same_numbers z h = (refl, h)

  module _ (h : Tabular p) (room : length p.texts < 128) where
    pub text-added : set (pasted (parts p) (layout.first_text + 16 * length p.texts) (text_cells w)) 4 (suc (length p.texts)) ≡ table_cells (with_text w p)
    unfolding table_cells with_text
    text-added =
        let n : ℕ = length p.texts in
        let q : List ℕ = each text_cells p.texts in
        let f : pasted (texts_part p) (16 * n) (text_cells w) ≡ texts_part (with_text w p) =
        ap (λ (k : ℕ). pasted (texts_part p) k (text_cells w)) (sym (texts-long p))
        ∙ padded-more 2048 q (text_cells w) (omega (arith, texts-long p, text-long w))
        ∙ ap (padded 2048) (sym (each_snoc text_cells p.texts w)) in
        let a : suc n ≡ length (p.texts ++ (w ∷ [])) = sym (one_more p.texts w) in
        let b = ap (padded 2048) (each_same (KeptInstr p) (instr_cells p) (instr_cells (with_text w p)) (instr-stays p (with_text w p) more-texts same_numbers) p.code h.code_kept) in
        let e = ap (padded 128) (map_same (KeptEntry p) (entry_cell p) (entry_cell (with_text w p)) (entry-stays p (with_text w p) more-texts same_numbers) (all_entries p) h.entries_kept) in
        let r = in_texts (counts p) (code_part p) (labels_part p) (texts_part p) (switches_part p) (entries_part p) (numbers_part p) (sizes p h) (text_cells w) (16 * n)
        (omega (arith, text-long w)) in
        ap (λ (x : List ℕ). set x 4 (suc n)) r
        ∙ (λ j. laid (length p.code ∷ length p.labels ∷ length p.switches ∷ length (all_entries p) ∷ a j ∷ length p.numbers ∷ 0 ∷ 0 ∷ [])
        (b j) (labels_part p) (f j) (switches_part p) (e j) (numbers_part p))

    pub text-tabular : Short w → Tabular (with_text w p)
    unfolding with_text
    text-tabular s =
        record {
          code_most = h.code_most;
          labels_most = h.labels_most;
          switches_most = h.switches_most;
          entries_most = h.entries_most;
          texts_most = omega (arith, one_more p.texts w);
          numbers_most = h.numbers_most;
          code_kept = each_map (KeptInstr p) (KeptInstr (with_text w p)) (instr-kept p (with_text w p) more-texts same_numbers) p.code h.code_kept;
          entries_kept = each_map (KeptEntry p) (KeptEntry (with_text w p)) (entry_kept p (with_text w p) more-texts same_numbers) (all_entries p) h.entries_kept;
          names_short = h.names_short;
          texts_short = each_append Short p.texts (w ∷ []) h.texts_short (s, tt);
          numbers_small = h.numbers_small;
        }

-- ---- a number

module _ (z : ℤ) (p : Program) where
  same_texts : (t : List ℕ) → T (kept_text p t) → (text_ref p t ≡ text_ref (with_number z p) t) × T (kept_text (with_number z p) t)
  unfolding with_number
  same_texts t h = (refl, h)

  more_numbers : (y : ℤ) → T (kept_number p y) → (number_ref p y ≡ number_ref (with_number z p) y) × T (kept_number (with_number z p) y)
  unfolding with_number
  more_numbers y h = (
    kept-ref (leb (nat_abs y) limit.small) (any (same_number y) p.numbers) (code y - 8388592) 31 (ahead (same_number y) p.numbers)
        (ahead (same_number y) (p.numbers ++ (z ∷ []))) h (λ k. sym (ahead-left (same_number y) p.numbers (z ∷ []) k)),
    or_right (leb (nat_abs y) limit.small) (any (same_number y) p.numbers) (any (same_number y) (p.numbers ++ (z ∷ []))) h (any_left (same_number y) p.numbers (z ∷ [])),
  )

  module _ (h : Tabular p) (room : length p.numbers < 128) where
    pub number-added : set (pasted (parts p) (layout.first_number + length p.numbers) (code z ∷ [])) 5 (suc (length p.numbers)) ≡ table_cells (with_number z p)
    unfolding table_cells with_number
    number-added =
        let n : ℕ = length p.numbers in
        let q : List ℕ = map code p.numbers in
        let f : pasted (numbers_part p) n (code z ∷ []) ≡ numbers_part (with_number z p) =
        ap (λ (k : ℕ). pasted (numbers_part p) k (code z ∷ [])) (sym (length-map p.numbers code))
        ∙ padded-more 128 q (code z ∷ []) (omega (arith, length-map p.numbers code))
        ∙ ap (padded 128) (sym (map_push code p.numbers z)) in
        let a : suc n ≡ length (p.numbers ++ (z ∷ [])) = sym (one_more p.numbers z) in
        let b = ap (padded 2048) (each_same (KeptInstr p) (instr_cells p) (instr_cells (with_number z p)) (instr-stays p (with_number z p) same_texts more_numbers) p.code h.code_kept) in
        let r = in_numbers (counts p) (code_part p) (labels_part p) (texts_part p) (switches_part p) (entries_part p) (numbers_part p) (sizes p h) (code z ∷ []) n
        (omega arith) in
        ap (λ (x : List ℕ). set x 5 (suc n)) r
        ∙ (λ j. laid (length p.code ∷ length p.labels ∷ length p.switches ∷ length (all_entries p) ∷ length p.texts ∷ a j ∷ 0 ∷ 0 ∷ [])
        (b j) (labels_part p) (texts_part p) (switches_part p) (entries_part p) (f j))

    pub number-tabular : nat_abs z ≤ limit.size → Tabular (with_number z p)
    unfolding with_number
    number-tabular s =
        record {
          code_most = h.code_most;
          labels_most = h.labels_most;
          switches_most = h.switches_most;
          entries_most = h.entries_most;
          texts_most = h.texts_most;
          numbers_most = omega (arith, one_more p.numbers z);
          code_kept = each_map (KeptInstr p) (KeptInstr (with_number z p)) (instr-kept p (with_number z p) same_texts more_numbers) p.code h.code_kept;
          entries_kept = each_map (KeptEntry p) (KeptEntry (with_number z p)) (entry_kept p (with_number z p) same_texts more_numbers) (all_entries p) h.entries_kept;
          names_short = h.names_short;
          texts_short = h.texts_short;
          numbers_small = each_append (λ y. nat_abs y ≤ limit.size) p.numbers (z ∷ []) h.numbers_small (s, tt);
        }
