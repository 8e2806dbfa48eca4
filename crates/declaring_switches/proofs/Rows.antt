-- The entries of a list without faults, and their texts.
use mathlib.Core.Path.{◌≡◌, refl, sym, ap, ◌∙◌, subst}
use mathlib.Core.Bool.{Bool, true, false, cond, ◌&&◌}
use mathlib.Core.List.{List, [], ◌∷◌, ◌++◌, map}
use Prim.Native.Nat.{ℕ, zero, suc, ◌<◌}
use native.Mathlib.Omega.{arith}
use lib.Dec.{T}
use lib.ListN.{length, get_or, take, drop}
use lib.Seq.{drop-nil}
use lib.Ieee.Bits.{is_true, is_false}
use Rattle.acceptance.proofs.ArgumentLaws.{word-apart}
use Rattle.acceptance.proofs.RowLaws.{append-none, cond-none}
use Rattle.switch_lists.specs.Below.Quoted.{Quoted}
use Rattle.switch_lists.specs.Below.Valued.{Ordered}
use Rattle.declaring.specs.SpeltLaws.{plain}
use Rattle.declaring.specs.Below.Entering.{long_text, Held, ShortItem}
use Rattle.language.specs.Program.{Entry}
use Rattle.layout.specs.Bounds.{Each}
use Rattle.layout.proofs.CellLaws.{each_at}
use Rattle.lists.specs.Lists.{each, filled, if_any, keep}
use Rattle.lists.specs.ListLaws.{T-left, T-right, all_head, all_tail, all_cons, all_keep}
use Rattle.statements.specs.LowestLaws.{fault-first}
use Rattle.statements.specs.PlaceLaws.{places-from}
use Rattle.statements.specs.Places.{stands_from, all_from}
use Rattle.statements.specs.StatementAt.{statement_at, fault_of}
use Rattle.std.specs.Prelude.{Some, Option, None}
use Rattle.switch_lists.specs.Switches.{text_first, entry_texts, TextCell}
use Rattle.syntax.specs.Items.{Item, is, places}
use Rattle.syntax.specs.Items.Sort.{word, text}
use Rattle.syntax.specs.Statements.{entry_faults, list_faults, entries_in}
use Rattle.declaring_switches.specs.declared.Declaration.{Declaration}
use Rattle.declaring_switches.specs.DeclaringSwitches.{ListedSwitch}
use Rattle.declaring_switches.specs.Entries.{row_text, RowNamed}

-- the texts of all rows
abbrev pub texts_of : List (List Item) → List Item
texts_of rows = each (take 1) rows

-- every text stands right behind a word
module _ (goes_by_name : Bool) where
  abbrev Behind : Bool → List Item → Type 0
  Behind w js = keep (is text) js ≡ cond w (take 1 (text_first js)) [] ++ texts_of (entry_texts js)

  behind : (js : List Item) → Each (λ i. T (plain i)) js → (w before : Bool) → (T before → T w) → list_faults goes_by_name before js ≡ [] → Behind w js
  unfolding list_faults entry_texts entry_faults
  behind [] h true before f e = refl
  behind [] h false before f e = refl
  behind (j ∷ js) h w before f e =
      let parts = append-none (entry_faults goes_by_name before (if_any false (is text) js) j) (list_faults goes_by_name (filled j.colon) js) e in
      elim (is word j) as (λ a. is word j ≡ a → Behind w (j ∷ js)) [
        | true ↦ λ a.
            let none : is text j ≡ false = (word-apart j (rw a tt)).0 in
            let rest = behind js h.1 true (filled j.colon) (λ q. tt) parts.1 in
            rw (a, none) (elim w as (λ v. keep (is text) js ≡ cond v (take {A = Item} 1 []) [] ++ (take 1 (text_first js) ++ texts_of (entry_texts js))) [ true ↦ rest | false ↦ rest ])
        | false ↦ λ a.
            let k : T (is text j && goes_by_name && before) = cond-none (is text j && goes_by_name && before) j.at [] (rw a at parts.0) in
            let here : is text j ≡ true = is_true (is text j) (T-left (is text j) goes_by_name (T-left (is text j && goes_by_name) before k)) in
            let bare : filled j.colon ≡ false = is_false (filled j.colon) (rw a at h.0) in
            let rest = behind js h.1 false (filled j.colon) (λ q. rw bare at q) parts.1 in
            rw (a, here, is_true w (f (T-right (is text j && goes_by_name) before k))) (ap (◌∷◌ j) rest)
      ] refl

  pub texts-behind : (js : List Item) → Each (λ i. T (plain i)) js → list_faults goes_by_name false js ≡ [] → keep (is text) js ≡ texts_of (entry_texts js)
  texts-behind js h e = behind js h false false (λ q. q) e

long-texts : (js : List Item) → keep long_text js ≡ keep long_text (keep (is text) js)
long-texts [] = refl
long-texts (j ∷ js) =
    elim (is text j) as (λ a. is text j ≡ a → keep long_text (j ∷ js) ≡ keep long_text (cond a (j ∷ keep (is text) js) (keep (is text) js))) [
      | true ↦ λ e. ap (λ (xs : List Item). cond (long_text j) (j ∷ xs) xs) (long-texts js)
      | false ↦ λ e. rw e (long-texts js)
    ] refl

pub long-behind : (goes_by_name : Bool) (js : List Item) → Each (λ i. T (plain i)) js → list_faults goes_by_name false js ≡ [] → keep long_text js ≡ keep long_text (texts_of (entry_texts js))
long-behind goes_by_name js h e = long-texts js ∙ ap (keep long_text) (texts-behind goes_by_name js h e)

-- ---- entries

abbrev pub row_entry : List Item → Entry
row_entry row = record { label = 0; text = row_text row }

first_text : (ks : List Item) → if_any [] (λ k. cond (is text k) k.chars []) ks ≡ row_text (text_first ks)
first_text [] = refl
first_text (k ∷ ks) = elim (is text k) as (λ b. cond b k.chars [] ≡ row_text (cond b (k ∷ []) [])) [ true ↦ refl | false ↦ refl ]

pub entries-are : (js : List Item) → entries_in (λ w. 0) js ≡ map row_entry (entry_texts js)
unfolding entries_in entry_texts
entries-are [] = refl
entries-are (j ∷ js) =
    rw (first_text js, entries-are js)
    (elim (is word j) as (λ a. cond a (row_entry (text_first js) ∷ []) [] ++ map row_entry (entry_texts js) ≡ map row_entry (cond a (text_first js ∷ []) [] ++ entry_texts js)) [ true ↦ refl | false ↦ refl ])

pub rows-count : (js : List Item) → length (entry_texts js) ≡ length (keep (is word) js)
unfolding entry_texts
rows-count [] = refl
rows-count (j ∷ js) =
    elim (is word j) as (λ a. length (cond a (text_first js ∷ []) [] ++ entry_texts js) ≡ length (cond a (j ∷ keep (is word) js) (keep (is word) js))) [ true ↦ ap suc (rows-count js) | false ↦ rows-count js ]

-- ---- places

pub ordered-keep : (q : Item → Bool) (js : List Item) → Ordered js → Ordered (keep q js)
ordered-keep q [] h = tt
ordered-keep q (j ∷ js) h =
    let k = ordered-keep q js h.1 in
    elim (q j) as (λ b. Ordered (cond b (j ∷ keep q js) (keep q js))) [ true ↦ (all_keep (stands_from j.at) q js h.0, k) | false ↦ k ]

ordered-after : (xs ys : List Item) → Ordered (xs ++ ys) → Ordered ys
ordered-after [] ys h = h
ordered-after (x ∷ xs) ys h = ordered-after xs ys h.1

pub ordered-drop : (rows : List (List Item)) → Ordered (texts_of rows) → (m : ℕ) → Ordered (texts_of (drop m rows))
ordered-drop rows h zero = h
ordered-drop [] h (suc m) = tt
ordered-drop (r ∷ rows) h (suc m) = ordered-drop rows (ordered-after (take 1 r) (texts_of rows) h) m

first-from : (p : ℕ) (js ks : List Item) → T (all_from p js) → T (all_from p ks) → T (all_from p (take 1 (text_first js) ++ ks))
first-from p [] ks h k = k
first-from p (j ∷ js) ks h k =
    elim (is text j) as (λ b. T (all_from p (take 1 (cond b (j ∷ []) []) ++ ks))) [ true ↦ all_cons (stands_from p) j ks (all_head (stands_from p) j js h) k | false ↦ k ]

rows-from : (p : ℕ) (js : List Item) → T (all_from p js) → T (all_from p (texts_of (entry_texts js)))
unfolding entry_texts
rows-from p [] h = tt
rows-from p (j ∷ js) h =
    let l = all_tail (stands_from p) j js h in
    elim (is word j) as (λ b. T (all_from p (texts_of (cond b (text_first js ∷ []) [] ++ entry_texts js)))) [ true ↦ first-from p js (texts_of (entry_texts js)) l (rows-from p js l) | false ↦ rows-from p js l ]

-- the texts of the entries in excess stand behind the first of them
pub texts-over : (js : List Item) → Ordered js → (m p : ℕ) → fault_of (drop m (places (keep (is word) js))) ≡ Some p → T (all_from p (texts_of (drop m (entry_texts js))))
unfolding entry_texts
texts-over [] h m p e = absurd (let x = ap fault_of (drop-nil {A = ℕ} m) in let y : ◌≡◌ {A = ℕ} 0 1 = cc in omega arith)
texts-over (j ∷ js) h m p e = go (is word j) m e (λ k f. texts-over js h.1 k p f)
  where
    go : (b : Bool) (m : ℕ) → fault_of (drop m (places (cond b (j ∷ keep (is word) js) (keep (is word) js)))) ≡ Some p
        → ((k : ℕ) → fault_of (drop k (places (keep (is word) js))) ≡ Some p → T (all_from p (texts_of (drop k (entry_texts js)))))
        → T (all_from p (texts_of (drop m (cond b (text_first js ∷ []) [] ++ entry_texts js))))
    go true zero f rec =
        let here : Some j.at ≡ Some p = sym (fault-first j.at (places (keep (is word) js)) (places-from j.at (keep (is word) js) (all_keep (stands_from j.at) (is word) js h.0))) ∙ f in
        let q : j.at ≡ p = cc in
        subst (λ (k : ℕ). T (all_from k (take 1 (text_first js) ++ texts_of (entry_texts js)))) q (first-from j.at js (texts_of (entry_texts js)) h.0 (rows-from j.at js h.0))
    go true (suc m) f rec = rec m f
    go false m f rec = rec m f

-- ---- lengths

first_short : (js : List Item) → Each ShortItem js → Each ShortItem (text_first js)
first_short [] h = tt
first_short (j ∷ js) h = elim (is text j) as (λ b. Each ShortItem (cond b (j ∷ []) [])) [ true ↦ (h.0, tt) | false ↦ tt ]

pub rows_short : (js : List Item) → Each ShortItem js → Each (Each ShortItem) (entry_texts js)
unfolding entry_texts
rows_short [] h = tt
rows_short (j ∷ js) h =
    let k = rows_short js h.1 in
    elim (is word j) as (λ b. Each (Each ShortItem) (cond b (text_first js ∷ []) [] ++ entry_texts js)) [ true ↦ (first_short js h.1, k) | false ↦ k ]

-- ---- the cells of a list

module _ {s : List ℕ} {d : Declaration} {c : List ℕ} {tx : List (Option Quoted)} (l : ListedSwitch s d c tx) where
  abbrev pub rows_in : List (List Item)
  rows_in = entry_texts (statement_at s d.begin)

  pub rows_are : length rows_in ≡ d.list.words
  rows_are = rows-count (statement_at s d.begin) ∙ sym l.words_is

  module _ {k : ℕ} (more : k < length tx) where
    pub row-inside : k < length rows_in
    row-inside = omega (arith, more, l.text_count, rows_are)

    pub cell-here : TextCell s (get_or tx k None) (get_or rows_in k [])
    cell-here = l.texts k row-inside more

    pub row_named : {e : List ℕ} → Held e → RowNamed s (get_or tx k None) e
    row_named u = record { row = get_or rows_in k []; named = cell-here; short = each_at (Each ShortItem) [] tt rows_in (rows_short (statement_at s d.begin) l.short) k; held = u }
