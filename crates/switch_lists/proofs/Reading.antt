-- The list of a switch, item by item: what is known of the items before a place.
use mathlib.Core.Path.{◌≡◌, refl, sym, ap, ◌∙◌}
use mathlib.Core.Bool.{Bool, true, false, cond, not, ◌&&◌, ◌||◌}
use mathlib.Core.List.{List, [], ◌∷◌, ◌++◌, map, map-append, append_assoc, append-nil}
use Prim.Native.Nat.{ℕ, suc, ◌+◌, ◌-◌, ◌≤◌, ◌<◌}
use native.Mathlib.Decide.{dec_lt}
use native.Mathlib.Omega.{arith}
use lib.Dec.{eqb, leb, ltb}
use lib.ListN.{length, get_or, take, drop, set, length-append, length-map, drop_of_length-le, get_or-append}
use lib.Seq.{take-suc-set, get_or-set_same, get_or-set_other, get_or-append_seam, drop-append-le}
use borrow.Author.Tests.{eqb-true, eqb-false, lt-ltb, leb-true, leb-false}
use Rattle.lists.specs.BoolLaws.{sign-most}
use Rattle.acceptance.proofs.RowLaws.{drop-none}
use Rattle.arguments.specs.LeftLaws.{Passing, passing-on, passed-worst, passed-end}
use Rattle.arguments.specs.Valued.{Ordered, quoted_of}
use Rattle.arguments.specs.ValueLaws.{names-text}
use Rattle.arguments.specs.declared.Quoted.{Quoted}
use Rattle.drafts.specs.Marks.{mark}
use Rattle.statements.specs.Checks.{token_verdict}
use Rattle.statements.specs.FaultLaws.{fault-both, no-fault}
use Rattle.statements.specs.Faults.{lower}
use Rattle.heads.specs.HeadLaws.{filled-option, place-if}
use Rattle.lexer.specs.declared.Token.{Token}
use Rattle.lexer.specs.Tokens.{item_of, Stands, NextToken}
use Rattle.lexer.proofs.Finding.{one_sort}
use Rattle.scanner.specs.declared.Sort.{Sort}
use Rattle.scanner.specs.Sorts.{sort_in}
use Rattle.std.specs.Bool.{then_some}
use Rattle.std.specs.Option.{is_some, option_to_list}
use Rattle.std.proofs.Common.{inl, inr}
use Rattle.lists.specs.Lists.{filled, if_any, keep}
use Rattle.statements.specs.Faults.{Fault, Verdict, worse}
use Rattle.std.specs.Prelude.{Option, None, Some}
use Rattle.heads.specs.Heads.{following}
use Rattle.statements.specs.PlaceLaws.{statement-from}
use Rattle.statements.specs.StatementAt.{statement_at, stops, fault_of}
use Rattle.statements.specs.StatementLaws.{stopped, at-stop, at_item, on}
use Rattle.syntax.specs.Items.{Item, is, same_sort, places}
use Rattle.syntax.specs.Items.Sort.{word, text}
use Rattle.syntax.specs.Statements.{is_name, entry_faults, list_faults}
use Rattle.syntax.specs.Verdict.{lowest}
use Rattle.switch_lists.specs.declared.Before.{Before}
use Rattle.switch_lists.specs.Switches.{is_word, is_text, colon_left, switch_after, text_first, entry_texts, NamesItem, TextCell, PutCell, PutsItem, Listable, ReadsList}

-- ---- cells

-- a number that is put, and the others
module _ {X : Type 0} (d : X) {xs : List X} {k : ℕ} {v : X} {ys : List X} (h : PutCell xs k v ys) where
  put_same : k < length xs → get_or ys k d ≡ v
  put_same l = rw (h.is, lt-ltb k (length xs) l) (get_or-set_same xs k v d l)

  put_other : (j : ℕ) → (j ≡ k → ⊥) → get_or ys j d ≡ get_or xs j d
  put_other j f = rw h.is (elim (ltb k (length xs)) as (λ c. get_or (cond c (set xs k v) xs) j d ≡ get_or xs j d) [ true ↦ get_or-set_other xs k j v d f | false ↦ refl ])

one-long : {X : Type 0} (w : Bool) (x : X) → length (cond w (x ∷ []) []) ≡ cond w 1 0
one-long true x = refl
one-long false x = refl

-- ---- question 02

-- a place, where something is wrong
abbrev pub one_if : Bool → ℕ → List ℕ
one_if wrong p = cond wrong (p ∷ []) []

abbrev has_colon : Before → Bool
has_colon b = is_some b.colon

-- what is at fault from the item before on, without that item's own place
abbrev left_faults : Bool → Before → List Item → List ℕ
left_faults goes_by_name b js = colon_left b (goes_by_name && if_any false (is text) js) ++ list_faults goes_by_name (has_colon b) js

pub record Faulted (s : List ℕ) (n : ℕ) (goes_by_name : Bool) (fault : Fault) (b : Before) (i : ℕ) : Type 0 where
  pub faults : List ℕ
  pub fault_is : fault ≡ fault_of faults
  pub list_is : list_faults goes_by_name false (statement_at s n) ≡ faults ++ left_faults goes_by_name b (statement_at s i)

-- an entry's faults: its own place, and its colon
entry-parts : (name after isText goes_by_name colon : Bool) (ps : List ℕ) (q : ℕ) → cond name (cond after [] ps) (cond (isText && goes_by_name && colon) [] (q ∷ []))
    ≡ one_if (not (name || (goes_by_name && isText && colon))) q ++ cond (name && not after) ps []
entry-parts true true d e f ps q = refl
entry-parts true false d e f ps q = refl
entry-parts false b true true true ps q = refl
entry-parts false b true true false ps q = refl
entry-parts false b true false f ps q = refl
entry-parts false b false true f ps q = refl
entry-parts false b false false f ps q = refl

-- a token that ends the statement is no text
pub stop-no-text : (t : Token) → stops t.sort ≡ true → is_text t ≡ false
stop-no-text t z = elim (stopped t.sort z) [ inl e ↦ ap (λ k. same_sort text (sort_in k)) e | inr e ↦ ap (λ k. same_sort text (sort_in k)) e ]

module _ {s : List ℕ} {n : ℕ} {goes_by_name : Bool} {fault : Fault} {b : Before} {i : ℕ} (u : Faulted s n goes_by_name fault b i) {t : Token} (k : NextToken s i t) where
  abbrev follows : Bool
  follows = goes_by_name && is_text t

  abbrev colon_now : List ℕ
  colon_now = colon_left b follows

  module _ {a : Fault} (e : a ≡ lower fault (fault_of colon_now)) where
    with-colon : a ≡ fault_of (u.faults ++ colon_now)
    with-colon = rw (e, u.fault_is, fault-both u.faults colon_now)

    pub faults-end : stops t.sort ≡ true → a ≡ fault_of (list_faults goes_by_name false (statement_at s n))
    unfolding list_faults
    faults-end z =
        with-colon ∙ rw (u.list_is, at-stop k z, stop-no-text t z, append-nil (colon_left b (goes_by_name && false)))

    module _ (z : stops t.sort ≡ false) {r : Fault} (word : Bool) {name : Bool} (q : name ≡ is_name (item_of s t))
        (f : r ≡ lower a (fault_of (one_if (not (name || (follows && has_colon b))) t.at))) where
      abbrev own : List ℕ
      own = one_if (not (name || (follows && has_colon b))) t.at

      abbrev now : Before
      now = record { word = word; name = name; colon = t.colon }

      abbrev rest : List Item
      rest = statement_at s t.next

      entry-is : entry_faults goes_by_name (has_colon b) (if_any false (is text) rest) (item_of s t) ≡ own ++ colon_left now (goes_by_name && if_any false (is text) rest)
      unfolding entry_faults
      entry-is =
          rw (sym q)
          (entry-parts name (goes_by_name && if_any false (is text) rest) (is_text t) goes_by_name (has_colon b) (option_to_list t.colon) t.at)

      left_is : left_faults goes_by_name b (statement_at s i) ≡ colon_now ++ ((own ++ colon_left now (goes_by_name && if_any false (is text) rest)) ++ list_faults goes_by_name (has_colon now) rest)
      unfolding list_faults
      left_is =
          ap (left_faults goes_by_name b) (at_item k z) ∙ rw (entry-is, filled-option t.colon)

      pub faulted-more : Faulted s n goes_by_name r now t.next
      faulted-more =
          record {
            faults = (u.faults ++ colon_now) ++ own;
            fault_is = rw (f, with-colon, fault-both (u.faults ++ colon_now) own);
            list_is = u.list_is ∙ rw left_is (simp append_assoc);
          }

-- ---- words

pub record Worded (s : List ℕ) (n : ℕ) (over : Fault) (words i : ℕ) (en : List ℕ) : Type 0 where
  pub items : List Item
  pub items_are : keep (is word) (statement_at s n) ≡ items ++ keep (is word) (statement_at s i)
  pub count : length items ≡ words
  pub over_is : over ≡ fault_of (drop (length en) (places items))
  pub marks : words ≤ length en → take words en ≡ map mark items

module _ {s : List ℕ} {n : ℕ} {over : Fault} {words i : ℕ} {en : List ℕ} (u : Worded s n over words i en)
    {t : Token} (k : NextToken s i t) (z : stops t.sort ≡ false) {after : Bool} {tx : List (Option Quoted)} {em : List ℕ} {ty : List (Option Quoted)} (p : PutsItem t after words en tx em ty)
    (l : length em ≡ length en) where
  abbrev own_word : Bool → List Item
  own_word w = cond w (item_of s t ∷ []) []

  abbrev later : List Item
  later = keep (is word) (statement_at s t.next)

  items-next : keep (is word) (statement_at s i) ≡ own_word (is_word t) ++ later
  items-next =
      ap (keep (is word)) (at_item k z)
      ∙ (elim (is_word t) as (λ w. cond w (item_of s t ∷ later) later ≡ own_word w ++ later) [ true ↦ refl | false ↦ refl ])

  over-now : over ≡ fault_of (drop (length em) (places u.items))
  over-now = rw l u.over_is

  -- one that has no room is the first in excess
  over-next : (w beyond : Bool) → leb (length em) words ≡ beyond
      → fault_of (drop (length em) (places (u.items ++ own_word w))) ≡ lower (fault_of (drop (length em) (places u.items))) (fault_of (one_if (w && beyond) t.at))
  over-next w beyond e = ap (λ (ps : List ℕ). fault_of (drop (length em) ps)) (map-append (λ (j : Item). j.at) u.items (own_word w)) ∙ go w beyond e
    where
      many : length (places u.items) ≡ words
      many = length-map u.items (λ (j : Item). j.at) ∙ u.count

      go : (w beyond : Bool) → leb (length em) words ≡ beyond
          → fault_of (drop (length em) (places u.items ++ places (own_word w))) ≡ lower (fault_of (drop (length em) (places u.items))) (fault_of (one_if (w && beyond) t.at))
      go true true e =
          ap fault_of (drop-append-le (length em) (places u.items) (t.at ∷ []) (omega (arith, many, leb-true (length em) words e)))
          ∙ fault-both (drop (length em) (places u.items)) (t.at ∷ [])
      go true false e =
          let few : words < length em = leb-false (length em) words e in
          let long : length (places u.items ++ (t.at ∷ [])) ≡ words + 1 = length-append (places u.items) (t.at ∷ []) ∙ ap (λ (m : ℕ). m + 1) many in
          rw (drop_of_length-le (places u.items ++ (t.at ∷ [])) {i = length em} (omega (arith, long, few)), drop_of_length-le (places u.items) {i = length em} (omega (arith, many, few)))
      go false b e = rw (append-nil (places u.items)) (ap fault_of (sym (append-nil (drop (length em) (places u.items)))) ∙ fault-both (drop (length em) (places u.items)) [])

  marks-next : (w : Bool) → is_word t ≡ w → words + cond w 1 0 ≤ length em → take (words + cond w 1 0) em ≡ map mark (u.items ++ own_word w)
  marks-next true e h =
      let m = mark (item_of s t) in
      let here : words < length en = omega (arith, h, l) in
      let put : em ≡ set en words m = (p.word_mark e).is ∙ rw (lt-ltb words (length en) here, k.stands.count) in
      let a : words + 1 ≡ suc words = omega arith in
      rw (a, put, take-suc-set en words m here, u.marks (omega (arith, here)), map-append mark u.items) refl
  marks-next false e h =
      let a : words + 0 ≡ words = omega arith in
      rw (a, p.same_marks e, append-nil u.items) (u.marks (omega (arith, h, l)))

  pub worded-more : {r : Fault} {m : ℕ} → r ≡ lower over (fault_of (one_if (is_word t && leb (length em) words) t.at)) → m ≡ words + cond (is_word t) 1 0
      → Worded s n r m t.next em
  worded-more {r} {m} f g =
      record {
        items = u.items ++ own_word (is_word t);
        items_are = u.items_are ∙ rw items-next (sym (append_assoc u.items (own_word (is_word t)) later));
        count = rw (length-append u.items, u.count, one-long (is_word t) (item_of s t), g);
        over_is = rw (f, over-now, over-next (is_word t) (leb (length em) words) refl);
        marks = rw g (marks-next (is_word t) refl);
      }

-- ---- texts

-- the texts from the item before on, which may be a word
abbrev left_texts : Bool → List Item → List (List Item)
left_texts w js = cond w (text_first js ∷ []) [] ++ entry_texts js

pub record Texted (s : List ℕ) (n words : ℕ) (after : Bool) (i : ℕ) (tx : List (Option Quoted)) : Type 0 where
  pub rows : List (List Item)
  pub rows_are : entry_texts (statement_at s n) ≡ rows ++ left_texts after (statement_at s i)
  pub count : length rows + cond after 1 0 ≡ words
  pub named : (k : ℕ) → k < length rows → k < length tx → TextCell s (get_or tx k None) (get_or rows k [])
  pub none_yet : after ≡ true → length rows < length tx → get_or tx (length rows) None ≡ None

-- one row more, whose cell names its text
rows_named : (s : List ℕ) (ty : List (Option Quoted)) (rows : List (List Item)) (row : List Item) (after : Bool)
    → ((j : ℕ) → j < length rows → j < length ty → TextCell s (get_or ty j None) (get_or rows j []))
    → (after ≡ true → length rows < length ty → TextCell s (get_or ty (length rows) None) row)
    → (j : ℕ) → j < length (rows ++ cond after (row ∷ []) []) → j < length ty → TextCell s (get_or ty j None) (get_or (rows ++ cond after (row ∷ []) []) j [])
rows_named s ty rows row true old new j m h =
    elim (dec_lt j (length rows)) as (λ d. TextCell s (get_or ty j None) (get_or (rows ++ (row ∷ [])) j [])) [
      | yes l ↦ rw (get_or-append rows (row ∷ []) [] j l) (old j l h)
      | no l ↦
          let q : j ≡ length rows = omega (arith, m, length-append rows (row ∷ [])) in
          rw (q, get_or-append_seam rows row [] []) (new refl (rw q at h))
    ]
rows_named s ty rows row false old new j m h = rw (append-nil rows) (old j (omega (arith, m, ap length (append-nil rows))) h)

-- the text of a token
names-item : {s : List ℕ} {t : Token} → Stands s t → length s ≤ 32768 → is_text t ≡ true → NamesItem s (quoted_of t) (item_of s t)
names-item {s} {t} h low e = record { place = refl; sort = e; names = names-text (record { stands = h; low = low }) (one_sort (Some Sort.Text) t.sort e) }

module _ {s : List ℕ} {n words : ℕ} {after : Bool} {i : ℕ} {tx : List (Option Quoted)} (u : Texted s n words after i tx) (low : length s ≤ 32768)
    {t : Token} (k : NextToken s i t) (z : stops t.sort ≡ false) {en em : List ℕ} {ty : List (Option Quoted)} (p : PutsItem t after words en tx em ty)
    (l : length ty ≡ length tx) where
  abbrev own_row : Bool → List (List Item)
  own_row w = cond w (cond (is_text t) (item_of s t ∷ []) [] ∷ []) []

  rows_next : left_texts after (statement_at s i) ≡ own_row after ++ left_texts (is_word t) (statement_at s t.next)
  unfolding entry_texts
  rows_next = ap (left_texts after) (at_item k z)

  all-rows : length (u.rows ++ own_row after) ≡ words
  all-rows = rw (length-append u.rows, one-long after (cond (is_text t) (item_of s t ∷ []) [])) u.count

  -- the cells of other entries stay
  stays : (j : ℕ) → (j ≡ words → ⊥) → (after ≡ true → j ≡ words - 1 → ⊥) → get_or ty j None ≡ get_or tx j None
  stays j f g = go (is_word t) (is_text t) after refl refl refl
    where
      go : (a b c : Bool) → is_word t ≡ a → is_text t ≡ b → after ≡ c → get_or ty j None ≡ get_or tx j None
      go true b c x y w = put_other None (p.no_text x) j f
      go false true true x y w = put_other None (p.text_put y w) j (g w)
      go false true false x y w = ap (λ (zs : List (Option Quoted)). get_or zs j None) (p.same_texts x (ap (λ (d : Bool). d && after) y ∙ w))
      go false false c x y w = ap (λ (zs : List (Option Quoted)). get_or zs j None) (p.same_texts x (ap (λ (d : Bool). d && after) y))

  -- the cell of the entry before, now that its text is known
  settled : after ≡ true → length u.rows < length ty → TextCell s (get_or ty (length u.rows) None) (cond (is_text t) (item_of s t ∷ []) [])
  settled w h =
      let there : length u.rows + 1 ≡ words = rw w at u.count in
      let same : length u.rows ≡ words - 1 → is_text t ≡ false → get_or ty (length u.rows) None ≡ get_or tx (length u.rows) None = λ q y.
      elim (is_word t) as (λ a. is_word t ≡ a → get_or ty (length u.rows) None ≡ get_or tx (length u.rows) None) [
        | true ↦ λ x. put_other None (p.no_text x) (length u.rows) (λ c. absurd (omega (arith, c, there)))
        | false ↦ λ x. ap (λ (zs : List (Option Quoted)). get_or zs (length u.rows) None) (p.same_texts x (rw y))
      ] refl in
      let q : length u.rows ≡ words - 1 = omega (arith, there) in
      elim (is_text t) as (λ b. is_text t ≡ b → TextCell s (get_or ty (length u.rows) None) (cond b (item_of s t ∷ []) [])) [
        | true ↦ λ y.
            rw (q, put_same None (p.text_put y w) (omega (arith, q, h, l))) (quoted_of t, (refl, names-item k.stands low y))
        | false ↦ λ y. same q y ∙ u.none_yet w (omega (arith, h, l))
      ] refl

  still-named : (j : ℕ) → j < length u.rows → j < length ty → TextCell s (get_or ty j None) (get_or u.rows j [])
  still-named j m h =
      rw (stays j (λ q. absurd (omega (arith, q, m, u.count))) (λ w q. absurd (omega (arith, q, m, rw w at u.count)))) (u.named j m (omega (arith, h, l)))

  pub texted-more : {m : ℕ} → m ≡ words + cond (is_word t) 1 0 → Texted s n m (is_word t) t.next ty
  texted-more g =
      record {
        rows = u.rows ++ own_row after;
        rows_are = u.rows_are ∙ rw rows_next (sym (append_assoc u.rows (own_row after) (left_texts (is_word t) (statement_at s t.next))));
        count = rw (all-rows, g);
        named = rows_named s ty u.rows (cond (is_text t) (item_of s t ∷ []) []) after still-named settled;
        none_yet = λ w h. rw all-rows (put_same None (p.no_text w) (omega (arith, h, all-rows, l)));
      }

-- ---- all of it

pub record Reading (s : List ℕ) (n : ℕ) (goes_by_name : Bool) (w₀ : Verdict) (fault over : Fault) (words : ℕ) (w : Verdict) (b : Before) (i : ℕ) (en : List ℕ) (tx : List (Option Quoted)) : Type 0 where
  pub low : length s ≤ 32768
  pub passing : Passing s n w₀ i w
  pub few : n + words ≤ i
  pub some : n < i → filled (statement_at s n) ≡ true
  pub faulted : Faulted s n goes_by_name fault b i
  pub worded : Worded s n over words i en
  pub texted : Texted s n words b.word i tx
  pub orders : Ordered (statement_at s i) → Ordered (statement_at s n)

module _ {s : List ℕ} {t : Token} {w₀ : Verdict} (pre : Listable s t) {goes_by_name : Bool} where
  module _ {fault over : Fault} {words : ℕ} {w : Verdict} {b : Before} {i : ℕ} {en : List ℕ} {tx : List (Option Quoted)} (u : Reading s t.next goes_by_name w₀ fault over words w b i en tx)
      {x : Token} (k : NextToken s i x) where
    abbrev n : ℕ
    n = t.next

    -- the statement ends
    module _ (z : stops x.sort ≡ true) {a r : Fault} (e : a ≡ lower fault (fault_of (colon_left b (goes_by_name && is_text x)))) (f : r ≡ cond (eqb i n) (Some t.at) a) where
      fault-now : r ≡ fault_of (switch_after s t goes_by_name)
      unfolding switch_after lowest
      fault-now =
          f ∙ elim (eqb i n) as (λ c. eqb i n ≡ c → cond c (Some t.at) a ≡ fault_of (cond (filled (statement_at s n)) (list_faults goes_by_name false (statement_at s n)) (t.at ∷ []))) [
            | true ↦ λ q. let none : statement_at s n ≡ [] = ap (statement_at s) (sym (eqb-true i n q)) ∙ at-stop k z in rw none
            | false ↦ λ q. faults-end u.faulted k e z ∙ rw (u.some (omega (arith, eqb-false i n q, u.passing.within.from)))
          ] refl

      items-now : keep (is word) (statement_at s n) ≡ u.worded.items
      items-now = u.worded.items_are ∙ rw (at-stop k z) (append-nil u.worded.items)

      room-now : over ≡ None → words ≤ length en
      room-now q =
          omega (
            arith,
            drop-none (length en) (places u.worded.items) (no-fault (drop (length en) (places u.worded.items)) (sym u.worded.over_is ∙ q)),
            length-map u.worded.items (λ (j : Item). j.at),
            u.worded.count,
          )

      rows-now : entry_texts (statement_at s n) ≡ u.texted.rows ++ cond b.word ([] ∷ []) []
      unfolding entry_texts
      rows-now = u.texted.rows_are ∙ rw (at-stop k z, append-nil {A = List Item} (cond b.word ([] ∷ []) [])) refl

      pub list_read : {y : Option ℕ} → y ≡ following x → ReadsList s t goes_by_name w₀ (record { fault = r; words = words; over = over; worst = w; next = y }) en tx
      list_read q =
          record {
            fault_is = fault-now;
            words_is = sym (ap length items-now ∙ u.worded.count);
            few = omega (arith, u.few, u.passing.within.most, pre.low);
            over_is = rw items-now u.worded.over_is;
            worst_is = passed-worst u.passing k z;
            ends = passed-end u.passing k z q;
            ordered = u.orders (rw (at-stop k z) tt);
            marks = λ e. rw (items-now, u.worded.count) (u.worded.marks (room-now e));
            texts = rw rows-now (rows_named s tx u.texted.rows [] b.word u.texted.named u.texted.none_yet);
          }

-- a word that has no room
pub over-if : (full : Bool) (at : ℕ) {b w : Bool} {o : Fault} → o ≡ then_some (b && full) at → b ≡ w → o ≡ fault_of (one_if (w && full) at)
over-if full at e q = e ∙ place-if _ at ∙ ap (λ (c : Bool). fault_of (one_if (c && full) at)) q

module _ {s : List ℕ} {n : ℕ} {goes_by_name : Bool} {w₀ : Verdict} {fault over : Fault} {words : ℕ} {w : Verdict} {b : Before} {i : ℕ} {en : List ℕ} {tx : List (Option Quoted)}
    (u : Reading s n goes_by_name w₀ fault over words w b i en tx) where
  -- one more item
  module _ {x : Token} (k : NextToken s i x) (z : stops x.sort ≡ false) where
    module _ {a r o : Fault} {name : Bool} {m : ℕ} {v : Verdict} {em : List ℕ} {ty : List (Option Quoted)} (e : a ≡ lower fault (fault_of (colon_left b (goes_by_name && is_text x))))
        (g : name ≡ is_name (item_of s x)) (p : PutsItem x b.word words en tx em ty) (l : length em ≡ length en) (l' : length ty ≡ length tx)
        (f : r ≡ lower a (fault_of (one_if (not (name || (goes_by_name && is_text x && has_colon b))) x.at)))
        (q : o ≡ lower over (fault_of (one_if (is_word x && leb (length em) words) x.at))) (c : v ≡ worse w (token_verdict x)) (d : m ≡ words + cond (is_word x) 1 0) where
      pub reading-more : Reading s n goes_by_name w₀ r o m v (record { word = is_word x; name = name; colon = x.colon }) x.next em ty
      reading-more =
          record {
            low = u.low;
            passing = passing-on u.passing k z c;
            few = omega (arith, u.few, on k z, d, sign-most (is_word x));
            some = λ h. elim (eqb i n) as (λ b. eqb i n ≡ b → filled (statement_at s n) ≡ true) [
              | true ↦ λ y. rw (← eqb-true i n y, at_item k z)
              | false ↦ λ y. u.some (omega (arith, eqb-false i n y, u.passing.within.from))
            ] refl;
            faulted = faulted-more u.faulted k e z (is_word x) g f;
            worded = worded-more u.worded k z p l q d;
            texted = texted-more u.texted u.low k z p l' d;
            orders = λ o. u.orders (rw (at_item k z) (statement-from s x.next x.at (omega (arith, k.stands.own, k.stands.behind)), o));
          }
