-- The unread rest of a text, from token to token, up to the operator of its first statement.
use mathlib.Core.Path.{◌≡◌, refl, ap, sym, subst, ◌∙◌}
use mathlib.Core.Bool.{Bool, true, false, cond, ◌||◌}
use mathlib.Core.List.{List, [], ◌∷◌, ◌++◌, map, append_assoc, append-nil}
use Prim.Native.Nat.{ℕ, ◌+◌, ◌≤◌, ◌<◌}
use native.Mathlib.Nat.{add-zero}
use native.Mathlib.Numerals.{add-one}
use native.Mathlib.Omega.{arith}
use lib.Dec.{eqb}
use lib.ListN.{length, take, drop, set}
use lib.Seq.{take-suc-set, take-set-le}
use borrow.Author.Tests.{eq-eqb, ne_eqb, eqb-true, eqb-false}
use Rattle.drafts.specs.Marks.{mark, mark_of}
use Rattle.statements.specs.CheckLaws.{worse-clear}
use Rattle.statements.specs.Checks.{token_verdict}
use Rattle.statements.specs.Faults.{lower}
use Rattle.lists.specs.Lists.{keep}
use Rattle.lexer.specs.declared.Token.{Token}
use Rattle.lexer.specs.MovedLaws.{shift, colon-most, item-moved, moved-next}
use Rattle.lexer.specs.Tokens.{chars_by, chars_of, item_of, Stands, NextToken, Movable, moved}
use Rattle.statements.specs.Faults.{Fault, Verdict, worse}
use Rattle.std.specs.Prelude.{Option, None, Some, Ok}
use Rattle.std.proofs.Common.{inl, inr}
use Rattle.statements.specs.StatementAt.{statement_at, stops, fault_of}
use Rattle.statements.specs.StatementLaws.{goes, stopped, at-stop, at_item, on}
use Rattle.scanner.specs.Below.Items.{Item, is, same_sort}
use Rattle.scanner.specs.Below.Items.Sort.{word, text, wrong}
use Rattle.scanner.specs.Below.Statements.{keyword_of, front, labels_in, is_name}
use Rattle.scanner.specs.declared.Sort.{Sort}
use Rattle.scanner.specs.Sorts.{sort_in}
use Rattle.words.specs.declared.Known.{Known}
use Rattle.language.specs.Limits as limit
use Rattle.heads.specs.Heads.{known_item, head_with, operates, MarksPut, Headable, Heads}
use Rattle.heads.specs.HeadLaws.{front_goes, front_ends, operator_is}
use Rattle.heads.proofs.Leading.{Leading, leading-first, no_front, own_fault, no-head, head-here, still-leading}

-- the marks of the labels before place i were put
record Putting (s : List ℕ) (n i count : ℕ) (ms ms' : List ℕ) (c : ℕ) : Type 0 where
  counts : count + length (labels_in (statement_at s n)) ≡ c + length (labels_in (statement_at s i))
  marks : take count ms ++ map mark (labels_in (statement_at s n)) ≡ take c ms' ++ map mark (labels_in (statement_at s i))

module _ {s : List ℕ} {n i count : ℕ} {ms ms' : List ℕ} {c : ℕ} {t : Token} (p : Putting s n i count ms ms' c) (k : NextToken s i t) where
  all-put : front (statement_at s i) ≡ [] → MarksPut s n count ms ms' c
  all-put e =
      let q : labels_in (statement_at s i) ≡ [] = ap (keep (is word)) e in
      record { count_is = sym (p.counts ∙ ap (λ y. c + length y) q ∙ add-zero c); marks = sym (p.marks ∙ rw q (append-nil (take c ms'))) }

  module _ (z : stops t.sort ≡ false) where
    abbrev it : Item
    it = item_of s t

    abbrev js : List Item
    js = statement_at s t.next

    operator-put : operates t ≡ true → MarksPut s n count ms ms' c
    operator-put o = all-put (ap front (at_item k z) ∙ front_ends it js (operator_is s t ∙ o))

    module _ (o : operates t ≡ false) {m : ℕ} (m-is : m ≡ mark_of t.at t.len) (room : c < length ms') where
      labels-are : labels_in (statement_at s i) ≡ cond (same_sort word (sort_in t.sort)) (it ∷ labels_in js) (labels_in js)
      labels-are =
          ap labels_in (at_item k z)
          ∙ ap (keep (is word)) (front_goes it js (operator_is s t ∙ o))

      mark-is : m ≡ mark it
      mark-is = m-is ∙ ap (mark_of t.at) (sym k.stands.count)

      still-putting : {c' : ℕ} → c' ≡ c + cond (same_sort word (sort_in t.sort)) 1 0 → Putting s n t.next count ms (set ms' c m) c'
      still-putting {c'} g = go (same_sort word (sort_in t.sort)) g labels-are
        where
          go : (b : Bool) → c' ≡ c + cond b 1 0 → labels_in (statement_at s i) ≡ cond b (it ∷ labels_in js) (labels_in js)
              → Putting s n t.next count ms (set ms' c m) c'
          go true e q =
              record {
                counts = omega (arith, p.counts, ap length q, e);
                marks =
                    p.marks ∙ ap (λ y. take c ms' ++ map mark y) q
                    ∙ rw (e, add-one, take-suc-set ms' c m room, append_assoc (take c ms') (m ∷ []) (map mark (labels_in js)), mark-is) refl;
              }
          go false e q =
              let d : c' ≡ c = omega arith in
              record {
                counts = omega (arith, p.counts, ap length q, d);
                marks = p.marks ∙ ap (λ y. take c ms' ++ map mark y) q ∙ rw (d, take-set-le c ms' c m (omega arith)) refl;
              }

-- All that is known of whatever text s whose rest from place n on is r, at place j of the rest
pub record Reading (r : List ℕ) (n : ℕ) (ms : List ℕ) (count j f : ℕ) (fault : Fault) (w : Verdict) (ms' : List ℕ) (c : ℕ) : Type 0 where
  pub most : j ≤ length r
  pub few : c ≤ n + j
  pub low : n + length r ≤ 32768
  is : (s : List ℕ) → n ≤ length s → drop n s ≡ r → Leading s n (n + j) f fault w × Putting s n (n + j) count ms ms' c

pub reading-first : {r : List ℕ} {n : ℕ} {ms : List ℕ} {count : ℕ} → Headable r n count → Reading r n ms count 0 n None (Ok tt) ms count
reading-first {n = n} p =
    record {
      most = omega arith;
      few = omega (arith, p.few);
      low = p.low;
      is = λ s le h. rw (add-zero n) (leading-first le, record { counts = refl; marks = refl });
    }

-- the token t is next, and the first item of all stands at `first`
pub record Going (r : List ℕ) (n : ℕ) (ms : List ℕ) (count : ℕ) (t : Token) (first : ℕ) (fault : Fault) (w : Verdict) (ms' : List ℕ) (c : ℕ) : Type 0 where
  pub place : ℕ
  pub before : ℕ
  pub reading : Reading r n ms count place before fault w ms' c
  pub token : NextToken r place t
  pub first_is : first ≡ cond (eqb place 0) (n + t.at) before

pub going-first : {r : List ℕ} {n : ℕ} {ms : List ℕ} {count : ℕ} → Headable r n count → {t : Token} → NextToken r 0 t → {first : ℕ} → first ≡ n + t.at
    → Going r n ms count t first None (Ok tt) ms count
going-first {n = n} p k e = record { place = 0; before = n; reading = reading-first p; token = k; first_is = e }

pub going-on : {r : List ℕ} {n : ℕ} {ms : List ℕ} {count i j first : ℕ} {fault : Fault} {w : Verdict} {ms' : List ℕ} {c : ℕ}
    → Reading r n ms count j first fault w ms' c → i < j → {t : Token} → NextToken r j t → Going r n ms count t first fault w ms' c
going-on {j} {first} u l k = record { place = j; before = first; reading = u; token = k; first_is = rw (ne_eqb j 0 (λ q. omega (arith, q, l))) refl }

module _ {r : List ℕ} {n : ℕ} {ms : List ℕ} {count : ℕ} {t : Token} {first : ℕ} {fault : Fault} {w : Verdict} {ms' : List ℕ} {c : ℕ} (u : Going r n ms count t first fault w ms' c) where
  pub first-at : {o : Token} → o ≡ moved n t → first ≡ cond (eqb u.place 0) o.at u.before
  first-at g = u.first_is ∙ ap (λ (x : Token). cond (eqb u.place 0) x.at u.before) (sym g)

known-shift : (n : ℕ) (i : Item) → known_item (shift n i) ≡ known_item i
unfolding keyword_of
known-shift n i = refl

same_place : (n j : ℕ) → eqb j 0 ≡ eqb (n + j) n
same_place n j = go (eqb j 0) refl
  where
    go : (b : Bool) → eqb j 0 ≡ b → b ≡ eqb (n + j) n
    go true e = let q = eqb-true j 0 e in sym (eq-eqb (n + j) n (omega arith))
    go false e = sym (ne_eqb (n + j) n (λ q. eqb-false j 0 e (omega arith)))

stop_told : {s : List ℕ} (n : ℕ) {t : Token} → Stands s t → stops t.sort ≡ true → (token_verdict (moved n t) ≡ Ok tt) × (known_item (item_of s t) ≡ None)
unfolding chars_of
stop_told {s} n {t} h z = elim (stopped t.sort z) [ inl e ↦ by None e refl refl refl refl | inr e ↦ by (Some Sort.End) e refl refl refl refl ]
  where
    by : (k : Option Sort) → t.sort ≡ k → chars_by k s t ≡ [] → same_sort wrong (sort_in k) ≡ false → same_sort text (sort_in k) ≡ false → same_sort word (sort_in k) ≡ false
        → (token_verdict (moved n t) ≡ Ok tt) × (known_item (item_of s t) ≡ None)
    by k e c x y q =
        let none : t.len ≡ 0 = sym h.count ∙ ap length (ap (λ i. chars_by i s t) e ∙ c) in
        let x' : same_sort wrong (sort_in t.sort) ≡ false = ap (λ i. same_sort wrong (sort_in i)) e ∙ x in
        let y' : same_sort text (sort_in t.sort) ≡ false = ap (λ i. same_sort text (sort_in i)) e ∙ y in
        let q' : same_sort word (sort_in t.sort) ≡ false = ap (λ i. same_sort word (sort_in i)) e ∙ q in
        (rw (x', y', none) refl, rw q' refl)

module _ {r : List ℕ} {n : ℕ} {ms : List ℕ} {count j f : ℕ} {fault : Fault} {w : Verdict} {ms' : List ℕ} {c : ℕ}
    (u : Reading r n ms count j f fault w ms' c) {t : Token} (k : NextToken r j t) where
  pub movable : Movable n t
  movable =
      record {
        own = omega (arith, k.stands);
        behind = k.stands.behind;
        colon_most = colon-most k.stands;
        low = omega (arith, k.stands, u.low);
      }

  module _ {o : Token} (g : o ≡ moved n t) where
    pub place-low : o.at ≤ 32768
    place-low = omega (arith, ap (λ (x : Token). x.at) g, k.stands, u.low)

    pub length-low : o.len ≤ 32768
    length-low = omega (arith, ap (λ (x : Token). x.len) g, k.stands, u.low)

    pub goes_on : stops o.sort ≡ false → j < t.next
    goes_on z = on k (sym (ap (λ (x : Token). stops x.sort) g) ∙ z)

    pub at-less : stops o.sort ≡ false → t.at < t.next
    at-less z = let m = k.stands.some (goes t.sort (sym (ap (λ (x : Token). stops x.sort) g) ∙ z)).0 in omega (arith, m, k.stands.behind)

    pub room-left : stops o.sort ≡ false → c < limit.text
    room-left z = omega (arith, u.few, k.stands, goes_on z, u.low)

    module _ (s : List ℕ) (le : n ≤ length s) (h : drop n s ≡ r) where
      there : NextToken s (n + j) o
      there = subst (λ x. NextToken s (n + j) x) (sym g) (moved-next s n h le k)

      item-is : item_of s o ≡ shift n (item_of r t)
      item-is = ap (item_of s) g ∙ item-moved s n h t

    module _ {f' : ℕ} (f_is : f' ≡ cond (eqb j 0) o.at f) where
      none_read : stops o.sort ≡ true → Heads r n count ms ms' (head_with f' fault c w o None)
      none_read z s le h =
          let k' = there s le h in
          (no-head (u.is s le h).0 k' (same_place n j) f_is z, all-put (u.is s le h).1 k' (no_front (at-stop k' z)))

      module _ {w' : Verdict} (w-is : w' ≡ worse w (token_verdict o)) where
        -- what ends a statement has no fault, and is no keyword
        stop-read : stops o.sort ≡ true → {v : Option Known} → v ≡ known_item (item_of r t) → Heads r n count ms ms' (head_with f' fault c w' o v)
        stop-read z e =
            let q = stop_told n k.stands (sym (ap (λ (x : Token). stops x.sort) g) ∙ z) in
            let clear : token_verdict o ≡ Ok tt = ap token_verdict g ∙ q.0 in
            rw (w-is ∙ ap (worse w) clear ∙ worse-clear w, e ∙ q.1) (none_read z)

      module _ (z : stops o.sort ≡ false) {w' : Verdict} (w-is : w' ≡ worse w (token_verdict o)) where
        head_read : operates o ≡ true → {v : Option Known} → v ≡ known_item (item_of r t) → Heads r n count ms ms' (head_with f' fault c w' o v)
        head_read y e s le h =
            let k' = there s le h in
            let v-is = e ∙ sym (ap known_item (item-is s le h) ∙ known-shift n (item_of r t)) in
            (head-here (u.is s le h).0 k' (same_place n j) f_is z w-is y v-is, operator-put (u.is s le h).1 k' z y)

        pub still-reading : length ms' ≡ limit.text → operates o ≡ false → {fault' : Fault} {m c' : ℕ} → fault' ≡ lower fault (fault_of (cond (is_name (item_of r t)) [] (o.at ∷ [])))
            → m ≡ mark_of o.at o.len → c' ≡ c + cond (same_sort word (sort_in o.sort)) 1 0 → Reading r n ms count t.next f' fault' w' (set ms' c m) c'
        still-reading size y {fault'} {m} {c'} e m-is c_is =
            record {
              most = k.stands.most;
              few = few-by (same_sort word (sort_in o.sort)) c_is;
              low = u.low;
              is = λ s le h.
                  let k' = there s le h in
                  let d : o.next ≡ n + t.next = ap (λ (x : Token). x.next) g in
                  let q : fault' ≡ lower fault (own_fault (item_of s o)) = e ∙ ap (λ (b : Bool). lower fault (fault_of (cond b [] (o.at ∷ [])))) (sym (ap is_name (item-is s le h))) in
                  rw (sym d) (still-leading (u.is s le h).0 k' (same_place n j) f_is z w-is y q, still-putting (u.is s le h).1 k' z y m-is (omega (arith, room-left z, size)) c_is);
            }
          where
            few-by : (b : Bool) → c' ≡ c + cond b 1 0 → c' ≤ n + t.next
            few-by true q = omega (arith, u.few, goes_on z)
            few-by false q = omega (arith, u.few, goes_on z)

      module _ {w' : Verdict} (w-is : w' ≡ worse w (token_verdict o)) where
        pub head_done : (stops o.sort || operates o) ≡ true → {v : Option Known} → v ≡ known_item (item_of r t) → Heads r n count ms ms' (head_with f' fault c w' o v)
        head_done y {v} e =
            elim (stops o.sort) as (λ b. stops o.sort ≡ b → (b || operates o) ≡ true → Heads r n count ms ms' (head_with f' fault c w' o v)) [ true ↦ λ z h. stop-read w-is z e | false ↦ λ z h. head_read z w-is h e ] refl y
