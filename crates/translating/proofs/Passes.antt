-- From item to item: what is made grows, and what is still to be written shrinks.
use mathlib.Core.Path.{◌≡◌, refl, ap, sym, subst, ◌∙◌}
use mathlib.Core.Bool.{Bool, true, false, not, ◌&&◌, ◌||◌}
use mathlib.Core.List.{List, [], ◌∷◌, ◌++◌, append_assoc}
use Prim.Native.Nat.{ℕ, ◌+◌, ◌-◌, ◌≤◌, ◌<◌}
use native.Mathlib.Omega.{arith}
use lib.ListN.{length, take, drop, length-append, length-take, length-drop}
use lib.Seq.{take-length}
use Rattle.std.specs.Prelude.{Option, None, Some}
use Rattle.std.specs.Option.{is_some}
use Rattle.std.proofs.lemmas.Bool.{and_parts}
use Rattle.syntax.specs.Items.{is}
use Rattle.syntax.specs.Items.Sort.{word, end}
use Rattle.syntax.specs.Statements.{is_operator}
use Rattle.appending.specs.Appending.{Writes, Behind, Appends}
use Rattle.appending.specs.AppendingLaws.{written_none, written-more, written-beyond, writes-more}
use Rattle.editions.specs.Convert.{respell, respelled}
use Rattle.editions.specs.Passing.{remaining, is_awaited, awaited_after, between}
use Rattle.editions.proofs.PassingLaws.{between-joined, between-last, remaining-all, remaining-last, item-stays, operator-turned}
use Rattle.scanner.specs.declared.Sort.{Sort}
use Rattle.heads.specs.Heads.{operates}
use Rattle.heads.specs.HeadLaws.{operator_is}
use Rattle.lexer.proofs.Finding.{one_sort, word-chars}
use Rattle.lexer.specs.Tokens.{part, chars_of, item_of, items_from, NextToken}
use Rattle.lexer.specs.declared.Token.{Token}
use Rattle.words.specs.Keywords.{other_word}
use Rattle.translating.proofs.Pairs.{respell-other}
use Rattle.translating.specs.Translating.{Reached, Passable, Passed, Passes}
use Rattle.translating.specs.declared.Pass.{Pass}

-- ---- at first

pub reached-none : (s c : List ℕ) → Reached s (record { next = 0; awaited = true; from = 0; count = 0 }) c
unfolding respelled
reached-none s c =
    record {
      made = [];
      written = written_none c;
      whole = sym (remaining-all respell s);
      order = omega arith;
      most = omega arith;
    }

-- ---- an item

pub item_operates : (t : Token) {b : Bool} → b ≡ operates t → b ≡ is_operator (item_of [] t)
item_operates t e = e ∙ sym (operator_is [] t)

regrouped : (m a b w r z : List ℕ) → m ++ a ++ (b ++ w ++ r ++ z) ≡ m ++ (a ++ b) ++ w ++ r ++ z
regrouped m a b w r z = simp append_assoc

module _ {s : List ℕ} {t : Token} {p : Pass} {c : List ℕ} (h : Passable s t p c) {o : Bool} (operates : o ≡ is_operator (item_of [] t)) where
  first : items_from s p.next ≡ item_of s t ∷ items_from s t.next
  first = h.found.is ∙ rw h.item refl

  awaits : {w : Bool} → w ≡ is word (item_of s t) → is_awaited p.awaited (item_of s t) ≡ (p.awaited && o && w)
  awaits x = rw (operates, x) refl

  awaits_after : {e : Bool} → e ≡ is end (item_of s t) → (e || (p.awaited && not o)) ≡ awaited_after p.awaited (item_of s t)
  awaits_after y = rw (operates, y) refl

  onward : p.next ≤ t.next
  onward = omega (arith, h.found.from, h.found.stands.own, h.found.stands.behind)

  pub item_passed : {w e : Bool} → w ≡ is word (item_of s t) → e ≡ is end (item_of s t) → (p.awaited && o && w) ≡ false
      → Passed s t (record { next = t.next; awaited = e || (p.awaited && not o); from = p.from; count = p.count }) c
  item_passed x y q =
      let g = h.reached in
      let b = between s p.from p.next in
      let z = remaining respell (awaited_after p.awaited (item_of s t)) s t.next in
      let e : respelled s ≡ g.made ++ between s p.from t.next ++ z =
      g.whole
      ∙ ap (λ y. g.made ++ b ++ y) (item-stays respell s p.awaited p.next t.next (item_of s t) first h.found.stands.most (awaits x ∙ q) onward)
      ∙ sym (append_assoc (g.made ++ b) (between s p.next t.next) z)
      ∙ ap (λ y. y ++ z) (append_assoc g.made b (between s p.next t.next) ∙ ap (λ y. g.made ++ y) (between-joined s p.from p.next t.next g.order onward)) in
      record {
        reached = record {
          made = g.made;
          written = g.written;
          whole = subst (λ a. respelled s ≡ g.made ++ between s p.from t.next ++ remaining respell a s t.next) (sym (awaits_after y)) e;
          order = omega (arith, g.order, onward);
          most = h.found.stands.most;
        };
        behind = refl;
      }

  module _ {w : Bool} (x : w ≡ is word (item_of s t)) (q : (p.awaited && o && w) ≡ true) where
    a_word : t.sort ≡ Some Sort.Word
    a_word = one_sort (Some Sort.Word) t.sort (sym x ∙ (and_parts (p.awaited && o) w q).1)

    spelled : chars_of s t ≡ part s t.at t.end
    spelled = word-chars s t a_word

    past : t.at + length (chars_of s t) ≡ t.end
    past =
        let l : length (part s t.at t.end) ≡ t.end - t.at = simp (length-take, length-drop) (omega (arith, h.found.stands.behind, h.found.stands.most)) in
        omega (arith, ap length spelled, l, h.found.stands.some h.item)

    abbrev before : List ℕ
    before = between s p.from t.at

    abbrev other : List ℕ
    other = other_word (part s t.at t.end)

    turned-whole : respelled s ≡ h.reached.made ++ before ++ other ++ between s t.end t.next ++ remaining respell false s t.next
    turned-whole =
        let g = h.reached in
        let st = h.found.stands in
        let w : respell (chars_of s t) ≡ other_word (part s t.at t.end) = ap respell spelled ∙ respell-other (part s t.at t.end) in
        let z = remaining respell false s t.next in
        let turned = operator-turned respell s p.awaited p.next t.next (item_of s t) first st.most (awaits x ∙ q) h.found.from (omega (arith, past, st.behind)) in
        let e : respelled s ≡ g.made ++ between s p.from p.next ++ (between s p.next t.at ++ respell (chars_of s t) ++ between s t.end t.next ++ z) =
        g.whole ∙ ap (λ y. g.made ++ between s p.from p.next ++ y) (turned ∙ ap (λ k. between s p.next t.at ++ respell (chars_of s t) ++ between s k t.next ++ z) past) in
        e ∙ regrouped g.made (between s p.from p.next) (between s p.next t.at) (respell (chars_of s t)) (between s t.end t.next) z
        ∙ ap (λ y. g.made ++ y ++ respell (chars_of s t) ++ between s t.end t.next ++ z) (between-joined s p.from p.next t.at g.order h.found.from)
        ∙ ap (λ y. g.made ++ before ++ y ++ between s t.end t.next ++ z) w

    pub unfit-before : length c < p.count + length before → length c < length (respelled s)
    unfit-before l =
        let m = h.reached.made in
        let b = written-beyond h.reached.written before l in
        let y = between s t.end t.next in
        let z = remaining respell false s t.next in
        omega (arith, b, ap length turned-whole, length-append (m ++ before) other, length-append (m ++ before ++ other) y, length-append (m ++ before ++ other ++ y) z)

    module _ {n : ℕ} {c₁ : List ℕ} (k : Behind c p.count before c₁ n) where
      pub unfit-operator : length c₁ < n + length other → length c₁ < length (respelled s)
      unfit-operator l =
          let m = h.reached.made ++ before ++ other in
          let b = written-beyond (written-more h.reached.written k) other l in
          let y = between s t.end t.next in
          let z = remaining respell false s t.next in
          omega (arith, b, ap length turned-whole, length-append m y, length-append (m ++ y) z)

      pub operator-passed : {r : ℕ} {c₂ : List ℕ} → Behind c₁ n other c₂ r → Passed s t (record { next = t.next; awaited = false; from = t.end; count = r }) c₂
      operator-passed k' =
          record {
            reached = record {
              made = h.reached.made ++ before ++ other;
              written = written-more (written-more h.reached.written k) k';
              whole = turned-whole;
              order = h.found.stands.behind;
              most = h.found.stands.most;
            };
            behind = refl;
          }

-- ---- where no item follows

module _ {s : List ℕ} {t : Token} {p : Pass} {c : List ℕ} (g : Reached s p c) (f : NextToken s p.next t) (none : is_some t.sort ≡ false) where
  pub reached-last : {r : Option ℕ} {d : List ℕ} → Appends c p.count (between s p.from (length s)) r d → length d ≡ length c → Writes (respelled s) r d
  reached-last {r} {d} k l =
      let b = between s p.from p.next in
      let a : drop p.from s ≡ between s p.from (length s) = sym (take-length (drop p.from s)) ∙ ap (λ n. take n (drop p.from s)) (length-drop p.from s) in
      let e : respelled s ≡ g.made ++ between s p.from (length s) =
      g.whole
      ∙ ap (λ y. g.made ++ b ++ y) (remaining-last respell s p.awaited p.next (f.is ∙ rw none refl))
      ∙ append_assoc g.made b (drop p.next s)
      ∙ ap (λ y. g.made ++ y) (between-last s p.from p.next g.order ∙ a) in
      subst (λ x. Writes x r d) (sym e) (writes-more g.written k l)

-- ---- an item that was passed

pub unpassed : {s : List ℕ} {t : Token} {r : Option Pass} {c : List ℕ} → r ≡ None → length c < length (respelled s) → Passes s t r c
unpassed {s} {t} {r} {c} e l = subst (λ r. Passes s t r c) (sym e) (record { told = l })
