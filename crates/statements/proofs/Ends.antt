-- To the end of a statement, from token to token.
use mathlib.Core.Path.{◌≡◌, refl, ap, sym, ◌∙◌}
use mathlib.Core.Bool.{Bool, true, false, cond, true≢false}
use mathlib.Core.List.{List, [], ◌∷◌}
use Prim.Native.Nat.{ℕ, ◌+◌, ◌≤◌, ◌<◌}
use native.Mathlib.Omega.{arith}
use lib.ListN.{length, drop}
use Rattle.std.proofs.Common.{Option, None, Some}
use Rattle.std.specs.Option.{is_none}
use Rattle.scanner.specs.declared.Sort.{Sort}
use Rattle.lexer.specs.declared.Token.{Token}
use Rattle.layout.specs.Bounds.{Each}
use Rattle.lexer.specs.Tokens.{item_of, items_from, NextToken}
use Rattle.statements.specs.StatementAt.{statements_at, statement_at, stops, behind_end, Ended}
use Rattle.statements.specs.StatementLaws.{first_statement, no-statement, statement-ends, statement-goes, at-stop, at_item, on}
use Rattle.lexer.specs.Below.Items.{Item}

-- place i is still within the statement at n
pub record Within (s : List ℕ) (n i : ℕ) : Type 0 where
  pub from : n ≤ i
  pub most : i ≤ length s
  pub place : behind_end (items_from s i) ≡ behind_end (items_from s n)
  pub rest : drop 1 (statements_at s i) ≡ drop 1 (statements_at s n)
  pub count : n + length (statement_at s n) ≤ i + length (statement_at s i)
  pub before : (e : ℕ) → i ≤ e → Each (λ j. j.at ≤ e) (statement_at s i) → Each (λ j. j.at ≤ e) (statement_at s n)

pub begins-within : {s : List ℕ} {n : ℕ} → n ≤ length s → Within s n n
begins-within h = record { from = omega arith; most = h; place = refl; rest = refl; count = omega arith; before = λ e l z. z }

module _ {s : List ℕ} {n i : ℕ} {t : Token} (w : Within s n i) (k : NextToken s i t) where
  pub still-within : stops t.sort ≡ false → Within s n t.next
  still-within z =
      let g = statement-goes k z in
      let a = at_item k z in
      let c : length (statement_at s i) ≡ length (item_of s t ∷ statement_at s t.next) = ap length a in
      record {
        from = omega (arith, w.from, on k z);
        most = k.stands.most;
        place = sym g.1 ∙ w.place;
        rest = sym (ap (drop 1) g.0) ∙ w.rest;
        count = omega (arith, w.count, c, on k z);
        before = λ e l h. w.before e (omega (arith, on k z)) (rw a (omega (arith, k.stands.own, k.stands.behind), h));
      }

  ended : stops t.sort ≡ true → (l : Bool) → (l ≡ false → i < t.next) → behind_end (items_from s i) ≡ cond l [] (t.next ∷ []) → statements_at s i ≡ [] ∷ cond l [] (statements_at s t.next)
      → Ended s n t.next l
  ended z l m p e =
      let a = at-stop k z in
      let c : length (statement_at s i) ≡ length {A = Item} [] = ap length a in
      let le : i ≤ t.next = omega (arith, k.from, k.stands.own, k.stands.behind) in
      record {
        from = omega (arith, w.from, k.from, k.stands.own, k.stands.behind);
        most = k.stands.most;
        more = λ z. omega (arith, w.from, m z);
        place = sym w.place ∙ p;
        is = first_statement s n ∙ ap (λ xs. statement_at s n ∷ xs) (sym w.rest ∙ ap (drop 1) e);
        count = omega (arith, w.count, c, le);
        before = w.before t.next le (rw a tt);
      }

  ends_by : (k : Option Sort) → t.sort ≡ k → stops k ≡ true → Ended s n t.next (is_none k)
  ends_by None e z = let q = no-statement k e in ended (ap stops e) true (λ f. absurd (true≢false f)) q.1 q.0
  ends_by (Some Sort.End) e z = let q = statement-ends k e in ended (ap stops e) false (λ f. omega (arith, k.from, k.stands.ending e)) q.1 q.0
  ends_by (Some Sort.Word) e z = absurd (true≢false (sym z))
  ends_by (Some Sort.Colon) e z = absurd (true≢false (sym z))
  ends_by (Some Sort.Text) e z = absurd (true≢false (sym z))
  ends_by (Some Sort.Wrong) e z = absurd (true≢false (sym z))

  pub ends-here : stops t.sort ≡ true → Ended s n t.next (is_none t.sort)
  ends-here z = ends_by t.sort refl z

-- the end of what is left of a statement is the statement's
pub ends-then : {s : List ℕ} {n i next : ℕ} {last : Bool} → Within s n i → Ended s i next last → Ended s n next last
ends-then {s} {n} {i} {next} w e =
    record {
      from = omega (arith, w.from, e.from);
      most = e.most;
      more = λ z. omega (arith, w.from, e.more z);
      place = sym w.place ∙ e.place;
      is = first_statement s n ∙ ap (λ xs. statement_at s n ∷ xs) (sym w.rest ∙ ap (drop 1) e.is);
      count = omega (arith, w.count, e.count);
      before = w.before next e.from e.before;
    }
