-- The items of a statement from one to the next: the verdict of questions 14 to 16, the end; and of those that are left on a refusal, the arguments.
use Rattle.std.specs.Prelude.{◌≡◌, Bool, ◌&&◌, drop}
use Rattle.std.proofs.Math.Path.{refl, ap}
use Rattle.std.proofs.Common.{sym, ◌∙◌, arith, leb-true, leb-false}
use Rattle.std.proofs.Math.Bool.{true, false, cond}
use mathlib.Core.List.{List, [], ◌∷◌, ◌++◌, append_assoc, append-nil}
use Prim.Native.Nat.{ℕ, suc, ◌+◌, ◌-◌, ◌≤◌, ◌<◌}
use Rattle.std.proofs.Math.Dec.{leb}
use Rattle.std.proofs.Math.ListN.{length}
use Rattle.std.proofs.Math.Seq.{drop-nil}
use Rattle.statements.specs.Checks.{worst, token_verdict}
use Rattle.statements.specs.CheckLaws.{worst-stop, worst-item, worse-clear, worse_assoc}
use Rattle.statements.specs.FaultLaws.{fault-both}
use Rattle.lexer.specs.declared.Token.{Token}
use Rattle.language.specs.Limits as limit
use Rattle.lexer.specs.Tokens.{item_of, Stands, NextToken}
use Rattle.statements.specs.Faults.{Fault, Verdict, worse}
use Rattle.std.specs.Prelude.{Option, None}
use Rattle.statements.specs.StatementAt.{statement_at, stops, fault_of}
use Rattle.heads.specs.Heads.{following, EndedBy}
use Rattle.heads.specs.HeadLaws.{ended-by, ended-on}
use Rattle.statements.specs.StatementLaws.{at-stop, on}
use Rattle.statements.proofs.Ends.{Within, begins-within, still-within, ends-here, ends-then}
use Rattle.syntax.specs.ArgumentForms.{arguments_in}
use Rattle.syntax.specs.Items.{Item, places}
use Rattle.syntax.specs.Verdict.{lowest}
use Rattle.arguments.specs.Arguments.{with_excess, Leaves}
use Rattle.arguments.specs.CountLaws.{is_argument, arguments-on}

-- ---- any items

-- the reader of the statement at n has come to place i; w is the verdict of what it began with and of the items before i
pub record Passing (s : List ℕ) (n : ℕ) (begun : Verdict) (i : ℕ) (w : Verdict) : Type 0 where
  pub within : Within s n i
  pub worst_is : worse w (worst (statement_at s i)) ≡ worse begun (worst (statement_at s n))

pub passing-first : {s : List ℕ} {n : ℕ} {w : Verdict} → n ≤ length s → Passing s n w n w
passing-first h = record { within = begins-within h; worst_is = refl }

pub place-low : {s : List ℕ} {t : Token} → Stands s t → length s ≤ limit.text → t.at < 65536
place-low h l = omega (arith, h.own, h.behind, h.most, l)

module _ {s : List ℕ} {n i : ℕ} {begun w : Verdict} (p : Passing s n begun i w) where
  module _ {t : Token} (k : NextToken s i t) where
    pub passing-on : stops t.sort ≡ false → {v : Verdict} → v ≡ worse w (token_verdict t) → Passing s n begun t.next v
    passing-on z {v} e =
        record {
          within = still-within p.within k z;
          worst_is = ap (λ u. worse u (worst (statement_at s t.next))) e ∙ worse_assoc w (token_verdict t) (worst (statement_at s t.next)) ∙ ap (worse w) (sym (worst-item k z)) ∙ p.worst_is;
        }

    pub passed-worst : stops t.sort ≡ true → w ≡ worse begun (worst (statement_at s n))
    passed-worst z = sym (worse-clear w) ∙ ap (worse w) (sym (worst-stop k z)) ∙ p.worst_is

    pub passed-end : stops t.sort ≡ true → {r : Option ℕ} → r ≡ following t → EndedBy s n r
    passed-end z q = ended-by t (ends-here p.within k z) q

  -- another reader takes those from i on
  pub worst-then : {v : Verdict} → v ≡ worse w (worst (statement_at s i)) → v ≡ worse begun (worst (statement_at s n))
  worst-then e = e ∙ p.worst_is

  pub end-then : {r : Option ℕ} → EndedBy s i r → EndedBy s n r
  end-then e = ended-on (λ k b. ends-then p.within) e

-- ---- arguments: of those from n on, c stand before place i, and `over` is the lowest of them in excess

excess : (skip c : ℕ) (b : Bool) (i : Item) (js : List Item)
    → places (drop (skip - c) (cond b (i ∷ js) js)) ≡ cond (b && leb skip c) (i.at ∷ []) [] ++ places (drop (skip - (c + cond b 1 0)) js)
excess skip c false i js = let q : skip - c ≡ skip - (c + 0) = omega arith in rw q
excess skip c true i js =
    elim (leb skip c) as (λ d. leb skip c ≡ d → places (drop (skip - c) (i ∷ js)) ≡ cond d (i.at ∷ []) [] ++ places (drop (skip - (c + 1)) js)) [
      | true ↦ λ e.
          let l = leb-true skip c e in
          let p : skip - c ≡ 0 = omega arith in
          let q : skip - (c + 1) ≡ 0 = omega arith in
          rw (p, q)
      | false ↦ λ e. let l = leb-false skip c e in let p : skip - c ≡ suc (skip - (c + 1)) = omega arith in rw p
    ] refl

one_more : (b : Bool) (i : Item) (js : List Item) {r : ℕ} → r ≡ cond b 1 0 → (r ≤ 1) × (length (cond b (i ∷ js) js) ≡ r + length js)
one_more true i js e = (omega arith, omega arith)
one_more false i js e = (omega arith, omega arith)

pub record Leaving (s : List ℕ) (n skip : ℕ) (begun : Verdict) (i c : ℕ) (w : Verdict) (over : Fault) : Type 0 where
  pub passing : Passing s n begun i w
  pub few : c ≤ i
  pub count_is : length (arguments_in (statement_at s n)) ≡ c + length (arguments_in (statement_at s i))
  pub found : List ℕ
  pub over_is : over ≡ fault_of found
  pub found_is : places (drop skip (arguments_in (statement_at s n))) ≡ found ++ places (drop (skip - c) (arguments_in (statement_at s i)))

pub leaving-first : {s : List ℕ} {n : ℕ} {w : Verdict} (skip : ℕ) → Leaves s n → Leaving s n skip w n 0 w None
leaving-first {s} {n} skip h =
    let q : skip ≡ skip - 0 = omega arith in
    record {
      passing = passing-first h.inside;
      few = omega arith;
      count_is = omega arith;
      found = [];
      over_is = refl;
      found_is = ap (λ (m : ℕ). places (drop m (arguments_in (statement_at s n)))) q;
    }

-- of all items from n on: those in excess, how many arguments they are, their verdict with what the reader began with, and the end of the statement
pub record ReadsLeft (s : List ℕ) (n skip : ℕ) (begun : Verdict) (over : Fault) (c : ℕ) (w : Verdict) (next : Option ℕ) : Type 0 where
  pub over_is : over ≡ fault_of (places (drop skip (arguments_in (statement_at s n))))
  pub count_is : c ≡ length (arguments_in (statement_at s n))
  pub worst_is : w ≡ worse begun (worst (statement_at s n))
  pub ends : EndedBy s n next

module _ {s : List ℕ} {n skip i c : ℕ} {begun w : Verdict} {over : Fault} {t : Token} (l : Leaving s n skip begun i c w over) (k : NextToken s i t) where
  pub left_end : stops t.sort ≡ true → {r : Option ℕ} → r ≡ following t → ReadsLeft s n skip begun over c w r
  left_end z q =
      let none : arguments_in (statement_at s i) ≡ [] = ap arguments_in (at-stop k z) in
      record {
        over_is = rw (l.over_is, l.found_is, none, drop-nil {A = Item} (skip - c), append-nil l.found);
        count_is = omega (arith, l.count_is, ap length none);
        worst_is = passed-worst l.passing k z;
        ends = passed-end l.passing k z q;
      }

  module _ (z : stops t.sort ≡ false) where
    abbrev b : Bool
    b = is_argument (item_of s t)

    abbrev js : List Item
    js = arguments_in (statement_at s t.next)

    pub counts-on : {r : ℕ} → r ≡ cond b 1 0 → c + r ≤ length s
    counts-on e = omega (arith, l.few, on k z, k.stands.most, (one_more b (item_of s t) js e).0)

    pub leaving-on : {c' : ℕ} {v : Verdict} {over' : Fault} → over' ≡ with_excess over (b && leb skip c) t.at → c' ≡ c + cond b 1 0 → v ≡ worse w (token_verdict t)
        → Leaving s n skip begun t.next c' v over'
    unfolding lowest
    leaving-on {c'} e q r =
        let here = arguments-on k z in
        let one = one_more b (item_of s t) js {r = cond b 1 0} refl in
        let new : List ℕ = cond (b && leb skip c) (t.at ∷ []) [] in
        record {
          passing = passing-on l.passing k z r;
          few = omega (arith, l.few, on k z, one.0, q);
          count_is = omega (arith, l.count_is, ap length here ∙ one.1, q);
          found = l.found ++ new;
          over_is = e ∙ elim (b && leb skip c) as (λ d. with_excess over d t.at ≡ fault_of (l.found ++ cond d (t.at ∷ []) [])) [
            | true ↦ rw (l.over_is, fault-both l.found (t.at ∷ []))
            | false ↦ l.over_is ∙ rw (append-nil l.found)
          ];
          found_is = l.found_is ∙ rw (here, excess skip c b (item_of s t) js, q) (sym (append_assoc l.found new (places (drop (skip - (c + cond b 1 0)) js))));
        }
