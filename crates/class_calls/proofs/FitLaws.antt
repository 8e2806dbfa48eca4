-- Question 71, one by one.
use Rattle.std.specs.Prelude.{◌≡◌, Bool, ◌&&◌, ◌*◌, ◌≤◌, T, eqb, leb, length}
use Rattle.std.proofs.Common.{eqb→eq, leb→le}
use Rattle.lists.specs.ListLaws.{T-left, T-right}
use Rattle.language.specs.Limits as limit
use Rattle.class_calls.specs.Class.{class, Lent, sum, class_fits}

pub record ClassFits (x : Lent) : Type 0 where
  pub few : length x.lengths ≤ class
  pub as_many : length x.budgets ≡ length x.lengths
  pub adds_up : sum x.lengths ≡ length x.data_in
  pub cells : 3 * length x.lengths ≤ length x.results
  pub bytes : limit.output * length x.lengths ≤ length x.out

pub fits-facts : (x : Lent) → T (class_fits x) → ClassFits x
fits-facts x h =
    let n = length x.lengths in
    go (leb n class) (eqb (length x.budgets) n) (eqb (sum x.lengths) (length x.data_in)) (leb (3 * n) (length x.results))
    (leb (limit.output * n) (length x.out)) h
    (leb→le n class) (eqb→eq (length x.budgets) n) (eqb→eq (sum x.lengths) (length x.data_in)) (leb→le (3 * n) (length x.results))
    (leb→le (limit.output * n) (length x.out))
  where
    go : (a b d e f : Bool) → T (a && (b && (d && (e && f)))) → (T a → length x.lengths ≤ class) → (T b → length x.budgets ≡ length x.lengths)
        → (T d → sum x.lengths ≡ length x.data_in) → (T e → 3 * length x.lengths ≤ length x.results)
        → (T f → limit.output * length x.lengths ≤ length x.out) → ClassFits x
    go a b d e f h p q r s t =
        let h₁ = T-right a (b && (d && (e && f))) h in
        let h₂ = T-right b (d && (e && f)) h₁ in
        let h₃ = T-right d (e && f) h₂ in
        record {
          few = p (T-left a (b && (d && (e && f))) h);
          as_many = q (T-left b (d && (e && f)) h₁);
          adds_up = r (T-left d (e && f) h₂);
          cells = s (T-left e f h₃);
          bytes = t (T-right e f h₃);
        }
