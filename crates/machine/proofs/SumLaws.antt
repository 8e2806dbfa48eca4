-- What every limit counts, after one expression, file or output is replaced: each rests on `total-set`, the one fact over the index.
use Rattle.std.specs.Prelude.{◌≡◌, ℕ, zero, suc, pred, ◌+◌, ◌-◌, ◌≤◌, ◌<◌, T, leb, length, get_or, take, drop, set}
use Rattle.std.proofs.Math.Path.{refl}
use mathlib.Core.List.{List, [], ◌∷◌, ◌++◌}
use native.Mathlib.Omega.{arith}
use Rattle.language.specs.Below.Lists.{total, all}
use Rattle.language.specs.Below.ListLaws.{total-append, total-split, total-set, all_set}
use Rattle.language.specs.Limits as limit
use Rattle.language.specs.Program.{Arg}
use Rattle.language.specs.Values.{Component, Record, File, Store, empty_file}
use Rattle.machine.specs.Arguments.{place, expr, file_of, records}
use Rattle.machine.specs.Changes.{with_exprs, with_files, put, put_expr, put_file, held, recorded}
use Rattle.machine.specs.WellFormed.{overrun}

module _ (a : Arg) (s : Store) where
  -- an expression's components, and their characters
  pub held-put_expr : (g : Component → ℕ) (xs : List Component) → pred (place a) < length s.exprs
      → held g (put_expr a xs s) + total g (expr s a) ≡ held g s + total g xs
  unfolding held put_expr with_exprs
  held-put_expr g xs l = omega (arith, total-set (total g) [] s.exprs (pred (place a)) xs l)

  -- a file's
  pub held-put_file : (g : Component → ℕ) (xs ys : List Record) → pred (place a) < length s.files
      → held g (put_file a xs ys s) + total (λ r. total g r.parts) (records (file_of s a)) ≡ held g s + total (λ r. total g r.parts) (xs ++ ys)
  unfolding held put_file with_files
  held-put_file g xs ys l =
      omega (
        arith,
        total-set (λ f. total (λ r. total g r.parts) (records f)) empty_file s.files (pred (place a)) (record { before = xs; after = ys }) l,
      )

  -- records
  pub recorded-put_expr : (g : Record → ℕ) (xs : List Component) → recorded g (put_expr a xs s) ≡ recorded g s
  unfolding recorded put_expr with_exprs
  recorded-put_expr g xs = refl

  pub recorded-put_file : (g : Record → ℕ) (xs ys : List Record) → pred (place a) < length s.files
      → recorded g (put_file a xs ys s) + total g (records (file_of s a)) ≡ recorded g s + total g (xs ++ ys)
  unfolding recorded put_file with_files
  recorded-put_file g xs ys l =
      omega (arith, total-set (λ f. total g (records f)) empty_file s.files (pred (place a)) (record { before = xs; after = ys }) l)

  -- an output's characters
  pub outputs-put : (w : List ℕ) → T (all (λ q. leb (length q) limit.output) s.outputs) → pred (place a) < length s.outputs
      → all (λ q. leb (length q) limit.output) (put s.outputs a w) ≡ leb (length w) limit.output
  outputs-put w h l = all_set (λ q. leb (length q) limit.output) [] s.outputs (pred (place a)) w h l

-- Read places: the same, of two lists side by side

-- a file without the first k records after its pointer, and with the pointer behind them
pub removed-total : (g : Record → ℕ) (f : File) (k : ℕ) → total g (f.before ++ drop k f.after) + total g (take k f.after) ≡ total g (records f)
removed-total g f k =
    omega (arith, total-append g f.before (drop k f.after), total-append g f.before f.after, total-split g k f.after)

pub passed-total : (g : Record → ℕ) (f : File) (k : ℕ) → total g ((f.before ++ take k f.after) ++ drop k f.after) ≡ total g (records f)
passed-total g f k =
    omega (
      arith,
      total-append g (f.before ++ take k f.after) (drop k f.after),
      total-append g f.before (take k f.after),
      total-append g f.before f.after,
      total-split g k f.after,
    )

pub overrun-set : (ns : List ℕ) (ws : List (List ℕ)) (i m : ℕ) → overrun (set ns i m) ws ≤ overrun ns ws + (m - length (get_or ws i []))
overrun-set [] ws i m = omega arith
overrun-set (n ∷ ns) [] zero m = omega arith
overrun-set (n ∷ ns) [] (suc i) m = omega (arith, overrun-set ns [] i m)
overrun-set (n ∷ ns) (w ∷ ws) zero m = omega arith
overrun-set (n ∷ ns) (w ∷ ws) (suc i) m = omega (arith, overrun-set ns ws i m)

pub overrun-at : (ns : List ℕ) (ws : List (List ℕ)) (i : ℕ) → get_or ns i 0 - length (get_or ws i []) ≤ overrun ns ws
overrun-at [] ws i = omega arith
overrun-at (n ∷ ns) [] zero = omega arith
overrun-at (n ∷ ns) [] (suc i) = omega (arith, overrun-at ns [] i)
overrun-at (n ∷ ns) (w ∷ ws) zero = omega arith
overrun-at (n ∷ ns) (w ∷ ws) (suc i) = omega (arith, overrun-at ns ws i)
