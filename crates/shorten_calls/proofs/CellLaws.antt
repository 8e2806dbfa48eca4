-- The part is the same with every table that is long enough.
use Rattle.std.specs.Prelude.{◌≡◌, Bool, ◌&&◌, eqb, length}
use Rattle.std.proofs.Math.Path.{refl, ap}
use Rattle.std.proofs.Common.{◌∙◌, le-leb}
use Rattle.std.proofs.Math.Bool.{true, false, cond}
use mathlib.Core.List.{List, [], ◌∷◌, ◌++◌, reverse}
use Prim.Native.Nat.{ℕ, zero, suc, ◌≤◌}
use Rattle.std.proofs.Math.Dec.{leb}
use Rattle.lists.specs.Lists.{joined}
use Rattle.language.specs.Limits as limit
use Rattle.calls.specs.Calls.{load_number}
use Rattle.macros.specs.Load.{loaded, load_in, load_of}
use Rattle.macros.specs.Prepared.{prepared}
use Rattle.syntax.specs.Load.Loaded.{refused}
use Rattle.text_lines.specs.Lines.{lines}
use Rattle.shorten_calls.specs.Shortening.{number_of, round, round_of, rounds, part_lines, part}

module _ (cells : ℕ) (long : limit.table ≤ cells) where
  pub loads-same : (s : List ℕ) → load_in cells s ≡ load_of s
  unfolding load_in
  loads-same s =
      ap (λ (b : Bool). cond (b && leb (length s) limit.text) (loaded (prepared s)) (refused 40 0)) (le-leb limit.table cells long)

  number_same : (ls : List (List ℕ)) → number_of cells ls ≡ number_of limit.table ls
  unfolding number_of
  number_same ls = ap load_number (loads-same (joined ls))

  round_same : (n : ℕ) (after left : List (List ℕ)) → round cells n after left ≡ round limit.table n after left
  unfolding round
  round_same n after [] = refl
  round_same n after (l ∷ left) =
      ap (λ (k : ℕ). round cells n (cond (eqb k n) after (l ∷ after)) left) (number_same (reverse left ++ after))
      ∙ round_same n (cond (eqb (number_of limit.table (reverse left ++ after)) n) after (l ∷ after)) left

  rounds-same : (k n : ℕ) (ls : List (List ℕ)) → rounds cells k n ls ≡ rounds limit.table k n ls
  unfolding rounds
  rounds-same zero n ls = refl
  rounds-same (suc k) n ls =
      ap (λ (r : List (List ℕ)). elim (eqb (length r) (length ls)) as (λ (b : Bool). List (List ℕ)) [ true ↦ ls | false ↦ rounds cells k n r ]) (round_same n [] (reverse ls))
      ∙ ap (λ (r : List (List ℕ)). elim (eqb (length (round_of limit.table n ls)) (length ls)) as (λ (b : Bool). List (List ℕ)) [ true ↦ ls | false ↦ r ])
      (rounds-same k n (round_of limit.table n ls))

  pub part_same : (s : List ℕ) → part cells s ≡ part limit.table s
  unfolding part_lines
  part_same s =
      let n = number_of cells (lines s) in
      let m = number_of limit.table (lines s) in
      ap joined
      (ap (λ (r : List (List ℕ)). elim (eqb n 80) as (λ (b : Bool). List (List ℕ)) [ true ↦ lines s | false ↦ r ]) (rounds-same (length (lines s)) n (lines s))
      ∙ ap (λ (k : ℕ). elim (eqb k 80) as (λ (b : Bool). List (List ℕ)) [ true ↦ lines s | false ↦ rounds limit.table (length (lines s)) k (lines s) ]) (number_same (lines s)))
