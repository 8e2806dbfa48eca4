-- The strings of expressions and files that are written as they are read: said of all of them at once, and of each.
use mathlib.Core.Path.{◌≡◌, refl, sym, ap, ◌∙◌}
use mathlib.Core.List.{List, [], ◌∷◌, ◌++◌, map, append_assoc, map-append}
use Prim.Native.Nat.{ℕ, zero, suc, ◌*◌, ◌≤◌}
use native.Mathlib.Omega.{arith}
use lib.Dec.{T}
use lib.ListN.{length, take, drop}
use Rattle.lists.specs.AppendLaws.{all_left, all_right, all_append}
use Rattle.check_strings.proofs.ComponentWalks.{parts-open, parts-close}
use Rattle.check_strings.proofs.RecordWalks.{rows-open, rows-close}
use Rattle.check_strings.specs.Sound.{sound_components, given, sound_records}
use Rattle.language.specs.Values.{Record}
use Rattle.layout.proofs.CellLaws.{twice}
use Rattle.layout.specs.Components.{components_bytes, records_bytes, components_in, records_in, addresses_in}
use Rattle.layout.specs.Memory.{file_strings, files_in}
use Rattle.lists.specs.ListLaws.{T-left, T-right, T-both, total-append}
use Rattle.lists.specs.Lists.{total, all, each, head_or}
use Rattle.machine.specs.Arguments.{records}
use Rattle.machine.specs.WellFormed.{faults, record_faults, all_records}

-- ---- expressions

abbrev pub again : List ℕ → List ℕ
again v = components_bytes (components_in v)

pub record Expressions (l : ℕ) (vs : List (List ℕ)) : Type 0 where
  pub same : map again vs ≡ vs
  pub faultless : total (λ v. total (faults l) (components_in v)) vs ≡ 0

pub expressions-open : (l : ℕ) (vs : List (List ℕ)) → T (all (sound_components l) vs) → Expressions l vs
expressions-open l [] h = record { same = refl; faultless = refl }
expressions-open l (v ∷ vs) h =
    let p = parts-open l v (T-left (sound_components l v) (all (sound_components l) vs) h) in
    let q = expressions-open l vs (T-right (sound_components l v) (all (sound_components l) vs) h) in
    record { same = ap (λ u. u ∷ map again vs) p.cells ∙ ap (λ us. v ∷ us) q.same; faultless = omega (arith, p.faultless, q.faultless) }

pub expressions-close : (l : ℕ) (vs : List (List ℕ)) → Expressions l vs → T (all (sound_components l) vs)
expressions-close l [] h = tt
expressions-close l (v ∷ vs) h =
    T-both (sound_components l v) (all (sound_components l) vs)
    (parts-close l v (record { cells = ap (head_or []) h.same; faultless = omega (arith, h.faultless) }))
    (expressions-close l vs (record { same = ap (drop 1) h.same; faultless = omega (arith, h.faultless) }))

-- ---- files

abbrev pub again_records : List ℕ → List ℕ
again_records v = records_bytes (records_in v)

pub record Halves (l : ℕ) (vs : List (List ℕ)) : Type 0 where
  pub same : map again_records vs ≡ vs
  pub faultless : total (λ v. total (record_faults l) (records_in v)) vs ≡ 0
  pub addressed : T (all (given l) (each addresses_in vs))

pub halves-open : (l : ℕ) (vs : List (List ℕ)) → T (all (sound_records l) vs) → Halves l vs
halves-open l [] h = record { same = refl; faultless = refl; addressed = tt }
halves-open l (v ∷ vs) h =
    let p = rows-open l v (T-left (sound_records l v) (all (sound_records l) vs) h) in
    let q = halves-open l vs (T-right (sound_records l v) (all (sound_records l) vs) h) in
    record {
      same = ap (λ u. u ∷ map again_records vs) p.cells ∙ ap (λ us. v ∷ us) q.same;
      faultless = omega (arith, p.faultless, q.faultless);
      addressed = all_append (given l) (addresses_in v) (each addresses_in vs) p.addressed q.addressed;
    }

pub halves-close : (l : ℕ) (vs : List (List ℕ)) → Halves l vs → T (all (sound_records l) vs)
halves-close l [] h = tt
halves-close l (v ∷ vs) h =
    let a = h.addressed in
    T-both (sound_records l v) (all (sound_records l) vs)
    (rows-close l v (record { cells = ap (head_or []) h.same; faultless = omega (arith, h.faultless); addressed = all_left (given l) (addresses_in v) (each addresses_in vs) a }))
    (halves-close l vs (record { same = ap (drop 1) h.same; faultless = omega (arith, h.faultless); addressed = all_right (given l) (addresses_in v) (each addresses_in vs) a }))

-- n files are 2 * n strings
pub length-files_in : (n : ℕ) (ws : List (List ℕ)) → length (files_in n ws) ≡ n
unfolding files_in
length-files_in zero ws = refl
length-files_in (suc n) ws = ap suc (length-files_in n (drop 2 ws))

pub strings_of-files : (n : ℕ) (ws : List (List ℕ)) → 2 * n ≤ length ws → file_strings (files_in n ws) ≡ map again_records (take (2 * n) ws)
unfolding files_in file_strings
strings_of-files zero ws h = refl
strings_of-files (suc n) [] h = absurd (omega (arith, h))
strings_of-files (suc n) (x ∷ []) h = absurd (omega (arith, h))
strings_of-files (suc n) (x ∷ y ∷ ws) h =
    ap (λ us. again_records x ∷ again_records y ∷ us) (strings_of-files n ws (omega (arith, h))) ∙ ap (λ k. map again_records (take k (x ∷ y ∷ ws))) (sym (twice n))

pub total-of-files : (g : Record → ℕ) (n : ℕ) (ws : List (List ℕ)) → 2 * n ≤ length ws
    → total (λ f. total g (records f)) (files_in n ws) ≡ total (λ v. total g (records_in v)) (take (2 * n) ws)
unfolding files_in
total-of-files g zero ws h = refl
total-of-files g (suc n) [] h = absurd (omega (arith, h))
total-of-files g (suc n) (x ∷ []) h = absurd (omega (arith, h))
total-of-files g (suc n) (x ∷ y ∷ ws) h =
    let e = ap (λ k. total (λ v. total g (records_in v)) (take k (x ∷ y ∷ ws))) (twice n) in
    omega (arith, total-append g (records_in x) (records_in y), total-of-files g n ws (omega (arith, h)), e)

pub addresses-of-files : (n : ℕ) (ws : List (List ℕ)) → 2 * n ≤ length ws
    → map (λ r. r.addr) (all_records (files_in n ws)) ≡ each addresses_in (take (2 * n) ws)
unfolding files_in
addresses-of-files zero ws h = refl
addresses-of-files (suc n) [] h = absurd (omega (arith, h))
addresses-of-files (suc n) (x ∷ []) h = absurd (omega (arith, h))
addresses-of-files (suc n) (x ∷ y ∷ ws) h =
    let a : Record → ℕ = λ r. r.addr in
    let rs : List Record = all_records (files_in n ws) in
    map-append a (records_in x ++ records_in y) rs
    ∙ ap (λ l. l ++ map a rs) (map-append a (records_in x) (records_in y))
    ∙ append_assoc (addresses_in x) (addresses_in y) (map a rs)
    ∙ ap (λ l. addresses_in x ++ (addresses_in y ++ l)) (addresses-of-files n ws (omega (arith, h)))
    ∙ ap (λ k. each addresses_in (take k (x ∷ y ∷ ws))) (sym (twice n))
