-- The scalars of a state after a change of it: the totals are set, and with files the last address.
use mathlib.Core.Path.{◌≡◌, refl}
use mathlib.Core.Bool.{cond}
use mathlib.Core.List.{List, [], ◌∷◌}
use Prim.Native.Nat.{ℕ}
use lib.ListN.{get_or, set}
use Rattle.store.specs.Below.LanguageValues.{Component, File, Store, State}
use Rattle.store.specs.Below.Changes.{with_exprs, with_files, recorded}
use Rattle.store.specs.Below.LayoutMemory.{components_held, chars_held, records_held, scalars}
use Rattle.state.specs.Working.{on_store}
use Rattle.state.specs.Blocks.{totalled}

-- the scalars with the totals as they are told
abbrev with_totals : Store → ℕ → ℕ → ℕ → ℕ → List ℕ
with_totals t n c d r = cond t.plus 1 0 ∷ get_or t.places 0 0 ∷ get_or t.places 1 0 ∷ n ∷ t.last ∷ c ∷ d ∷ r ∷ []

-- other expressions
exprs-kept : (s : State) (es : List (List Component)) (c d : ℕ)
    → with_totals (with_exprs es s.store) s.next c d (records_held (with_exprs es s.store)) ≡ totalled c d (scalars s)
unfolding with_exprs totalled recorded
exprs-kept s es c d = refl

pub scalars-exprs : (s : State) (es : List (List Component)) {c d : ℕ} → components_held (with_exprs es s.store) ≡ c
    → chars_held (with_exprs es s.store) ≡ d → scalars (on_store (with_exprs es) s) ≡ totalled c d (scalars s)
unfolding on_store
scalars-exprs s es {c} {d} p q = rw (p, q) (exprs-kept s es c d)

-- other files, and another last address
files-kept : (s : State) (fs : List File) (m c d r : ℕ)
    → with_totals (with_files fs m s.store) s.next c d r ≡ set (set (totalled c d (scalars s)) 7 r) 4 m
unfolding with_files totalled
files-kept s fs m c d r = refl

pub scalars-files : (s : State) (fs : List File) (m : ℕ) {c d r : ℕ} → components_held (with_files fs m s.store) ≡ c
    → chars_held (with_files fs m s.store) ≡ d → records_held (with_files fs m s.store) ≡ r
    → scalars (on_store (with_files fs m) s) ≡ set (set (totalled c d (scalars s)) 7 r) 4 m
unfolding on_store
scalars-files s fs m {c} {d} {r} p q k = rw (p, q, k) (files-kept s fs m c d r)
