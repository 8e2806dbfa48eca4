-- Switches as they are written, and labels put in later. A list of switches is known by its kinds, its sizes and all entries in a row.
use mathlib.Core.Path.{◌≡◌, refl, sym, ap, ◌∙◌}
use mathlib.Core.Bool.{Bool, true, false, cond}
use mathlib.Core.List.{List, [], ◌∷◌, map}
use Prim.Native.Nat.{ℕ, ◌-◌}
use native.Mathlib.Omega.{arith}
use lib.Dec.{ltb}
use lib.ListN.{length, get_or, set, take, drop, length-set}
use lib.Seq.{take_at, drop_at}
use Rattle.blocks.specs.Below.Program.{Switch, no_entry}
use Rattle.blocks.specs.Below.Lists.{each, head_or}
use Rattle.writing.specs.Writing.{to_label, relabelled}
use Rattle.writing.proofs.Switching.{entries_of}

-- ---- kinds and sizes

abbrev pub kinds : List Switch → List Bool
kinds ws = map (λ w. w.goes_by_name) ws

abbrev pub counts_of : List Switch → List ℕ
counts_of ws = map (λ w. length w.entries) ws

pub relabelled-kinds : (k m : ℕ) (ws : List Switch) → kinds (relabelled k m ws) ≡ kinds ws
relabelled-kinds k m [] = refl
relabelled-kinds k m (w ∷ ws) = go (ltb k (length w.entries)) (relabelled-kinds (k - length w.entries) m ws)
  where
    go : (b : Bool) → kinds (relabelled (k - length w.entries) m ws) ≡ kinds ws
        → kinds (cond b (record { goes_by_name = w.goes_by_name; entries = set w.entries k (to_label m (get_or w.entries k no_entry)) } ∷ ws) (w ∷ relabelled (k - length w.entries) m ws))
        ≡ w.goes_by_name ∷ kinds ws
    go true e = refl
    go false e = ap (λ (l : List Bool). w.goes_by_name ∷ l) e

pub relabelled-counts : (k m : ℕ) (ws : List Switch) → counts_of (relabelled k m ws) ≡ counts_of ws
relabelled-counts k m [] = refl
relabelled-counts k m (w ∷ ws) = go (ltb k (length w.entries)) (relabelled-counts (k - length w.entries) m ws)
  where
    go : (b : Bool) → counts_of (relabelled (k - length w.entries) m ws) ≡ counts_of ws
        → counts_of (cond b (record { goes_by_name = w.goes_by_name; entries = set w.entries k (to_label m (get_or w.entries k no_entry)) } ∷ ws) (w ∷ relabelled (k - length w.entries) m ws))
        ≡ length w.entries ∷ counts_of ws
    go true e = ap (λ (n : ℕ). n ∷ counts_of ws) (length-set w.entries k (to_label m (get_or w.entries k no_entry)))
    go false e = ap (λ (l : List ℕ). length w.entries ∷ l) e

pub same-switches : (ws vs : List Switch) → kinds ws ≡ kinds vs → counts_of ws ≡ counts_of vs → each entries_of ws ≡ each entries_of vs → ws ≡ vs
same-switches [] [] a b e = refl
same-switches [] (v ∷ vs) a b e = absurd (omega (arith, ap length a))
same-switches (w ∷ ws) [] a b e = absurd (omega (arith, ap length a))
same-switches (w ∷ ws) (v ∷ vs) a b e =
    let n : ℕ = length w.entries in
    let x : w.goes_by_name ≡ v.goes_by_name = ap (head_or true) a in
    let y : n ≡ length v.entries = ap (head_or 0) b in
    let z : w.entries ≡ v.entries =
    sym (take_at w.entries (each entries_of ws) n refl) ∙ ap (take n) e ∙ take_at v.entries (each entries_of vs) n (sym y) in
    let r : each entries_of ws ≡ each entries_of vs =
    sym (drop_at w.entries (each entries_of ws) n refl) ∙ ap (drop n) e ∙ drop_at v.entries (each entries_of vs) n (sym y) in
    let t = same-switches ws vs (ap (drop 1) a) (ap (drop 1) b) r in
    λ j. record { goes_by_name = x j; entries = z j } ∷ t j
