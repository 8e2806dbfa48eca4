-- Marks one by one: the lowest place, and questions 06 and 70.
use Rattle.std.specs.Prelude.{None, Some}
use Rattle.std.proofs.lemmas.List.Folds.{list_any-append}
use mathlib.Core.Path.{◌≡◌, refl, sym, ap, ◌∙◌}
use mathlib.Core.Bool.{Bool, true, false, cond, ◌||◌}
use mathlib.Core.List.{List, [], ◌∷◌, ◌++◌, map, append_assoc, append-nil, map-append}
use Prim.Native.Nat.{ℕ, ◌+◌, ◌/◌, ◌%◌, ◌<◌}
use native.Mathlib.Numerals.{add-one}
use lib.ListN.{length, get_or, take, drop}
use lib.Seq.{take-suc}
use Rattle.drafts.specs.Marks.{place_by, word_by}
use Rattle.statements.specs.Faults.{Fault, lower}
use Rattle.statements.specs.FaultLaws.{fault-both}
use Rattle.statements.specs.StatementAt.{fault_of}
use Rattle.syntax.specs.Verdict.{lowest}
use Rattle.syntax.specs.Statements.{reserved}
use Rattle.lists.specs.Lists.{any, keep, bytes_equal}
use Rattle.names.specs.Names.{names_of, own_repeated, repeated_by, reserved_by}

-- the marks ms and one more, which has the places ps at fault
lowest-more : (of : List ℕ → List ℕ) (ms ps : List ℕ) (m : ℕ) → of (ms ++ (m ∷ [])) ≡ of ms ++ ps → {f g r : Fault} → f ≡ fault_of (of ms) → g ≡ fault_of ps → r ≡ lower f g
    → r ≡ fault_of (of (ms ++ (m ∷ [])))
lowest-more of ms ps m x a b q = q ∙ (λ j. lower (a j) (b j)) ∙ sym (fault-both (of ms) ps) ∙ ap fault_of (sym x)

-- the lowest place
pub mark-more : (ms : List ℕ) (m : ℕ) {f r : Fault} → f ≡ fault_of (map place_by ms) → r ≡ lower f (Some (place_by m)) → r ≡ fault_of (map place_by (ms ++ (m ∷ [])))
unfolding lowest
mark-more ms m a q = lowest-more (map place_by) ms (place_by m ∷ []) m (map-append place_by ms (m ∷ [])) a refl q

-- question 06: one mark
pub own-asked : (s : List ℕ) (xs ys : List (List ℕ)) (m : ℕ) → {p q b : Bool} → p ≡ any (bytes_equal (take (m % 64) (drop (m / 64) s))) xs
    → q ≡ any (bytes_equal (take (m % 64) (drop (m / 64) s))) ys → (p || q) ≡ b → cond b (Some (m / 64)) None ≡ fault_of (own_repeated s (xs ++ ys) m)
unfolding word_by lowest
own-asked s xs ys m {p} {q} {b} x y e =
    let z : any (bytes_equal (take (m % 64) (drop (m / 64) s))) (xs ++ ys) ≡ b = list_any-append (bytes_equal (take (m % 64) (drop (m / 64) s))) xs ys ∙ (λ j. sym x j || sym y j) ∙ e in
    rw z (go b)
  where
    go : (b : Bool) → cond b (Some (m / 64)) None ≡ fault_of (cond b (m / 64 ∷ []) [])
    go true = refl
    go false = refl

module _ (s : List ℕ) where
  repeated-more : (names : List (List ℕ)) (xs : List ℕ) (m : ℕ) → repeated_by s names (xs ++ (m ∷ [])) ≡ repeated_by s names xs ++ own_repeated s (names ++ names_of s xs) m
  unfolding repeated_by
  repeated-more names [] m = append-nil (own_repeated s names m) ∙ ap (λ (ns : List (List ℕ)). own_repeated s ns m) (sym (append-nil names))
  repeated-more names (x ∷ xs) m =
      ap (λ ps. own_repeated s names x ++ ps) (repeated-more (names ++ (word_by s x ∷ [])) xs m)
      ∙ ap (λ (ns : List (List ℕ)). own_repeated s names x ++ (repeated_by s (names ++ (word_by s x ∷ [])) xs ++ own_repeated s ns m)) (append_assoc names (word_by s x ∷ []) (names_of s xs))
      ∙ sym (append_assoc (own_repeated s names x) (repeated_by s (names ++ (word_by s x ∷ [])) xs) (own_repeated s (names ++ (word_by s x ∷ names_of s xs)) m))

  -- f is the fault of the first k names
  abbrev pub Repeating : List (List ℕ) → List ℕ → ℕ → Fault → Type 0
  Repeating names ms k f = f ≡ fault_of (repeated_by s names (take k ms))

  pub repeating-first : (names : List (List ℕ)) (ms : List ℕ) → Repeating names ms 0 None
  unfolding repeated_by
  repeating-first names ms = refl

  pub repeating-more : (names : List (List ℕ)) (ms : List ℕ) {k : ℕ} {f : Fault} → Repeating names ms k f → k < length ms → {m : ℕ} → m ≡ get_or ms k 0 → {g r : Fault}
      → g ≡ fault_of (own_repeated s (names ++ names_of s (take k ms)) m) → r ≡ lower f g → Repeating names ms (k + 1) r
  repeating-more names ms {k} a h {m} e b q =
      let t : take (k + 1) ms ≡ take k ms ++ (m ∷ []) = ap (λ (j : ℕ). take j ms) (add-one k) ∙ take-suc ms k 0 h ∙ ap (λ (j : ℕ). take k ms ++ (j ∷ [])) (sym e) in
      lowest-more (repeated_by s names) (take k ms) (own_repeated s (names ++ names_of s (take k ms)) m) m (repeated-more names (take k ms) m) a b q ∙ ap (λ (xs : List ℕ). fault_of (repeated_by s names xs)) (sym t)

-- question 70: one mark
pub own-told : (s : List ℕ) (m : ℕ) {r b : Bool} → r ≡ reserved (word_by s m) → r ≡ b → cond b (Some (m / 64)) None ≡ fault_of (reserved_by s (m ∷ []))
unfolding lowest
own-told s m {r} {b} h q = rw (sym h ∙ q) (go b)
  where
    go : (b : Bool) → cond b (Some (m / 64)) None ≡ fault_of (map place_by (cond b (m ∷ []) []))
    go true = refl
    go false = refl

module _ (s : List ℕ) where
  reserved-more : (xs : List ℕ) (m : ℕ) → reserved_by s (xs ++ (m ∷ [])) ≡ reserved_by s xs ++ reserved_by s (m ∷ [])
  reserved-more [] m = refl
  reserved-more (x ∷ xs) m = go (reserved (word_by s x)) (reserved-more xs m)
    where
      of : List ℕ → List ℕ
      of ms = keep (λ m. reserved (word_by s m)) ms

      go : (b : Bool) → map place_by (of (xs ++ (m ∷ []))) ≡ map place_by (of xs) ++ map place_by (of (m ∷ []))
          → map place_by (cond b (x ∷ of (xs ++ (m ∷ []))) (of (xs ++ (m ∷ [])))) ≡ map place_by (cond b (x ∷ of xs) (of xs)) ++ map place_by (of (m ∷ []))
      go true e = ap (λ ps. place_by x ∷ ps) e
      go false e = e

  pub reserved-next : (ms : List ℕ) (m : ℕ) {f g r : Fault} → f ≡ fault_of (reserved_by s ms) → g ≡ fault_of (reserved_by s (m ∷ [])) → r ≡ lower f g
      → r ≡ fault_of (reserved_by s (ms ++ (m ∷ [])))
  reserved-next ms m a b q = lowest-more (reserved_by s) ms (reserved_by s (m ∷ [])) m (reserved-more ms m) a b q
