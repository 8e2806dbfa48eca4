-- Rows that go elsewhere than to the following instruction: from the answers to their questions to what their functions promise.
use mathlib.Core.Path.{◌≡◌, refl, sym, ap, ◌∙◌, subst}
use mathlib.Core.Bool.{Bool, true, false, and-false}
use mathlib.Core.List.{List, [], ◌∷◌}
use Prim.Native.Nat.{ℕ}
use native.Mathlib.Omega.{arith}
use lib.Dec.{leb}
use lib.ListN.{length}
use borrow.Author.Tests.{le-leb}
use Rattle.state.specs.Below.Limits as limit
use Rattle.state.specs.Below.LanguageValues.{Store, State}
use Rattle.state.specs.Below.Lists.{head_or, if_any}
use Rattle.state.specs.Below.MachineArguments.{Asks, none}
use Rattle.state.specs.Below.Changes.{fits}
use Rattle.state.specs.Below.Effects.{Go, Row}
use Rattle.state.specs.Below.Steps.{made, can_go, Question, numbers, refusals}
use Rattle.state.specs.Below.LayoutBounds.{Each, Fine}
use Rattle.state.specs.Working.{HoldsState, Stands}
use Rattle.state.proofs.Fits.{fine-limited, fits-limited}
use Rattle.instructions.specs.Does.{asked_of, answer_of, Goes, stop_of}
use Rattle.instructions.proofs.Answers.{answer-no, goes-stop, goes-done, stop_by, unstopped}

-- every question of its own is answered yes
abbrev pub Yes : Asks → Type 0
Yes q = Each (λ n. q n ≡ true) numbers

pub none-yes : Yes none
none-yes = (refl, (refl, (refl, (refl, (refl, (refl, (refl, (refl, (refl, (refl, tt))))))))))

-- a row whose own questions are all answered yes asks what one does that has none
asked-none : (q : Asks) (t : Store) (g : Go) (s : State) → Yes q → asked_of (q, t, g) s ≡ asked_of (none, t, g) s
asked-none q t g s y =
    rw (
      y.0,
      y.1.0,
      y.1.1.0,
      y.1.1.1.0,
      y.1.1.1.1.0,
      y.1.1.1.1.1.0,
      y.1.1.1.1.1.1.0,
      y.1.1.1.1.1.1.1.0,
      y.1.1.1.1.1.1.1.1.0,
      y.1.1.1.1.1.1.1.1.1.0,
    ) refl

module _ (r : Row) (s : State) (y : Yes r.0) (c : can_go r.2 s.stack ≡ true) where
  pub answer-made : Fine (made r s) → answer_of r s ≡ 0
  answer-made f =
      ap (λ (k : List Question). head_or 0 (refusals k)) (asked-none r.0 r.1 r.2 s y)
      ∙ rw (
        c,
        fits-limited (fine-limited (made r s) f),
        le-leb (length (made r s).stack) limit.stack f.stack_most,
        le-leb (made r s).store.last limit.addresses f.last_most,
      ) refl

  pub answer-full : leb (length (made r s).stack) limit.stack ≡ false → answer_of r s ≡ 59
  answer-full l =
      ap (λ (k : List Question). head_or 0 (refusals k)) (asked-none r.0 r.1 r.2 s y) ∙ rw (c, l, and-false (fits r.1)) refl

module _ {σ : State} (r : Row) (y : Yes r.0) (c : can_go r.2 σ.stack ≡ true) where
  -- the memory holds what it makes; the return stack is full
  pub goes-made : {σ' : State} → HoldsState σ' (made r σ) → Goes σ 0 σ' r
  goes-made k = goes-done r (answer-made r σ y c k.fine) k

  pub goes-full : Stands σ → leb (length (made r σ).stack) limit.stack ≡ false → Goes σ 59 σ r
  goes-full h l = goes-stop h r (answer-full r σ y c l) (λ z. omega (arith, z))

-- ---- the first no among 52, 53 and 54; among those and 56

module _ (r : Row) (s : State) (y : r.0 50 ≡ true) where
  pub answer-first : {x : ℕ} → x ≡ stop_of r.0 → (x ≡ 0 → ⊥) → answer_of r s ≡ x
  answer-first {x} q z = go (r.0 52) (r.0 53) (r.0 54) refl refl refl q
    where
      go : (a b c : Bool) → r.0 52 ≡ a → r.0 53 ≡ b → r.0 54 ≡ c → x ≡ stop_by a b c → answer_of r s ≡ x
      go false b c e f g w =
          answer-no r s (50 ∷ []) 52 (53 ∷ 54 ∷ 55 ∷ 56 ∷ 57 ∷ 58 ∷ 59 ∷ 60 ∷ []) refl (rw y refl, tt) (rw e refl) ∙ sym w
      go true false c e f g w =
          answer-no r s (50 ∷ 52 ∷ []) 53 (54 ∷ 55 ∷ 56 ∷ 57 ∷ 58 ∷ 59 ∷ 60 ∷ []) refl (rw y refl, (rw e refl, tt)) (rw f refl) ∙ sym w
      go true true false e f g w =
          answer-no r s (50 ∷ 52 ∷ 53 ∷ []) 54 (55 ∷ 56 ∷ 57 ∷ 58 ∷ 59 ∷ 60 ∷ []) refl (rw y refl, (rw e refl, (rw f refl, tt))) (rw g refl) ∙ sym w
      go true true true e f g w = absurd (z w)

  pub answer-outside : stop_of r.0 ≡ 0 → r.0 55 ≡ true → r.0 56 ≡ false → answer_of r s ≡ 56
  answer-outside q a b =
      let u = unstopped r.0 q in
      answer-no r s (50 ∷ 52 ∷ 53 ∷ 54 ∷ 55 ∷ []) 56 (57 ∷ 58 ∷ 59 ∷ 60 ∷ []) refl
      (rw y refl, (rw u.0 refl, (rw u.1 refl, (rw u.2 refl, (rw a refl, tt))))) (rw b refl)

-- ---- and does what that one does

pub goes-yes : {σ σ' : State} {x : ℕ} (q : Asks) (t : Store) (g : Go) → Yes q → Goes σ x σ' (none, t, g) → Goes σ x σ' (q, t, g)
goes-yes {σ} {σ'} {x} q t g y h =
    let s = σ in
    let a = asked-none q t g s y in
    record {
      is = subst (λ (k : List Question). x ≡ head_or 0 (refusals k)) (sym a) h.is;
      holds = subst (λ (k : List Question). HoldsState σ' (if_any (made (none, t, g) s) (λ m. s) (refusals k))) (sym a) h.holds;
    }
