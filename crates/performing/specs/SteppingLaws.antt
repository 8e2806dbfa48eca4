-- A step told by its number and the state left: what that says of the specification's step, and of the state.
use Rattle.std.specs.Prelude.{◌≡◌, refl, Bool, true, false, cond, ◌&&◌, List, [], ◌∷◌, map, ℕ, ◌<◌, T, ltb}
use Rattle.std.proofs.Common.{sym, ap, ◌∙◌, subst, arith, ltb→lt}
use Rattle.lists.specs.Lists.{all}
use Rattle.lists.specs.ListLaws.{T-left, T-right}
use Rattle.language.specs.Program.{Program}
use Rattle.language.specs.Values.{State, Inputs}
use Rattle.machine.specs.Runs.{Outcome}
use Rattle.machine.specs.Runs.Outcome.{stop, went}
use Rattle.machine.specs.Steps.{meaning, numbers, questions, refusals, step, asks_after}
use Rattle.machine.proofs.StepLaws.{step-first}
use Rattle.layout.specs.Table.{program_of}
use Rattle.state.specs.Working.{HoldsState}
use Rattle.performing.specs.Stepping.{inputs, number_of, state_after, outcome, Stepped}

-- every number of a stop is more than 0
pub few : (f : ℕ → Bool) (ns : List ℕ) → T (all (ltb 0) ns) → {k : ℕ} {ks : List ℕ} → refusals (map (λ n. (n, f n)) ns) ≡ k ∷ ks → 0 < k
few f [] h e = absurd (let z : ◌≡◌ {A = ℕ} 0 1 = cc in omega arith)
few f (n ∷ ns) h {k} {ks} e = go (f n) e (λ q. few f ns (T-right (ltb 0 n) (all (ltb 0) ns) h) {k = k} {ks = ks} q)
  where
    rest : List ℕ
    rest = refusals (map (λ n. (n, f n)) ns)

    go : (b : Bool) → cond b rest (n ∷ rest) ≡ k ∷ ks → (rest ≡ k ∷ ks → 0 < k) → 0 < k
    go true q r = r q
    go false q r = let z : n ≡ k = cc in rw (← z) (ltb→lt 0 n (T-left (ltb 0 n) (all (ltb 0) ns) h))

module _ (p : Program) (ins : Inputs) (s : State) where
  pub stop-some : {k : ℕ} → step p ins s ≡ stop k → 0 < k
  unfolding questions
  stop-some e = let r = meaning p ins s in few (λ n. r.0 n && asks_after r s n) numbers tt (step-first p ins s e).1

module _ {c i j : List ℕ} {σ : State} {told : ℕ} {σ' : State} (h : Stepped c i j σ told σ') where
  abbrev P : Program
  P = program_of c

  -- a stop: its number, and the state as it was
  pub stopped : (told ≡ 0 → ⊥) → step P (inputs i j) σ ≡ stop told
  stopped w = go (outcome c i j σ) refl h.is
    where
      go : (o : Outcome State) → outcome c i j σ ≡ o → told ≡ number_of o → step P (inputs i j) σ ≡ stop told
      go (stop k) q r = q ∙ ap stop (sym r)
      go (went t) q r = absurd (w r)

  pub kept : (told ≡ 0 → ⊥) → HoldsState σ' σ
  kept w = subst (λ (o : Outcome State). HoldsState σ' (state_after σ o)) (stopped w) h.holds

  -- no stop: the state that it makes
  pub gone-to : told ≡ 0 → step P (inputs i j) σ ≡ went σ'
  gone-to z = go (outcome c i j σ) refl h.is h.holds
    where
      go : (o : Outcome State) → outcome c i j σ ≡ o → told ≡ number_of o → HoldsState σ' (state_after σ o)
          → step P (inputs i j) σ ≡ went σ'
      go (stop k) q r g = absurd (let x = stop-some P (inputs i j) σ q in omega (arith, x, z, r))
      go (went t) q r g = q ∙ ap went (sym g.is)
