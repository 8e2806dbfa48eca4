-- What each test that passed gives the next one.
use mathlib.Core.Path.{◌≡◌, refl, sym, ap, ◌∙◌, subst}
use mathlib.Core.Bool.{Bool, true, false, cond}
use Rattle.std.specs.Prelude.{Option, Some, None, MatchOption, unwrap_or}
use mathlib.Core.List.{List}
use Prim.Native.Nat.{ℕ, ◌≤◌}
use lib.Dec.{T}
use lib.ListN.{length}
use Rattle.check_strings.specs.Sound.{Bytes}
use Rattle.language.specs.Limits as limit
use Rattle.layout.specs.Cells.{three_at}
use Rattle.layout.specs.Places as layout
use Rattle.check_memory.specs.Passes.{laid, sound}
use Rattle.check_memory.specs.Reads.{Started, Roomy, Readable, BothWhole}
use Rattle.check_memory.proofs.Facts.{laid-open, sound-open}
use Rattle.check_memory.proofs.Wholes.{whole-expressions, whole-halves}

pub passed : {t b : Bool} → t ≡ b → t ≡ true → T b
passed e k = subst T (sym k ∙ e) tt

pub readable : {m : List ℕ} → Roomy m → {st : List ℕ} {end : ℕ} → Started m st end → Readable m st
readable w g = record { long = w.long; count = g.count; place = g.place; room = w.room }

-- ---- cells that are laid out

pub laid-none : (m : List ℕ) {r : Option (List ℕ)} → r ≡ cond (laid m) (Some m) None → r ≡ None → laid m ≡ false
laid-none m e n = go (laid m) (sym n ∙ e)
  where
    go : (b : Bool) → ◌≡◌ {A = Option (List ℕ)} None (cond b (Some m) None) → b ≡ false
    go false z = refl
    go true z = absurd (subst (λ o. MatchOption o (Unit {0}) (λ _. ⊥)) z tt)

pub laid-some : (m : List ℕ) {x : List ℕ} {r : Option (List ℕ)} → r ≡ cond (laid m) (Some m) None → r ≡ Some x → (laid m ≡ true) × (x ≡ m)
laid-some m {x} e n = go (laid m) (sym n ∙ e)
  where
    go : (b : Bool) → ◌≡◌ {A = Option (List ℕ)} (Some x) (cond b (Some m) None) → (b ≡ true) × (x ≡ m)
    go false z = absurd (subst (λ o. MatchOption o ⊥ (λ _. Unit {0})) z tt)
    go true z = (refl, ap (λ o. unwrap_or o x) z)

module _ (m : List ℕ) {t : Bool} (e : t ≡ laid m) (k : t ≡ true) where
  pub roomy : length m ≡ limit.state → Roomy m
  roomy long = record { long = long; room = (laid-open m (passed e k)).room }

  pub walkable : three_at layout.last_cell m ≤ limit.addresses
  walkable = (laid-open m (passed e k)).last_most

  pub both-whole : Bytes m → {u : Bool} → u ≡ sound m → u ≡ true → BothWhole m
  both-whole b f h =
      let l = (laid-open m (passed e k)).last_most in
      let s = sound-open m (passed f h) in
      record { exprs = whole-expressions m b (three_at layout.last_cell m) l s.exprs; files = whole-halves m b (three_at layout.last_cell m) l s.files }
