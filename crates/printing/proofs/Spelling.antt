-- Words written to an output: what is left, the characters in bytes, and the limits.
use mathlib.Core.Path.{◌≡◌, refl, sym, ap, ◌∙◌}
use mathlib.Core.Bool.{Bool, true, false}
use mathlib.Core.List.{List, []}
use Prim.Native.Nat.{ℕ, ◌+◌, ◌≤◌, ◌<◌}
use native.Mathlib.Omega.{arith}
use lib.Dec.{leb}
use lib.ListN.{length, take}
use borrow.Author.Tests.{lt-leb}
use Rattle.language.specs.Limits as limit
use Rattle.language.specs.Letters.Letter.{E, Q}
use Rattle.language.specs.Values.{Component, Store, State}
use Rattle.machine.specs.Arguments.{at, expr, Until}
use Rattle.machine.specs.Changes.{with_exprs, put_expr, minus_unless, printed, past_by, past, fits}
use Rattle.layout.proofs.ComponentLaws.{whole-components}
use Rattle.layout.specs.Components.{components_in}
use Rattle.cells.proofs.Laws.{pasted-front}
use Rattle.components.specs.Parts.{spelled, JoinRoom, Written}
use Rattle.matching.specs.Tests.{Took}
use Rattle.matching.specs.declared.Taken.{Taken}
use Rattle.state.specs.Working.{HoldsState, Stands, on_store, nth, reading}
use Rattle.state.specs.Blocks.{ExprLent, Printable}
use Rattle.state.proofs.Fits.{fine-limited, fits-minus_unless, fits-printed}
use Rattle.state.proofs.Freed.{limited-past}
use Rattle.moves.proofs.Taking.{took, taken-part, bytes-few}
use Rattle.moves.proofs.WordsTaken.{part-is, chars-long}
use Rattle.printing.specs.Printing.{spelled_out}

-- ---- what is left

outputs-left : (b : Bool) (i k : ℕ) (s : Store) → (past (nth (reading b) i) k s).outputs ≡ s.outputs
unfolding past past_by put_expr with_exprs
outputs-left true i k s = refl
outputs-left false i k s = refl

module _ {σ : State} {i : ℕ} {x : List ℕ} {u : Until Component} {t : Taken} (h : Stands σ) (b : i < limit.expressions) (l : ExprLent σ i x)
    (k : Took u (components_in x) t) where
  abbrev s : Store
  s = σ.store

  abbrev xs : List Component
  xs = expr s (nth E i)

  chars-few : t.amount.chars ≤ 32768
  chars-few = omega (arith, (took h b l k).chars_most, bytes-few h b l k)

  pub join-room : (m : ℕ) → 32768 ≤ m → JoinRoom m (take t.amount.bytes x)
  join-room m r = record { whole = whole-components (taken-part h b l k); room = rw (part-is h b l k) (omega (arith, chars-long h b l k, chars-few)) }

  module _ {d d' : List ℕ} {m : ℕ} (w : Written d (spelled (components_in (take t.amount.bytes x))) d' m) where
    joined_is : take m d' ≡ spelled (take t.amount.parts xs)
    joined_is = rw w.is (pasted-front d (spelled (components_in (take t.amount.bytes x))) m (sym w.count)) ∙ ap spelled (part-is h b l k)

    joined-long : length (take m d') ≡ t.amount.chars
    joined-long = ap length joined_is ∙ chars-long h b l k

    pub printable : (j : ℕ) → j < limit.outputs → (removes : Bool) {σ' : State} → HoldsState σ' (on_store (past (nth (reading removes) i) t.amount.parts) σ)
        → length (at [] s.outputs (nth Q j)) + t.amount.chars ≤ limit.output → Printable σ' j (length (take m d'))
    unfolding on_store
    printable j c removes g r = record { index = c; room = rw (g.is, outputs-left removes i t.amount.parts s, joined-long) r }

    pub spelled-done : (removes : Bool) (j : ℕ) {σ' : State}
        → HoldsState σ' (on_store (λ z. minus_unless t.reached (printed (nth Q j) (take m d') (past (nth (reading removes) i) t.amount.parts z))) σ)
        → HoldsState σ' (on_store (spelled_out u removes i j) σ)
    unfolding on_store spelled_out
    spelled-done removes j g = rw ((took h b l k).is, ← joined_is) g

  pub fits-spelled : (removes : Bool) (j : ℕ) → j < limit.outputs → fits (spelled_out u removes i j s) ≡ leb (length (at [] s.outputs (nth Q j)) + t.amount.chars) limit.output
  unfolding spelled_out
  fits-spelled removes j c =
      let ys = take t.amount.parts xs in
      let o = outputs-left removes i t.amount.parts s in
      rw (took h b l k).is
      (fits-minus_unless t.reached (printed (nth Q j) (spelled ys) (past (nth (reading removes) i) t.amount.parts s))
      ∙ fits-printed (nth Q j) (past (nth (reading removes) i) t.amount.parts s) (rw (o, h.fine.outputs_is) c) (spelled ys) (limited-past s (fine-limited σ h.fine) (nth (reading removes) i) t.amount.parts)
      ∙ rw (o, chars-long h b l k) refl)

  pub spelled-full : (removes : Bool) (j : ℕ) → j < limit.outputs → {o : ℕ} → o ≡ length (at [] s.outputs (nth Q j)) → limit.output < o + t.amount.chars
      → fits (spelled_out u removes i j s) ≡ false
  spelled-full removes j c {o} q f = fits-spelled removes j c ∙ rw (← q) (lt-leb (o + t.amount.chars) limit.output f)
