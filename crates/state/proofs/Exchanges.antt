-- The state at work after two expressions are exchanged.
use mathlib.Core.Path.{◌≡◌, sym, ◌∙◌}
use mathlib.Core.List.{List, []}
use Prim.Native.Nat.{ℕ, ◌<◌}
use native.Mathlib.Omega.{arith}
use lib.ListN.{length, get_or, set, length-set}
use Rattle.store.specs.Below.Lists.{total}
use Rattle.store.specs.Below.Limits as limit
use Rattle.store.specs.Below.LanguageValues.{Component, State, chars}
use Rattle.store.specs.Below.Changes.{with_exprs, put_expr, held}
use Rattle.store.specs.Below.LayoutBounds.{Each, Ok, Fine}
use Rattle.store.specs.Below.LayoutMemory.{scalars, strings}
use Rattle.store.proofs.Below.MemoryLaws.{string-expr}
use Rattle.store.specs.Store.{exchanged}
use Rattle.state.specs.Working.{Lies, on_store}
use Rattle.state.specs.Blocks.{totalled, exprs_exchanged}
use Rattle.state.proofs.Strings.{strings-expr}
use Rattle.state.proofs.Totals.{scalars-exprs}
use Rattle.state.proofs.Fineness.{fine-exprs}
use Rattle.state.proofs.Sequences.{total-exchanged, each-exchanged}

module _ (s : State) (f : Fine s) (i j : ℕ) (a : i < limit.expressions) (b : j < limit.expressions) where
  abbrev es : List (List Component)
  es = s.store.exprs

  abbrev first : List (List Component)
  first = set es i (get_or es j [])

  abbrev both : List (List Component)
  both = set first j (get_or es i [])

  held_both : (g : Component → ℕ) → held g (with_exprs both s.store) ≡ held g s.store
  unfolding held with_exprs
  held_both g = let q = total-exchanged [] es i j (total g) (rw f.exprs_is a) (rw f.exprs_is b) in omega (arith, q)

  fine-both : Fine (on_store (with_exprs both) s)
  fine-both =
      fine-exprs s f both (length-set first j (get_or es i []) ∙ length-set es i (get_or es j []) ∙ f.exprs_is)
      (each-exchanged [] es i j (Each Ok) tt f.exprs_ok)
      (rw (held_both (λ x. 1)) f.components_most) (rw (held_both (λ x. length (chars x))) f.chars_most)

  strings-both : strings (on_store (with_exprs both) s) ≡ exchanged i j (strings s)
  unfolding exchanged on_store with_exprs
  strings-both =
      strings-expr (on_store (with_exprs first) s) (length-set es i (get_or es j []) ∙ f.exprs_is) f.files_is j (get_or es i []) b
      ∙ rw (strings-expr s f.exprs_is f.files_is i (get_or es j []) a, string-expr s f i a, string-expr s f j b)

  scalars-both : scalars (on_store (with_exprs both) s) ≡ scalars s
  unfolding totalled
  scalars-both = scalars-exprs s both (held_both (λ x. 1)) (held_both (λ x. length (chars x)))

module _ {t : List (List ℕ)} {n : List ℕ} {s : State} (h : Lies t n s) {i j : ℕ} (a : i < limit.expressions) (b : j < limit.expressions) where
  pub exprs-swapped : {t' : List (List ℕ)} → t' ≡ exchanged i j t → Lies t' n (on_store (exprs_exchanged i j) s)
  unfolding on_store exprs_exchanged put_expr with_exprs
  exprs-swapped g =
      record {
        strings_is = rw (strings-both s h.fine i j a b) (rw h.strings_is at g);
        numbers = h.numbers ∙ sym (scalars-both s h.fine i j a b);
        fine = fine-both s h.fine i j a b;
      }
