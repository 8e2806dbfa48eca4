-- The words that a test takes of an expression: their characters, and whether all it takes are words.
use mathlib.Core.Path.{◌≡◌, refl, sym, ◌∙◌}
use mathlib.Core.Bool.{true}
use mathlib.Core.List.{List, [], ◌∷◌}
use Prim.Native.Nat.{ℕ, ◌<◌}
use native.Mathlib.Numerals.{unary_clauses}
use native.Mathlib.Omega.{arith}
use lib.ListN.{length, take, length-append}
use Rattle.language.specs.Limits as limit
use Rattle.language.specs.Letters.Letter.{E}
use Rattle.language.specs.Values.{Component, Store, State}
use Rattle.machine.specs.Arguments.{expr, Until, number_of}
use Rattle.layout.proofs.ComponentLaws.{components-of}
use Rattle.layout.specs.Components.{components_in}
use Rattle.components.specs.Parts.{spelled}
use Rattle.matching.specs.Tests.{Took}
use Rattle.matching.specs.declared.Taken.{Taken}
use Rattle.state.specs.Working.{Stands, nth, char_count}
use Rattle.state.specs.Blocks.{ExprLent}
use Rattle.moves.specs.Moves.{all_taken_words}
use Rattle.moves.proofs.Taking.{took, taken-part}

spelled-long : (xs : List Component) → length (spelled xs) ≡ char_count xs
spelled-long [] = refl
spelled-long (x ∷ xs) = simp length-append (omega (arith, spelled-long xs))

-- by a count of 0 nothing is taken
pub none-words : (i : ℕ) (s : Store) → all_taken_words (number_of 0) i s ≡ true
unfolding all_taken_words
none-words i s = simp unary_clauses refl

module _ {σ : State} {i : ℕ} {x : List ℕ} {u : Until Component} {t : Taken} (h : Stands σ) (b : i < limit.expressions) (l : ExprLent σ i x)
    (k : Took u (components_in x) t) where
  abbrev s : Store
  s = σ.store

  abbrev xs : List Component
  xs = expr s (nth E i)

  pub part-is : components_in (take t.amount.bytes x) ≡ take t.amount.parts xs
  part-is = components-of (taken-part h b l k)

  pub chars-long : length (spelled (take t.amount.parts xs)) ≡ t.amount.chars
  chars-long = spelled-long (take t.amount.parts xs) ∙ sym (took h b l k).chars_is

  pub words_right : all_taken_words u i s ≡ t.words
  unfolding all_taken_words
  words_right = rw (took h b l k).is (sym (took h b l k).words_is)
