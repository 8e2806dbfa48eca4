-- Components written to an expression by an instruction that takes none away.
use mathlib.Core.Path.{◌≡◌, refl, ◌∙◌}
use mathlib.Core.Bool.{Bool, true, false, ◌&&◌}
use mathlib.Core.List.{List, [], ◌∷◌}
use Prim.Native.Nat.{ℕ, ◌+◌, ◌<◌}
use lib.Dec.{leb}
use lib.ListN.{length}
use borrow.Author.Tests.{leb-true}
use Rattle.std.proofs.lemmas.Bool.{and_parts}
use Rattle.state.specs.Below.Limits as limit
use Rattle.state.specs.Below.LanguageValues.{Component, Store, State}
use Rattle.state.specs.Below.Changes.{put_expr, placed, into, fits}
use Rattle.state.specs.Below.LayoutBounds.{Encoded}
use Rattle.state.proofs.Below.ComponentLaws.{components-of, whole-components}
use Rattle.state.specs.Below.Components.{components_in}
use Rattle.state.specs.Below.LayoutMemory.{components_held, chars_held}
use Rattle.state.specs.Blocks.{PartsWritable}
use Rattle.state.specs.Working.{Stands, nth, writing, turned, char_count}
use Rattle.state.proofs.Fits.{fine-limited, fits-into-ok}
use Rattle.instructions.specs.Operands.{target}

-- by a letter, and turned round before; one component is the same
pub into-target : (reverses at_end : Bool) (j : ℕ) (xs : List Component) (s : Store)
    → into (nth (target reverses at_end) j) xs s ≡ into (nth (writing at_end) j) (turned reverses xs) s
unfolding into placed put_expr
into-target true true j xs s = refl
into-target true false j xs s = refl
into-target false true j xs s = refl
into-target false false j xs s = refl

pub into_one : (reverses at_end : Bool) (j : ℕ) (x : Component) (s : Store)
    → into (nth (target reverses at_end) j) (x ∷ []) s ≡ into (nth (writing at_end) j) (x ∷ []) s
into_one true at_end j x s = into-target true at_end j (x ∷ []) s
into_one false at_end j x s = into-target false at_end j (x ∷ []) s

module _ {σ : State} (h : Stands σ) {new : List ℕ} {xs : List Component} (c : Encoded new xs) {j : ℕ} (d : j < limit.expressions) {k m : ℕ}
    (q : k ≡ length xs) (r : m ≡ char_count xs) where
  abbrev s : Store
  s = σ.store

  abbrev roomy : Bool
  roomy = leb (components_held s + k) limit.components && leb (chars_held s + m) limit.characters

  -- they have room where the totals have
  pub fits-written : (at_end : Bool) → fits (into (nth (writing at_end) j) xs s) ≡ roomy
  fits-written at_end =
      fits-into-ok (nth (writing at_end) j) s (rw h.fine.exprs_is d) xs (fine-limited σ h.fine) c.all_ok ∙ rw (← q, ← r) refl

  pub writable : roomy ≡ true → PartsWritable σ j new k m
  writable y =
      let w = and_parts (leb (components_held s + k) limit.components) (leb (chars_held s + m) limit.characters) y in
      let i : components_in new ≡ xs = components-of c in
      record {
        index = d;
        whole = whole-components c;
        count = rw i q;
        chars_is = rw i r;
        components_room = leb-true (components_held s + k) limit.components w.0;
        chars_room = leb-true (chars_held s + m) limit.characters w.1;
      }
