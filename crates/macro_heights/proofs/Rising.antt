-- What holds of a table level by level: a right call, and fixed bodies with fewer levels.
use mathlib.Core.Path.{◌≡◌, refl, sym, subst}
use mathlib.Core.Bool.{Bool, true, false, not}
use mathlib.Core.List.{List, [], ◌∷◌}
use Prim.Native.Nat.{ℕ, zero, suc}
use lib.Dec.{T}
use lib.Ieee.Bits.{is_true}
use Rattle.lists.specs.Lists.{all}
use Rattle.lists.specs.ListLaws.{T-left, T-right, T-both}
use Rattle.macros.specs.Macros.{Macro}
use Rattle.macros.specs.Pieces.{Piece}
use Rattle.macros.specs.Pieces.Piece.{kept, value, called}
use Rattle.macros.specs.Silence.{silent_piece, fixed_piece, silent, fixed}
use Rattle.macros.proofs.SilenceLaws.{call-more, silent-higher}

-- a test that passes more lets more pieces pass
module _ (ms : List Macro) (passes more : List Piece → Bool) (known : (ps : List Piece) → T (passes ps) → T (more ps)) where
  fixed_piece-more : (p : Piece) → T (fixed_piece ms passes p) → T (fixed_piece ms more p)
  unfolding fixed_piece
  fixed_piece-more (kept place w) h = tt
  fixed_piece-more (value k) h = tt
  fixed_piece-more (called c) h = call-more ms passes more known c c.name h

  fixed-all-more : (ps : List Piece) → T (all (fixed_piece ms passes) ps) → T (all (fixed_piece ms more) ps)
  fixed-all-more [] h = tt
  fixed-all-more (p ∷ ps) h =
      T-both (fixed_piece ms more p) (all (fixed_piece ms more) ps)
      (fixed_piece-more p (T-left (fixed_piece ms passes p) (all (fixed_piece ms passes) ps) h))
      (fixed-all-more ps (T-right (fixed_piece ms passes p) (all (fixed_piece ms passes) ps) h))

-- what is fixed is so with fewer levels
fixed-lower : (ms : List Macro) (l : ℕ) (ps : List Piece) → T (fixed ms (suc l) ps) → T (fixed ms l ps)
unfolding fixed
fixed-lower ms zero ps h = fixed-all-more ms (fixed ms zero) (λ qs. true) (λ qs k. tt) ps h
fixed-lower ms (suc l) ps h = fixed-all-more ms (fixed ms (suc l)) (fixed ms l) (fixed-lower ms l) ps h

-- both tables rise
pub quiet-rises : (ms : List Macro) (l : ℕ) (ps : List Piece) → silent ms l ps ≡ true → silent ms (suc l) ps ≡ true
quiet-rises ms l ps e = is_true (silent ms (suc l) ps) (silent-higher ms l ps (subst T (sym e) tt))

pub loose-rises : (ms : List Macro) (l : ℕ) (ps : List Piece) → not (fixed ms l ps) ≡ true → not (fixed ms (suc l) ps) ≡ true
loose-rises ms l ps e = go (fixed ms (suc l) ps) (fixed ms l ps) (fixed-lower ms l ps) e
  where
    go : (a b : Bool) → (T a → T b) → not b ≡ true → not a ≡ true
    go false b h f = refl
    go true true h f = f
    go true false h f = absurd (h tt)

-- the test of the bodies below a level
abbrev pub quiet_before : List Macro → ℕ → List Piece → Bool
quiet_before ms zero = λ ps. false
quiet_before ms (suc l) = silent ms l

abbrev pub loose_before : List Macro → ℕ → List Piece → Bool
loose_before ms zero = λ ps. true
loose_before ms (suc l) = fixed ms l

pub quiet-level : (ms : List Macro) (l : ℕ) (ps : List Piece) → silent ms l ps ≡ all (silent_piece ms (quiet_before ms l)) ps
unfolding silent
quiet-level ms zero ps = refl
quiet-level ms (suc l) ps = refl

pub loose-level : (ms : List Macro) (l : ℕ) (ps : List Piece) → fixed ms l ps ≡ all (fixed_piece ms (loose_before ms l)) ps
unfolding fixed
loose-level ms zero ps = refl
loose-level ms (suc l) ps = refl
