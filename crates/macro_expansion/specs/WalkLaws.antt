-- Writings one behind the other, and the arguments within the same calls.
use Rattle.std.specs.Prelude.{◌≡◌, refl, Bool, false, ◌||◌, ℕ, zero, suc, get_or, take}
use Rattle.std.proofs.Math.Path.{sym, ap}
use Rattle.std.proofs.Common.{◌∙◌, arith, get_or-take, take-take}
use mathlib.Core.List.{List, [], ◌∷◌, ◌++◌, map, append_assoc, append-nil}
use Rattle.std.proofs.Math.Bool.{or_assoc, or-false}
use mathlib.Core.Bool.{or_assoc, or-false}
use Rattle.macros.specs.Expansion.{Fault, Writing, just, followed_by, filled_in, piece_writes, walk, expand}
use Rattle.macros.specs.Macros.{Macro}
use Rattle.macros.specs.Pieces.{Piece}
use Rattle.macros.specs.Pieces.Piece.{kept}
use Rattle.macro_code.specs.Code.{arguments_in, call_in}
use Rattle.macro_expansion.specs.Expanding.{inner}

writing : List ℕ → List Fault → Bool → Writing
writing b f d = record { bytes = b; faults = f; deep = d }

same-writing : (b b' : List ℕ) (f f' : List Fault) (d d' : Bool) → b ≡ b' → f ≡ f' → d ≡ d' → writing b f d ≡ writing b' f' d'
same-writing b b' f f' d d' x y z = λ i. writing (x i) (y i) (z i)

pub followed-assoc : (a b c : Writing) → followed_by (followed_by a b) c ≡ followed_by a (followed_by b c)
unfolding followed_by writing
followed-assoc a b c =
    same-writing ((a.bytes ++ b.bytes) ++ c.bytes) (a.bytes ++ (b.bytes ++ c.bytes)) ((a.faults ++ b.faults) ++ c.faults) (a.faults ++ (b.faults ++ c.faults))
    ((a.deep || b.deep) || c.deep) (a.deep || (b.deep || c.deep)) (append_assoc a.bytes b.bytes c.bytes)
    (append_assoc a.faults b.faults c.faults) (or_assoc a.deep b.deep c.deep)

pub followed-none : (a : Writing) → followed_by a (just []) ≡ a
unfolding followed_by writing
followed-none a =
    same-writing (a.bytes ++ []) a.bytes (a.faults ++ []) a.faults (a.deep || false) a.deep (append-nil a.bytes) (append-nil a.faults) (or-false a.deep)

pub none-followed : (a : Writing) → followed_by (just []) a ≡ a
unfolding followed_by
none-followed a = refl

module _ (ms : List Macro) (enter : List (List ℕ) → List Piece → Writing) (env : List (List ℕ)) where
  pub walk-both : (ps qs : List Piece) → walk ms enter env (ps ++ qs) ≡ followed_by (walk ms enter env ps) (walk ms enter env qs)
  unfolding walk
  walk-both [] qs = sym (none-followed (walk ms enter env qs))
  walk-both (p ∷ ps) qs =
      ap (followed_by (piece_writes ms enter env p)) (walk-both ps qs)
      ∙ sym (followed-assoc (piece_writes ms enter env p) (walk ms enter env ps) (walk ms enter env qs))

  pub walk-one : (p : Piece) → walk ms enter env (p ∷ []) ≡ piece_writes ms enter env p
  unfolding walk
  walk-one p = followed-none (piece_writes ms enter env p)

  -- bytes that stay, and pieces behind them
  pub walk_kept : (place : ℕ) (w : List ℕ) (ps qs : List Piece)
      → walk ms enter env (kept place w ∷ (ps ++ qs)) ≡ followed_by (just w) (followed_by (walk ms enter env ps) (walk ms enter env qs))
  unfolding walk piece_writes
  walk_kept place w ps qs = ap (followed_by (just w)) (walk-both ps qs)

pub expand-walks : (ms : List Macro) (l : ℕ) → expand ms l ≡ walk ms (inner ms l)
unfolding expand inner
expand-walks ms zero = refl
expand-walks ms (suc l) = refl

-- only the calls around are looked at
pub arguments-same : (s c calls others : List ℕ) (d : ℕ) → take d others ≡ take d calls → arguments_in s c others d ≡ arguments_in s c calls d
unfolding arguments_in
arguments-same s c calls others zero e = refl
arguments-same s c calls others (suc d) e =
    let f : take d others ≡ take d calls = sym (take-take d (suc d) others (omega arith)) ∙ ap (take d) e ∙ take-take d (suc d) calls (omega arith) in
    let g : get_or others d 0 ≡ get_or calls d 0 =
    sym (get_or-take (suc d) others d 0 (omega arith)) ∙ ap (λ l. get_or l d 0) e ∙ get_or-take (suc d) calls d 0 (omega arith) in
    λ i. map (filled_in (arguments-same s c calls others d f i)) (call_in s c (g i)).args
