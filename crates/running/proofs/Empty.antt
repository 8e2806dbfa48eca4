-- Ninety-nine empty strings and eight zeros are those of a state: that of empty memory.
use mathlib.Core.Path.{◌≡◌, refl, ◌∙◌}
use mathlib.Core.Bool.{false}
use mathlib.Core.List.{List, [], ◌∷◌}
use Prim.Native.Nat.{ℕ}
use lib.ListN.{replicate, get_or}
use Rattle.std.proofs.Common.{lit≤}
use Rattle.language.specs.Limits as limit
use Rattle.language.specs.Values.{State}
use Rattle.machine.specs.Changes.{held, recorded}
use Rattle.layout.specs.Bounds.{Ok, Each, FileOk, Fine}
use Rattle.layout.specs.Components.{components_bytes, records_bytes}
use Rattle.layout.specs.Memory.{scalars, strings, file_strings}
use Rattle.layout.specs.Places as layout
use Rattle.layout.proofs.CellLaws.{each-replicate}
use Rattle.state.specs.declared.Scalars.{Scalars}
use Rattle.state.specs.Working.{LiesSo, row_of}
use Rattle.state.proofs.Standing as standing

unfoldable empty : State
empty =
    record {
      store = record {
        exprs = replicate limit.expressions [];
        files = replicate limit.files (record { before = []; after = [] });
        plus = false;
        outputs = [] ∷ [] ∷ [];
        places = 0 ∷ 0 ∷ [];
        last = 0;
      };
      next = 0;
      stack = [];
    }

empty-fine : Fine empty
unfolding empty held recorded
empty-fine =
    record {
      exprs_is = refl;
      files_is = refl;
      outputs_is = refl;
      places_is = refl;
      exprs_ok = each-replicate (Each Ok) limit.expressions [] tt;
      files_ok = each-replicate FileOk limit.files (record { before = []; after = [] }) (record { before_ok = tt; after_ok = tt });
      outputs_ok = (lit≤ tt, (lit≤ tt, tt));
      places_ok = (lit≤ tt, (lit≤ tt, tt));
      stack_ok = tt;
      stack_most = lit≤ tt;
      next_below = lit≤ tt;
      last_most = lit≤ tt;
      components_most = lit≤ tt;
      chars_most = lit≤ tt;
      records_most = lit≤ tt;
    }

empty-strings : replicate layout.strings_count [] ≡ strings empty
unfolding empty strings file_strings components_bytes records_bytes
empty-strings = refl

empty-scalars : (0 ∷ 0 ∷ 0 ∷ 0 ∷ 0 ∷ 0 ∷ 0 ∷ 0 ∷ []) ≡ scalars empty
unfolding empty held recorded
empty-scalars = refl

-- scalars of which each is 0
pub row-empty : (n : Scalars) → n.plus ≡ false → get_or n.places 0 0 ≡ 0 → get_or n.places 1 0 ≡ 0 → n.next ≡ 0 → n.last ≡ 0 → n.components ≡ 0
    → n.characters ≡ 0 → n.records ≡ 0 → row_of n ≡ (0 ∷ 0 ∷ 0 ∷ 0 ∷ 0 ∷ 0 ∷ 0 ∷ 0 ∷ [])
row-empty n h a b c d e f g = rw (h, a, b, c, d, e, f, g) refl

pub lies : {t : List (List ℕ)} {n : List ℕ} → t ≡ replicate layout.strings_count [] → n ≡ (0 ∷ 0 ∷ 0 ∷ 0 ∷ 0 ∷ 0 ∷ 0 ∷ 0 ∷ []) → LiesSo t n
lies q r = standing.stands (record { strings_is = q ∙ empty-strings; numbers = r ∙ empty-scalars; fine = empty-fine })
