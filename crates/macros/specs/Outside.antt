-- "Bytes outside the list .. stay as typed, save calls": what of a text is outside its list and its calls, and what of its written-out text comes from there.
use Rattle.std.specs.Prelude.{Bool, true, false, cond, not, ◌&&◌, List, [], ◌∷◌, ◌++◌, map, ℕ, leb, ltb, length}
use Rattle.syntax.specs.Below.Lists.{any, each, keep}
use Rattle.syntax.specs.Items.{up_from}
use Rattle.macros.specs.Elements.{elements}
use Rattle.macros.specs.Pieces.{Piece, Change, section_changes}
use Rattle.macros.specs.Pieces.Piece.{kept, value, called}
use Rattle.macros.specs.Macros.{Macro, section, list_change}
use Rattle.macros.specs.Prepared.{writes, listed, section_of}

-- the list and the calls of the section, each from a place up to another
abbrev pub replaced : List ℕ → List Change
replaced s = list_change (length s) (elements s) ++ section_changes (length s) (section (elements s))

abbrev pub covered : List Change → ℕ → Bool
covered cs p = any (λ c. leb c.start p && ltb p c.stop) cs

-- the places of a text that are in none of them
unfoldable pub outside_places : List ℕ → List ℕ
outside_places s = keep (λ p. not (covered (replaced s) p)) (up_from 0 s)

-- of each byte that a piece writes, whether it stays as typed
unfoldable pub stays : List Macro → Piece → List Bool
stays ms (kept place w) = map (λ b. true) w
stays ms (value k) = []
stays ms (called c) = map (λ b. false) (writes ms (called c)).bytes

abbrev pub all_stay : List ℕ → List Bool
all_stay s = let ms = listed s in each (stays ms) (section_of s)

-- the elements with a yes beside them
abbrev pub picked : {X : Type 0} → List Bool → List X → List X
picked [] xs = []
picked (b ∷ bs) [] = []
picked (b ∷ bs) (x ∷ xs) = cond b (x ∷ picked bs xs) (picked bs xs)
