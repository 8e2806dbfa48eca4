-- The places that what is written comes from, one for each byte.
use Rattle.std.specs.Prelude.{◌≡◌, false, List, [], ◌∷◌, ◌++◌, ℕ, zero, suc, ◌≤◌, length, take, drop}
use Rattle.language.specs.Limits as limit
use Rattle.lists.specs.Lists.{each}
use Rattle.macro_code.specs.Code.{body_in, macros_in, changes_in}
use Rattle.macro_values.specs.declared.Written.{Written}
pub use Rattle.macro_values.specs.Wrote.{none}
use Rattle.macro_values.specs.Wrote.{is_over, size_of, Wrote}
use Rattle.macro_expansion.specs.Expanding.{rest_writes}
use Rattle.macros.specs.Expansion.{Writing, just, followed_by, expand, levels}
use Rattle.macros.specs.Pieces.{pieces_from}
use Rattle.macros.specs.Prepared.{origins, deep_places}
use Rattle.statements.specs.StatementAt.{fault_of}
use Rattle.macro_section.specs.declared.WrittenOut.{WrittenOut}
use Rattle.syntax.specs.Items.{up_from}

-- so many places from one on
unfoldable pub ups : ℕ → ℕ → List ℕ
ups place zero = []
ups place (suc n) = place ∷ ups (suc place) n

-- what is written from an index on has room for its places
pub record Fillable (from : ℕ) (v : Written) (m : List ℕ) : Type 0 where
  pub room : size_of v ≤ length m
  pub short : length m ≤ limit.text
  pub above : is_over v ≡ false → from ≤ size_of v

-- these places stand from the index on
pub record Placed (from : ℕ) (v : Written) (m p places : List ℕ) : Type 0 where
  pub size : length p ≡ length m
  pub is : is_over v ≡ false → take (size_of v) p ≡ take from m ++ places

-- what the rest of the section comes from
abbrev pub rest_origins : List ℕ → List ℕ → List ℕ → ℕ → ℕ → ℕ → ℕ → ℕ → List ℕ
rest_origins s c f n place stop i k = each (origins (macros_in s c f n)) (pieces_from s place stop (changes_in s c i k))

-- as many places as bytes have room
pub record Room (o m : List ℕ) : Type 0 where
  pub same : length m ≡ length o
  pub short : length o ≤ limit.text

-- the section at the cell q is written, with the places that its bytes come from, and question 66 is asked
pub record Sectioned (s c f : List ℕ) (n q : ℕ) (r : WrittenOut) (o p m' : List ℕ) : Type 0 where
  pub wrote : Wrote (expand (macros_in s c f n) levels [] (body_in s c q)) none r.state o p
  pub placed : is_over r.state ≡ false → take (size_of r.state) m' ≡ each (origins (macros_in s c f n)) (body_in s c q)
  pub long : r.long ≡ fault_of (each (deep_places (macros_in s c f n)) (body_in s c q) ++ drop (length o) (each (origins (macros_in s c f n)) (body_in s c q)))

-- the section up to a change: what is written, and the places that it comes from, with what is left; x and places are those of the whole
pub record Going (s c f : List ℕ) (n stop : ℕ) (x : Writing) (places : List ℕ) (v w : Written) (o p m from : List ℕ) (place i k : ℕ) : Type 0 where
  pub behind : Writing
  pub wrote : Wrote behind v w o p
  pub is : x ≡ followed_by behind (rest_writes s c f n [] levels place stop i k)
  pub from_is : places ≡ from ++ rest_origins s c f n place stop i k
  pub placed : is_over w ≡ false → take (size_of w) m ≡ from

-- bytes that stay, with their places
pub record Kept (bytes : List ℕ) (place : ℕ) (v r : Written) (o p m m' : List ℕ) : Type 0 where
  pub wrote : Wrote (just bytes) v r o p
  pub placed : Placed (size_of v) r m m' (up_from place bytes)
