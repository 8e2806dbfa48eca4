-- What the functions on the state at work ask and tell. s is the state, i and j are variables of it, k, bytes and chars are counts of components, of
-- their cells and of their characters.
use Rattle.std.specs.Prelude.{◌≡◌, Bool, true, false, List, [], ℕ, ◌+◌, ◌≤◌, ◌<◌, length, get_or, take, set}
use Rattle.store.specs.Below.Limits as limit
use Rattle.store.specs.Below.Letters.Letter.{E, I, Q}
use Rattle.store.specs.Below.LanguageValues.{Component, Store, State}
use Rattle.store.specs.Below.MachineArguments.{at, expr}
use Rattle.store.specs.Below.Changes.{put_expr}
use Rattle.store.specs.Below.LayoutBounds.{Encoded, WholeComponents}
use Rattle.store.specs.Below.Components.{components_bytes, components_in}
use Rattle.store.specs.Below.LayoutMemory.{components_held, chars_held, scalars}
use Rattle.store.specs.Below.LayoutPlaces as layout
use Rattle.store.specs.Below.Gaps.{pushed_front, pushed_back}
use Rattle.state.specs.Working.{Stands, nth, char_count}

-- ---- reading

pub record Told (s : State) (k r : ℕ) : Type 0 where
  pub stands : Stands s
  pub is : r ≡ get_or (scalars s) k 0
  pub most : r ≤ limit.addresses

pub record ExprLent (s : State) (i : ℕ) (r : List ℕ) : Type 0 where
  pub stands : Stands s
  pub encoded : Encoded r (expr s.store (nth E i))
  pub whole : WholeComponents r
  pub is : components_in r ≡ expr s.store (nth E i)
  pub most : length r ≤ 32768

-- how far input i is read
pub record ReadTo (s : State) (i r : ℕ) : Type 0 where
  pub stands : Stands s
  pub is : r ≡ at 0 s.store.places (nth I i)
  pub most : r ≤ limit.input

-- how long output i is
pub record OutputLong (s : State) (i r : ℕ) : Type 0 where
  pub stands : Stands s
  pub is : r ≡ length (at [] s.store.outputs (nth Q i))
  pub most : r ≤ limit.output

-- ---- totals

unfoldable pub totalled : ℕ → ℕ → List ℕ → List ℕ
totalled c d n = set (set n layout.components_scalar c) 6 d

pub record Raisable (n : List ℕ) (parts chars : ℕ) : Type 0 where
  pub components : get_or n layout.components_scalar 0 + parts ≤ limit.components
  pub characters : get_or n layout.characters_scalar 0 + chars ≤ limit.characters

pub record Lowerable (n : List ℕ) (parts chars : ℕ) : Type 0 where
  pub components : parts ≤ get_or n layout.components_scalar 0
  pub characters : chars ≤ get_or n layout.characters_scalar 0

-- ---- parts of an expression

pub record FirstParts (xs : List Component) (k bytes chars : ℕ) : Type 0 where
  pub most : k ≤ length xs
  pub bytes_is : bytes ≡ length (components_bytes (take k xs))
  pub chars_is : chars ≡ char_count (take k xs)

pub record PartsDroppable (s : State) (i k bytes chars : ℕ) : Type 0 where
  pub index : i < limit.expressions
  pub first : FirstParts (expr s.store (nth E i)) k bytes chars

pub record PartsWritable (s : State) (i : ℕ) (new : List ℕ) (k chars : ℕ) : Type 0 where
  pub index : i < limit.expressions
  pub whole : WholeComponents new
  pub count : k ≡ length (components_in new)
  pub chars_is : chars ≡ char_count (components_in new)
  pub components_room : components_held s.store + k ≤ limit.components
  pub chars_room : chars_held s.store + chars ≤ limit.characters

unfoldable pub pushed : Bool → ℕ → List ℕ → List (List ℕ) → List (List ℕ)
pushed true i b s = pushed_back i b s
pushed false i b s = pushed_front i b s

pub record Printable (s : State) (i k : ℕ) : Type 0 where
  pub index : i < limit.outputs
  pub room : length (at [] s.store.outputs (nth Q i)) + k ≤ limit.output

pub record Readable (s : State) (i k : ℕ) : Type 0 where
  pub index : i < limit.inputs
  pub room : at 0 s.store.places (nth I i) + k ≤ limit.input

-- two expressions
unfoldable pub exprs_exchanged : ℕ → ℕ → Store → Store
exprs_exchanged i j s = put_expr (nth E j) (expr s (nth E i)) (put_expr (nth E i) (expr s (nth E j)) s)
