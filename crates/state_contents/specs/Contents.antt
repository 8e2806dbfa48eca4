-- What is promised of the contents of frames, and of a memory laid out from them.
use Rattle.std.specs.Prelude.{◌≡◌, Bool, cond, List, [], ◌++◌, ℕ, ◌+◌, ◌*◌, ◌-◌, ◌≤◌, ◌<◌, length, take, drop, Option, MatchOption}
use Rattle.language.specs.Limits as limit
use Rattle.language.specs.Values.{State}
use Rattle.lists.specs.Lists.{joined}
use Rattle.cells.specs.Cells.{pasted}
use Rattle.layout.specs.Bounds.{Below}
use Rattle.layout.specs.Cells.{two}
use Rattle.layout.specs.Places as layout
use Rattle.layout.specs.Strings.{lengths, used}
use Rattle.state_frames.specs.Frames.{Frame, frame_bytes, frame_line, frames_in}
use Rattle.state_frames.specs.Saved.{is_at, before_half, after_half, strings_by}
use Rattle.state_frames.specs.MemoryFrames.{untotalled, SavedAs}

-- ---- the contents of frames

-- the line of the frame f stands in front in l
pub record Begins (l : List ℕ) (f : Frame) : Type 0 where
  pub below : Below 256 (frame_bytes f)
  pub line : l ≡ frame_line f ++ drop (11 + 2 * length f.contents) l

-- that of some frame does
pub record Lined (l : List ℕ) : Type 0 where
  pub frame : Frame
  pub begins : Begins l frame

-- r says whether it is of the kind k and the index i
pub record Tells (l : List ℕ) (k i : ℕ) (r : Bool) : Type 0 where
  pub frame : (f : Frame) → Begins l f → r ≡ is_at k i f

-- what a frame adds to the contents of a kind and an index
abbrev pub added : ℕ → ℕ → Frame → List ℕ
added k i f = cond (is_at k i f) f.contents []

-- the bytes c behind n bytes of the row o, r bytes in all
pub record Behind (n : ℕ) (c o : List ℕ) (r : ℕ) (o' : List ℕ) : Type 0 where
  pub count : r ≡ n + length c
  pub room : r ≤ length o
  pub row : o' ≡ pasted o n c

-- what the frame of l adds to n bytes stands behind them in the row o'; where the row o has no room for it, r is none
pub record Added (l : List ℕ) (k i n : ℕ) (o : List ℕ) (r : Option ℕ) (o' : List ℕ) : Type 0 where
  pub frame : (f : Frame) → Begins l f → MatchOption r (length o < n + length (added k i f)) (λ m. Behind n (added k i f) o m o')

-- the bytes c stand in front in the row o, n of them
pub record Stored (c : List ℕ) (n : ℕ) (o : List ℕ) : Type 0 where
  pub count : n ≡ length c
  pub room : n ≤ length o
  pub bytes : take n o ≡ c

-- r is how many bytes there are in c, which stand in front in the row o; it is none where they have no room
pub record Gathered (c : List ℕ) (r : Option ℕ) (o : List ℕ) : Type 0 where
  pub told : MatchOption r (length o < length c) (λ n. Stored c n o)

-- ---- strings

-- there is a part of the row o; where A holds, it is c
pub record Standing (A : Type 0) (c o : List ℕ) (from to : ℕ) : Type 0 where
  pub order : from ≤ to
  pub within : to ≤ length o
  pub is : A → take (to - from) (drop from o) ≡ c

-- the half of a file's contents after its pointer, or the one before it
abbrev pub half_of : Bool → List ℕ → List ℕ
half_of after c = cond after (after_half c) (before_half c)

-- the strings that the frames of a text give
abbrev pub strings_of : List ℕ → List (List ℕ)
strings_of t = strings_by (frames_in t)

-- they have room in a state at rest
abbrev pub Fitting : List ℕ → Type 0
Fitting t = used (strings_of t) ≤ layout.room

-- ---- a memory

-- among the cells of a state there is a place `at` for string j
pub record Puttable (long j at : ℕ) : Type 0 where
  pub all : long ≡ limit.state
  pub one : j < layout.strings_count
  pub place : at ≤ limit.state

-- r is where the next string begins; string j, which is v, was written from `at` on and its length among the lengths, if there is room
pub record PutOne (m : List ℕ) (j at : ℕ) (v : List ℕ) (r : ℕ) (m' : List ℕ) : Type 0 where
  pub most : r ≤ limit.state
  pub next : at + length v ≤ limit.state → r ≡ at + length v
  pub cells : at + length v ≤ limit.state → m' ≡ pasted (pasted m (layout.first_length + 2 * j) (two (length v))) at v

-- the lengths and the bytes of strings, if they have room
pub record StringsLaid (vs : List (List ℕ)) (m m' : List ℕ) : Type 0 where
  pub cells : used vs ≤ layout.room → m' ≡ pasted (take layout.first_byte m) layout.first_length (lengths vs) ++ pasted (drop layout.first_byte m) 0 (joined vs)

-- the head's contents, if they are as many as its numbers take
pub record HeadLaid (c m m' : List ℕ) : Type 0 where
  pub cells : length c ≡ layout.components_cell → m' ≡ pasted m 0 c

-- of a state that the text is, the memory has all cells but the totals
pub record Laid (t m : List ℕ) : Type 0 where
  pub long : length m ≡ limit.state
  pub cells : (s : State) → SavedAs t s → m ≡ untotalled s
