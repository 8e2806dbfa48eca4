-- What the writer of states asks and promises.
use Rattle.std.specs.Prelude.{◌≡◌, List, [], ◌∷◌, ◌++◌, ℕ, ◌+◌, ◌≤◌, ◌<◌, length, take, drop}
use Rattle.cells.specs.Cells.{pasted}
use Rattle.check_memory.specs.Passes.{all_strings}
use Rattle.language.specs.Limits as limit
use Rattle.layout.specs.Places as layout
use Rattle.layout.specs.Strings.{used}
use Rattle.lists.specs.Lists.{keep}
use Rattle.state_frames.specs.Frames.{Frame, framed, file, frames_text}
use Rattle.state_frames.specs.MemoryFrames.{files_by, slots_by}
use Rattle.state_frames.specs.Saved.{file_contents, numbered, nonempty}

-- how many bytes the text of a state may have
abbrev pub longest : ℕ
longest = 47754

-- the text t stands in front in the row o, whose rest stays
pub record Put (t : List ℕ) (r : ℕ) (o o' : List ℕ) : Type 0 where
  pub count : r ≡ length t
  pub most : r ≤ longest
  pub row : o' ≡ t ++ drop (length t) o

-- ---- some of the frames

-- the lines of those that are not empty
unfoldable pub text_of : List Frame → List ℕ
text_of fs = frames_text (keep nonempty fs)

-- they stand in the row o from `at` up to r
pub record Appended (fs : List Frame) (at r : ℕ) (o o' : List ℕ) : Type 0 where
  pub count : r ≡ at + length (text_of fs)
  pub most : r ≤ length o
  pub row : o' ≡ pasted o at (text_of fs)

-- among `long` bytes there is room for the frame f from `at` on
pub record FrameFits (f : Frame) (at long : ℕ) : Type 0 where
  pub room : at + length (text_of (f ∷ [])) ≤ long
  pub index_below : f.index < 256
  pub short : length f.contents < 65536

-- for that of a file with the records b and a
pub record FileFits (index : ℕ) (b a : List ℕ) (at long : ℕ) : Type 0 where
  pub room : at + length (text_of (framed file index (file_contents b a) ∷ [])) ≤ long
  pub index_below : index < 256
  pub short : 2 + (length b + length a) < 65536

-- `count` strings of the memory m, and the contents of its files; their frames
abbrev pub strings_from : List ℕ → ℕ → ℕ → List (List ℕ)
strings_from m first count = take count (drop first (all_strings m))

abbrev pub files_from : List ℕ → List (List ℕ)
files_from m = files_by limit.files (drop layout.first_file (all_strings m))

abbrev pub string_frames : List ℕ → ℕ → ℕ → ℕ → List Frame
string_frames m kind first count = numbered kind 1 (strings_from m first count)

abbrev pub file_frames : List ℕ → List Frame
file_frames m = numbered file 1 (files_from m)

-- there is room for them
pub record StringsFit (m : List ℕ) (kind first count at long : ℕ) : Type 0 where
  pub within : first + count ≤ layout.strings_count
  pub room : at + length (text_of (string_frames m kind first count)) ≤ long

pub record FilesFit (m : List ℕ) (at long : ℕ) : Type 0 where
  pub short : used (all_strings m) ≤ layout.room
  pub room : at + length (text_of (file_frames m)) ≤ long

-- all frames of m, as its cells have them
abbrev pub memory_frames : List ℕ → List Frame
memory_frames m = slots_by (take layout.components_cell m) (all_strings m)

pub record FramesFit (m : List ℕ) (long : ℕ) : Type 0 where
  pub cells : length m ≡ limit.state
  pub short : used (all_strings m) ≤ layout.room
  pub room : length (text_of (memory_frames m)) ≤ long
