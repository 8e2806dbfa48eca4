-- Frames: "a kind byte .., an index byte, the contents' length in two bytes, high byte first, the contents .., and one byte that makes the sum of
-- the frame's bytes a multiple of 256"; "one frame a line".
use Rattle.std.specs.Prelude.{Bool, ◌&&◌, List, [], ◌∷◌, ◌++◌, map, ℕ, ◌+◌, ◌*◌, ◌-◌, ◌/◌, ◌%◌, eqb, length, take, drop}
use Rattle.lists.specs.Lists.{total, all, each, same_list, bytes_equal}
use Rattle.layout.specs.Cells.{cell}
use Rattle.text_lines.specs.Lines.{lines}
use Rattle.state_frames.specs.Hexadecimal.{line, is_line, bytes_in}

pub record Frame : Type 0 where
  pub kind : ℕ
  pub index : ℕ
  pub contents : List ℕ

abbrev pub framed : ℕ → ℕ → List ℕ → Frame
framed k i c = record { kind = k; index = i; contents = c }

-- "a kind byte (01 head, 02 expression, 03 file, 04 output, 05 return stack)"
abbrev pub head : ℕ
head = 1

abbrev pub expression : ℕ
expression = 2

abbrev pub file : ℕ
file = 3

abbrev pub output : ℕ
output = 4

abbrev pub stack : ℕ
stack = 5

-- the sum of bytes, and the byte that makes it a multiple of 256
abbrev pub sum : List ℕ → ℕ
sum l = total (λ b. b) l

abbrev pub check : List ℕ → ℕ
check l = (256 - sum l % 256) % 256

-- the kind, the index, the length, the contents
abbrev pub front_bytes : Frame → List ℕ
front_bytes f = f.kind ∷ f.index ∷ length f.contents / 256 ∷ length f.contents % 256 ∷ f.contents

unfoldable pub frame_bytes : Frame → List ℕ
frame_bytes f = front_bytes f ++ (check (front_bytes f) ∷ [])

-- "lines of hexadecimal in capitals, one frame a line, each ended by LF"
abbrev pub frame_line : Frame → List ℕ
frame_line f = line (frame_bytes f)

unfoldable pub frames_text : List Frame → List ℕ
frames_text fs = each frame_line fs

-- ---- reading

-- the frame of its bytes
unfoldable pub frame_in : List ℕ → Frame
frame_in l = framed (cell l 0) (cell l 1) (take (length l - 5) (drop 4 l))

-- "with its length and sum right": 5 bytes beside the contents
abbrev pub right_length : List ℕ → Bool
right_length l = eqb (length l) (5 + (256 * cell l 2 + cell l 3))

abbrev pub right_sum : List ℕ → Bool
right_sum l = eqb (sum l % 256) 0

unfoldable pub sound_line : List ℕ → Bool
sound_line l = is_line l && right_length (bytes_in l) && right_sum (bytes_in l)

-- question 68: "is every line hexadecimal with its length and sum right?"
unfoldable pub sound_text : List ℕ → Bool
sound_text t = all sound_line (lines t)

-- the frames of a text
unfoldable pub frames_in : List ℕ → List Frame
frames_in t = map (λ l. frame_in (bytes_in l)) (lines t)

-- two lists of frames are the same
abbrev pub same_frame : Frame → Frame → Bool
same_frame f g = eqb f.kind g.kind && eqb f.index g.index && bytes_equal f.contents g.contents

abbrev pub same_frames : List Frame → List Frame → Bool
same_frames fs gs = same_list same_frame fs gs
