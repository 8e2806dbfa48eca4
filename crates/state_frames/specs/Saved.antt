-- The frames of a state and the text that it is kept as; the state that frames give back.
use Rattle.std.specs.Prelude.{Bool, cond, ◌&&◌, List, [], ◌∷◌, ◌++◌, map, ℕ, suc, ◌+◌, ◌/◌, eqb, length, take, drop}
use Rattle.language.specs.Limits as limit
use Rattle.lists.specs.Lists.{filled, keep, each}
use Rattle.language.specs.Program.{Program}
use Rattle.language.specs.Values.{File, State, Inputs}
use Rattle.machine.specs.WellFormed.{good_state}
use Rattle.layout.specs.Cells.{two, two_at, three, tab}
use Rattle.layout.specs.Components.{components_bytes, records_bytes}
use Rattle.layout.specs.Memory.{scalars, threes_in, state_by}
use Rattle.state_frames.specs.Frames.{Frame, framed, head, expression, file, output, stack, frames_text, same_frames}

-- ---- writing

-- "The head holds H, the read places, the next instruction and the last address given": the first of a state's numbers, up to the totals
abbrev pub head_count : ℕ
head_count = 3 + limit.inputs

abbrev pub head_numbers : State → List ℕ
head_numbers s = take head_count (scalars s)

-- how many bytes the records before the pointer take, these records, those after it; nothing of a file without records
unfoldable pub file_contents : List ℕ → List ℕ → List ℕ
file_contents before after = cond (filled (before ++ after)) (two (length before) ++ (before ++ after)) []

abbrev pub file_bytes : File → List ℕ
file_bytes f = file_contents (records_bytes f.before) (records_bytes f.after)

-- the frames of one kind, indices from n on
unfoldable pub numbered : ℕ → ℕ → List (List ℕ) → List Frame
numbered k n [] = []
numbered k n (c ∷ cs) = framed k n c ∷ numbered k (suc n) cs

-- their contents
abbrev pub head_bytes : State → List ℕ
head_bytes s = each three (head_numbers s)

abbrev pub expressions_bytes : State → List (List ℕ)
expressions_bytes s = map components_bytes s.store.exprs

abbrev pub files_bytes : State → List (List ℕ)
files_bytes s = map file_bytes s.store.files

abbrev pub stack_bytes : State → List ℕ
stack_bytes s = each two s.stack

-- "Frames rise by kind, then by index (0 for 01 and 05)". Empty ones too
unfoldable pub slots : State → List Frame
slots s =
    framed head 0 (head_bytes s)
    ∷ (numbered expression 1 (expressions_bytes s) ++ (numbered file 1 (files_bytes s) ++ (numbered output 1 s.store.outputs ++ (framed stack 0 (stack_bytes s) ∷ []))))

-- "Empty variables and an empty stack have no frame."
abbrev pub nonempty : Frame → Bool
nonempty f = filled f.contents

unfoldable pub frames_of : State → List Frame
frames_of s = keep nonempty (slots s)

-- "Write a state as lines of hexadecimal"
unfoldable pub saved : State → List ℕ
saved s = frames_text (frames_of s)

-- ---- reading

-- the contents of the frames of this kind and index, end to end: of the one, or none
abbrev pub is_at : ℕ → ℕ → Frame → Bool
is_at k i f = eqb k f.kind && eqb i f.index

unfoldable pub contents_at : ℕ → ℕ → List Frame → List ℕ
contents_at k i fs = each (λ f. cond (is_at k i f) f.contents []) fs

-- of one kind, indices from 1 to n
abbrev pub contents_of : ℕ → ℕ → List Frame → List (List ℕ)
contents_of k n fs = tab n (λ i. contents_at k (suc i) fs)

-- the bytes of a file's records before the pointer and of those after it
abbrev pub before_half : List ℕ → List ℕ
before_half c = take (two_at 0 c) (drop 2 c)

abbrev pub after_half : List ℕ → List ℕ
after_half c = drop (2 + two_at 0 c) c

abbrev pub halves : List ℕ → List (List ℕ)
halves c = before_half c ∷ after_half c ∷ []

-- a state's strings and its numbers, from frames
unfoldable pub strings_by : List Frame → List (List ℕ)
strings_by fs =
    contents_of expression limit.expressions fs ++ (each halves (contents_of file limit.files fs) ++ (contents_at stack 0 fs ∷ contents_of output limit.outputs fs))

-- numbers of three bytes each
abbrev pub numbers_in : List ℕ → List ℕ
numbers_in c = threes_in (length c / 3) c

unfoldable pub numbers_by : List Frame → List ℕ
numbers_by fs = numbers_in (contents_at head 0 fs)

unfoldable pub restored : List Frame → State
restored fs = state_by (strings_by fs) (numbers_by fs)

-- question 69: "Are the frames in order, once each, the head there, none empty, and the state well formed?" The frames are those of the state that
-- they give, and that state is well formed
unfoldable pub well_framed : Program → Inputs → List Frame → Bool
well_framed p ins fs = let s = restored fs in same_frames fs (frames_of s) && good_state p ins s
