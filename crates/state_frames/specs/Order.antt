-- Question 69 spelled out: "Are the frames in order, once each, the head there, none empty, and the state well formed?"
use Rattle.std.specs.Prelude.{◌≡◌, Bool, true, ◌&&◌, ◌||◌, List, [], ◌∷◌, ℕ, ◌*◌, ◌≤◌, T, eqb, ltb, length, get_or}
use Rattle.language.specs.Limits as limit
use Rattle.characters.specs.Characters.{between}
use Rattle.lists.specs.Lists.{all, any, each}
use Rattle.language.specs.Program.{Program}
use Rattle.language.specs.Values.{Inputs}
use Rattle.machine.specs.WellFormed.{good_state}
use Rattle.layout.specs.Bounds.{Each}
use Rattle.layout.specs.Cells.{two}
use Rattle.layout.specs.Components.{components_bytes, records_bytes, components_in, records_in}
use Rattle.layout.specs.Memory.{twos_in}
use Rattle.state_frames.specs.Frames.{Frame, head, expression, file, output, stack}
use Rattle.state_frames.specs.Saved.{head_count, file_contents, slots, nonempty, is_at, contents_at, contents_of, before_half, after_half, numbers_by, restored}

-- "Frames rise by kind, then by index"
unfoldable pub precedes : Frame → Frame → Bool
precedes f g = ltb f.kind g.kind || (eqb f.kind g.kind && ltb f.index g.index)

-- "in order, once each": every frame precedes all that follow it
abbrev pub rising : List Frame → Bool
rising [] = true
rising (f ∷ fs) = all (precedes f) fs && rising fs

-- the kinds, and the first and last index of each
abbrev pub ranges : List (ℕ × ℕ × ℕ)
ranges = (head, 0, 0) ∷ (expression, 1, limit.expressions) ∷ (file, 1, limit.files) ∷ (output, 1, limit.outputs) ∷ (stack, 0, 0) ∷ []

unfoldable pub listed : Frame → Bool
listed f = any (λ r. eqb f.kind r.0 && between r.1 r.2 f.index) ranges

-- the frames fs have the contents of g, by its kind and index
abbrev pub Found : List Frame → Frame → Type 0
Found fs g = contents_at g.kind g.index fs ≡ g.contents

-- contents "as laid out in docs/": those of the state that the frames give
abbrev pub LaidOut : List Frame → Type 0
LaidOut fs = Each (Found fs) (slots (restored fs))

pub record InForm (p : Program) (ins : Inputs) (fs : List Frame) : Type 0 where
  pub in_order : T (rising fs)
  pub all_listed : T (all listed fs)
  pub none_empty : T (all nonempty fs)
  pub head_there : T (any (is_at head 0) fs)
  pub laid_out : LaidOut fs
  pub well_formed : T (good_state p ins (restored fs))

-- ---- contents as laid out, kind by kind

-- a file's: the length of the records before the pointer, these, those after it; both whole, and some
pub record WholeFile (c : List ℕ) : Type 0 where
  pub cut : file_contents (before_half c) (after_half c) ≡ c
  pub before_whole : records_bytes (records_in (before_half c)) ≡ before_half c
  pub after_whole : records_bytes (records_in (after_half c)) ≡ after_half c

-- a head of so many numbers, H 0 or 1; whole components; whole files; an even count of bytes
pub record WholeContents (fs : List Frame) : Type 0 where
  pub head_length : length (contents_at head 0 fs) ≡ 3 * head_count
  pub head_sign : get_or (numbers_by fs) 0 0 ≤ 1
  pub exprs_whole : Each (λ c. components_bytes (components_in c) ≡ c) (contents_of expression limit.expressions fs)
  pub files_whole : Each WholeFile (contents_of file limit.files fs)
  pub stack_whole : each two (twos_in (contents_at stack 0 fs)) ≡ contents_at stack 0 fs
