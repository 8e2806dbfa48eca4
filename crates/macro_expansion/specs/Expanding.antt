-- A body written in parts: what a call's body writes with so many levels left, what is left of a body, and what is promised of each part.
use Rattle.std.specs.Prelude.{Option, Some, None, is_some, ◌≡◌, Bool, true, List, [], ℕ, zero, suc, ◌+◌, ◌-◌, ◌≤◌, ◌<◌, length, take}
use Rattle.macros.specs.Expansion.{Writing, just, too_deep, followed_by, walk, expand, levels}
use Rattle.macros.specs.Macros.{Macro}
use Rattle.macros.specs.Pieces.{Piece, pieces_from}
use Rattle.macro_code.specs.Code.{high, low, change_in, changes_in, body_in, macros_in, arguments_in}
use Rattle.macro_code.specs.Changes.{StartsAt}
use Rattle.macro_code.specs.Places as place
use Rattle.statements.specs.Faults as told
use Rattle.std.specs.Prelude.{None, Some}
use Rattle.macro_memory.specs.Memory.{entered_writes, Absorbed, Remembers}
use Rattle.macro_memory.specs.declared.Memory.{Memory}
use Rattle.macro_memory.specs.declared.Slot.{Slot}
use Rattle.macro_values.specs.Wrote.{size_of, Wrote}
use Rattle.macro_values.specs.declared.Written.{Written}
use Rattle.macro_memory.specs.declared.Level.{Level}
use Rattle.macro_expansion.specs.declared.Step.{Step}
use Rattle.macro_expansion.specs.declared.Rest.{Rest}
use Rattle.macro_expansion.specs.declared.Pause.{Pause}
use Rattle.macro_expansion.specs.declared.Paused.{Paused}
use Rattle.macro_expansion.specs.declared.listing.Macros.{Macros}

-- what the body of a call writes, within a body with so many levels left
unfoldable pub inner : List Macro → ℕ → List (List ℕ) → List Piece → Writing
inner ms zero = λ env ps. too_deep
inner ms (suc l) = expand ms l

abbrev pub is_at : told.Fault → Bool
is_at f = is_some f

-- the arguments within a body with so many levels left
abbrev pub arguments_at : List ℕ → List ℕ → List ℕ → ℕ → List (List ℕ)
arguments_at s c calls left = arguments_in s c calls (levels - left)

-- the change at the cell, with so many levels left
abbrev pub change_writes : List ℕ → List ℕ → List ℕ → ℕ → List ℕ → ℕ → ℕ → Writing
change_writes s c f n calls left i =
    let ms = macros_in s c f n in
    walk ms (inner ms left) (arguments_at s c calls left) (change_in s c i).pieces

-- a call that is to be entered, by the cell of its macro
pub record Enters (s c f : List ℕ) (n : ℕ) (calls : List ℕ) (left i m : ℕ) : Type 0 where
  pub deeper : 1 ≤ left
  pub body : m < place.half
  pub writes : change_writes s c f n calls left i ≡ entered_writes s c f n calls left i m

-- a call is passed, with any row of bytes; or it is to be entered
pub record Judged (s c f : List ℕ) (n : ℕ) (calls : List ℕ) (left i : ℕ) (v : Written) (r : Step) : Type 0 where
  pub passed : r.call ≡ None → (o : List ℕ) → size_of v ≤ length o → Wrote (change_writes s c f n calls left i) v r.state o o
  pub waits : (m : ℕ) → r.call ≡ Some m → r.state ≡ v
  pub enters : (m : ℕ) → r.call ≡ Some m → Enters s c f n calls left i m

-- a change is passed; or it is a call that is to be entered, and nothing is written yet
pub record Met (s c f : List ℕ) (n : ℕ) (calls : List ℕ) (left i : ℕ) (v : Written) (r : Step) (o p : List ℕ) : Type 0 where
  pub passed : r.call ≡ None → Wrote (change_writes s c f n calls left i) v r.state o p
  pub waits : (m : ℕ) → r.call ≡ Some m → Wrote (just []) v r.state o p
  pub enters : (m : ℕ) → r.call ≡ Some m → Enters s c f n calls left i m
  pub there : (m : ℕ) → r.call ≡ Some m → i + 1 < length c
  pub size : length p ≡ length o

-- what the rest of a body writes
abbrev pub rest_writes : List ℕ → List ℕ → List ℕ → ℕ → List ℕ → ℕ → ℕ → ℕ → ℕ → ℕ → Writing
rest_writes s c f n calls left place stop i k =
    let ms = macros_in s c f n in
    walk ms (inner ms left) (arguments_at s c calls left) (pieces_from s place stop (changes_in s c i k))

-- what is left behind a pause: nothing, or a call and the rest
unfoldable pub pause_writes : List ℕ → List ℕ → List ℕ → ℕ → List ℕ → ℕ → ℕ → Option Pause → Writing
pause_writes s c f n calls left stop None = just []
pause_writes s c f n calls left stop (Some x) =
    followed_by (entered_writes s c f n calls left x.cell x.body) (rest_writes s c f n calls left (low c x.cell) stop x.changes.cell x.changes.left)

-- the changes from the call on
abbrev pub changes_left : Option Pause → ℕ
changes_left None = 0
changes_left (Some x) = suc x.changes.left

-- where it pauses
pub record Stops (c : List ℕ) (left : ℕ) (x : Pause) : Type 0 where
  pub deeper : 1 ≤ left
  pub there : x.cell + 1 < length c
  pub body : x.body < place.half
  pub code : x.changes.coded.code.now ≡ c

-- the rest of a body, written up to a pause
pub record Ran (s c f : List ℕ) (n : ℕ) (calls : List ℕ) (left stop k : ℕ) (w : Writing) (v : Written) (r : Paused) (o p : List ℕ) : Type 0 where
  pub behind : Writing
  pub wrote : Wrote behind v r.state o p
  pub is : w ≡ followed_by behind (pause_writes s c f n calls left stop r.call)
  pub fewer : changes_left r.call ≤ k
  pub enters : (x : Pause) → r.call ≡ Some x → Stops c left x

-- the rest of a body in the cells c
pub record Near (c : List ℕ) (r : Rest) : Type 0 where
  pub from : r.place < place.half
  pub stop : r.stop < place.half
  pub code : r.changes.coded.code.now ≡ c

pub record Whole (c : List ℕ) (at : Level) (r : Rest) : Type 0 where
  pub from_is : r.place ≡ high c (at.cell + place.span_cell)
  pub stop_is : r.stop ≡ low c (at.cell + place.span_cell)
  pub changes_are : StartsAt c at.cell r.changes
  pub left_is : r.left ≡ at.left
  pub near : Near c r

pub record Behind (c : List ℕ) (at : Level) (e : Pause) (r : Rest) : Type 0 where
  pub from_is : r.place ≡ low c e.cell
  pub stop_is : r.stop ≡ low c (at.cell + place.span_cell)
  pub changes_are : r.changes ≡ e.changes
  pub left_is : r.left ≡ at.left
  pub near : Near c r

-- with so many levels left, in rows that can hold it
pub record Fits (s c f : List ℕ) (n : ℕ) (left : ℕ) (slots : List Slot) (v : Written) (o : List ℕ) : Type 0 where
  pub most : left ≤ levels
  pub count : size_of v ≤ length o
  pub remembers : Remembers s c f n slots v

abbrev pub FitsList : Macros → ℕ → List Slot → Written → List ℕ → Type 0
FitsList l left slots v o =
    Fits l.hinted.listed.coded.text.now l.hinted.listed.coded.code.now l.hinted.listed.firsts.now (length l.hinted.listed.firsts.now) left slots v o

pub record Expands (s c f : List ℕ) (n : ℕ) (before after : Memory) (left m : ℕ) (v r : Written) (o p : List ℕ) : Type 0 where
  pub wrote : Wrote (expand (macros_in s c f n) left (arguments_at s c before.calls left) (body_in s c m)) v r o p
  pub calls_stay : take (levels - left) after.calls ≡ take (levels - left) before.calls
  pub remembers : Remembers s c f n after.slots r

-- a body is remembered, if it left the row as it was, or over
pub record Keeps (s c : List ℕ) (before after : Memory) (left m : ℕ) (steady : Bool) : Type 0 where
  pub calls_stay : after.calls ≡ before.calls
  pub remembers : (f : List ℕ) (n : ℕ) (v : Written) → Remembers s c f n before.slots v
      → (steady ≡ true → Absorbed (expand (macros_in s c f n) left (arguments_at s c before.calls left) (body_in s c m)) v) → Remembers s c f n after.slots v
