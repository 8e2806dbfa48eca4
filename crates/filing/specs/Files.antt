-- What the functions on files of the state at work ask and tell. s is the state, i the file.
use Rattle.std.specs.Prelude.{◌≡◌, Bool, true, false, List, map, ℕ, ◌+◌, ◌≤◌, ◌<◌, length, take, drop}
use Rattle.language.specs.Limits as limit
use Rattle.language.specs.Letters.Letter.{P}
use Rattle.language.specs.Values.{Component, Record, Store, State}
use Rattle.machine.specs.Arguments.{file_of, records}
use Rattle.machine.specs.Changes.{put_file, stamped}
use Rattle.layout.specs.Bounds.{EncodedRecords, WholeRecords}
use Rattle.layout.specs.Components.{records_bytes, records_in}
use Rattle.layout.specs.Memory.{components_held, chars_held, records_held}
use Rattle.layout.specs.Strings.{used}
use Rattle.store.specs.Below.Gaps.{pushed_front, pushed_back}
use Rattle.layout.specs.Places.{before_string, after_string}
use Rattle.state.specs.Working.{nth, turned, part_total, char_total}

-- ---- reading

-- the bytes r are the records rs
pub record RecordsLent (rs : List Record) (r : List ℕ) : Type 0 where
  pub encoded : EncodedRecords r rs
  pub whole : WholeRecords r
  pub is : records_in r ≡ rs
  pub most : length r ≤ 32768

-- ---- records after the pointer

-- the first k of the records rs: their bytes, components and characters
pub record FirstRecords (rs : List Record) (k bytes parts chars : ℕ) : Type 0 where
  pub most : k ≤ length rs
  pub bytes_is : bytes ≡ length (records_bytes (take k rs))
  pub parts_is : parts ≡ part_total (take k rs)
  pub chars_is : chars ≡ char_total (take k rs)

pub record RecordsDroppable (s : State) (i k bytes parts chars : ℕ) : Type 0 where
  pub index : i < limit.files
  pub first : FirstRecords (file_of s.store (nth P i)).after k bytes parts chars

-- ---- the pointer

-- it can move past the first k records after it, of `bytes` bytes
pub record Passable (s : State) (i k bytes : ℕ) : Type 0 where
  pub index : i < limit.files
  pub most : k ≤ length (file_of s.store (nth P i)).after
  pub bytes_is : bytes ≡ length (records_bytes (take k (file_of s.store (nth P i)).after))

-- it can move behind the first k records of the file, of `bytes` bytes
pub record Pointable (s : State) (i k bytes : ℕ) : Type 0 where
  pub index : i < limit.files
  pub bytes_is : bytes ≡ length (records_bytes (take k (records (file_of s.store (nth P i)))))

unfoldable pub pointed_at : ℕ → ℕ → Store → Store
pointed_at i k s = let rs = records (file_of s (nth P i)) in put_file (nth P i) (take k rs) (drop k rs) s

-- ---- new records

-- the components of records, in the order in which they were taken
abbrev pub bodies : Bool → List ℕ → List (List Component)
bodies b new = map (λ r. r.parts) (turned b (records_in new))

-- records can be written to file i: b for turned round, right after the pointer
pub record RecordsWritable (s : State) (i : ℕ) (b : Bool) (new : List ℕ) (k parts chars : ℕ) : Type 0 where
  pub index : i < limit.files
  pub whole : WholeRecords new
  pub stamps : turned b (records_in new) ≡ stamped s.store.last (bodies b new)
  pub count : k ≡ length (records_in new)
  pub parts_is : parts ≡ part_total (records_in new)
  pub chars_is : chars ≡ char_total (records_in new)
  pub components_room : components_held s.store + parts ≤ limit.components
  pub chars_room : chars_held s.store + chars ≤ limit.characters
  pub records_room : records_held s.store + k ≤ limit.records
  pub addresses_room : s.store.last + k ≤ limit.addresses

-- n bytes can be put to the pointer of file i
pub record Insertable (t : List (List ℕ)) (i n : ℕ) : Type 0 where
  pub index : i < limit.files
  pub total : used t + n ≤ 32768

-- bytes right after the pointer of file i, or right before it
unfoldable pub inserted : Bool → ℕ → List ℕ → List (List ℕ) → List (List ℕ)
inserted true i b s = pushed_front (after_string i) b s
inserted false i b s = pushed_back (before_string i) b s

-- ---- two files

unfoldable pub files_exchanged : ℕ → ℕ → Store → Store
files_exchanged i j s =
    let f = file_of s (nth P i) in
    let g = file_of s (nth P j) in
    put_file (nth P j) f.before f.after (put_file (nth P i) g.before g.after s)
