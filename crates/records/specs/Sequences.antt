-- Tests of records: what they mean, what they ask, and what is told of the records that they take.
use Rattle.std.specs.Prelude.{◌≡◌, Bool, true, false, List, ℕ, ◌≤◌, leb, length}
use Rattle.language.specs.Values.{Component, Record, chars, same}
use Rattle.cells.specs.Below.LayoutBounds.{WholeComponents, WholeRecords}
use Rattle.cells.specs.Below.Components.{components_in, records_in}
use Rattle.lists.specs.Lists.{total, same_list}
use Rattle.cells.specs.Below.MachineArguments.{Until, everything, number_of, up_to, taken, first}
use Rattle.matching.specs.declared.Test.{Test}
use Rattle.matching.specs.declared.Test.TheVariants.{All, Count, Class, Among}
use Rattle.matching.specs.Tests.{until, reached_by, Fitting}
use Rattle.records.specs.declared.RecordTest.{RecordTest}
use Rattle.records.specs.declared.RecordTest.TheVariants.{First, Whole}
use Rattle.records.specs.declared.Sequence.{Sequence}
use Rattle.components.specs.declared.Amount.{Amount}
use Rattle.records.specs.Places.{Starts, Cut}

-- "Tests of KOPIUJ, SKRESL and OMIN compare a record's first component, with E the whole record."
abbrev pub on_first : Until Component → Until Record
on_first everything = everything
on_first (number_of n) = number_of n
on_first (up_to p) = up_to (λ r. p (first r.parts))

abbrev pub until_records : RecordTest → Until Record
until_records (First t) = on_first (until t)
until_records (Whole g) = up_to (λ r. same_list same r.parts (components_in g.now))

-- whether a test ends the sequence before a record without components, which stands at place k; whether one that met no end is reached there
abbrev pub stops_void : Test → ℕ → Bool
stops_void All k = false
stops_void (Count n) k = leb n k
stops_void (Class mask) k = true
stops_void (Among g) k = false

abbrev pub reached_records : RecordTest → ℕ → Bool
reached_records (First t) k = reached_by t k
reached_records (Whole g) k = false

-- what a test compares with are components
abbrev pub FittingRecords : RecordTest → Type 0
FittingRecords (First t) = Fitting t
FittingRecords (Whole g) = WholeComponents g.now

-- a test can be asked of one component or none, of the record in front, of records
pub record FirstStoppable (t : Test) (x : List ℕ) : Type 0 where
  pub whole : WholeComponents x
  pub single : length (components_in x) ≤ 1
  pub fitting : Fitting t

pub record RecordStoppable (t : RecordTest) (s : List ℕ) : Type 0 where
  pub starts : Starts s
  pub fitting : FittingRecords t

pub record RecordsCountable (t : RecordTest) (s : List ℕ) : Type 0 where
  pub whole : WholeRecords s
  pub fitting : FittingRecords t

-- what `taken` is of the records of s, with their cells
pub record TookRecords (u : Until Record) (s : List ℕ) (r : Sequence) : Type 0 where
  pub is : taken u (records_in s) ≡ (r.end.records, r.reached)
  pub cut : Cut s r.end.bytes r.end.records

-- how many components and characters records have; each has a cell of its own
-- A line each, as in `state`: the lowest crate that both name is components, whose definitions `Working` would pass on to all above.
abbrev pub part_total : List Record → ℕ
part_total rs = total (λ r. total (λ x. 1) r.parts) rs

abbrev pub char_total : List Record → ℕ
char_total rs = total (λ r. total (λ x. length (chars x)) r.parts) rs

pub record Totalled (s : List ℕ) (r : Amount) : Type 0 where
  pub parts_is : r.parts ≡ part_total (records_in s)
  pub bytes_is : r.bytes ≡ length s
  pub chars_is : r.chars ≡ char_total (records_in s)
  pub parts_most : r.parts ≤ length s
  pub chars_most : r.chars ≤ length s
