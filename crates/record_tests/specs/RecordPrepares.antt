-- What reading the values of a test of records asks and tells: as on components, and E, which compares a whole record.
use Rattle.std.specs.Prelude.{◌≡◌, List, ℕ, ◌≤◌, length, take, Option, Result, IfOk, MatchOption}
use Rattle.language.specs.Program.{Arg}
use Rattle.language.specs.Values.{Record, Store, Inputs, same}
use Rattle.machine.specs.Arguments.{Until, up_to, test_asks, on_records}
use Rattle.lists.specs.Lists.{same_list}
use Rattle.layout.specs.Bounds.{WholeComponents}
use Rattle.layout.specs.Components.{components_in}
use Rattle.records.specs.Sequences.{on_first, until_records, FittingRecords}
use Rattle.records.specs.declared.RecordTest.{RecordTest}
use Rattle.table.specs.declared.Letter.TheVariants.{E}
use Rattle.table.specs.declared.Argument.{Argument}
use Rattle.table.specs.declared.Argument.TheVariants.{Indexed}
use Rattle.instructions.specs.Questions.{told_by}
use Rattle.instructions.specs.declared.Question.{Question}
use Rattle.instructions.specs.Does.{stop_of}
use Rattle.tests.specs.Prepares.{OtherLetter, ArgumentGiven, beside_size, until_in, FittingIn}
use Rattle.record_tests.specs.declared.RecordsPrepared.{RecordsPrepared}
use Rattle.record_tests.specs.declared.RecordsPrepared.TheVariants.{First, Whole}

-- r is the index of E, if the argument is that
abbrev pub WholeOf : Argument → Option ℕ → Type 0
WholeOf a r = MatchOption r ((n : ℕ) → a ≡ Indexed E n → ⊥) (λ n. a ≡ Indexed E n)

abbrev pub RecordTestReadable : List ℕ → Argument → Type 0
RecordTestReadable = ArgumentGiven OtherLetter

-- how many bytes in front of a row a test compares with
abbrev pub records_size : RecordsPrepared → ℕ
records_size (First p) = beside_size p
records_size (Whole k) = k

-- what it means with the row g
abbrev pub until_records_in : RecordsPrepared → List ℕ → Until Record
until_records_in (First p) g = on_first (until_in p g)
until_records_in (Whole k) g = up_to (λ r. same_list same r.parts (components_in (take k g)))

-- those bytes are components
abbrev pub FittingRecordsIn : RecordsPrepared → List ℕ → Type 0
FittingRecordsIn (First p) g = FittingIn p g
FittingRecordsIn (Whole k) g = WholeComponents (take k g)

-- t is that test
pub record RecordTestOf (p : RecordsPrepared) (g : List ℕ) (t : RecordTest) : Type 0 where
  pub records : until_records t ≡ until_records_in p g
  pub fitting : FittingRecordsIn p g → FittingRecords t

-- p is what the argument c of a test means on records, with the bytes in front of g beside it
pub record ReadRecordTest (s : Store) (c : Arg) (g : List ℕ) (p : RecordsPrepared) : Type 0 where
  pub fitting : FittingRecordsIn p g
  pub records : (ins : Inputs) → on_records ins s c ≡ until_records_in p g
  pub most : records_size p ≤ 32768
  pub inside : records_size p ≤ length g

-- r is what the argument c asks and means so
pub record PreparesRecords (s : Store) (c : Arg) (g : List ℕ) (r : Result RecordsPrepared Question) : Type 0 where
  pub stop_is : (ins : Inputs) → told_by r ≡ stop_of (test_asks ins s c)
  pub is : IfOk r (λ p. ReadRecordTest s c g p)
