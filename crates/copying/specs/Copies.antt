-- What moves of records make of a store, and what their functions ask and tell.
use Rattle.std.specs.Prelude.{◌≡◌, Bool, List, map, ℕ, ◌≤◌, ◌<◌, length, take}
use Rattle.language.specs.Limits as limit
use Rattle.language.specs.Letters.Letter.{P}
use Rattle.language.specs.Values.{Record, Store, State}
use Rattle.machine.specs.Arguments.{Asks, file_of, Until, taken}
use Rattle.machine.specs.Changes.{minus_unless, stored, past}
use Rattle.machine.specs.Effects.Go.{on}
use Rattle.records.specs.Sequences.{FittingRecords}
use Rattle.records.specs.declared.RecordTest.{RecordTest}
use Rattle.state.specs.Working.{nth, filing}
use Rattle.table.specs.declared.Argument.{Argument}
use Rattle.instructions.specs.Does.{Does, Quiet, stop_of}
use Rattle.record_tests.specs.RecordPrepares.{RecordTestReadable, FittingRecordsIn, records_size}
use Rattle.record_tests.specs.declared.RecordsPrepared.{RecordsPrepared}

-- the sequence that u takes of file i is removed or passed; and it is written to file j
unfoldable pub passed : Until Record → Bool → ℕ → Store → Store
passed u removes i s = let r = taken u (file_of s (nth P i)).after in minus_unless r.1 (past (nth (filing removes) i) r.0 s)

unfoldable pub copied : Until Record → Bool → ℕ → Bool → ℕ → Store → Store
copied u removes i reverses j s =
    let rs = (file_of s (nth P i)).after in
    let r = taken u rs in
    minus_unless r.1 (stored (nth (filing reverses) j) (map (λ x. x.parts) (take r.0 rs)) (past (nth (filing removes) i) r.0 s))

-- ---- what is asked

pub record Droppable (test : RecordTest) (i : ℕ) : Type 0 where
  pub fitting : FittingRecords test
  pub source : i < limit.files

-- the bytes of the test stand in front of the row g
pub record Duplicable (g : List ℕ) (test : RecordsPrepared) (i j : ℕ) : Type 0 where
  pub fitting : FittingRecordsIn test g
  pub source : i < limit.files
  pub inside : records_size test ≤ length g
  pub target : j < limit.files

-- the instructions: of file i, and from file i to file j, with the test of argument a
pub record RecordsRemovable (c : List ℕ) (i : ℕ) (a : Argument) : Type 0 where
  pub test : RecordTestReadable c a
  pub source : i < limit.files

pub record RecordsMovable (c : List ℕ) (i j : ℕ) (a : Argument) : Type 0 where
  pub removable : RecordsRemovable c i a
  pub target : j < limit.files

-- ---- and told: a row that asks q, all answered yes, and makes the store t
abbrev pub Storing : State → ℕ → State → Store → Type 0
Storing σ told σ' t = (q : Asks) → Quiet q → stop_of q ≡ 0 → Does σ told σ' (q, t, on)
