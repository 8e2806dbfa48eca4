-- A table: what is printed, and what the end of a run asks.
use Rattle.std.specs.Prelude.{cond, List, ℕ, ◌≤◌, ◌<◌, T, eqb, length, Option, None, Some, MatchOption}
use Rattle.language.specs.Values.{Inputs}
use Rattle.layout.specs.Memory.{state_of}
use Rattle.layout.specs.Table.{program_of, good_table}
use Rattle.viewing.specs.Viewing.{Rests}
use Rattle.console.specs.Console.{refusal_line, program_bytes}

-- the room for all that is printed
abbrev pub printed_most : ℕ
printed_most = 4224

-- start and run on the cells c of a table: 62 where they are not well formed
unfoldable pub table_bytes : List ℕ → Inputs → List ℕ
table_bytes c ins = cond (good_table c) (program_bytes (program_of c) ins) (refusal_line 62 0)

-- the number that stopped a run, by the number of the answer: 81 is a pause
abbrev pub stop_by : ℕ → Option ℕ
stop_by number = cond (eqb number 81) None (Some number)

-- a run of the program of c ended in the state of m, and `long` cells are there to print to
pub record Ended (c m : List ℕ) (stopped : Option ℕ) (count long : ℕ) : Type 0 where
  pub good : T (good_table c)
  pub rests : Rests m
  pub next : (state_of m).next < length (program_of c).code
  pub number_most : MatchOption stopped (Unit {0}) (λ n. n ≤ 81)
  pub count_most : count ≤ 100000
  pub room : printed_most ≤ long
