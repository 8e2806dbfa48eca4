-- Histories, computed: document 01's sample is loaded, and called with a memory that holds no state at first; and a table made before request 2.8.
use Rattle.std.specs.Prelude.{◌≡◌, refl, List, [], ◌∷◌, map, ℕ, length, replicate}
use Rattle.characters.specs.Characters.{known}
use Rattle.language.specs.Limits as limit
use Rattle.language.specs.Program.{Arg, Op, Program}
use Rattle.language.specs.Values.{Inputs}
use Rattle.lists.specs.Quoted.{bytes}
use Rattle.machine.specs.Steps.{opened}
use Rattle.machine.specs.WellFormed.{listed, good_instr, good_label, good_switch, good_return, good_program, good_inputs, store_faults, good_store, good_state, started}
use Rattle.layout.specs.Cells.{fours, unfours, code, uncode, tab, padded}
use Rattle.layout.specs.Components.{component_bytes, components_bytes, record_bytes, records_bytes, component_in, components_from, components_in, record_in, records_from, records_in}
use Rattle.layout.specs.Memory.{file_strings, strings, state_cells, threes_in, files_in, twos_in, state_by, state_in, state_of, good_memory, written}
use Rattle.layout.specs.Strings.{lengths, used, string_cells, lengths_in, cut_by, strings_in}
use Rattle.layout.specs.Table.{switch_cells, table_cells, program_in, program_of, good_table}
use Rattle.syntax.specs.Load.{Loaded}
use Rattle.syntax.specs.Load.{opened as opened-load}
use Rattle.syntax.specs.Load.Loaded.{accepted}
use Rattle.syntax.specs.Sample.{sample_text, sample}
use Rattle.macros.specs.Load as macros
use Rattle.macros.specs.Load.{load_in}
use Rattle.macros.specs.Marks.{has_macros}
use Rattle.macros.specs.Prepared.{prepared}
use Rattle.calls.specs.Calls.{table_after, Call, reply_number, reply_count, result_of}
use Rattle.calls.specs.Calls.Call.{start_on, run_on}
use Rattle.history.specs.History.{Moment, history}

-- a table of eight cells more than needed
abbrev lent : List ℕ
lent = replicate 8200 9

abbrev loaded : Loaded
loaded = load_in (length lent) sample_text

abbrev none : Inputs
none = [] ∷ [] ∷ []

abbrev calls : List Call
calls = run_on none 5 ∷ start_on ((1 ∷ []) ∷ [] ∷ []) ∷ start_on none ∷ run_on none 1 ∷ run_on none 5 ∷ run_on none 0 ∷ []

abbrev answers : List Moment → List (ℕ × ℕ)
answers h = map (λ x. (reply_number x.result.reply, reply_count x.result.reply)) h

pub record Sample : Type 0 where
  pub program : loaded ≡ accepted sample
  pub answers : answers (history sample (table_after loaded lent) calls (7 ∷ replicate 40959 0))
      ≡ (63, 0) ∷ (61, 0) ∷ (80, 0) ∷ (81, 1) ∷ (50, 1) ∷ (81, 0) ∷ []

pub sample-holds : Sample
unfolding has_macros prepared macros.loaded load_in opened-load opened table_after result_of good_table table_cells padded switch_cells fours unfours code uncode tab program_in program_of good_program good_instr listed good_label good_switch good_return good_inputs store_faults good_store good_state started known file_strings strings state_cells threes_in files_in twos_in state_by state_in state_of good_memory written lengths used string_cells lengths_in cut_by strings_in component_bytes components_bytes record_bytes records_bytes component_in components_from components_in record_in records_from records_in
sample-holds = record { program = refl; answers = refl }

-- `PISZ: SKOCZ PISZ`, as load made it while labels might be named so: the table passes 62 and runs; the text is refused by now
abbrev old_program : Program
old_program =
    record {
      code = record { op = Op.SKOCZ; line = 2; first = Arg.label 0; second = Arg.nothing; third = Arg.nothing } ∷ [];
      labels = record { name = bytes "PISZ"; target = 0 } ∷ [];
      switches = [];
      texts = [];
      numbers = [];
    }

pub record OldTable : Type 0 where
  pub refused : load_in limit.table (bytes "SEKCJA S\nPISZ: SKOCZ PISZ\nKONS\nKONP S") ≡ Loaded.refused 70 2
  pub runs : answers (history old_program (table_cells old_program) (start_on none ∷ run_on none 3 ∷ []) (replicate 40960 0)) ≡ (80, 0) ∷ (81, 3) ∷ []

pub old-table-runs : OldTable
unfolding has_macros prepared macros.loaded load_in opened-load opened table_after result_of good_table table_cells padded switch_cells fours unfours code uncode tab program_in program_of good_program good_instr listed good_label good_switch good_return good_inputs store_faults good_store good_state started known file_strings strings state_cells threes_in files_in twos_in state_by state_in state_of good_memory written lengths used string_cells lengths_in cut_by strings_in component_bytes components_bytes record_bytes records_bytes component_in components_from components_in record_in records_from records_in
old-table-runs = record { refused = refl; runs = refl }
