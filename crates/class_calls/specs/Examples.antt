-- Classes, computed.
use Rattle.std.specs.Prelude.{◌≡◌, refl, List, [], ◌∷◌, ℕ, ◌*◌, length, replicate}
use Rattle.lists.specs.Quoted.{bytes}
use Rattle.characters.specs.Characters.{known}
use Rattle.language.specs.Limits as limit
use Rattle.machine.specs.Steps.{opened}
use Rattle.machine.specs.WellFormed.{listed, good_instr, good_label, good_switch, good_return, good_program, good_inputs, store_faults, good_store, good_state, started}
use Rattle.layout.specs.Cells.{fours, unfours, code, uncode, tab, padded}
use Rattle.layout.specs.Components.{component_bytes, components_bytes, record_bytes, records_bytes, component_in, components_from, components_in, record_in, records_from, records_in}
use Rattle.layout.specs.Memory.{file_strings, strings, state_cells, threes_in, files_in, twos_in, state_by, state_in, state_of, good_memory, written}
use Rattle.layout.specs.Strings.{lengths, used, string_cells, lengths_in, cut_by, strings_in}
use Rattle.layout.specs.Table.{switch_cells, table_cells, program_in, program_of, good_table}
use Rattle.macros.specs.Load.{loaded, load_in, load_of}
use Rattle.macros.specs.Marks.{has_macros}
use Rattle.macros.specs.Prepared.{prepared}
use Rattle.syntax.specs.Load.{opened as opened-load}
use Rattle.calls.specs.Calls.{table_after, result_of}
use Rattle.class_calls.specs.Class.{Pupil, Lent, told_of, pupil, pupils, class_of, results_of, outputs_of}
use Rattle.class_calls.specs.Class.ClassReply.{class_refused, taken}

-- the table of a text
abbrev table : List ℕ → List ℕ
table s = table_after (load_of s) (replicate limit.table 0)

abbrev told : ℕ → ℕ → List ℕ → Pupil
told number count q1 = record { number = number; count = count; q1 = q1 }

-- the inputs end to end, their lengths, the budgets; cells and bytes that are just enough, all 7
abbrev lent : List ℕ → List ℕ → List ℕ → Lent
lent s ns bs = record { data_in = s; lengths = ns; budgets = bs; results = replicate (3 * length ns) 7; out = replicate (limit.output * length ns) 7 }

-- a refused input has no effect on the others; a budget of its own for each
second-refused : class_of (table (bytes "SEKCJA S\nCZYTAJ I1,A1\nPISZ A1,Q1\nSTOP\nKONS\nKONP S\n")) (lent (65 ∷ 66 ∷ 0 ∷ 67 ∷ []) (2 ∷ 1 ∷ 1 ∷ []) (9 ∷ 9 ∷ 1 ∷ []))
    ≡ taken (told 50 2 (bytes "AB") ∷ told 61 0 ([]) ∷ told 81 1 ([]) ∷ [])
unfolding has_macros prepared loaded load_in opened-load opened table_after result_of good_table table_cells padded switch_cells fours unfours code uncode tab program_in program_of good_program good_instr listed good_label good_switch good_return good_inputs store_faults good_store good_state started known file_strings strings state_cells threes_in files_in twos_in state_by state_in state_of good_memory written lengths used string_cells lengths_in cut_by strings_in component_bytes components_bytes record_bytes records_bytes component_in components_from components_in record_in records_from records_in told_of pupil pupils class_of results_of outputs_of
second-refused = refl

-- a stop other than that of STOP, and a pause, give their Q1 too
stop-and-pause : class_of (table (bytes "SEKCJA S\nUMIESC 'P',Q1\nDODAJ A1,1\nSTOP\nKONS\nKONP S\n")) (lent ([]) (0 ∷ 0 ∷ []) (9 ∷ 1 ∷ []))
    ≡ taken (told 52 1 (bytes "P") ∷ told 81 1 (bytes "P") ∷ [])
unfolding has_macros prepared loaded load_in opened-load opened table_after result_of good_table table_cells padded switch_cells fours unfours code uncode tab program_in program_of good_program good_instr listed good_label good_switch good_return good_inputs store_faults good_store good_state started known file_strings strings state_cells threes_in files_in twos_in state_by state_in state_of good_memory written lengths used string_cells lengths_in cut_by strings_in component_bytes components_bytes record_bytes records_bytes component_in components_from components_in record_in records_from records_in told_of pupil pupils class_of results_of outputs_of
stop-and-pause = refl

-- no pupils
no-pupils : class_of (table (bytes "SEKCJA S\nCZYTAJ I1,A1\nPISZ A1,Q1\nSTOP\nKONS\nKONP S\n")) (lent [] [] []) ≡ taken []
unfolding has_macros prepared loaded load_in opened-load opened table_after result_of good_table table_cells padded switch_cells fours unfours code uncode tab program_in program_of good_program good_instr listed good_label good_switch good_return good_inputs store_faults good_store good_state started known file_strings strings state_cells threes_in files_in twos_in state_by state_in state_of good_memory written lengths used string_cells lengths_in cut_by strings_in component_bytes components_bytes record_bytes records_bytes component_in components_from components_in record_in records_from records_in told_of pupil pupils class_of results_of outputs_of
no-pupils = refl

-- 16 lengths and 17
abbrev many : ℕ → Lent
many n = lent (replicate 17 65) (replicate n 1) (replicate n 0)

seventeen : class_of (table (bytes "SEKCJA S\nCZYTAJ I1,A1\nPISZ A1,Q1\nSTOP\nKONS\nKONP S\n")) (many 17) ≡ class_refused 71
unfolding has_macros prepared loaded load_in opened-load opened table_after result_of good_table table_cells padded switch_cells fours unfours code uncode tab program_in program_of good_program good_instr listed good_label good_switch good_return good_inputs store_faults good_store good_state started known file_strings strings state_cells threes_in files_in twos_in state_by state_in state_of good_memory written lengths used string_cells lengths_in cut_by strings_in component_bytes components_bytes record_bytes records_bytes component_in components_from components_in record_in records_from records_in told_of pupil pupils class_of results_of outputs_of
seventeen = refl

-- sums of a byte too few and too many; two budgets for one length; a byte and a cell too few
abbrev one_pupil : ℕ → List ℕ → ℕ → ℕ → Lent
one_pupil n bs cells room = record { data_in = replicate 17 65; lengths = n ∷ []; budgets = bs; results = replicate cells 7; out = replicate room 7 }

pub record Refused (c : List ℕ) : Type 0 where
  pub less : class_of c (one_pupil 16 (1 ∷ []) 3 4096) ≡ class_refused 71
  pub more : class_of c (one_pupil 18 (1 ∷ []) 3 4096) ≡ class_refused 71
  pub budgets : class_of c (one_pupil 17 (1 ∷ 1 ∷ []) 3 4096) ≡ class_refused 71
  pub cell : class_of c (one_pupil 17 (1 ∷ []) 2 4096) ≡ class_refused 71
  pub byte : class_of c (one_pupil 17 (1 ∷ []) 3 4095) ≡ class_refused 71

all-refused : Refused (table (bytes "SEKCJA S\nCZYTAJ I1,A1\nPISZ A1,Q1\nSTOP\nKONS\nKONP S\n"))
unfolding has_macros prepared loaded load_in opened-load opened table_after result_of good_table table_cells padded switch_cells fours unfours code uncode tab program_in program_of good_program good_instr listed good_label good_switch good_return good_inputs store_faults good_store good_state started known file_strings strings state_cells threes_in files_in twos_in state_by state_in state_of good_memory written lengths used string_cells lengths_in cut_by strings_in component_bytes components_bytes record_bytes records_bytes component_in components_from components_in record_in records_from records_in told_of pupil pupils class_of results_of outputs_of
all-refused = record { less = refl; more = refl; budgets = refl; cell = refl; byte = refl }

-- 62 comes first
no_table : class_of (replicate limit.table 1) (one_pupil 16 [] 0 0) ≡ class_refused 62
unfolding has_macros prepared loaded load_in opened-load opened table_after result_of good_table table_cells padded switch_cells fours unfours code uncode tab program_in program_of good_program good_instr listed good_label good_switch good_return good_inputs store_faults good_store good_state started known file_strings strings state_cells threes_in files_in twos_in state_by state_in state_of good_memory written lengths used string_cells lengths_in cut_by strings_in component_bytes components_bytes record_bytes records_bytes component_in components_from components_in record_in records_from records_in told_of pupil pupils class_of results_of outputs_of
no_table = refl

-- what is written
ps : List Pupil
ps = told 50 2 (bytes "AB") ∷ told 61 0 [] ∷ []

written-results : results_of ps (replicate 8 7) ≡ 50 ∷ 2 ∷ 2 ∷ 61 ∷ 0 ∷ 0 ∷ 7 ∷ 7 ∷ []
unfolding results_of ps
written-results = refl
