-- The questions of a statement x after the draft d, in the groups in which the loader asks them: of its items, its head, its names, its arguments, and
-- the tables.
use Rattle.std.specs.Prelude.{Bool, cond, not, ◌&&◌, List, [], ◌∷◌, ◌++◌, ltb, length}
use Rattle.layout.specs.Below.Limits as limit
use Rattle.layout.specs.Below.Lists.{filled, keep}
use Rattle.lexer.specs.Below.Items.{Item, is, places}
use Rattle.lexer.specs.Below.Items.Sort.{text, wrong}
use Rattle.lexer.specs.Below.Questions.{first_faults, operator_faults, label_faults, repeated, count_faults, instr_faults, switch_faults, instr_beyond, switch_beyond}
use Rattle.lexer.specs.Below.Statements.{by_keyword, reserved, labels_in, keyword_in}
use Rattle.lexer.specs.Below.Tables.{Draft, is_first, all_labels}
use Rattle.lexer.specs.Below.SyntaxVerdict.{Question, ask}

-- 15: a text that is open, empty or of what may not stand in one. 16: an item that is too long
abbrev pub bad_text : Item → Bool
bad_text i = is text i && not (i.good && filled i.chars)

abbrev pub too_long : Item → Bool
too_long i = ltb limit.item (length i.chars)

abbrev pub item_questions : List Item → List Question
item_questions x =
    ask 14 (places (keep (is wrong) x)) ∷ ask 15 (places (keep bad_text x)) ∷ ask 16 (places (keep too_long x)) ∷ []

abbrev pub head_questions : Draft → List Item → List Question
head_questions d x =
    ask 0 (cond (is_first d) (first_faults x) [])
    ∷ ask 10 (cond (is_first d) [] (operator_faults d.english x))
    ∷ ask 8 (label_faults (all_labels d x) x)
    ∷ []

abbrev pub name_questions : Draft → List Item → List Question
name_questions d x = ask 6 (repeated d.names (labels_in x)) ∷ ask 70 (places (keep (λ l. reserved l.chars) (labels_in x))) ∷ []

abbrev pub argument_questions : List Item → List Question
argument_questions x = ask 1 (count_faults x) ∷ ask 2 (by_keyword (instr_faults x) (switch_faults x) [] (keyword_in x)) ∷ []

abbrev pub table_questions : Draft → List Item → List Question
table_questions d x =
    ask 11 (by_keyword (λ op. instr_beyond d.tables (all_labels d x) x) (λ goes_by_name. switch_beyond d.tables x) [] (keyword_in x)) ∷ []

-- all that come before the tables' limits
abbrev pub early_questions : Draft → List Item → List Question
early_questions d x = item_questions x ++ (head_questions d x ++ (name_questions d x ++ argument_questions x))
