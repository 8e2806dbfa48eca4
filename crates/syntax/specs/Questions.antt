-- The questions asked of each statement, in document 01's order.
use Rattle.std.specs.Prelude.{Bool, false, cond, not, ◌&&◌, ◌||◌, List, [], ◌∷◌, ◌++◌, ℕ, ◌-◌, ltb, length, drop}
use Rattle.language.specs.Limits as limit
use Rattle.language.specs.Program.{identifier, Op}
use Rattle.language.specs.Below.Lists.{any, filled, keep, each, bytes_equal}
use Rattle.syntax.specs.ArgumentForms.{arguments_in, arguments, of_form, most, least}
use Rattle.syntax.specs.Items.{Item, is, places}
use Rattle.syntax.specs.Items.Sort.{word, colon, text, wrong}
use Rattle.syntax.specs.Statements.{same_keyword, by_keyword, keyword_of, front, labels_in, operator, keyword_in, own, reserved, rest, is_name, one_name, list_faults}
use Rattle.syntax.specs.Statements.Keyword.{unknown, SEKCJA}
use Rattle.syntax.specs.Tables.{Tables, Draft, is_first, all_labels, new_texts, new_numbers}
use Rattle.syntax.specs.Verdict.{Question, ask}

-- 00. An empty statement is skipped
unfoldable pub first_faults : List Item → List ℕ
first_faults [] = []
first_faults (i ∷ js) =
    cond (not (filled i.colon) && same_keyword SEKCJA (keyword_of i)) (one_name identifier i.at js) (i.at ∷ [])

-- 10. "an item or `:` of no listed form brings 02, before the arguments 10"; in a section of one edition "the other's own operators bring 10"
unfoldable pub operator_faults : Bool → List Item → List ℕ
operator_faults english x =
    places (keep (λ i. not (is_name i)) (front x))
    ++ places (keep (λ i. same_keyword unknown (keyword_of i) || same_keyword SEKCJA (keyword_of i) || own (not english) i.chars) (operator x))

-- 08. Without a label the operator is at fault, otherwise each label in excess
unfoldable pub label_faults : List Item → List Item → List ℕ
label_faults ls x = by_keyword (λ op. []) (λ goes_by_name. cond (filled ls) (places (drop 1 ls)) (places (operator x))) [] (keyword_in x)

-- 06
unfoldable pub repeated : List (List ℕ) → List Item → List ℕ
repeated names [] = []
repeated names (l ∷ ls) = cond (any (bytes_equal l.chars) names) (l.at ∷ []) [] ++ repeated (names ++ (l.chars ∷ [])) ls

-- 01. Each argument in excess is at fault; switches take any number
unfoldable pub count_faults : List Item → List ℕ
count_faults x = by_keyword (λ op. places (drop (most op) (arguments_in (rest x)))) (λ goes_by_name. []) [] (keyword_in x)

-- 02. A `:` among an instruction's arguments is at fault; where one is missing, the operator is
unfoldable pub instr_faults : List Item → Op → List ℕ
instr_faults x op =
    each (λ i. cond (is colon i) (i.at ∷ []) i.colon) (rest x)
    ++ cond (ltb (length (arguments_in (rest x))) (least op)) (places (operator x)) []
    ++ places (of_form "-" (arguments op (rest x)))

unfoldable pub switch_faults : List Item → Bool → List ℕ
switch_faults x goes_by_name = cond (filled (rest x)) (list_faults goes_by_name false (rest x)) (places (operator x))

-- 11. Of some places, those past a limit, where so many are held already
abbrev pub beyond : ℕ → ℕ → List ℕ → List ℕ
beyond most held ps = drop (most - held) ps

-- "labels alone .. belong to the next statement": they count with their instruction
unfoldable pub instr_beyond : Tables → List Item → List Item → List ℕ
instr_beyond t ls x =
    beyond limit.instructions (length t.code) (places (operator x))
    ++ beyond limit.labels (length t.labels) (places ls)
    ++ beyond limit.texts (length t.texts) (places (new_texts t (rest x)))
    ++ beyond limit.numbers (length t.numbers) (places (new_numbers t (rest x)))

unfoldable pub switch_beyond : Tables → List Item → List ℕ
switch_beyond t x =
    beyond limit.switches (length t.switches) (places (operator x))
    ++ beyond limit.entries (length (each (λ c. keep (is word) c.list) t.switches)) (places (keep (is word) (rest x)))
    ++ beyond limit.texts (length t.texts) (places (new_texts t (rest x)))

-- All questions of a statement x, after the statements of the draft d
unfoldable pub questions : Draft → List Item → List Question
questions d x =
    -- "outside texts and comments, only A to Z, 0 to 9, space , : ; ' + - and new line, each comment closed?"
    ask 14 (places (keep (is wrong) x))
    -- "Each text closed on its line, not empty, of allowed characters and pairs?"
    ∷ ask 15 (places (keep (λ i. is text i && not (i.good && filled i.chars)) x))
    -- "Each length within 60?"
    ∷ ask 16 (places (keep (λ i. ltb limit.item (length i.chars)) x))
    -- "Is the first statement SEKCJA and one name, unlabelled?"
    ∷ ask 0 (cond (is_first d) (first_faults x) [])
    -- "Is the operator known, and no second SEKCJA?"
    ∷ ask 10 (cond (is_first d) [] (operator_faults d.english x))
    -- "Has each switch exactly one label?"
    ∷ ask 8 (label_faults (all_labels d x) x)
    -- "Is each label new?"
    ∷ ask 6 (repeated d.names (labels_in x))
    -- "after 06, is the label none of these?"
    ∷ ask 70 (places (keep (λ l. reserved l.chars) (labels_in x)))
    -- "Not too many arguments?"
    ∷ ask 1 (count_faults x)
    -- "Each argument listed for its place, index and number in range, none missing?"
    ∷ ask 2 (by_keyword (instr_faults x) (switch_faults x) [] (keyword_in x))
    -- "Tables within limits?"
    ∷ ask 11 (by_keyword (λ op. instr_beyond d.tables (all_labels d x) x) (λ goes_by_name. switch_beyond d.tables x) [] (keyword_in x))
    ∷ []
