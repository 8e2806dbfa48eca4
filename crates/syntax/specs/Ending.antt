-- The questions asked of the whole text at its end: 25, 12, 13.
use Rattle.std.specs.Prelude.{Bool, true, false, cond, not, ◌&&◌, List, [], ◌∷◌, ◌++◌, ℕ, pred, length, drop}
use Rattle.std.specs.Bool.{beq}
use Prim.Native.String.{String}
use Rattle.language.specs.Instructions.{operation, is_end}
use Rattle.language.specs.Below.Lists.{any, filled, keep, each, bytes_equal}
use Rattle.syntax.specs.ArgumentForms.{of_form}
use Rattle.syntax.specs.Items.{Item, is, places}
use Rattle.syntax.specs.Items.Sort.{word}
use Rattle.syntax.specs.Tables.{Tables, Draft, is_first}
use Rattle.syntax.specs.Verdict.{Question, ask}

-- "for an absent statement that of the last byte"
abbrev pub last_place : List ℕ → ℕ
last_place s = pred (length s)

abbrev pub absent : Bool → ℕ → List ℕ
absent there last = cond there [] (last ∷ [])

-- 25. A KONP before any KONS is out of place, unless KONS is absent
unfoldable pub end_faults : ℕ → Draft → List ℕ
end_faults last d =
    let code = d.tables.code in
    d.closing.faults
    ++ cond d.closing.after_KONS d.closing.early (last ∷ [])
    ++ absent d.closing.after_KONP last
    ++ absent (filled code) last
    ++ each (λ i. cond (is_end (operation i.op).flow) [] (i.at ∷ [])) (drop (pred (length code)) code)
    ++ places d.waiting

-- all arguments of some forms
abbrev pub given_as : String → Tables → List Item
given_as fs t = each (λ i. of_form fs i.args) t.code

-- 12. Every entry of a switch is a use
abbrev pub used_labels : Tables → List Item
used_labels t = given_as "l" t ++ each (λ c. keep (is word) c.list) t.switches

unfoldable pub undeclared_labels : Tables → List ℕ
undeclared_labels t = places (keep (λ i. not (any (λ l. bytes_equal i.chars l.name) t.labels)) (used_labels t))

-- 13
unfoldable pub undeclared_switches : Bool → Tables → List ℕ
undeclared_switches goes_by_name t =
    places (keep (λ i. not (any (λ c. bytes_equal i.chars c.name && beq goes_by_name c.goes_by_name) t.switches)) (given_as (cond goes_by_name "w" "x") t))

-- All questions of a text with its last byte at a place, after all its statements
unfoldable pub last_questions : ℕ → Draft → List Question
last_questions last d =
    -- "Is the first statement SEKCJA", where there is no statement
    ask 0 (absent (not (is_first d)) last)
    -- "KONS and KONP as above, nothing but separators, `;` and new lines after, at least one instruction, the last of them STOP, SKOCZ or WROC,
    -- an instruction after each label that names no switch?"
    ∷ ask 25 (end_faults last d)
    -- "Every used label declared (a switch's name is none)?"
    ∷ ask 12 (undeclared_labels d.tables)
    -- "Every used switch declared, of the type its instruction needs?"
    ∷ ask 13 (undeclared_switches true d.tables ++ undeclared_switches false d.tables)
    ∷ []
