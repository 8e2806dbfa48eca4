-- Question 62, asked of the cells t of a program table: counts, the cells behind each part, texts, numbers, labels, switches and instructions.
use Rattle.std.specs.Prelude.{Bool, not, ◌&&◌, List, ℕ, zero, suc, ◌+◌, ◌*◌, ◌-◌, ◌%◌, ◌≤◌, leb, ltb, eqb}
use Rattle.language.specs.Limits as limit
use Rattle.forms.specs.Forms.{ends}
use Rattle.layout.specs.Cells.{cell}
use Rattle.layout.specs.Places as layout
use Rattle.packed.specs.Packed.{table_of}
use Rattle.table.specs.Reads.{switch_first, switch_size}
use Rattle.check_parts.specs.Parts.{passes, zeros, text_fits, texts_same, number_fits, label_fits, entry_fits, instr_fits}

-- the counts of a table are within the limits
pub record Counted (c : List ℕ) : Type 0 where
  pub code_few : cell (table_of c) 0 ≤ limit.instructions
  pub labels_few : cell (table_of c) 1 ≤ limit.labels
  pub switches_few : cell (table_of c) 2 ≤ limit.switches
  pub entries_few : cell (table_of c) 3 ≤ limit.entries
  pub texts_few : cell (table_of c) 4 ≤ limit.texts
  pub numbers_few : cell (table_of c) 5 ≤ limit.numbers

module _ (t : List ℕ) where
  -- some instructions, and nothing beyond the limits
  unfoldable pub counts_fit : Bool
  counts_fit =
      ltb 0 (cell t layout.instruction_count)
      && leb (cell t layout.instruction_count) limit.instructions
      && leb (cell t layout.label_count) limit.labels
      && leb (cell t layout.switch_count) limit.switches
      && leb (cell t layout.entry_count) limit.entries
      && leb (cell t layout.text_count) limit.texts
      && leb (cell t layout.number_count) limit.numbers
      && eqb (cell t layout.first_spare) 0
      && eqb (cell t layout.last_spare) 0

  -- "unused cells zero"
  unfoldable pub rest_zero : Bool
  rest_zero =
      zeros t (layout.first_instruction + 4 * cell t layout.instruction_count) layout.first_label
      && zeros t (layout.first_label + 16 * cell t layout.label_count) layout.first_text
      && zeros t (layout.first_text + 16 * cell t layout.text_count) layout.first_switch
      && zeros t (layout.first_switch + cell t layout.switch_count) layout.first_entry
      && zeros t (layout.first_entry + cell t layout.entry_count) layout.first_number
      && zeros t (layout.first_number + cell t layout.number_count) limit.table

  -- text i, and number i, differs from those behind it, up to n
  unfoldable pub text_new : ℕ → ℕ → Bool
  text_new n i = passes (λ j. not (texts_same t i j)) (n - (i + 1)) (i + 1)

  unfoldable pub number_new : ℕ → ℕ → Bool
  number_new n i = passes (λ j. not (eqb (cell t (layout.first_number + i)) (cell t (layout.first_number + j)))) (n - (i + 1)) (i + 1)

  -- each text, and each number, is in range and new
  unfoldable pub text_stays : ℕ → ℕ → Bool
  text_stays n i = text_fits t i && text_new n i

  unfoldable pub number_stays : ℕ → ℕ → Bool
  number_stays n i = number_fits t i && number_new n i

  -- switch k has entries, which begin at entry `from`; the switches from k on, n of them, go on from there and end with the last entry
  unfoldable pub switch_fits : ℕ → ℕ → Bool
  switch_fits k from =
      eqb (switch_first t k) from && ltb 0 (switch_size t k) && passes (entry_fits t (eqb (cell t (layout.first_switch + k) % 2) 1)) (from + switch_size t k - from) from

  unfoldable pub switches_fit : ℕ → ℕ → ℕ → Bool
  switches_fit zero k from = eqb from (cell t layout.entry_count)
  switches_fit (suc n) k from = switch_fits k from && switches_fit n (k + 1) (from + switch_size t k)

  -- all of the above
  unfoldable pub parts_fit : Bool
  parts_fit =
      rest_zero
      && passes (text_stays (cell t layout.text_count)) (cell t layout.text_count) 0
      && passes (number_stays (cell t layout.number_count)) (cell t layout.number_count) 0
      && passes (label_fits t) (cell t layout.label_count) 0
      && switches_fit (cell t layout.switch_count) 0 0
      && passes (instr_fits t) (cell t layout.instruction_count) 0
      && ends (cell t (4 + 4 * cell t layout.instruction_count) % 64)
