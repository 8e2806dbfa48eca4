-- What the cells t of a program table have to be, part by part (question 62).
use Rattle.std.specs.Prelude.{Bool, true, false, cond, not, ◌&&◌, ◌||◌, List, [], ◌∷◌, ℕ, zero, suc, ◌+◌, ◌*◌, ◌-◌, ◌/◌, ◌%◌, ◌^◌, leb, ltb, eqb}
use Rattle.std.specs.Int.Bits.{bit_and}
use Rattle.language.specs.Limits as limit
use Rattle.characters.specs.Characters.{known, is_capital, is_digit}
use Rattle.layout.specs.Cells.{cell, unfours}
use Rattle.layout.specs.Places as layout
use Rattle.forms.specs.Forms.{set_at}

-- f passes for the n numbers from k on
unfoldable pub passes : (ℕ → Bool) → ℕ → ℕ → Bool
passes f zero k = true
passes f (suc n) k = f k && passes f n (suc k)

-- the letter at a place in the list of letters has an index from 1; I and Q go to 2, the others to 32
abbrev pub index_top : ℕ → ℕ
index_top l = cond (eqb l 5 || eqb l 8) 2 32

unfoldable pub letter_fits : ℕ → Bool
letter_fits v = ltb (v / 64) 12 && ltb 0 (v % 64) && leb (v % 64) (index_top (v / 64))

abbrev pub class_fits : ℕ → Bool
class_fits v = ltb 0 v && ltb v 16

-- the sets of forms a, b and d have a form of each place of an instruction's list
unfoldable pub takes : ℕ → ℕ → ℕ → ℕ → Bool
takes a op list place = not (eqb (bit_and a (set_at op list place)) 0)

abbrev pub list_takes : ℕ → ℕ → ℕ → ℕ → ℕ → Bool
list_takes op a b d list = takes a op list 0 && takes b op list 1 && takes d op list 2

unfoldable pub lists_take : ℕ → ℕ → ℕ → ℕ → Bool
lists_take op a b d = list_takes op a b d 0 || list_takes op a b d 1

-- operator and line
unfoldable pub head_fits : ℕ → Bool
head_fits x = ltb 0 (x % 64) && leb (x % 64) 41 && ltb 0 (x / 64) && leb (x / 64) limit.text

abbrev pub alphanumeric : ℕ → Bool
alphanumeric b = is_capital b || is_digit b

module _ (t : List ℕ) where
  -- the cells from one place up to another are zero
  abbrev pub zeros : ℕ → ℕ → Bool
  zeros from to = passes (λ k. eqb (cell t k) 0) (to - from) from

  -- character j, four to a cell, of those from cell at on
  unfoldable pub char : ℕ → ℕ → ℕ
  char at j = cell (unfours (cell t (at + j / 4) ∷ [])) (j % 4)

  -- character j of n: one of a name or one of a text; the places behind them are zero
  unfoldable pub char_fits : ℕ → ℕ → Bool → ℕ → Bool
  char_fits at n name j = cond (ltb j n) (cond name (alphanumeric (char at j)) (known (char at j))) (eqb (char at j) 0)

  abbrev pub chars_fit : ℕ → ℕ → Bool → Bool
  chars_fit at n name = passes (char_fits at n name) 60 0

  -- text k has 2 to 60 characters
  unfoldable pub text_fits : ℕ → Bool
  text_fits k = ltb 1 (cell t (layout.first_text + 16 * k)) && leb (cell t (layout.first_text + 16 * k)) 60 && chars_fit (layout.first_characters + 16 * k) (cell t (layout.first_text + 16 * k)) false

  -- the 16 cells from one place on are those from another on; so are those of the texts i and j
  abbrev pub rows_same : ℕ → ℕ → Bool
  rows_same first second = passes (λ q. eqb (cell t (first + q)) (cell t (second + q))) 16 0

  unfoldable pub texts_same : ℕ → ℕ → Bool
  texts_same i j = passes (λ q. eqb (cell t (layout.first_text + 16 * i + q)) (cell t (layout.first_text + 16 * j + q))) 16 0

  -- number k is in range and beyond 15 in size
  unfoldable pub number_fits : ℕ → Bool
  number_fits k = leb (cell t (layout.first_number + k)) 16777214 && (ltb (cell t (layout.first_number + k)) 8388592 || ltb 8388622 (cell t (layout.first_number + k)))

  -- label k has a name of 1 to 60 characters, and an instruction
  unfoldable pub label_fits : ℕ → Bool
  label_fits k =
      ltb 0 (cell t (layout.first_label + 16 * k) % 64)
      && leb (cell t (layout.first_label + 16 * k) % 64) 60
      && is_capital (char (layout.first_name + 16 * k) 0)
      && chars_fit (layout.first_name + 16 * k) (cell t (layout.first_label + 16 * k) % 64) true
      && ltb (cell t (layout.first_label + 16 * k) / 64) (cell t layout.instruction_count)

  -- the reference of a text: one of the 87 characters, or a text of the table
  unfoldable pub ref_fits : ℕ → Bool
  ref_fits v = cond (ltb v 256) (known v) (ltb v (256 + cell t layout.text_count))

  -- entry k of a switch has a label, and a text only where the switch is by name
  unfoldable pub entry_fits : Bool → ℕ → Bool
  entry_fits named k =
      ltb (cell t (layout.first_entry + k) % 128) (cell t layout.label_count) && (eqb (cell t (layout.first_entry + k) / 128) 0 || (named && ref_fits (cell t (layout.first_entry + k) / 128)))

  -- an argument's cell x
  unfoldable pub arg_fits : ℕ → Bool
  arg_fits x =
      cond (eqb (x % 8) 1) (letter_fits (x / 8))
      (cond (eqb (x % 8) 2) (ltb (x / 8) (cell t layout.label_count))
      (cond (eqb (x % 8) 3) (ltb (x / 8) (cell t layout.switch_count))
      (cond (eqb (x % 8) 4) (class_fits (x / 8))
      (cond (eqb (x % 8) 5) (ref_fits (x / 8))
      (cond (eqb (x % 8) 6) (ltb (x / 8) (layout.small_numbers + cell t layout.number_count))
      (eqb x 0))))))

  -- the set of its form
  unfoldable pub form_bit : ℕ → ℕ
  form_bit x =
      cond (eqb (x % 8) 1) (cond (ltb (x / 8 / 64) 12) (2 ^ (x / 8 / 64)) 0)
      (cond (eqb (x % 8) 2) 32768
      (cond (eqb (x % 8) 3) (cond (eqb (cell t (layout.first_switch + x / 8) % 2) 1) 65536 131072)
      (cond (eqb (x % 8) 4) 8192
      (cond (eqb (x % 8) 5) 16384
      (cond (eqb (x % 8) 6) 4096
      262144)))))

  -- instruction i
  unfoldable pub instr_fits : ℕ → Bool
  instr_fits i =
      head_fits (cell t (layout.first_instruction + 4 * i))
      && arg_fits (cell t (layout.first_argument + 4 * i))
      && arg_fits (cell t (layout.second_argument + 4 * i))
      && arg_fits (cell t (layout.third_argument + 4 * i))
      && lists_take (cell t (layout.first_instruction + 4 * i) % 64) (form_bit (cell t (layout.first_argument + 4 * i))) (form_bit (cell t (layout.second_argument + 4 * i))) (form_bit (cell t (layout.third_argument + 4 * i)))
