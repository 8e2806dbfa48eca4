-- What holds of the tables while a text has no fault: each argument reads as its form, the texts and numbers are kept, the limits hold.
use Rattle.std.specs.Prelude.{◌≡◌, Bool, false, cond, not, ◌&&◌, ◌||◌, List, [], ◌++◌, map, ℕ, ◌≤◌, ◌<◌, T, leb, ltb, length, ℤ, nat_abs}
use Rattle.std.specs.Bool.{beq}
use Rattle.layout.specs.Below.Lists.{total, all, any, filled, keep, bytes_equal}
use Rattle.layout.specs.Below.Limits as limit
use Rattle.layout.specs.Below.Program.{identifier, Label}
use Rattle.layout.specs.Below.LanguageValues.{same_number, numeral, in_range}
use Rattle.layout.specs.Below.WellFormed.{good_text, different}
use Rattle.layout.specs.Bounds.{Each}
use Rattle.macros.specs.Below.ArgumentForms.{form_in, reads, Argument, alternatives}
use Rattle.macros.specs.Below.Items.{Item, is}
use Rattle.macros.specs.Below.Items.Sort.{word, text}
use Rattle.macros.specs.Below.Statements.{is_name, list_faults}
use Rattle.macros.specs.Below.Tables.{Written, Choice, Tables, Draft, contents, number_in}
use Rattle.layout.specs.Below.Characters.{known}
use Rattle.acceptance.specs.Reading.{fits}

-- an item of a text of n bytes
pub record SoundItem (n : ℕ) (i : Item) : Type 0 where
  pub place : i.at < n
  pub plain : T (is word i || is text i || not (filled i.chars))
  pub of_known : T (is text i) → T i.good → T (all known i.chars)

-- an item of a statement that has no fault in 15 and 16
pub record FineItem (n : ℕ) (i : Item) : Type 0 where
  pub sound : SoundItem n i
  pub short : length i.chars ≤ limit.item
  pub good : T (is text i) → T (good_text i.chars)

-- "different texts longer than one character", "different numbers beyond 15 in size" stand in the tables
abbrev pub in_texts : List (List ℕ) → List ℕ → Bool
in_texts texts w = leb (length w) 1 || any (bytes_equal w) texts

abbrev pub in_numbers : List ℤ → ℤ → Bool
in_numbers numbers z = leb (nat_abs z) limit.small || any (same_number z) numbers

pub record Kept (texts : List (List ℕ)) (numbers : List ℤ) (i : Item) : Type 0 where
  pub text_kept : T (is text i) → T (in_texts texts i.chars)
  pub number_kept : T (is word i) → T (numeral i.chars) → T (in_numbers numbers (number_in i))

pub record SoundArgument (n : ℕ) (texts : List (List ℕ)) (numbers : List ℤ) (a : Argument) : Type 0 where
  pub as_form : T (reads a.item a.form)
  pub fine : FineItem n a.item
  pub kept : Kept texts numbers a.item

pub record SoundWritten (n : ℕ) (texts : List (List ℕ)) (numbers : List ℤ) (i : Written) : Type 0 where
  pub place : i.at < n
  pub few : length i.args ≤ 3
  pub fit : T (any (fits i.args) (alternatives i.op))
  pub each_argument : Each (SoundArgument n texts numbers) i.args

pub record SoundChoice (n : ℕ) (texts : List (List ℕ)) (c : Choice) : Type 0 where
  pub some : T (filled c.list)
  pub faultless : list_faults c.goes_by_name false c.list ≡ []
  pub fine : Each (FineItem n) c.list
  pub kept : Each (λ i. T (is text i) → T (in_texts texts i.chars)) c.list

pub record SoundLabel (end : ℕ) (l : Label) : Type 0 where
  pub name : T (identifier l.name)
  pub short : length l.name ≤ limit.item
  pub target : l.target < end

pub record SoundTables (n : ℕ) (t : Tables) : Type 0 where
  pub code : Each (SoundWritten n t.texts t.numbers) t.code
  pub labels : Each (SoundLabel (length t.code)) t.labels
  pub switches : Each (SoundChoice n t.texts) t.switches
  pub texts : Each (λ w. T (ltb 1 (length w) && good_text w)) t.texts
  pub numbers : Each (λ z. T (ltb limit.small (nat_abs z) && in_range z)) t.numbers
  pub texts_different : T (different bytes_equal t.texts)
  pub numbers_different : T (different same_number t.numbers)
  pub code_few : length t.code ≤ limit.instructions
  pub labels_few : length t.labels ≤ limit.labels
  pub switches_few : length t.switches ≤ limit.switches
  pub entries_few : total (λ c. length (keep (is word) c.list)) t.switches ≤ limit.entries
  pub texts_few : length t.texts ≤ limit.texts
  pub numbers_few : length t.numbers ≤ limit.numbers

pub record SoundName (n : ℕ) (i : Item) : Type 0 where
  pub fine : FineItem n i
  pub name : T (is_name i)

-- the names of the switches, and of the labels that wait
abbrev pub own_names : Draft → List (List ℕ)
own_names d = map (λ c. c.name) d.tables.switches ++ contents d.waiting

pub record SoundDraft (n : ℕ) (d : Draft) : Type 0 where
  pub tables : SoundTables n d.tables
  pub waiting : Each (SoundName n) d.waiting
  pub own_different : T (different bytes_equal (own_names d))
  pub own_known : Each (λ w. T (any (bytes_equal w) d.names)) (own_names d)

-- a used label or switch is declared
pub record Declared (t : Tables) (a : Argument) : Type 0 where
  pub label_there : T (form_in "l" a.form) → T (any (λ l. bytes_equal a.item.chars l.name) t.labels)
  pub switch_there : (goes_by_name : Bool) → T (form_in (cond goes_by_name "w" "x") a.form)
      → T (any (λ c. bytes_equal a.item.chars c.name && beq goes_by_name c.goes_by_name) t.switches)
