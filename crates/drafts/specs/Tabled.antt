-- The tables of a text that is being read, as the loader keeps them: the program table holds the draft of the program; beside it stand the marks of
-- the switches' names and of the entries' labels.
use Rattle.std.specs.Prelude.{◌≡◌, List, map, ℕ, ◌<◌, T, length, get_or, take}
use Rattle.acceptance.specs.Below.LayoutBounds.{Each}
use Rattle.lists.specs.Lists.{each, keep}
use Rattle.acceptance.specs.Drafts.{SoundTables}
use Rattle.acceptance.specs.Below.Items.{Item, is}
use Rattle.acceptance.specs.Below.Items.Sort.{word}
use Rattle.acceptance.specs.Below.Tables.{Tables}
use Rattle.writing.specs.Writing.{HoldsProgram}
use Rattle.drafts.specs.Marks.{mark, word_by, Marked}
use Rattle.drafts.specs.Drafting.{draft_program}

-- a word of the text s: its mark names it
pub record Spelt (s : List ℕ) (i : Item) : Type 0 where
  pub is_there : T (is word i) → Marked s (mark i)
  pub spells : T (is word i) → word_by s (mark i) ≡ i.chars

-- the words of all entries, switch by switch: the labels that they name
abbrev pub entry_items : Tables → List Item
entry_items t = each (λ c. keep (is word) c.list) t.switches

-- s are the bytes of the text and `lines` their lines; c is the lent table, sw and en are the marks of switches and entries
pub record Tabled (s lines : List ℕ) (t : Tables) (c sw en : List ℕ) : Type 0 where
  pub sound : SoundTables (length s) t
  pub holds : HoldsProgram c (draft_program lines t)
  pub spelt_arguments : Each (λ w. Each (λ a. Spelt s a.item) w.args) t.code
  pub spelt_entries : Each (Spelt s) (entry_items t)
  pub switch_names : map (word_by s) (take (length t.switches) sw) ≡ map (λ c. c.name) t.switches
  pub switch_marked : (k : ℕ) → k < length t.switches → Marked s (get_or sw k 0)
  pub entry_marks : take (length (entry_items t)) en ≡ map mark (entry_items t)
