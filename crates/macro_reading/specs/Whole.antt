-- The list of macros and the section of a text in cells.
use Rattle.std.specs.Prelude.{◌≡◌, not, List, [], ◌∷◌, ◌++◌, ℕ, ◌+◌, ◌*◌, ◌≤◌, ◌<◌, length, take, drop}
use Rattle.language.specs.Limits as limit
use Rattle.lists.specs.Lists.{each, filled, if_any, keep}
use Rattle.statements.specs.Faults.{Fault}
use Rattle.statements.specs.Faults.{lower}
use Rattle.statements.specs.StatementAt.{fault_of}
use Rattle.macros.specs.Elements as spec
use Rattle.macros.specs.Elements.{is_end, is_close, places_in, from, elements}
use Rattle.macros.specs.Macros.{macro_of, definition_faults, macro_list_faults, section, list_change}
use Rattle.macros.specs.Marks.{marked}
use Rattle.macros.specs.Pieces.{Change, section_changes, is_stray, form_faults}
use Rattle.macros.specs.Prepared.{listed}
use Rattle.macro_code.specs.Code.{high, low, change_count, first_change, changes_in, behind_changes, macros_in}
use Rattle.macro_code.specs.Places as place
use Rattle.macro_changes.specs.Changing.{Kept}
use Rattle.macro_elements.specs.ElementAt.{elements_from, argument_value, Lent, Held}
use Rattle.macro_elements.specs.declared.Element.{Element}
use Rattle.macro_reading.specs.Definitions.{defined_in, last_in, after_in}
use Rattle.macro_reading.specs.Sections.{tail_faults}
use Rattle.macro_reading.specs.declared.Listing.{Listing}

-- the record of the section at the cell q: it is the whole text, with these changes
pub record SectionCells (s d : List ℕ) (q : ℕ) (cs : List Change) : Type 0 where
  pub starts : high d (q + place.span_cell) ≡ 0
  pub stops : low d (q + place.span_cell) ≡ length s
  pub changes_are : changes_in s d (first_change d q) (change_count d q) ≡ cs

-- the section from place n on, with its record at the cell q; so many changes stand there already, before the cell u
pub record Sectioned (s m c : List ℕ) (q before u n : ℕ) : Type 0 where
  pub lent : Lent s m n
  pub few : before ≤ 1
  pub first : q + place.parameter_cells ≤ u
  pub there : behind_changes c (q + place.parameter_cells) before ≡ u
  pub room : u + 2 * length s ≤ length c + 2 * n
  pub wide : length c ≤ 131072

pub record SectionRead (s c d : List ℕ) (q before n : ℕ) (r : Fault) : Type 0 where
  pub kept_is : Kept c d q
  pub cells : SectionCells s d q (changes_in s c (q + place.parameter_cells) before ++ section_changes (length s) (elements_from s n))
  pub fault_is : r ≡ fault_of (form_faults (is_stray []) [] (elements_from s n))

-- the list is a change without pieces
abbrev pub gone : ℕ → ℕ → Change
gone at stop = record { start = at; stop = stop; pieces = [] }

abbrev pub follow_faults : List spec.Element → List ℕ
follow_faults ts = places_in (keep (λ t. not (is_end t)) (take 1 ts))

-- a list begins with the bracket t
pub record Bracketed (s m c firsts : List ℕ) (t : Element) : Type 0 where
  pub copy : m ≡ marked s
  pub held : Held s t
  pub more : t.at < t.next
  pub room : place.cells ≤ length c
  pub wide : length c ≤ 131072
  pub macros_room : place.macros ≤ length firsts

-- all that follows from it on
abbrev pub list_from : List ℕ → Element → List spec.Element
list_from s t = argument_value s t ∷ elements_from s t.next

-- where it begins, and where it stops
abbrev pub list_at : List spec.Element → ℕ
list_at us = if_any 0 (λ t. t.at) us

abbrev pub list_stop : List ℕ → List spec.Element → ℕ
list_stop s us = if_any (length s) (λ t. t.at + 1) (from is_close (last_in (drop 1 us)))

pub record ListRead (s d firsts : List ℕ) (t : Element) (first : Fault) (r : Listing) : Type 0 where
  pub few : r.count ≤ place.macros
  pub low : r.section < place.half
  pub macros_are : macros_in s d firsts r.count ≡ each (macro_of s) (defined_in (drop 1 (list_from s t)))
  pub cells : SectionCells s d r.section
      (gone (list_at (list_from s t)) (list_stop s (list_from s t)) ∷ section_changes (length s) (after_in (drop 1 (list_from s t))))
  pub fault_is : r.fault
      ≡ lower (lower (lower (lower first (fault_of (follow_faults (after_in (drop 1 (list_from s t)))))) (fault_of (each definition_faults (defined_in (drop 1 (list_from s t))))))
      (fault_of (tail_faults (list_at (list_from s t)) (filled (defined_in (drop 1 (list_from s t)))) (last_in (drop 1 (list_from s t))))))
      (fault_of (form_faults (is_stray []) [] (after_in (drop 1 (list_from s t)))))

-- a text and its marked copy, with rows of cells that are long enough
pub record LentRows (s m c firsts : List ℕ) : Type 0 where
  pub copy : m ≡ marked s
  pub size : length s ≤ limit.text
  pub room : place.cells ≤ length c
  pub wide : length c ≤ 131072
  pub macros_room : place.macros ≤ length firsts

pub record MacrosRead (s d firsts : List ℕ) (r : Listing) : Type 0 where
  pub few : r.count ≤ place.macros
  pub low : r.section < place.half
  pub macros_are : macros_in s d firsts r.count ≡ listed s
  pub cells : SectionCells s d r.section (list_change (length s) (elements s) ++ section_changes (length s) (section (elements s)))
  pub fault_is : r.fault ≡ fault_of (macro_list_faults (elements s) ++ form_faults (is_stray []) [] (section (elements s)))
