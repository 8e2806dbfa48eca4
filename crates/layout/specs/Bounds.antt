-- What the layouts ask of a program and of a state, and cells that are the bytes of whole components or records.
use Rattle.std.specs.Prelude.{◌≡◌, not, ◌&&◌, ◌||◌, List, [], ◌∷◌, ◌++◌, ℕ, ◌+◌, ◌-◌, ◌≤◌, ◌<◌, T, length, take, drop, nat_abs}
use Rattle.machine.specs.Below.Limits as limit
use Rattle.machine.specs.Below.Lists.{filled}
use Rattle.machine.specs.Below.Program.{Entry, Program}
use Rattle.machine.specs.Below.LanguageValues.{Component, Record, File, State, Inputs}
use Rattle.machine.specs.Below.LanguageValues.Component.{word, address}
use Rattle.machine.specs.Facts.{InstrFacts, LabelFacts, ProgramFacts}
use Rattle.machine.specs.WellFormed.{good_text, kept_text, good_program, good_state}
use Rattle.layout.specs.Cells.{cell, two_at}
use Rattle.layout.specs.Components.{component_bytes, components_bytes, record_bytes, records_bytes, component_size, component_in, components_in, record_in, records_in}
use Rattle.layout.specs.Memory.{components_held, chars_held, records_held, state_cells, state_of}
use Rattle.layout.specs.Table.{all_entries, table_cells, program_of}

-- every element has P
abbrev pub Each : {X : Type 0} → (X → Type 0) → List X → Type 0
Each P [] = Unit {0}
Each P (x ∷ xs) = P x × Each P xs

-- every cell is below n
abbrev pub Below : ℕ → List ℕ → Type 0
Below n l = Each (λ x. x < n) l

-- ---- what has a place in the table of a program

pub record TextOk (t : List ℕ) : Type 0 where
  pub long : 1 < length t
  pub most : length t ≤ limit.item
  pub below : Below 256 t

-- no text, or one of the program's
abbrev pub KeptText : Program → List ℕ → Type 0
KeptText p t = T (not (filled t) || (good_text t && kept_text p t))

pub record EntryOk (p : Program) (e : Entry) : Type 0 where
  pub label_below : e.label < length p.labels
  pub text_kept : KeptText p e.text

pub record ProgramOk (p : Program) : Type 0 where
  pub facts : ProgramFacts p
  pub entries_most : length (all_entries p) ≤ limit.entries
  pub code_ok : Each (InstrFacts p) p.code
  pub labels_ok : Each (LabelFacts p) p.labels
  pub entries_ok : Each (EntryOk p) (all_entries p)
  pub texts_ok : Each TextOk p.texts
  pub numbers_ok : Each (λ z. nat_abs z ≤ limit.size) p.numbers

-- a well-formed table
pub record Tabled (c : List ℕ) : Type 0 where
  pub long : limit.table ≤ length c
  pub cells : table_cells (program_of c) ≡ take limit.table c
  pub good : T (good_program (program_of c))

-- ---- what has a place in a state at rest

abbrev pub Ok : Component → Type 0
Ok (word w) = (0 < length w) × (length w ≤ limit.word)
Ok (Component.number z) = nat_abs z ≤ limit.size
Ok (address n) = n ≤ limit.addresses

pub record RecordOk (r : Record) : Type 0 where
  pub addr_most : r.addr ≤ limit.addresses
  pub parts_ok : Each Ok r.parts
  pub bytes_below : length (components_bytes r.parts) < 65536

pub record FileOk (f : File) : Type 0 where
  pub before_ok : Each RecordOk f.before
  pub after_ok : Each RecordOk f.after

pub record Fine (s : State) : Type 0 where
  pub exprs_is : length s.store.exprs ≡ limit.expressions
  pub files_is : length s.store.files ≡ limit.files
  pub outputs_is : length s.store.outputs ≡ limit.outputs
  pub places_is : length s.store.places ≡ limit.inputs
  pub exprs_ok : Each (Each Ok) s.store.exprs
  pub files_ok : Each FileOk s.store.files
  pub outputs_ok : Each (λ q. length q ≤ limit.output) s.store.outputs
  pub places_ok : Each (λ n. n ≤ limit.input) s.store.places
  pub stack_ok : Below limit.instructions s.stack
  pub stack_most : length s.stack ≤ limit.stack
  pub next_below : s.next < limit.instructions
  pub last_most : s.store.last ≤ limit.addresses
  pub components_most : components_held s.store ≤ limit.components
  pub chars_most : chars_held s.store ≤ limit.characters
  pub records_most : records_held s.store ≤ limit.records

-- a well-formed memory
pub record AtRest (p : Program) (ins : Inputs) (m : List ℕ) : Type 0 where
  pub long : limit.state ≤ length m
  pub cells : state_cells (state_of m) ≡ take limit.state m
  pub good : T (good_state p ins (state_of m))

-- ---- the cells are the bytes of one component, of components, of records

pub record EncodedOne (l : List ℕ) (x : Component) : Type 0 where
  pub is : l ≡ component_bytes x
  pub its_ok : Ok x

pub record Encoded (l : List ℕ) (xs : List Component) : Type 0 where
  pub is : l ≡ components_bytes xs
  pub all_ok : Each Ok xs

pub record EncodedRecords (l : List ℕ) (rs : List Record) : Type 0 where
  pub is : l ≡ records_bytes rs
  pub all_ok : Each RecordOk rs

-- and of those that they read as
abbrev pub OneComponent : List ℕ → Type 0
OneComponent l = EncodedOne l (component_in l)

abbrev pub WholeComponents : List ℕ → Type 0
WholeComponents l = Encoded l (components_in l)

abbrev pub WholeRecords : List ℕ → Type 0
WholeRecords l = EncodedRecords l (records_in l)

-- how many cells the record at the end takes
abbrev pub last_size : List ℕ → ℕ
last_size l = 7 + two_at (length l - 2) l

-- whole components, not none, are the first and the rest; so are whole records, and the last record and those before it
pub record NextComponent (l : List ℕ) : Type 0 where
  pub fits : component_size (cell l 0) ≤ length l
  pub some : 0 < component_size (cell l 0)
  pub is : components_in l ≡ component_in l ∷ components_in (drop (component_size (cell l 0)) l)
  pub first : take (component_size (cell l 0)) l ≡ component_bytes (component_in l)
  pub first_ok : Ok (component_in l)
  pub rest : WholeComponents (drop (component_size (cell l 0)) l)

pub record NextRecord (l : List ℕ) : Type 0 where
  pub fits : 7 + two_at 3 l ≤ length l
  pub is : records_in l ≡ record_in l ∷ records_in (drop (7 + two_at 3 l) l)
  pub first : take (7 + two_at 3 l) l ≡ record_bytes (record_in l)
  pub first_ok : RecordOk (record_in l)
  pub rest : WholeRecords (drop (7 + two_at 3 l) l)

pub record LastRecord (l : List ℕ) : Type 0 where
  pub fits : last_size l ≤ length l
  pub is : records_in l ≡ records_in (take (length l - last_size l) l) ++ (record_in (drop (length l - last_size l) l) ∷ [])
  pub last : drop (length l - last_size l) l ≡ record_bytes (record_in (drop (length l - last_size l) l))
  pub last_ok : RecordOk (record_in (drop (length l - last_size l) l))
  pub rest : WholeRecords (take (length l - last_size l) l)
