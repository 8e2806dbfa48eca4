-- What the functions that read the strings of a memory ask and tell. st has the places where the strings start.
use Rattle.std.specs.Prelude.{◌≡◌, List, [], ℕ, ◌+◌, ◌≤◌, ◌<◌, cond, ltb, length, get_or, take}
use Rattle.language.specs.Limits as limit
use Rattle.layout.specs.Bounds.{Each, WholeComponents, WholeRecords}
use Rattle.layout.specs.Components.{records_in}
use Rattle.layout.specs.Places as layout
use Rattle.records.specs.Sequences.{part_total, char_total}
use Rattle.check_memory.specs.Passes.{sizes, sum, all_strings, expressions, halves, expression_parts, expression_chars, all_parts, all_chars, record_count}
use Rattle.check_memory.specs.declared.Sums.{Sums}

-- m is the cells of a state, and there are places for the starts
pub record Measurable (m : List ℕ) (count : ℕ) : Type 0 where
  pub long : length m ≡ limit.state
  pub places : count ≡ layout.strings_count

-- st has the starts of the strings, and r is where the last one ends
pub record Started (m st : List ℕ) (r : ℕ) : Type 0 where
  pub count : length st ≡ layout.strings_count
  pub place : (k : ℕ) → k < layout.strings_count → get_or st k 0 ≡ layout.first_byte + sum (take k (sizes m))
  pub ends : r ≡ layout.first_byte + sum (sizes m)

-- e is where the last one ends
pub record Ended (m : List ℕ) (e : ℕ) : Type 0 where
  pub long : length m ≡ limit.state
  pub is : e ≡ layout.first_byte + sum (sizes m)

-- m is the cells of a state, and its strings have room
pub record Roomy (m : List ℕ) : Type 0 where
  pub long : length m ≡ limit.state
  pub room : sum (sizes m) ≤ layout.room

-- the strings of m can be read
pub record Readable (m st : List ℕ) : Type 0 where
  pub long : length m ≡ limit.state
  pub count : length st ≡ layout.strings_count
  pub place : (k : ℕ) → k < layout.strings_count → get_or st k 0 ≡ layout.first_byte + sum (take k (sizes m))
  pub room : sum (sizes m) ≤ layout.room

pub record StringLent (m : List ℕ) (k : ℕ) (r : List ℕ) : Type 0 where
  pub is : r ≡ get_or (all_strings m) k []
  pub small : length r < 65536

-- its expressions and its files are whole
pub record BothWhole (m : List ℕ) : Type 0 where
  pub exprs : Each WholeComponents (expressions m)
  pub files : Each WholeRecords (halves m)

-- f of string k where it is an expression's, and g where it is one of a file's
abbrev pub by_string : (List ℕ → ℕ) → (List ℕ → ℕ) → List ℕ → ℕ → ℕ
by_string f g m k = cond (ltb k layout.first_file) (f (get_or (all_strings m) k [])) (g (get_or (all_strings m) k []))

-- what string k holds
pub record StringSums (m : List ℕ) (k : ℕ) (r : Sums) : Type 0 where
  pub parts_is : r.parts ≡ by_string expression_parts (λ v. part_total (records_in v)) m k
  pub chars_is : r.chars ≡ by_string expression_chars (λ v. char_total (records_in v)) m k
  pub records_is : r.records ≡ by_string (λ v. 0) (λ v. length (records_in v)) m k
  pub parts_most : r.parts < 65536
  pub chars_most : r.chars < 65536
  pub records_most : r.records < 65536

-- what expressions and files hold
pub record AllSums (m : List ℕ) (r : Sums) : Type 0 where
  pub parts_is : r.parts ≡ all_parts m
  pub chars_is : r.chars ≡ all_chars m
  pub records_is : r.records ≡ record_count m
  pub parts_most : r.parts < 16777216
  pub chars_most : r.chars < 16777216
  pub records_most : r.records < 16777216

-- the addresses of its records have room among `count` places
pub record Comparable (m : List ℕ) (count : ℕ) : Type 0 where
  pub files : Each WholeRecords (halves m)
  pub room : record_count m ≤ count
