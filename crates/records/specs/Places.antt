-- Records in the cells of a string: the record at a place, strings cut behind one, and what new records ask.
use Rattle.std.specs.Prelude.{◌≡◌, Bool, cond, List, [], ◌∷◌, ◌++◌, ℕ, suc, ◌+◌, ◌*◌, ◌≤◌, ◌<◌, eqb, length, take, drop, Option, Some, None, Result, Ok, Err, is_some, is_ok, unwrap_or}
use Rattle.std.specs.Borrow.{Bor}
use Rattle.language.specs.Limits as limit
use Rattle.language.specs.Values.{Component, Record}
use Rattle.cells.specs.Below.LayoutBounds.{Encoded, EncodedRecords, WholeComponents, WholeRecords, RecordOk}
use Rattle.cells.specs.Below.Changes.{address_of_last}
use Rattle.cells.specs.Cells.{Number}
use Rattle.cells.specs.Below.Components.{record_bytes, record_in, records_in}
use Rattle.lists.specs.Lists.{any, ahead, if_any, filled}
use Rattle.records.specs.declared.Place.{Place}

-- whole records, and not none
pub record Starts (s : List ℕ) : Type 0 where
  pub more : 0 < length s
  pub whole : WholeRecords s

-- the record in front takes e cells
pub record Ends (s : List ℕ) (e : ℕ) : Type 0 where
  pub is : e ≡ length (record_bytes (record_in s))
  pub more : 7 ≤ e
  pub within : e ≤ length s
  pub first : records_in s ≡ record_in s ∷ records_in (drop e s)
  pub cells : s ≡ record_bytes (record_in s) ++ drop e s
  pub first_ok : RecordOk (record_in s)
  pub rest : WholeRecords (drop e s)

-- r is the first record of s, and t what is behind it; the step of every walk
pub record FrontRecord (s r t : List ℕ) : Type 0 where
  pub is : r ≡ record_bytes (record_in s)
  pub cells : s ≡ r ++ t
  pub first : records_in s ≡ record_in s ∷ records_in t
  pub first_ok : RecordOk (record_in s)
  pub rest : WholeRecords t

-- both, none where there is none
abbrev pub SplitRecord : List ℕ → Option (Bor (List ℕ) × Bor (List ℕ)) → Type 0
SplitRecord s None = s ≡ []
SplitRecord s (Some p) = FrontRecord s p.0.now p.1.now

-- the cells r, a part of s, are the components xs
pub record Part (s : List ℕ) (xs : List Component) (r : List ℕ) : Type 0 where
  pub cells : Encoded r xs
  pub most : length r ≤ length s
  pub small : length r < 65536

-- the components of the first record
abbrev pub next_contents : List Record → List Component
next_contents rs = if_any [] (λ r. r.parts) rs

-- the cells of two lists are whole components
pub record BothWhole (a b : List ℕ) : Type 0 where
  pub left : WholeComponents a
  pub right : WholeComponents b

-- the first `bytes` cells of s are its first `count` records
pub record Cut (s : List ℕ) (bytes count : ℕ) : Type 0 where
  pub within : bytes ≤ length s
  pub most : count ≤ length (records_in s)
  pub front : EncodedRecords (take bytes s) (take count (records_in s))
  pub rest : EncodedRecords (drop bytes s) (drop count (records_in s))
  pub small : 7 * count ≤ bytes

-- whether a record has the address n
abbrev pub of_address : ℕ → Record → Bool
of_address n r = eqb r.addr n

-- the address of the last record, and whether there is one
pub record LastAddress (s : List ℕ) (r : Option ℕ) : Type 0 where
  pub is : Number (address_of_last 0 (records_in s)) 8388608 (unwrap_or r 0)
  pub some : is_some r ≡ filled (records_in s)

-- where a search ended
abbrev pub place_in : Result Place Place → Place
place_in (Ok p) = p
place_in (Err p) = p

-- the record of the address n is the last of those counted; where there is none, all are counted
pub record Sought (n : ℕ) (s : List ℕ) (r : Result Place Place) : Type 0 where
  pub is : is_ok r ≡ any (of_address n) (records_in s)
  pub count : (place_in r).records ≡ cond (is_ok r) (suc (ahead (of_address n) (records_in s))) (length (records_in s))
  pub cut : Cut s (place_in r).bytes (place_in r).records

-- a record of these components can be written at the front of d
pub record Recordable (d : List ℕ) (address : ℕ) (contents : List ℕ) : Type 0 where
  pub room : 7 + length contents ≤ length d
  pub small : length contents < 65536
  pub given : address ≤ limit.addresses
  pub whole : WholeComponents contents

-- the records of s can be written at the front of d with the addresses after `last`
pub record Copyable (d s : List ℕ) (last : ℕ) : Type 0 where
  pub room : length s ≤ length d
  pub given : last + length (records_in s) ≤ limit.addresses
  pub whole : WholeRecords s
