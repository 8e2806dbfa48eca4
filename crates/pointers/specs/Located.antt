-- Where the record of an address stands in a file.
use Rattle.std.specs.Prelude.{◌≡◌, ◌||◌, List, ℕ, eqb, length, take, Option, is_some, IfSome}
use Rattle.language.specs.Values.{Record}
use Rattle.layout.specs.Components.{records_bytes}
use Rattle.lists.specs.Lists.{any}
use Rattle.machine.specs.Changes.{records_to}
use Rattle.records.specs.Places.{of_address}
use Rattle.records.specs.declared.Place.{Place}

-- how many of the records rs stand up to the one of address n, and their bytes
pub record PlaceOf (n : ℕ) (rs : List Record) (p : Place) : Type 0 where
  pub count : p.records ≡ records_to n rs
  pub bytes_is : p.bytes ≡ length (records_bytes (take p.records rs))

-- "Is the record of that address in that file, or the address 0? 58"
pub record Located (n : ℕ) (rs : List Record) (r : Option Place) : Type 0 where
  pub is : is_some r ≡ (eqb n 0 || any (of_address n) rs)
  pub place : IfSome r (λ p. PlaceOf n rs p)
