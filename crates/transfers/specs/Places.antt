-- Questions 59 and 60 by what an instruction adds beyond what it frees, and what the functions of transfers ask.
use Rattle.std.specs.Prelude.{◌≡◌, Bool, cond, ◌&&◌, List, ℕ, ◌+◌, ◌≤◌, leb, length}
use Rattle.lists.specs.Lists.{total}
use Rattle.language.specs.Limits as limit
use Rattle.language.specs.Values.{Component, Store}
use Rattle.layout.specs.Bounds.{Each, Ok}
use Rattle.layout.specs.Memory.{components_held, chars_held, records_held}
use Rattle.state.specs.Limited.{Limited}
use Rattle.state.specs.Working.{char_count}
use Rattle.instructions.specs.Does.{has_room}

-- so many records, components and characters more are within the limits
abbrev pub has_places : Store → ℕ → ℕ → ℕ → Bool
has_places s records parts chars = has_room s parts chars && leb (records_held s + records) limit.records

-- 59, 60 where so many addresses more are too many, or 0
abbrev pub room_of : Store → ℕ → ℕ → ℕ → ℕ → ℕ
room_of s records parts chars given = cond (has_places s records parts chars) (cond (leb (s.last + given) limit.addresses) 0 60) 59

pub record Growing (records parts chars given : ℕ) : Type 0 where
  pub records_most : records ≤ 65536
  pub parts_most : parts ≤ 65536
  pub chars_most : chars ≤ 65536
  pub given_most : given ≤ 65536

-- and so it has room
pub record Roomy (s : Store) (records parts chars given : ℕ) : Type 0 where
  pub components : components_held s + parts ≤ limit.components
  pub characters : chars_held s + chars ≤ limit.characters
  pub records_room : records_held s + records ≤ limit.records
  pub addresses : s.last + given ≤ limit.addresses

-- k records of c components and d characters, of the parts xs, are to be written to the store t, which s became when what is removed was taken
-- away: beyond that they add so many records, components and characters to s
pub record Lot (s t : Store) (xs : List (List Component)) (k c d records parts chars : ℕ) : Type 0 where
  pub count : k ≡ length xs
  pub parts_is : c ≡ total length xs
  pub chars_is : d ≡ total char_count xs
  pub all_ok : Each (Each Ok) xs
  pub limited : Limited t
  pub components_then : components_held t + c ≡ components_held s + parts
  pub chars_then : chars_held t + d ≡ chars_held s + chars
  pub records_then : records_held t + k ≡ records_held s + records
  pub last_is : t.last ≡ s.last
