-- Components and records in bytes. A word is its length (1 to 255) and its characters; a number is 0, 1 and its code in three cells; an address
-- is 0, 2 and three cells. A record is its address in three cells, the length of its components in two, the components, and the length again, so
-- that the last record of a string is found from its end. Equal components have equal bytes, and the first cell tells how many cells a component
-- takes.
use Rattle.std.specs.Prelude.{cond, List, [], ◌∷◌, ◌++◌, map, ℕ, zero, suc, ◌+◌, eqb, length, take, drop}
use Rattle.machine.specs.Below.LanguageValues.{Component, Record}
use Rattle.machine.specs.Below.LanguageValues.Component.{word, address}
use Rattle.layout.specs.Cells.{cell, two, two_at, three, three_at, code, uncode}

unfoldable pub component_bytes : Component → List ℕ
component_bytes (word w) = length w ∷ w
component_bytes (Component.number z) = 0 ∷ 1 ∷ three (code z)
component_bytes (address n) = 0 ∷ 2 ∷ three n

unfoldable pub components_bytes : List Component → List ℕ
components_bytes [] = []
components_bytes (x ∷ xs) = component_bytes x ++ components_bytes xs

unfoldable pub record_bytes : Record → List ℕ
record_bytes r =
    let l = components_bytes r.parts in
    three r.addr ++ (two (length l) ++ (l ++ two (length l)))

unfoldable pub records_bytes : List Record → List ℕ
records_bytes [] = []
records_bytes (r ∷ rs) = record_bytes r ++ records_bytes rs

-- ---- reading back: what stands in front, and how many cells it takes; the count of cells bounds the count of elements

abbrev pub component_size : ℕ → ℕ
component_size x = cond (eqb x 0) 5 (1 + x)

abbrev pub short_component : ℕ → ℕ → Component
short_component k v = cond (eqb k 1) (Component.number (uncode v)) (address v)

unfoldable pub component_in : List ℕ → Component
component_in l = cond (eqb (cell l 0) 0) (short_component (cell l 1) (three_at 2 l)) (word (take (cell l 0) (drop 1 l)))

unfoldable pub components_from : ℕ → List ℕ → List Component
components_from zero l = []
components_from (suc n) [] = []
components_from (suc n) (x ∷ l) = component_in (x ∷ l) ∷ components_from n (drop (component_size x) (x ∷ l))

unfoldable pub components_in : List ℕ → List Component
components_in l = components_from (length l) l

unfoldable pub record_in : List ℕ → Record
record_in l = record { addr = three_at 0 l; parts = components_in (take (two_at 3 l) (drop 5 l)) }

unfoldable pub records_from : ℕ → List ℕ → List Record
records_from zero l = []
records_from (suc n) [] = []
records_from (suc n) (x ∷ l) = record_in (x ∷ l) ∷ records_from n (drop (7 + two_at 3 (x ∷ l)) (x ∷ l))

unfoldable pub records_in : List ℕ → List Record
records_in l = records_from (length l) l

abbrev pub addresses_in : List ℕ → List ℕ
addresses_in l = map (λ r. r.addr) (records_in l)
