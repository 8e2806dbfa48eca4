-- A text with other words for its operators, written from item to item.
use Rattle.std.specs.Prelude.{Bool, not, ◌&&◌, ◌||◌, List, ℕ, ◌-◌, take, drop}
use Rattle.syntax.specs.Items.{Item, is, read, named}
use Rattle.syntax.specs.Items.Sort.{word, end}
use Rattle.syntax.specs.Items.Mode.{outside}
use Rattle.syntax.specs.Statements.{is_operator}
use Rattle.editions.specs.Convert.{splice}
use Rattle.editions.specs.Rewriting.{operators_in}

-- what is to be written of the text s from place n on, where `awaited` tells whether the operator of the statement there is still to come
unfoldable pub remaining : (List ℕ → List ℕ) → Bool → List ℕ → ℕ → List ℕ
remaining turn awaited s n = splice turn n (drop n s) (operators_in awaited (named (read outside n (drop n s))))

-- an item is the operator that was still to come, and a word; and whether one is still to come after it
abbrev pub is_awaited : Bool → Item → Bool
is_awaited awaited i = awaited && is_operator i && is word i

abbrev pub awaited_after : Bool → Item → Bool
awaited_after awaited i = is end i || (awaited && not (is_operator i))

-- the bytes from place n to place m
abbrev pub between : List ℕ → ℕ → ℕ → List ℕ
between s n m = take (m - n) (drop n s)
