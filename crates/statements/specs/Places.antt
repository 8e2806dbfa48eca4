-- Where items stand: none before a place; and a token of a text that is no longer than a text may be.
use Rattle.std.specs.Prelude.{Bool, ◌&&◌, List, ℕ, ◌≤◌, length, leb}
use Rattle.layout.specs.Below.Limits as limit
use Rattle.layout.specs.Below.Lists.{all}
use Rattle.lexer.specs.Below.Items.{Item}
use Rattle.lexer.specs.Tokens.{Stands}
use Rattle.lexer.specs.declared.Token.{Token}

-- all of these places are p or later
abbrev pub none_before : ℕ → List ℕ → Bool
none_before p ps = all (leb p) ps

-- an item, and its colon; and all of these items
abbrev pub stands_from : ℕ → Item → Bool
stands_from p i = leb p i.at && all (leb p) i.colon

abbrev pub all_from : ℕ → List Item → Bool
all_from p js = all (stands_from p) js

pub record InText (s : List ℕ) (t : Token) : Type 0 where
  pub stands : Stands s t
  pub low : length s ≤ limit.text
