-- What the definitions ask of an item, an element and a stretch, by name.
use Rattle.std.specs.Prelude.{Bool, not, ◌&&◌, ◌||◌, List, [], ℕ}
use Rattle.syntax.specs.Below.Lists.{among}
use Rattle.syntax.specs.Below.Quoted.{bytes}
use Rattle.syntax.specs.Items.{Item, is}
use Rattle.syntax.specs.Items.Sort.{wrong}
use Rattle.macros.specs.Marks.{byte_at}
use Rattle.macros.specs.Elements.{Element, is_star}
use Rattle.macros.specs.Pieces.{is_stray}
use Rattle.macros.specs.Macros.{has_body}

-- a star or a round bracket outside texts and comments
abbrev pub is_macros : List ℕ → Item → Bool
is_macros s i = is wrong i && among (byte_at s i.at) (bytes "*()")

-- what may not stand before the list
abbrev pub outer : Element → Bool
outer t = is_star t || is_stray [] t

-- the stretch that ends the list
abbrev pub bodiless : List Element → Bool
bodiless x = not (has_body x)
