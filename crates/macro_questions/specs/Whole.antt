-- Questions 14, 15 and 16 of a text with macros, as those of items of which none that may stand there is wrong.
use Rattle.std.specs.Prelude.{◌≡◌, cond, ◌&&◌, List, ℕ, ◌≤◌, length, Option, Some}
use Rattle.language.specs.Limits as limit
use Rattle.lexer.specs.declared.Token.{Token}
use Rattle.lists.specs.Lists.{among}
use Rattle.lists.specs.Quoted.{bytes}
use Rattle.macros.specs.Marks.{byte_at, marked}
use Rattle.scanner.specs.declared.Sort.{Sort}
use Rattle.scanner.specs.Sorts.{sort_in}
use Rattle.syntax.specs.Items.{Item, is, same_sort}
use Rattle.syntax.specs.Items.Sort.{colon, wrong}

-- a text and its marked text
pub record Whole (s m : List ℕ) : Type 0 where
  pub low : length s ≤ limit.text
  pub is : m ≡ marked s

-- an item of the text s, as a colon where it is a star, a bracket or a joining apostrophe
abbrev pub judged : List ℕ → Item → Item
judged s i =
    record {
      at = i.at;
      sort = cond (is wrong i && among (byte_at s i.at) (bytes "*()'")) colon i.sort;
      chars = i.chars;
      good = i.good;
      colon = i.colon;
    }

-- and its token, which begins with the byte b
abbrev pub judged_sort : Option Sort → ℕ → Option Sort
judged_sort k b = cond (same_sort wrong (sort_in k) && among b (bytes "*()'")) (Some Sort.Colon) k

abbrev pub judged_token : Token → ℕ → Token
judged_token t b =
    record { sort = judged_sort t.sort b; at = t.at; end = t.end; next = t.next; len = t.len; good = t.good; colon = t.colon }
