-- Questions 14, 15 and 16 of some items as one verdict, so that a reader can ask them on its way: that of each item is the first of the questions that
-- finds it at fault, and of all items it is the one that comes first.
use Rattle.std.specs.Prelude.{Bool, cond, not, ◌&&◌, List, [], ◌∷◌, ltb, Ok}
use Rattle.layout.specs.Below.Limits as limit
use Rattle.lexer.specs.declared.Token.{Token}
use Rattle.lexer.specs.Below.Items.{Item, is, same_sort}
use Rattle.lexer.specs.Below.Items.Sort.{text, wrong}
use Rattle.scanner.specs.Sorts.{sort_in}
use Rattle.statements.specs.declared.Question.TheVariants.{Byte, Text, Length}
use Rattle.statements.specs.Faults.{Verdict, no, worse}
use Rattle.statements.specs.Groups.{bad_text, too_long}

abbrev pub item_verdict : Item → Verdict
item_verdict i = cond (is wrong i) (no Byte i.at) (cond (bad_text i) (no Text i.at) (cond (too_long i) (no Length i.at) (Ok tt)))

unfoldable pub worst : List Item → Verdict
worst [] = Ok tt
worst (i ∷ js) = worse (item_verdict i) (worst js)

-- a token that is a text with a fault, or of no character
abbrev pub bad_token : Token → Bool
bad_token t = same_sort text (sort_in t.sort) && not (t.good && ltb 0 t.len)

-- of a token's item
abbrev pub token_verdict : Token → Verdict
token_verdict t = cond (same_sort wrong (sort_in t.sort)) (no Byte t.at) (cond (bad_token t) (no Text t.at) (cond (ltb limit.item t.len) (no Length t.at) (Ok tt)))
