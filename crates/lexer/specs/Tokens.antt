-- Tokens: what the lexer gives of the items of Items.antt, with places of the text s in place of characters. And what its functions promise.
use Rattle.std.specs.Prelude.{◌≡◌, true, false, cond, List, [], ◌∷◌, ℕ, ◌+◌, ◌-◌, ◌≤◌, ◌<◌, length, get_or, take, drop, Option, None, Some, IfSome, is_some}
use Rattle.std.specs.Option.{is_none, option_to_list}
use Rattle.scanner.specs.Below.Lists.{if_any}
use Rattle.scanner.specs.Below.Items as items
use Rattle.scanner.specs.Below.Items.{Item, is, a_mark, read, named}
use Rattle.scanner.specs.Below.Items.Sort.{word, colon, text}
use Rattle.scanner.specs.Below.Items.Mode.{outside}
use Rattle.scanner.specs.Below.SyntaxScan.{text_chars, Found, found_here, item_at}
use Rattle.scanner.specs.Below.SyntaxScan.Found.{no_item, found}
use Rattle.scanner.specs.declared.Sort.{Sort}
use Rattle.scanner.specs.Sorts.{sort_in}
use Rattle.lexer.specs.declared.After.{After}
use Rattle.lexer.specs.declared.Token.{Token}

-- the bytes from place a to place e
abbrev pub part : List ℕ → ℕ → ℕ → List ℕ
part s a e = take (e - a) (drop a s)

-- the characters of a word and of a text
abbrev pub word_of : List ℕ → Token → List ℕ
word_of s t = part s t.at t.end

abbrev pub text_of : List ℕ → Token → List ℕ
text_of s t = text_chars false (part s (t.at + 1) t.end)

abbrev pub chars_by : Option Sort → List ℕ → Token → List ℕ
chars_by None s t = []
chars_by (Some Sort.Word) s t = word_of s t
chars_by (Some Sort.Colon) s t = []
chars_by (Some Sort.End) s t = []
chars_by (Some Sort.Text) s t = text_of s t
chars_by (Some Sort.Wrong) s t = []

unfoldable pub chars_of : List ℕ → Token → List ℕ
chars_of s t = chars_by t.sort s t

-- the place of the colon, if there is one
abbrev pub colon_of : Token → List ℕ
colon_of t = option_to_list t.colon

abbrev pub item_of : List ℕ → Token → Item
item_of s t = record { at = t.at; sort = sort_in t.sort; chars = chars_of s t; good = t.good; colon = colon_of t }

-- a colon stands behind the word, and in front of what is read next
abbrev pub ColonWithin : ℕ → ℕ → Option ℕ → Type 0
ColonWithin e n None = Unit {0}
ColonWithin e n (Some c) = (e ≤ c) × (c ≤ n)

-- Where a token stands in s, and the count of its characters. A token without a sort is no item
pub record Stands (s : List ℕ) (t : Token) : Type 0 where
  pub own : t.at + t.len ≤ t.end
  pub behind : t.end ≤ t.next
  pub most : t.next ≤ length s
  pub colon_within : ColonWithin t.end t.next t.colon
  pub some : is_some t.sort ≡ true → t.at < t.end
  pub ending : t.sort ≡ Some Sort.End → t.next ≡ t.at + 1
  pub fine : (t.sort ≡ Some Sort.Text → ⊥) → t.good ≡ true
  pub count : length (chars_of s t) ≡ t.len

-- an item without characters: a colon, an end, what may not stand there, or none
abbrev pub a_token : Option Sort → ℕ → ℕ → Token
a_token k at e = record { sort = k; at = at; end = e; next = e; len = 0; good = true; colon = None }

-- what is found, as Scan.antt says it
abbrev pub found_by : List ℕ → Token → Found
found_by s t = cond (is_none t.sort) no_item (found (item_of s t) t.next)

-- t is what is found from place n on; no colon is sought
pub record Finds (s : List ℕ) (n : ℕ) (what : Found) (t : Token) : Type 0 where
  pub from : n ≤ t.at
  pub stands : Stands s t
  pub bare : t.colon ≡ None
  pub is : what ≡ found_by s t

-- an item of the sort k that begins at place n
abbrev pub Begins : items.Sort → List ℕ → ℕ → Token → Type 0
Begins k s n t = Finds s n (found_here k n (get_or s n 0) (drop (n + 1) s)) t

abbrev pub WordAt : List ℕ → ℕ → Token → Type 0
WordAt s n t = Begins word s n t

abbrev pub TextAt : List ℕ → ℕ → Token → Type 0
TextAt s n t = Begins text s n t

abbrev pub TokenAt : List ℕ → ℕ → Token → Type 0
TokenAt s n t = Finds s n (item_at s n) t

-- The next item from place n on is a colon; or it is not, and is found from r.next on as well
abbrev pub items_after : List ℕ → ℕ → Option ℕ → List Item
items_after s n None = read outside n (drop n s)
items_after s n (Some c) = a_mark colon c ∷ read outside n (drop n s)

pub record ColonAfter (s : List ℕ) (n : ℕ) (r : After) : Type 0 where
  pub from : n ≤ r.next
  pub most : r.next ≤ length s
  pub colon_within : ColonWithin n r.next r.colon
  pub none : r.colon ≡ None → if_any false (is colon) (read outside n (drop n s)) ≡ false
  pub is : read outside n (drop n s) ≡ items_after s r.next r.colon

-- the items from place n on, each word with its colon
-- A line here and in `editions`: the lowest crate that both name is syntax, whose definitions this file would pass on to all above.
abbrev pub items_from : List ℕ → ℕ → List Item
items_from s n = named (read outside n (drop n s))

-- one step from item to item: there is none, or t is the first, and the others follow from t.next on
pub record NextToken (s : List ℕ) (n : ℕ) (t : Token) : Type 0 where
  pub from : n ≤ t.at
  pub stands : Stands s t
  pub is : items_from s n ≡ cond (is_none t.sort) [] (item_of s t ∷ items_from s t.next)

-- a token of a text's rest, counted from place n of the text on
abbrev pub moved_colon : ℕ → Option ℕ → Option ℕ
moved_colon n None = None
moved_colon n (Some c) = Some (n + c)

abbrev pub moved : ℕ → Token → Token
moved n t =
    record { sort = t.sort; at = n + t.at; end = n + t.end; next = n + t.next; len = t.len; good = t.good; colon = moved_colon n t.colon }

pub record Movable (n : ℕ) (t : Token) : Type 0 where
  pub own : t.at ≤ t.next
  pub behind : t.end ≤ t.next
  pub colon_most : IfSome t.colon (λ c. c ≤ t.next)
  pub low : n + t.next ≤ 65536
