-- What the search for macros and the marking of joining apostrophes know: where it stands in the list of macros, the words of a header, and the word behind an apostrophe.
use Rattle.std.specs.Prelude.{◌≡◌, Bool, true, cond, ◌&&◌, ◌||◌, List, [], ◌∷◌, ℕ, ◌+◌, ◌≤◌, Option, Some, None, is_some, eqb, length, take, drop}
use Rattle.language.specs.Program.{identifier}
use Rattle.lexer.specs.declared.Token.{Token}
use Rattle.lexer.specs.Tokens.{chars_of, Stands, TokenAt}
use Rattle.lists.specs.Lists.{any, among, bytes_equal}
use Rattle.lists.specs.Quoted.{bytes}
use Rattle.macros.specs.Conditions.{is_macros}
use Rattle.macros.specs.Marks.{byte_at}
use Rattle.scanner.specs.declared.Sort.{Sort}
use Rattle.scanner.specs.Sorts.{sort_in}
use Rattle.syntax.specs.Items.{Item, is, same_sort, read}
use Rattle.syntax.specs.Items.Sort.{word, wrong}
use Rattle.syntax.specs.Items.Mode.{outside}
use Rattle.syntax.specs.Scan.{word_length}
use Rattle.macro_marks.specs.declared.ListPart.{ListPart}
use Rattle.macro_marks.specs.declared.ListPart.TheVariants.{Before, First, AtList, After, Header, Body}

-- the items of a text from place n on, each colon one of its own: in lexer's `items_from` a word has its colon with it. A line here and in `editions`,
-- since the lowest crate that both name is syntax, which would pass it on to all above
abbrev pub items_from : List ℕ → ℕ → List Item
items_from s n = read outside n (drop n s)

-- a byte that may begin a text, a comment, or an item of macros
abbrev pub begins_mark : ℕ → Bool
begins_mark b = eqb b 39 || (eqb b 47 || among b (bytes "*()"))

-- none stands from place n to place e
pub record Plain (s : List ℕ) (n e : ℕ) : Type 0 where
  pub from : n ≤ e
  pub most : e ≤ length s
  pub is : any (is_macros s) (items_from s n) ≡ any (is_macros s) (items_from s e)

-- the part behind an item, as in macros' Marks; a header begins at place e
abbrev pub ended : ListPart → ListPart
ended Before = Before
ended First = AtList
ended AtList = AtList
ended After = After
ended (Header h) = Header h
ended (Body h) = Body h

abbrev pub opened : ListPart → ℕ → ListPart
opened Before e = First
opened First e = First
opened AtList e = Header e
opened After e = After
opened (Header h) e = Body h
opened (Body h) e = Body h

abbrev pub closed : ListPart → ℕ → ListPart
closed Before e = First
closed First e = First
closed AtList e = After
closed After e = After
closed (Header h) e = After
closed (Body h) e = Header e

abbrev pub passed : ListPart → ListPart
passed Before = First
passed First = First
passed AtList = After
passed After = After
passed (Header h) = Header h
passed (Body h) = Body h

-- an item of the sort k that begins with the byte b and ends before place e
abbrev pub part_behind : ListPart → Option Sort → ℕ → ℕ → ListPart
part_behind c None b e = passed c
part_behind c (Some Sort.Word) b e = passed c
part_behind c (Some Sort.Colon) b e = passed c
part_behind c (Some Sort.End) b e = ended c
part_behind c (Some Sort.Text) b e = passed c
part_behind c (Some Sort.Wrong) b e = cond (eqb b 40) (opened c e) (cond (eqb b 41) (closed c e) (passed c))

-- the words of the items before the bracket that ends a header
unfoldable pub header_words : List ℕ → List Item → List (List ℕ)
header_words s [] = []
header_words s (i ∷ js) =
    cond (is wrong i && among (byte_at s i.at) (bytes "()")) [] (cond (is word i) (i.chars ∷ header_words s js) (header_words s js))

-- all but the first, which is the macro's name, are its parameters
abbrev pub parameters : List ℕ → ℕ → List (List ℕ)
parameters s h = drop 1 (header_words s (items_from s h))

abbrev pub parameters_of : List ℕ → ListPart → List (List ℕ)
parameters_of s Before = []
parameters_of s First = []
parameters_of s AtList = []
parameters_of s After = []
parameters_of s (Header h) = []
parameters_of s (Body h) = parameters s h

-- a header begins within the text
abbrev pub Within : List ℕ → ListPart → Type 0
Within s Before = Unit {0}
Within s First = Unit {0}
Within s AtList = Unit {0}
Within s After = Unit {0}
Within s (Header h) = h ≤ length s
Within s (Body h) = h ≤ length s

-- the bytes from place at to place end are sought in the header at place header
pub record Sought (s : List ℕ) (header at end : ℕ) : Type 0 where
  pub begins : header ≤ length s
  pub from : at ≤ end
  pub most : end ≤ length s

-- a token and the bytes from place at to place end
pub record Comparable (s : List ℕ) (t : Token) (at end : ℕ) : Type 0 where
  pub stands : Stands s t
  pub from : at ≤ end
  pub most : end ≤ length s

-- the word that begins at a place; empty where none does
abbrev pub word_from : List ℕ → ℕ → List ℕ
word_from s n = take (word_length (drop n s)) (drop n s)

-- the byte at place e joins the word w before it to the word behind it, which is one of ps
abbrev pub word_joins : List ℕ → List ℕ → List (List ℕ) → ℕ → Bool
word_joins s w ps e =
    eqb (byte_at s e) 39 && identifier w && identifier (word_from s (e + 1)) && any (bytes_equal (word_from s (e + 1))) ps

-- the place behind a token and what is joined to it
abbrev pub joined_end : List ℕ → List (List ℕ) → Token → ℕ
joined_end s ps t =
    cond (same_sort word (sort_in t.sort) && word_joins s (chars_of s t) ps t.next) (t.next + 1 + word_length (drop (t.next + 1) s)) t.next

-- the place behind what is joined to a token, where something is
abbrev pub joined : List ℕ → List (List ℕ) → Token → Option ℕ
joined s ps t =
    cond (same_sort word (sort_in t.sort) && word_joins s (chars_of s t) ps t.next) (Some (t.next + 1 + word_length (drop (t.next + 1) s))) None

-- a token of the text s, in a body whose header begins at place h, and in the part c
pub record Joinable (s : List ℕ) (h : ℕ) (t : Token) : Type 0 where
  pub stands : Stands s t
  pub begins : h ≤ length s

pub record JoinableIn (s : List ℕ) (c : ListPart) (t : Token) : Type 0 where
  pub stands : Stands s t
  pub within : Within s c

-- no item stands from place n on: the token there says so
pub record NoItem (s : List ℕ) (n : ℕ) : Type 0 where
  pub token : Token
  pub found : TokenAt s n token
  pub none : token.sort ≡ None

-- the token t of the first item from place n on
pub record ItemAt (s : List ℕ) (n : ℕ) (t : Token) : Type 0 where
  pub found : TokenAt s n t
  pub there : is_some t.sort ≡ true

pub record NextItem (s : List ℕ) (n : ℕ) (r : Option Token) : Type 0 where
  pub none : r ≡ None → NoItem s n
  pub some : (t : Token) → r ≡ Some t → ItemAt s n t
