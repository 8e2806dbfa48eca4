-- The values of an instruction's arguments while its text is read: a label, a switch and a text are places and lengths in the text.
use Rattle.std.specs.Prelude.{◌≡◌, Bool, true, false, cond, ◌&&◌, List, [], ◌∷◌, map, ℕ, ◌+◌, ◌*◌, ◌≤◌, ◌<◌, T, eqb, length, get_or, drop}
use Rattle.heads.specs.Below.Drafting.{draft_arg}
use Rattle.forms.specs.Kinds.{word_kinds, item_kinds}
use Rattle.language.specs.Instructions.{operation}
use Rattle.language.specs.Limits as limit
use Rattle.language.specs.Program.{Arg, classes, Op}
use Rattle.language.specs.Values.{amount, numeral, value_of, in_range}
use Rattle.layout.specs.Cells.{code}
use Rattle.layout.specs.Table.{class_mask}
use Rattle.lexer.specs.declared.Token.{Token}
use Rattle.lexer.specs.Tokens.{item_of, word_of}
use Rattle.lists.specs.Lists.{head_or}
use Rattle.spelling.specs.Spelling.{text_in, Between}
use Rattle.statements.specs.Places.{all_from}
use Rattle.statements.specs.StatementAt.{statement_at}
use Rattle.syntax.specs.ArgumentForms as syntax
use Rattle.syntax.specs.ArgumentForms.{is_indexed, arguments}
use Rattle.syntax.specs.Items.{Item, is}
use Rattle.syntax.specs.Items.Sort.{word, text}
use Rattle.table.specs.declared.Letter.{Letter}
use Rattle.table.specs.Denote.{letter_of}
use Rattle.words.specs.Words.{is_class}
use Rattle.heads.specs.Below.Writing.{no_program, IsNumber}
use Rattle.arguments.specs.declared.Kind.{Kind}
use Rattle.arguments.specs.declared.Quoted.{Quoted}
use Rattle.arguments.specs.declared.ReadArgument.{ReadArgument}
use Rattle.arguments.specs.declared.ReadArgument.TheVariants.{Nothing, Indexed, Label, Switch, Class, Text, Number}
use Rattle.arguments.specs.declared.Value.{Value}

-- ---- three of them

abbrev pub no_value : Value
no_value = record { at = 0; argument = Nothing }

abbrev pub no_values : List Value
no_values = no_value ∷ no_value ∷ no_value ∷ []

-- value k of a row of three
abbrev pub nth : List Value → ℕ → Value
nth v k = get_or v k no_value

-- ---- one of them

abbrev pub is_text : ReadArgument → Bool
is_text Nothing = false
is_text (Indexed l n) = false
is_text (Label k) = false
is_text (Switch k) = false
is_text (Class m) = false
is_text (Text q) = true
is_text (Number v) = false

abbrev pub is_number : ReadArgument → Bool
is_number Nothing = false
is_number (Indexed l n) = false
is_number (Label k) = false
is_number (Switch k) = false
is_number (Class m) = false
is_number (Text q) = false
is_number (Number v) = true

-- the places where the bytes of a text begin, and end
abbrev pub text_from : Quoted → ℕ
text_from q = q.at + 1

abbrev pub text_to : Quoted → ℕ
text_to q = q.end

-- q names the text w in s
pub record NamesText (s : List ℕ) (q : Quoted) (w : List ℕ) : Type 0 where
  pub between : Between s (text_from q) (text_to q)
  pub is : text_in s (text_from q) (text_to q) ≡ w

-- the text of a token
abbrev pub quoted_of : Token → Quoted
quoted_of t = record { at = t.at; end = t.end }

-- a text or a number that is the characters w
abbrev pub Spells : List ℕ → List ℕ → ReadArgument → Type 0
Spells s w Nothing = Unit {0}
Spells s w (Indexed l n) = Unit {0}
Spells s w (Label k) = Unit {0}
Spells s w (Switch k) = Unit {0}
Spells s w (Class m) = Unit {0}
Spells s w (Text q) = NamesText s q w
Spells s w (Number v) = IsNumber v (value_of w) no_program

-- what an item i that is a text or a number has of its value x, for question 11
pub record ItemValued (s : List ℕ) (i : Item) (x : ReadArgument) : Type 0 where
  pub text_is : is text i ≡ is_text x
  pub number_is : (is word i && numeral i.chars) ≡ is_number x
  pub spelt : Spells s i.chars x

-- the argument of a draft with the characters w
abbrev pub Drafted : List ℕ → ReadArgument → Arg → Type 0
Drafted w Nothing a = a ≡ Arg.nothing
Drafted w (Indexed l n) a = (a ≡ Arg.letter (letter_of l) n) × (n < 256)
Drafted w (Label m) a = (a ≡ Arg.label m) × (m ≤ 2097212)
Drafted w (Switch m) a = (a ≡ Arg.switch m) × (m ≤ 2097212)
Drafted w (Class m) a = (a ≡ Arg.class (classes w)) × (m ≡ class_mask (classes w))
Drafted w (Text q) a = a ≡ Arg.text w
Drafted w (Number v) a = a ≡ Arg.number (value_of w)

-- x is the value of an argument, which is drafted where its length is within 60
pub record Stood (s : List ℕ) (a : syntax.Argument) (x : ReadArgument) : Type 0 where
  pub entered : ItemValued s a.item x
  pub drafted : length a.item.chars ≤ limit.item → Drafted a.item.chars x (draft_arg a)

-- an item, and the form that it reads as
abbrev pub argument_of : List ℕ → Token → ℕ → syntax.Argument
argument_of s t form = record { item = item_of s t; form = form }

-- the letter of a word, with its index
pub record LetterValue (w : List ℕ) (r : ReadArgument) : Type 0 where
  pub letter : Letter
  pub index : ℕ
  pub is : r ≡ Indexed letter index
  pub letter_is : letter_of letter ≡ syntax.letter_of (head_or 0 w)
  pub index_is : index ≡ amount 0 (drop 1 w)
  pub small : index < 256

-- the own value x of a word: a number, a class or an indexed letter
pub record OwnValue (w : List ℕ) (x : ReadArgument) : Type 0 where
  pub number : T (numeral w && in_range (value_of w)) → x ≡ Number (code (value_of w))
  pub class : T (is_class w) → x ≡ Class (class_mask (classes w))
  pub letter : T (is_indexed w (syntax.letter_of (head_or 0 w))) → LetterValue w x

pub record WordKind (w : List ℕ) (r : Kind) : Type 0 where
  pub set_is : r.set.bits ≡ word_kinds w
  pub own_is : OwnValue w r.own

pub record ItemKind (s : List ℕ) (t : Token) (r : Kind) : Type 0 where
  pub set_is : r.set.bits ≡ item_kinds (item_of s t)
  pub text_is : is text (item_of s t) ≡ true → r.own ≡ Text (quoted_of t)
  pub word_is : is word (item_of s t) ≡ true → OwnValue (word_of s t) r.own

-- the value of an argument by the form that it is read by: the mark of a label or a switch, or its own value
abbrev pub argument_value : Token → ℕ → ReadArgument → ReadArgument
argument_value t form own =
    let mark = t.at * 64 + t.len in
    cond (eqb form 108) (Label mark) (cond (eqb form 119) (Switch mark) (cond (eqb form 120) (Switch mark) own))

-- ---- a row of them

-- x is the value of the first of a row of arguments, and nothing where there is none
abbrev pub FirstValue : List ℕ → List syntax.Argument → Value → Type 0
FirstValue s [] x = x.argument ≡ Nothing
FirstValue s (a ∷ rest) x = (x.at ≡ a.item.at) × Stood s a x.argument

pub record Row (s : List ℕ) (args : List syntax.Argument) (v : List Value) : Type 0 where
  pub size : length v ≡ 3
  pub first : FirstValue s args (nth v 0)
  pub second : FirstValue s (drop 1 args) (nth v 1)
  pub third : FirstValue s (drop 2 args) (nth v 2)

-- each item stands before those behind it
abbrev pub Ordered : List Item → Type 0
Ordered [] = Unit {0}
Ordered (i ∷ js) = T (all_from i.at js) × Ordered js

-- the items js are arguments, three at most, and these are their values
pub record Valued (s : List ℕ) (js : List Item) (args : List syntax.Argument) (v : List Value) : Type 0 where
  pub few : length args ≤ 3
  pub items : map (λ a. a.item) args ≡ js
  pub row : Row s args v
  pub ordered : Ordered js

-- the items from place n on, for whichever operator has this number
abbrev pub ValuesRead : List ℕ → ℕ → ℕ → List Value → Type 0
ValuesRead s n number v = (o : Op) → (operation o).number ≡ number → Valued s (statement_at s n) (arguments o (statement_at s n)) v
