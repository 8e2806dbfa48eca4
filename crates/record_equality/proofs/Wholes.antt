-- Arguments that mean a whole record.
use mathlib.Core.Path.{◌≡◌, refl}
use mathlib.Core.Bool.{true, false≢true}
use mathlib.Core.List.{List}
use Prim.Native.Nat.{ℕ}
use Rattle.language.specs.Letters.{use_of}
use Rattle.language.specs.Program.Arg.{letter}
use Rattle.language.specs.Values.{Store, Inputs}
use Rattle.machine.specs.Arguments.{use_by, expr, side, is_whole}
use Rattle.table.specs.Denote.{letter_of, arg_of}
use Rattle.table.specs.declared.Letter.{Letter}
use Rattle.lists.specs.Quoted.{bytes}
use Rattle.table.specs.LetterLaws.{listed-letter}
use Rattle.table.specs.declared.Argument.{Argument}
use Rattle.table.specs.declared.Argument.TheVariants as argument
use Rattle.tests.specs.Prepares.{OtherLetter}
use Rattle.equality.specs.Equality.{OtherArgument}

-- what it offers then is all of the expression
letter-all : (l : Letter) (n : ℕ) (ins : Inputs) (s : Store) → OtherLetter l → is_whole (use_of (letter_of l)).reading ≡ true
    → side ins s (letter (letter_of l) n) ≡ expr s (letter (letter_of l) n)
letter-all l n ins s =
    listed-letter (λ m. is_whole (use_of (letter_of m)).reading ≡ true → side ins s (letter (letter_of m) n) ≡ expr s (letter (letter_of m) n)) (bytes "BENT")
    (λ w. absurd (false≢true w)) (λ w. refl) (λ w. absurd (false≢true w)) (λ w. absurd (false≢true w)) l

pub all-offered : (c : List ℕ) (a : Argument) (ins : Inputs) (s : Store) → OtherArgument a → is_whole (use_by (arg_of c a)).reading ≡ true
    → side ins s (arg_of c a) ≡ expr s (arg_of c a)
all-offered c argument.Nothing ins s h w = absurd (false≢true w)
all-offered c (argument.Indexed l n) ins s h w = letter-all l n ins s (h l n refl) w
all-offered c (argument.Label k) ins s h w = absurd (false≢true w)
all-offered c (argument.Switch k) ins s h w = absurd (false≢true w)
all-offered c (argument.Class m) ins s h w = absurd (false≢true w)
all-offered c (argument.Text v) ins s h w = absurd (false≢true w)
all-offered c (argument.Number v) ins s h w = absurd (false≢true w)
