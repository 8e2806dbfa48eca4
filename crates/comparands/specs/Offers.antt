-- What a relation's second argument asks and offers: its components, put beside.
use Rattle.std.specs.Prelude.{List, ℕ, Result}
use Rattle.language.specs.Program.{Arg}
use Rattle.language.specs.Program.Arg.{letter}
use Rattle.language.specs.Values.{Store, Inputs}
use Rattle.machine.specs.Arguments.{Asks, use_by, side, is_count, single, present, is, when, ◌&◌}
use Rattle.packed.specs.Packed.{table_of}
use Rattle.table.specs.Denote.{letter_of, arg_of}
use Rattle.table.specs.declared.Letter.{Letter}
use Rattle.table.specs.declared.Argument.{Argument}
use Rattle.instructions.specs.declared.Question.{Question}
use Rattle.tests.specs.Prepares.{OtherLetter, LetterGiven, ArgumentGiven, PutBeside}

abbrev pub LetterHoldable : Letter → ℕ → Type 0
LetterHoldable = LetterGiven OtherLetter

abbrev pub Holdable : List ℕ → Argument → Type 0
Holdable = ArgumentGiven OtherLetter

-- "by B as a test or second argument, by N" (52); N asks for a number (53)
abbrev pub offer_asks : Inputs → Store → Arg → Asks
offer_asks ins s b = when (single b) (present (side ins s b)) & when (is_count (use_by b).reading) (is 1 (side ins s b))

abbrev pub LetterOffers : Store → Letter → ℕ → List ℕ → Result ℕ Question → Type 0
LetterOffers s l k g r = (ins : Inputs) → PutBeside (offer_asks ins s (letter (letter_of l) k)) (side ins s (letter (letter_of l) k)) g r

abbrev pub ArgumentOffers : List ℕ → Store → Argument → List ℕ → Result ℕ Question → Type 0
ArgumentOffers c s a g r = (ins : Inputs) → PutBeside (offer_asks ins s (arg_of (table_of c) a)) (side ins s (arg_of (table_of c) a)) g r
