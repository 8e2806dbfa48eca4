-- `words::Lexicon::of` meets its contract: the lent constants are those of the definitions.
use mathlib.Core.Path.{refl}
use Rattle.words.specs.Keywords.{in_a_row, beginnings, guesses}
use Rattle.words.proofs.Lexicon.of.Goals as goal
use Rattle.words.proofs.Lexicon.of.Goals.{in-Polish, in-English}

pub invariant_of-result : goal.invariant_of-result
unfolding in_a_row beginnings guesses
invariant_of-result c =
    elim c.match-edition.branch [
      | in-Polish w ↦ rw (w.result-is, w.in-Polish.is) (record { lent = record { row_is = refl; starts_are = refl; slots_are = refl } })
      | in-English w ↦ rw (w.result-is, w.in-English.is) (record { lent = record { row_is = refl; starts_are = refl; slots_are = refl } })
    ]
