-- Characters as one word: what joining makes of a store, and what its functions ask.
use Rattle.std.specs.Prelude.{Bool, false, cond, ◌&&◌, ◌||◌, List, [], ◌∷◌, ℕ, zero, suc, ◌≤◌, ◌<◌, leb, length, take}
use Rattle.lists.specs.Lists.{filled}
use Rattle.language.specs.Limits as limit
use Rattle.language.specs.Letters.Letter.{E}
use Rattle.language.specs.Values.{Component, Store}
use Rattle.language.specs.Values.Component.{word}
use Rattle.machine.specs.Arguments.{expr, Until, taken}
use Rattle.machine.specs.Changes.{minus_unless, into, past}
use Rattle.layout.specs.Bounds.{WholeComponents}
use Rattle.layout.specs.Components.{components_in}
use Rattle.components.specs.Parts.{spelled}
use Rattle.state.specs.Working.{nth, reading, writing}
use Rattle.instructions.specs.Does.{has_room}
use Rattle.table.specs.declared.Argument.{Argument}
use Rattle.tests.specs.Prepares.{TestReadable}

-- the word of these characters, none where there are no characters
abbrev pub word_if : List ℕ → List Component
word_if w = cond (filled w) (word w ∷ []) []

-- how many words that are
abbrev pub some : ℕ → ℕ
some zero = 0
some (suc n) = 1

-- whether a word of k characters has room; where its characters are taken away first, it has unless it is too long
abbrev pub word_room : Bool → ℕ → Store → Bool
word_room removes k s = leb k limit.word && (removes || has_room s (some k) k)

-- the words that u takes of expression i are one word in front
unfoldable pub joined_up : Until Component → Bool → ℕ → Store → Store
joined_up u removes i s =
    let xs = expr s (nth E i) in
    let r = taken u xs in
    minus_unless r.1 (into (nth (writing false) i) (word_if (spelled (take r.0 xs))) (past (nth (reading removes) i) r.0 s))

-- ---- what is asked

-- among `long` cells there is room for a word of n characters
pub record WordMakeable (long n : ℕ) : Type 0 where
  pub room : 256 ≤ long
  pub most : n ≤ limit.word

-- the words of l are one word
pub record WordsMakeable (l : List ℕ) : Type 0 where
  pub whole : WholeComponents l
  pub most : length (spelled (components_in l)) ≤ limit.word

-- ZBIJ of expression i with the test of argument a
pub record WordsJoinable (c : List ℕ) (i : ℕ) (a : Argument) : Type 0 where
  pub test : TestReadable c a
  pub source : i < limit.expressions
