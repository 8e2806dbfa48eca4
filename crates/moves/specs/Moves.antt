-- What moves of components make of a store, and what their functions ask.
use Rattle.std.specs.Prelude.{Bool, true, List, ℕ, ◌≤◌, ◌<◌, length, take}
use Rattle.language.specs.Limits as limit
use Rattle.language.specs.Letters.Letter.{E}
use Rattle.language.specs.Values.{Component, Store}
use Rattle.machine.specs.Arguments.{expr, Until, taken}
use Rattle.machine.specs.Changes.{minus_unless, into, past}
use Rattle.matching.specs.Tests.{all_word}
use Rattle.state.specs.Working.{nth, reading, writing, turned}
use Rattle.table.specs.declared.Argument.{Argument}
use Rattle.tests.specs.Prepares.{TestReadable, FittingIn, beside_size}
use Rattle.tests.specs.declared.Prepared.{Prepared}

-- the sequence that u takes of expression i is written to expression j; has words alone; is gone
unfoldable pub sent : Until Component → Bool → ℕ → Bool → Bool → ℕ → Store → Store
sent u removes i reverses at_end j s =
    let xs = expr s (nth E i) in
    let r = taken u xs in
    minus_unless r.1 (into (nth (writing at_end) j) (turned reverses (take r.0 xs)) (past (nth (reading removes) i) r.0 s))

unfoldable pub all_taken_words : Until Component → ℕ → Store → Bool
all_taken_words u i s = let xs = expr s (nth E i) in all_word (take (taken u xs).0 xs)

unfoldable pub cut_off : Until Component → ℕ → Store → Store
cut_off u i s = let r = taken u (expr s (nth E i)) in minus_unless r.1 (past (nth (reading true) i) r.0 s)

-- ---- what is asked

-- the bytes beside a test stand in front of the row g
pub record TestBeside (g : List ℕ) (test : Prepared) : Type 0 where
  pub fitting : FittingIn test g
  pub inside : beside_size test ≤ length g

-- the instructions: from expression i to expression or output j with the test of argument a; of expression i
pub record Movable (c : List ℕ) (i j most : ℕ) (a : Argument) : Type 0 where
  pub test : TestReadable c a
  pub source : i < limit.expressions
  pub target : j < most

pub record Removable (c : List ℕ) (i : ℕ) (a : Argument) : Type 0 where
  pub test : TestReadable c a
  pub source : i < limit.expressions
