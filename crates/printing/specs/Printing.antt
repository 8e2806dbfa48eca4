-- Words written to an output: what PISZ makes of a store.
use Rattle.std.specs.Prelude.{Bool, ℕ, take}
use Rattle.language.specs.Letters.Letter.{E, Q}
use Rattle.language.specs.Values.{Component, Store}
use Rattle.machine.specs.Arguments.{expr, Until, taken}
use Rattle.machine.specs.Changes.{minus_unless, printed, past}
use Rattle.components.specs.Parts.{spelled}
use Rattle.state.specs.Working.{nth, reading}

-- the characters of the words that u takes of expression i are written to output j
unfoldable pub spelled_out : Until Component → Bool → ℕ → ℕ → Store → Store
spelled_out u removes i j s =
    let xs = expr s (nth E i) in
    let r = taken u xs in
    minus_unless r.1 (printed (nth Q j) (spelled (take r.0 xs)) (past (nth (reading removes) i) r.0 s))
