-- H minus unless a relation holds.
use mathlib.Core.Path.{◌≡◌, refl}
use mathlib.Core.Bool.{Bool, true, false, cond}
use Rattle.language.specs.Values.{Store}
use Rattle.machine.specs.Changes.{with_plus, minus, minus_unless}

pub kept-or-minus : (b : Bool) (s : Store) → cond b s (minus s) ≡ minus_unless b s
unfolding minus minus_unless with_plus
kept-or-minus true s = refl
kept-or-minus false s = refl
