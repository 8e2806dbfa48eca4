-- `macro_values::Around::write_given` meets its contract.
use Rattle.std.proofs.Common.{◌≡◌, List, ℕ, ◌++◌, ◌<◌}
use Rattle.macros.specs.Expansion.{just}
use Rattle.macro_code.specs.Bounds.{far}
use Rattle.macro_code.specs.Code.{arguments_in}
use Rattle.macro_values.specs.Wrote.{Wrote}
use Rattle.macro_values.specs.ValueLaws.{up}
use Rattle.macro_values.proofs.Around.write_given.Given as goal

abbrev pub invariant-loop-next : goal.invariant-loop-next
invariant-loop-next l =
    let s = l.self.coded.text.now in
    let c = l.self.coded.code.now in
    let calls = l.self.calls.now in
    (a : List ℕ) × Wrote (just a) l.initial.w l.w l.initial.out l.out × (up (arguments_in s c calls l.self.depth) c l.g ≡ a ++ up (arguments_in s c calls l.d) c l.cell) × (l.cell < far)

abbrev pub decreases-loop-next : goal.decreases-loop-next
decreases-loop-next l = l.d
