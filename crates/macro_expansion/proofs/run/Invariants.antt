-- `macro_expansion::run` meets its contract.
use Rattle.std.proofs.Common.{◌≡◌, ◌<◌, ◌≤◌, length}
use Rattle.macros.specs.Expansion.{Writing, followed_by}
use Rattle.macro_code.specs.Places.{half}
use Rattle.macro_values.specs.Wrote.{Wrote}
use Rattle.macro_expansion.specs.Expanding.{rest_writes}
use Rattle.macro_expansion.proofs.run.Given as goal

abbrev pub invariant-loop-cell : goal.invariant-loop-cell
invariant-loop-cell l =
    let s = l.list.hinted.listed.coded.text.now in
    let c = l.list.hinted.listed.coded.code.now in
    let f = l.list.hinted.listed.firsts.now in
    (u : Writing) × Wrote u l.initial.w l.w l.initial.out l.out
    × (rest_writes s c f (length f) l.memory.calls l.rest.left l.rest.place l.rest.stop l.rest.changes.cell l.rest.changes.left
    ≡ followed_by u (rest_writes s c f (length f) l.memory.calls l.rest.left l.place l.rest.stop l.changes.cell l.changes.left))
    × (l.place < half) × (l.changes.coded.code.now ≡ c) × (l.changes.left ≤ l.rest.changes.left)

abbrev pub decreases-loop-cell : goal.decreases-loop-cell
decreases-loop-cell l = l.changes.left
