-- `macro_expansion::expand_body` meets its contract. It ends since the levels left fall with each call.
use mathlib.Core.Path.{◌≡◌}
use Rattle.std.proofs.Common.{Some}
use Prim.Native.Nat.{◌+◌, ◌-◌}
use lib.ListN.{length, take}
use Rattle.macros.specs.Expansion.{Writing, followed_by, levels}
use Rattle.macro_code.specs.Code.{low}
use Rattle.macro_memory.specs.Memory.{Remembers}
use Rattle.macro_values.specs.Wrote.{Wrote}
use Rattle.macro_expansion.specs.Expanding.{changes_left, pause_writes, Stops}
use Rattle.macro_expansion.specs.declared.Pause.{Pause}
use Rattle.macro_expansion.proofs.+expand_body.Given as goal

abbrev pub decreases-expand_body : goal.decreases-expand_body
decreases-expand_body l = l.at.left

abbrev pub invariant-loop-paused : goal.invariant-loop-paused
invariant-loop-paused l =
    (u : Writing) × Wrote u l.initial.paused.state l.paused.state l.initial.out l.out
    × (pause_writes l.list.hinted.listed.coded.text.now l.list.hinted.listed.coded.code.now l.list.hinted.listed.firsts.now (length l.list.hinted.listed.firsts.now) l.initial.memory.calls l.at.left (low l.list.hinted.listed.coded.code.now (l.at.cell + 1)) l.initial.paused.call
    ≡ followed_by u (pause_writes l.list.hinted.listed.coded.text.now l.list.hinted.listed.coded.code.now l.list.hinted.listed.firsts.now (length l.list.hinted.listed.firsts.now) l.initial.memory.calls l.at.left (low l.list.hinted.listed.coded.code.now (l.at.cell + 1)) l.paused.call))
    × (take (levels - l.at.left) l.memory.calls ≡ take (levels - l.at.left) l.initial.memory.calls)
    × ((x : Pause) → l.paused.call ≡ Some x → Stops l.list.hinted.listed.coded.code.now l.at.left x) × Remembers l.list.hinted.listed.coded.text.now l.list.hinted.listed.coded.code.now l.list.hinted.listed.firsts.now (length l.list.hinted.listed.firsts.now) l.memory.slots l.paused.state

abbrev pub decreases-loop-paused : goal.decreases-loop-paused
decreases-loop-paused l = changes_left l.paused.call
