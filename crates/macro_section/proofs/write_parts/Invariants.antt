-- `macro_section::write_parts` meets its contract.
use Rattle.std.proofs.Common.{◌≡◌, ◌<◌, List, ℕ, [], length}
use Rattle.lists.specs.Lists.{each}
use Rattle.macros.specs.Expansion.{expand, levels}
use Rattle.macros.specs.Prepared.{origins, deep_places}
use Rattle.macro_code.specs.Code.{body_in, macros_in}
use Rattle.macro_code.specs.Places.{half}
use Rattle.macro_memory.specs.Memory.{Remembers}
use Rattle.macro_section.specs.Origins.{Going}
use Rattle.macro_section.specs.Long.{Overs}
use Rattle.macro_section.proofs.write_parts.Given as goal

abbrev pub invariant-loop-cell : goal.invariant-loop-cell
invariant-loop-cell l =
    let s = l.list.hinted.listed.coded.text.now in
    let c = l.list.hinted.listed.coded.code.now in
    let f = l.list.hinted.listed.firsts.now in
    let ms = macros_in s c f (length f) in
    let left = l.cell-iterator in
    (from : List ℕ)
    × Going s c f (length f) l.stop (expand ms levels [] (body_in s c l.section)) (each (origins ms) (body_in s c l.section)) l.initial.w l.w l.initial.out l.out l.places from l.place left.cell left.left
    × (length l.places ≡ length l.initial.places) × (l.place < half) × (left.coded.code.now ≡ c)
    × Overs s c f (length f) l.stop (length l.initial.out) (each (deep_places ms) (body_in s c l.section)) from l.w l.long l.place left.cell left.left
    × Remembers s c f (length f) l.memory.slots l.w
