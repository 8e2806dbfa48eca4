-- `macro_memory::Slot::is_like` meets its contract.
use Rattle.std.proofs.Common.{◌≡◌, refl, arith, ◌-◌}
use Rattle.macros.specs.Expansion.{levels}
use Rattle.macro_memory.specs.SameLaws.{like}
use Rattle.macro_memory.proofs.Slot.is_like.Goals as goal

pub returns : goal.returns
returns c =
    let x = c.args.here.now in
    let at = c.args.at in
    let p = c.requires in
    let d : x.depth ≡ levels - at.left = omega (arith, p.levels_are) in
    λ z. like x.coded.text.now x.coded.code.now x.calls.now c.args.self.now.calls at c.args.self.now _ c.if-self-at.false c.if-self-at-2.false refl p.some
    (omega (arith, p.levels_are)) (rw d at c.cell_at.ensures.0) (rw d at (c.same_arguments.ensures z))
