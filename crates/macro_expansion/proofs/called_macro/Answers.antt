-- `macro_expansion::called_macro` meets its contract.
use Prim.Native.Nat.{◌+◌}
use Rattle.macro_expansion.specs.Expanding.{arguments_at}
use Rattle.macro_expansion.specs.CallLaws.{typed-given}
use Rattle.macro_expansion.proofs.called_macro.Goals as goal

pub returns-in-Typed : goal.returns-in-Typed
returns-in-Typed c = let a = c.args in
    rw (typed-given a.list.now.hinted.listed.coded.text.now a.list.now.hinted.listed.coded.code.now (arguments_at a.list.now.hinted.listed.coded.text.now a.list.now.hinted.listed.coded.code.now a.memory.now.calls a.at.left) (a.at.cell + 2) c.in-Typed.ensures) c.find_target.ensures
