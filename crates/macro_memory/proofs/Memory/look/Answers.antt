-- `macro_memory::Memory::look` meets its contract.
use Rattle.std.proofs.Common.{rules}
use borrow.Author.Tests.{tests}
use Rattle.std.proofs.lemmas.Bool.{MatchBool-at_true}
use Rattle.std.proofs.lemmas.Iterator.{YieldsList-from_slice, cases_from_any}
use Rattle.std.specs.Bool.{⊤}
use Rattle.macro_memory.specs.Memory.{free_slot, Like}
use Rattle.macro_memory.specs.SameLaws.{found}
use Rattle.macro_memory.specs.declared.Slot.{Slot}
use Rattle.macro_memory.proofs.Memory.look.Goals as goal

pub returns : goal.returns
returns c =
    let x = c.args.here.now in
    let Same : Slot → Type 0 = Like x.coded.text.now x.coded.code.now x.calls.now c.args.at in
    let any = cases_from_any _ _ _ Same (λ k. ⊤) c.any.ensures.ran (YieldsList-from_slice _ c.iter.ensures.rest) (λ y q k. search (rules, tests)) (λ y q k. search (rules, tests)) in
    λ z. let w = MatchBool-at_true _ _ z any in found x.coded.text.now x.coded.code.now x.calls.now c.args.at c.args.self.now.slots _ _ w.0 w.1 (w.2 free_slot)
