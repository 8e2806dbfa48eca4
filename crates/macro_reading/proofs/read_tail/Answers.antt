-- `macro_reading::read_tail` meets its contract.
use native.Mathlib.Omega.{arith}
use mathlib.Core.Path.{refl, ◌∙◌}
use Rattle.macro_reading.proofs.Ending.{tail-fault, tail-read}
use Rattle.macro_reading.proofs.read_tail.Goals as goal

pub overflow_add-stop : goal.overflow_add-stop
overflow_add-stop c = let h = (c.next_element-b.ensures.some _ c.in-Some.is).held in omega (arith, h.own, h.ends, h.small)

pub returns-in-Some : goal.returns-in-Some
returns-in-Some c =
    let f = (rw (c.lower.ensures, c.then_some.ensures, c.is_some.ensures) at c.lower-fault.ensures) ∙ tail-fault c.requires c.read_header-h.ensures c.next_element-b.result c.next_element-b.ensures c.args.at c.args.defined in
    tail-read c.requires c.read_header-h.ensures c.next_element-b.result c.next_element-b.ensures c.args.at c.args.defined f (rw c.in-Some.is refl) (rw c.in-Some.is refl)

pub returns-in-None : goal.returns-in-None
returns-in-None c =
    let f = (rw (c.lower.ensures, c.then_some.ensures, c.is_some.ensures) at c.lower-fault.ensures) ∙ tail-fault c.requires c.read_header-h.ensures c.next_element-b.result c.next_element-b.ensures c.args.at c.args.defined in
    tail-read c.requires c.read_header-h.ensures c.next_element-b.result c.next_element-b.ensures c.args.at c.args.defined f (rw c.in-None.is refl) (rw c.in-None.is refl)
