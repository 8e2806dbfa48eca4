-- `check_state::are_returns` meets its contract.
use Rattle.std.proofs.Common.{ap, sym, rules, ◌*◌}
use borrow.Author.Tests.{tests}
use Rattle.check_memory.proofs.Loops.{tests_all}
use Rattle.layout.specs.Cells.{two_at}
use Rattle.layout.specs.Memory.{twos_in}
use Rattle.layout.specs.Table.{program_of}
use Rattle.machine.specs.WellFormed.{good_return}
use Rattle.check_state.proofs.Returns.{length-twos, entry_at}
use Rattle.check_state.proofs.are_returns.Goals as goal

pub returns : goal.returns
returns c =
    let s = c.args.s.now in
    let p = good_return (program_of c.args.table.cells.now) in
    tests_all 0 (λ i. p (two_at (2 * i) s)) p (twos_in s) _ (length-twos s) (λ i h. ap p (sym (entry_at s i h))) _ _ _ c.all.ensures.ran (λ x b q k. search (rules, tests))
