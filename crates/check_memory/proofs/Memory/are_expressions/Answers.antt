-- `check_memory::Memory::are_expressions` meets its contract.
use Rattle.std.proofs.Common.{ap, sym, rules, []}
use Rattle.std.proofs.Math.ListN.{get_or}
use borrow.Author.Tests.{tests}
use Rattle.check_strings.specs.Sound.{sound_components}
use Rattle.check_memory.specs.Passes.{all_strings, expressions}
use Rattle.check_memory.proofs.Loops.{expression-at, tests_all}
use Rattle.check_memory.proofs.Readings.{length-expressions}
use Rattle.check_memory.proofs.Memory.are_expressions.Goals as goal

pub returns : goal.returns
returns c =
    let m = c.args.self.now in
    let p = sound_components c.args.last in
    tests_all [] (λ i. p (get_or (all_strings m) i [])) p (expressions m) 32 (length-expressions m) (λ i h. ap p (sym (expression-at m i h))) _ _ _ c.all.ensures.ran (λ x b q k. search (rules, tests))
