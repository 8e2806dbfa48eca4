-- `check_memory::Memory::are_files` meets its contract.
use Rattle.std.proofs.Common.{ap, sym, rules, ◌+◌, []}
use Rattle.std.proofs.Math.ListN.{get_or}
use borrow.Author.Tests.{tests}
use Rattle.check_strings.specs.Sound.{sound_records}
use Rattle.check_memory.specs.Passes.{all_strings, halves}
use Rattle.check_memory.proofs.Loops.{half_at, tests_all}
use Rattle.check_memory.proofs.Readings.{length-halves}
use Rattle.check_memory.proofs.Memory.are_files.Goals as goal

pub returns : goal.returns
returns c =
    let m = c.args.self.now in
    let p = sound_records c.args.last in
    tests_all [] (λ i. p (get_or (all_strings m) (32 + i) [])) p (halves m) 64 (length-halves m) (λ i h. ap p (sym (half_at m i h))) _ _ _ c.all.ensures.ran (λ x b q k. search (rules, tests))
