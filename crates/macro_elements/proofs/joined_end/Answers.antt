-- `macro_elements::joined_end` meets its contract.
use native.Mathlib.Omega.{arith}
use Rattle.macro_elements.proofs.Linking.{same_length}
use Rattle.macro_elements.proofs.joined_end.Goals as goal

pub bounds-marked-end : goal.bounds-marked-end
bounds-marked-end c = omega (arith, same_length c.args.source.now.text.now c.args.source.now.marked.now c.requires.copy)
