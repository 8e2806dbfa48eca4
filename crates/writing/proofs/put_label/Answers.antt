-- `writing::put_label` meets its contract.
use native.Mathlib.Omega.{arith}
use Rattle.writing.specs.Writing.{label_of}
use Rattle.writing.proofs.Held.{below_of, label-done}
use Rattle.writing.proofs.put_label.Goals as goal

pub returns : goal.returns
returns c =
    let put-named = c.put_named in
    let labels = c.labels-n in
    label-done c.args.table.now put-named.new.table c.write.new.cells labels.result c.requires.long (label_of c.args.name.now c.args.target) labels.ensures.is (omega (arith, labels.ensures.is, c.requires.room)) (record { most = c.requires.short; below = below_of 256 c.args.name.now (λ j. omega (arith, c.shared_slice_known-1.given j)) }) (rw c.number.ensures at put-named.ensures) c.write.ensures
