-- `writing::put_text` meets its contract.
use native.Mathlib.Omega.{arith}
use Rattle.writing.proofs.Held.{below_of, text-done}
use Rattle.writing.proofs.put_text.Goals as goal

pub returns : goal.returns
returns c =
    let put-named = c.put_named in
    let texts = c.texts-n in
    text-done c.args.table.now put-named.new.table c.write.new.cells texts.result c.requires.long c.args.word.now texts.ensures.is (omega (arith, texts.ensures.is, c.requires.room)) (record { most = c.requires.short; below = below_of 256 c.args.word.now (λ j. omega (arith, c.shared_slice_known-1.given j)) }) put-named.ensures c.write.ensures
