-- `packed::end_is` meets its contract.
use mathlib.Core.Path.{sym, ◌∙◌}
use Prim.Native.Nat.{ℕ, ◌<◌}
use native.Mathlib.Omega.{arith}
use lib.ListN.{get_or}
use Rattle.packed.proofs.Bytes.{same_rest, same_end}
use Rattle.packed.proofs.end_is.Goals as goal

pub returns-then-q-word : goal.returns-then-q-word
returns-then-q-word c =
    let a = c.args in
    let b : (j : ℕ) → get_or a.word.now j 0 < 256 = λ j. omega (arith, c.type_inv.word j) in
    sym (same_end a.row.now a.word.now b a.q c.if-q-word.true)

pub returns : goal.returns
returns c =
    let a = c.args in
    let b : (j : ℕ) → get_or a.word.now j 0 < 256 = λ j. omega (arith, c.type_inv.word j) in
    c.rest_is.ensures ∙ sym (same_rest a.row.now a.word.now b a.q (omega arith) (c.fits-row a.q) (omega arith) (omega arith))
