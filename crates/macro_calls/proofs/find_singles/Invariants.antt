-- `macro_calls::find_singles` meets its contract.
use Rattle.std.specs.Prelude.{◌≡◌, false, ℕ, ◌≤◌, ◌<◌, eqb, get_or, length}
use Rattle.macros.specs.Expansion.{called_by}
use Rattle.macro_code.specs.Code.{bytes_at, macros_in}
use Rattle.macro_calls.proofs.find_singles.Given as goal

abbrev pub invariant-loop-k : goal.invariant-loop-k
invariant-loop-k l =
    let x = l.list in
    let s = x.coded.text.now in
    let c = x.coded.code.now in
    let f = x.firsts.now in
    (length f ≤ length l.singles)
    × ((j : ℕ) → j < l.k → get_or l.singles j false ≡ eqb (length (called_by (macros_in s c f (length f)) (bytes_at s c (get_or f j 0)))) 1)
