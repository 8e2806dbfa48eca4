-- `hexadecimal::get_bytes` meets its contract. The invariant: the first j bytes are read.
use Rattle.std.proofs.Common.{rules, ◌≡◌, None}
use native.Mathlib.Omega.{arith}
use Prim.Native.Nat.{◌+◌, ◌*◌, ◌/◌}
use mathlib.Core.Path.{refl, sym, ap, ◌∙◌}
use lib.ListN.{length, length-set}
use Rattle.lists.specs.Lists.{all}
use Rattle.state_frames.specs.Hexadecimal.{is_digit}
use Rattle.hexadecimal.proofs.Laws.{read_none, read-turn, read-stops, digits_all, read_all}
use Rattle.hexadecimal.proofs.get_bytes.Goals as goal

pub loop-j-init : goal.loop-j-init
loop-j-init c = (refl, read_none c.args.dst.now c.args.at c.args.src.now 0)

pub returns-in_err-b : goal.returns-in_err-b
returns-in_err-b c =
    let loop = c.loop-j in
    let s = c.args.src.now in
    let z : 0 + 2 * loop.j ≡ 2 * loop.j = omega arith in
    let none : c.from_residual.result ≡ None = search rules in
    rw none (record { told = read-stops c.args.dst.now c.args.at s 0 (length s / 2) loop.j loop.dst loop.invariant.1 c.requires.fits (omega (arith, c.requires.even)) (omega arith) (rw z (sym c.byte_at.ensures ∙ c.in_err-b.was)) ∙ ap (all is_digit) (digits_all s c.requires.even (length s / 2) (omega arith)); bytes = λ h. absurd h })

pub loop-j-preserved : goal.loop-j-preserved
loop-j-preserved c =
    let loop = c.loop-j in
    let s = c.args.src.now in
    let z : 0 + 2 * loop.j ≡ 2 * loop.j = omega arith in
    (simp length-set (omega arith), read-turn c.args.dst.now c.args.at s 0 (length s / 2) loop.j loop.dst loop.invariant.1 c.requires.fits (omega (arith, c.requires.even)) (omega arith) c.in_ok-b.b (rw z (sym c.byte_at.ensures ∙ c.in_ok-b.was)))

pub returns : goal.returns
returns c = let loop = c.loop-j in read_all c.args.src.now c.requires.even c.args.dst.now c.args.at loop.j loop.dst loop.invariant.1 (omega arith)
