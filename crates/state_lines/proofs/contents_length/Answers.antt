-- `state_lines::contents_length` meets its contract.
use Rattle.std.proofs.Common.{◌≡◌, ◌∙◌, sym, refl, arith, ◌+◌, ◌*◌}
use Rattle.hexadecimal.proofs.Laws.{told-byte-some}
use Rattle.state_lines.proofs.contents_length.Goals as goal

pub byte_at-requires : goal.byte_at-requires
byte_at-requires c = omega (arith, c.requires.there)

pub unwrap-high-requires : goal.unwrap-high-requires
unwrap-high-requires c = rw (c.byte_at.ensures, c.requires.high) refl

pub unwrap-low-requires : goal.unwrap-low-requires
unwrap-low-requires c = rw (c.byte_at-2.ensures, c.requires.low) refl

pub returns : goal.returns
returns c =
    let high = told-byte-some _ _ c.unwrap-high.result (sym c.byte_at.ensures ∙ c.unwrap-high.ensures) in
    let low = told-byte-some _ _ c.unwrap-low.result (sym c.byte_at-2.ensures ∙ c.unwrap-low.ensures) in
    let n : c.from_be_bytes.result ≡ 256 * c.unwrap-high.result + c.unwrap-low.result = c.from_be_bytes.ensures ∙ omega arith in
    record { is = c.from.ensures ∙ n ∙ rw (high.1, low.1) refl; most = omega (arith, c.from.ensures, n) }
