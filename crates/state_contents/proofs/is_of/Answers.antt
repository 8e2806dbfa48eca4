-- `state_contents::is_of` meets its contract.
use native.Mathlib.Omega.{arith}
use mathlib.Core.Path.{◌≡◌, refl, sym, ◌∙◌}
use Rattle.state_frames.specs.Frames.{Frame}
use Rattle.state_contents.proofs.Gathering.{kind-there, index-there, line-within}
use Rattle.state_contents.specs.Contents.{Begins}
use Rattle.state_contents.proofs.is_of.Goals as goal

pub byte_at-requires : goal.byte_at-requires
byte_at-requires c = omega (arith, line-within c.requires.begins)

pub unwrap-kind-requires : goal.unwrap-kind-requires
unwrap-kind-requires c = rw (c.byte_at.ensures, kind-there c.requires.begins) refl

pub byte_at-requires-2 : goal.byte_at-requires-2
byte_at-requires-2 c = omega (arith, line-within c.requires.begins)

pub unwrap-index-requires : goal.unwrap-index-requires
unwrap-index-requires c = rw (c.byte_at-2.ensures, index-there c.requires.begins) refl

pub returns : goal.returns
returns c =
    let kind : (f : Frame) → Begins c.args.line.now f → c.unwrap-kind.result ≡ f.kind =
    λ f b. let e = sym (kind-there b) ∙ sym c.byte_at.ensures ∙ c.unwrap-kind.ensures in cc in
    let index : (f : Frame) → Begins c.args.line.now f → c.unwrap-index.result ≡ f.index =
    λ f b. let e = sym (index-there b) ∙ sym c.byte_at-2.ensures ∙ c.unwrap-index.ensures in cc in
    record {
      frame = λ f b. rw (kind f b, c.from-index.ensures ∙ index f b) at c.eq.ensures;
    }
