-- `drafts::word_of` meets its contract.
use mathlib.Core.Path.{ap, ◌∙◌}
use Prim.Native.Nat.{ℕ, ◌+◌, min}
use lib.ListN.{length}
use Rattle.drafts.proofs.Cutting.{word_cut}
use Rattle.drafts.proofs.word_of.Goals as goal

pub returns : goal.returns
returns c =
    let n : ℕ = length c.args.text.now in
    word_cut c.args.text.now c.args.m _ _ (c.min-at.ensures ∙ ap (min n) c.place_of.ensures)
    (c.min-end.ensures ∙ (λ j. min n (c.place_of-2.ensures j + c.length_of.ensures j)))
