-- `records::same_contents` meets its contract.
use mathlib.Core.Path.{sym, ◌∙◌}
use lib.Pointwise.{bytes_decides}
use Rattle.records.proofs.Contents.{alike_is}
use Rattle.records.proofs.same_contents.Goals as goal

pub returns : goal.returns
returns c =
    let same = bytes_decides c.args.a.now c.args.b.now in
    alike_is c.requires.left c.requires.right c.eq.result (λ e. same.0 (sym c.eq.ensures ∙ e)) (λ e. c.eq.ensures ∙ same.1 e)
