-- `linking::label_for` meets its contract.
use native.Mathlib.Omega.{arith}
use Rattle.drafts.specs.Marks.{word_by}
use Rattle.finding.proofs.Found.{label_told}
use Rattle.linking.proofs.label_for.Goals as goal

pub returns : goal.returns
returns c =
    label_told c.args.table.cells.now (word_by c.args.text.now c.args.m) c.label_place.ensures c.labels.ensures.is (omega (arith, c.labels.ensures.is, c.requires.most)) c.unwrap_or.ensures
