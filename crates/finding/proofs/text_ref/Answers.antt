-- `finding::text_ref` meets its contract.
use native.Mathlib.Omega.{arith}
use Rattle.finding.proofs.Found.{text_told}
use Rattle.finding.proofs.References.{text_many}
use Rattle.finding.proofs.text_ref.Goals as goal

pub returns-in_default : goal.returns-in_default
returns-in_default c =
    text_many c.args.table.cells.now c.args.word.now c.in_default.len_at_least (text_told c.args.table.cells.now c.args.word.now c.find_text.ensures c.texts.ensures.is (omega (arith, c.texts.ensures.is, c.requires.most)) c.unwrap_or.ensures)
