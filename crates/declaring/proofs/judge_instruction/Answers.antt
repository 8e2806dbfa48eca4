-- `declaring::judge_instruction` meets its contract.
use Rattle.declaring.proofs.Judging.{numbers-enterable, judged, judged-by}
use Rattle.declaring.proofs.judge_instruction.Goals as goal

pub labels_beyond-b-requires : goal.labels_beyond-b-requires
labels_beyond-b-requires c = c.requires.held

pub enter_text_values-c-requires : goal.enter_text_values-c-requires
enter_text_values-c-requires c = c.requires

pub enter_number_values-d-requires : goal.enter_number_values-d-requires
enter_number_values-d-requires c = numbers-enterable c.requires c.enter_text_values-c.ensures

pub returns : goal.returns
returns c = judged-by c.instruction_beyond-a.result c.labels_beyond-b.result c.enter_text_values-c.result c.enter_number_values-d.result
    (judged c.requires c.enter_text_values-c.ensures c.enter_number_values-d.ensures c.args.i.at c.instruction_beyond-a.ensures c.labels_beyond-b.ensures)
    c.lower.ensures c.lower-2.ensures c.lower-3.ensures
