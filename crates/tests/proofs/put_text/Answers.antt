-- `tests::put_text` meets its contract.
use Rattle.tests.proofs.Values.{text-put}
use Rattle.tests.proofs.put_text.Goals as goal

pub returns : goal.returns
returns c =
    text-put c.put_text-n.ensures c.requires.good.some c.args.given.now c.put_word.ensures c.requires.room
