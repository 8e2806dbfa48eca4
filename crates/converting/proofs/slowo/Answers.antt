-- `converting::slowo` meets its contract.
use Rattle.std.proofs.lemmas.Result.{err_from_is_err_and}
use Rattle.converting.proofs.Rows.{number_ok, word-replaceable, slowo-stop, slowo-done}
use Rattle.converting.proofs.slowo.Goals as goal

pub returns-in_err-code : goal.returns-in_err-code
returns-in_err-code c =
    let e = err_from_is_err_and c.from_residual.result c.from_residual.ensures.1 in
    let o = c.first_number.ensures in
    rw (e.1, e.2) (slowo-stop o.stands c.args.source.removes c.args.source.i o.reads c.in_err-code.was)

pub replace-requires : goal.replace-requires
replace-requires c = rw c.word-word.ensures (word-replaceable c.args.bench.now.state c.requires (number_ok c.first_number.ensures.reads c.in_ok-code.was) c.put_numeral-n.ensures)

pub returns : goal.returns
returns c =
    let o = c.first_number.ensures in
    slowo-done o.stands c.args.source.removes c.args.source.i (number_ok o.reads c.in_ok-code.was) c.put_numeral-n.ensures c.replace.ensures
