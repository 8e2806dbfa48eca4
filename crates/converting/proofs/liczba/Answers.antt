-- `converting::liczba` meets its contract.
use Rattle.std.proofs.lemmas.Result.{err_from_is_err_and}
use Rattle.converting.proofs.Rows.{spelled_ok, number-replaceable, liczba-stop, liczba-done}
use Rattle.converting.proofs.liczba.Goals as goal

pub returns-in_err-w : goal.returns-in_err-w
returns-in_err-w c =
    let e = err_from_is_err_and c.from_residual.result c.from_residual.ensures.1 in
    let o = c.first_numeral.ensures in
    rw (e.1, e.2) (liczba-stop o.stands c.args.source.removes c.args.source.i o.reads c.in_err-w.was)

pub word-word-requires : goal.word-word-requires
word-word-requires c = (spelled_ok c.first_numeral.ensures.reads c.in_ok-w.was).letters_most

pub replace-requires : goal.replace-requires
replace-requires c = rw c.word-word.ensures (number-replaceable c.args.bench.now.state c.requires (spelled_ok c.first_numeral.ensures.reads c.in_ok-w.was) _ c.put_number.ensures)

pub returns : goal.returns
returns c =
    let o = c.first_numeral.ensures in
    liczba-done o.stands c.args.source.removes c.args.source.i o.reads c.in_ok-w.was _ c.put_number.ensures c.replace.ensures
