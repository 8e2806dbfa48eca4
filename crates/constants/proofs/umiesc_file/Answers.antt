-- `constants::umiesc_file` meets its contract.
use Rattle.std.proofs.lemmas.Result.{err_from_is_err_and}
use Rattle.instructions.proofs.Asking.{some}
use Rattle.constants.proofs.Rows.{file-stop, file-recordable, file-writable, file-done}
use Rattle.constants.proofs.umiesc_file.Goals as goal

pub returns-in_err-room_for : goal.returns-in_err-room_for
returns-in_err-room_for c =
    let e = err_from_is_err_and c.from_residual.result c.from_residual.ensures.1 in
    rw (e.1, e.2) (file-stop c.stands.ensures c.put_constant-c.ensures c.args.target.reverses c.requires.index c.in_err-room_for.ensures (some _))

pub put_record-requires : goal.put_record-requires
put_record-requires c =
    file-recordable c.stands.ensures c.put_constant-c.ensures c.args.target.reverses c.requires.index c.in_ok-room_for.ensures c.last-last.ensures.is (search)

pub write_records-requires : goal.write_records-requires
write_records-requires c =
    file-writable c.stands.ensures c.put_constant-c.ensures c.args.target.reverses c.requires.index c.in_ok-room_for.ensures c.last-last.ensures.is c.args.bench.now.hold
    c.put_record.ensures

pub returns : goal.returns
returns c =
    file-done c.stands.ensures c.put_constant-c.ensures c.args.target.reverses c.requires.index c.in_ok-room_for.ensures c.last-last.ensures.is c.args.bench.now.hold
    c.put_record.ensures c.write_records.ensures
