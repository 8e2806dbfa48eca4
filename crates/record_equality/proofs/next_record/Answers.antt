-- `record_equality::next_record` meets its contract.
use Rattle.record_equality.proofs.Rows.{next-lent}
use Rattle.record_equality.proofs.next_record.Goals as goal

pub returns : goal.returns
returns c = next-lent c.args.state.now.store c.args.i c.after_bytes.ensures c.next_contents.ensures
