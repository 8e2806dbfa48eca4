-- `records::put_record` meets its contract.
use Rattle.records.proofs.Stamps.{put_record}
use Rattle.records.proofs.put_record.Goals as goal

pub returns : goal.returns
returns c =
    let pre = c.requires in
    let put_three = c.put_three in
    let put_two = c.put_two in
    let put = c.put in
    let put-two2 = c.put_two-2 in
    put_record (pre) put_three.ensures put_two.ensures put.ensures put-two2.ensures
