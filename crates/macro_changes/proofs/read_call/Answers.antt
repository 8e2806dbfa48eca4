-- `macro_changes::read_call` meets its contract.
use native.Mathlib.Omega.{arith}
use Rattle.std.specs.Prelude.{is_some}
use Rattle.macro_changes.proofs.Stepping.{some-given, call-stepped}
use Rattle.macro_changes.proofs.read_call.Goals as goal

pub overflow_add-u : goal.overflow_add-u
overflow_add-u c = let q = c.requires.started in omega (arith, q.room, q.wide, q.held.most, q.held.small)

pub read_given-r-requires : goal.read_given-r-requires
read_given-r-requires c =
    let q = c.requires.started in
    record { lent = record { copy = c.requires.copy; size = q.held.small; most = q.held.most }; few = q.few; scoped = omega (arith, q.scoped); room = omega (arith, q.room); wide = q.wide }

pub name_fault-name-requires : goal.name_fault-name-requires
name_fault-name-requires c = let q = c.requires.started in record { copy = c.requires.copy; size = q.held.small; most = q.held.most }

pub end_of_call-e-requires : goal.end_of_call-e-requires
end_of_call-e-requires c = record { copy = c.requires.copy; size = c.requires.started.held.small; most = c.read_given-r.ensures.gives.most }

pub write_call-used-requires : goal.write_call-used-requires
write_call-used-requires c =
    let q = c.requires.started in
    let h = c.read_given-r.ensures.gives in
    let y = q.held in
    record {
      room = omega (arith, q.room, h.kept.size, y.most);
      wide = omega (arith, q.room, q.wide, y.most, y.small, h.from, h.most);
      start_low = omega (arith, y.own, y.ends, y.small);
      stop_low = omega (arith, (c.end_of_call-e.ensures.is (is_some c.args.x) c.read_given-r.ensures.done).stop_most, y.small);
      count_low = omega (arith, h.from, h.most, y.small);
      named = rw c.lower-fault.ensures (some-given q c.requires.star c.read_given-r.ensures c.name_fault-name.ensures);
    }

pub returns : goal.returns
returns c =
    rw c.lower-fault.ensures
    (call-stepped c.requires.started c.requires.star c.read_given-r.ensures c.name_fault-name.ensures (c.end_of_call-e.ensures.is (is_some c.args.x) c.read_given-r.ensures.done) (rw c.lower-fault.ensures at c.write_call-used.ensures))
