-- `moves::send` meets its contract.
use native.Mathlib.Omega.{arith}
use mathlib.Core.Path.{refl, sym, ◌∙◌}
use lib.ListN.{take}
use Rattle.machine.specs.Changes.{minus_unless, into, past}
use Rattle.layout.specs.Components.{components_in}
use Rattle.tests.specs.Prepares.{until_in}
use Rattle.state.specs.Working.{nth, reading, writing}
use Rattle.instructions.proofs.Answers.{one-after, tried-full}
use Rattle.instructions.proofs.Room.{freed-few}
use Rattle.moves.specs.Moves.{sent}
use Rattle.moves.proofs.Rows.{done}
use Rattle.moves.proofs.Taking.{taken-part, took, more, copy-room, held-turned, fits-sent, writable, sent-done}
use Rattle.moves.proofs.send.Goals as goal

pub count-t-requires : goal.count-t-requires
count-t-requires c = record { whole = c.expr_bytes-x.ensures.whole; fitting = c.with.ensures.fitting c.requires.beside.fitting }

pub has_room_after-requires : goal.has_room_after-requires
has_room_after-requires c =
    let x = c.expr_bytes-x.ensures in
    let m = more x.stands c.requires.source x (rw c.with.ensures.parts at c.count-t.ensures) in
    record { freed = freed-few _ c.args.source.removes c.freed.ensures m; new = m }

pub returns-then-not-has_room_after : goal.returns-then-not-has_room_after
returns-then-not-has_room_after c =
    let x = c.expr_bytes-x.ensures in
    let from = c.args.source in
    let to = c.args.target in
    tried-full x.stands _ refl (fits-sent x.stands c.requires.source x (rw c.with.ensures.parts at c.count-t.ensures) from.removes to.j c.requires.target to.reverses to.at_end ∙ rw c.freed.ensures at (sym c.has_room_after.ensures) ∙ c.if-not-has_room_after.true)

pub copy-requires : goal.copy-requires
copy-requires c =
    let x = c.expr_bytes-x.ensures in
    copy-room x.stands c.requires.source x (rw c.with.ensures.parts at c.count-t.ensures) _ (omega arith)

pub deliver-requires : goal.deliver-requires
deliver-requires c =
    let x = c.expr_bytes-x.ensures in
    let t = c.count-t in
    let from = c.args.source in
    let to = c.args.target in
    let held = held-turned c.args.bench.now.hold to.reverses t.result.amount.bytes c.copy.ensures (taken-part x.stands c.requires.source x (rw c.with.ensures.parts at c.count-t.ensures)) (took x.stands c.requires.source x (rw c.with.ensures.parts at c.count-t.ensures)).bytes_is in
    writable x.stands c.requires.source x (rw c.with.ensures.parts at c.count-t.ensures) from.removes to.j c.requires.target to.reverses to.at_end held (rw c.freed.ensures at (sym c.has_room_after.ensures) ∙ c.if-not-has_room_after.false) c.past_parts.ensures

pub returns : goal.returns
returns c =
    let x = c.expr_bytes-x.ensures in
    let t = c.count-t in
    let argsᶜ = c.args in
    let from = argsᶜ.source in
    let to = argsᶜ.target in
    let held = held-turned argsᶜ.bench.now.hold to.reverses t.result.amount.bytes c.copy.ensures (taken-part x.stands c.requires.source x (rw c.with.ensures.parts at c.count-t.ensures)) (took x.stands c.requires.source x (rw c.with.ensures.parts at c.count-t.ensures)).bytes_is in
    done x.stands (sent (until_in argsᶜ.test argsᶜ.bench.now.given) from.removes from.i to.reverses to.at_end to.j)
    (sent-done x.stands c.requires.source x (rw c.with.ensures.parts at c.count-t.ensures) from.removes to.j c.requires.target to.reverses to.at_end held
    (one-after argsᶜ.bench.now.state (past (nth (reading from.removes) from.i) t.result.amount.parts) (λ z. minus_unless t.result.reached (into (nth (writing to.at_end) to.j) (components_in (take t.result.amount.bytes c.copy.new.out)) z)) c.past_parts.ensures c.deliver.ensures))
