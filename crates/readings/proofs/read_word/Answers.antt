-- `readings::read_word` meets its contract.
use native.Mathlib.Omega.{arith}
use Rattle.readings.proofs.Reading.{word-full, word-inside, writable, read_done}
use Rattle.readings.proofs.read_word.Goals as goal

pub take_chars-t-requires : goal.take_chars-t-requires
take_chars-t-requires c =
    let k = c.with.ensures in
    record { fitting = k.fitting c.requires.beside.fitting; room = omega (arith, k.long, c.requires.beside.inside) }

pub returns-then-not-has_word_room : goal.returns-then-not-has_word_room
returns-then-not-has_word_room c =
    word-full c.unread-rest.ensures (rw c.with.ensures.firsts at c.take_chars-t.ensures) c.requires.target c.args.target.at_end c.has_word_room.ensures c.if-not-has_word_room.true

pub shared_ref_as_front-deliver : goal.shared_ref_as_front-deliver
shared_ref_as_front-deliver c = word-inside c.unread-rest.ensures (rw c.with.ensures.firsts at c.take_chars-t.ensures) c.requires.target c.has_word_room.ensures c.if-not-has_word_room.false c.make_word-n.ensures

pub deliver-requires : goal.deliver-requires
deliver-requires c =
    writable c.unread-rest.ensures (rw c.with.ensures.firsts at c.take_chars-t.ensures) c.requires.target c.has_word_room.ensures c.if-not-has_word_room.false c.make_word-n.ensures c.some.ensures c.read_past.ensures

pub returns : goal.returns
returns c =
    read_done c.unread-rest.ensures (rw c.with.ensures.firsts at c.take_chars-t.ensures) c.requires.target c.has_word_room.ensures c.if-not-has_word_room.false c.make_word-n.ensures c.args.target.at_end c.read_past.ensures c.deliver.ensures
