-- `operands::second_offered` meets its contract.
use native.Mathlib.Omega.{arith}
use Rattle.operands.proofs.Reading.{operand-named, as_read, letter-told, number-told, text-told, none-offered}
use Rattle.operands.proofs.second_offered.Goals as goal

pub overflow_sub-n : goal.overflow_sub-n
overflow_sub-n c =
    let preᶜ = c.requires in
    omega (arith, (preᶜ.index _ _ c.in-Indexed.is).from)

pub first_offered-requires : goal.first_offered-requires
first_offered-requires c =
    let preᶜ = c.requires in
    operand-named preᶜ c.in-Indexed.is

pub returns-in-Indexed : goal.returns-in-Indexed
returns-in-Indexed c =
    let preᶜ = c.requires in
    letter-told c.args.state.now preᶜ c.in-Indexed.is c.first_offered.ensures.reads

pub returns-in-Number : goal.returns-in-Number
returns-in-Number c =
    let argsᶜ = c.args in
    let preᶜ = c.requires in
    as_read argsᶜ.state.now.store c.in-Number.is (number-told argsᶜ.state.now.store c.in-Number.v (preᶜ.number c.in-Number.v c.in-Number.is))

pub returns-in-Text : goal.returns-in-Text
returns-in-Text c =
    let argsᶜ = c.args in
    as_read argsᶜ.state.now.store c.in-Text.is (text-told argsᶜ.state.now.store c.in-Text.field-0)

pub returns-in-Class : goal.returns-in-Class
returns-in-Class c = none-offered c.args.state.now.store c.in-Class.is
