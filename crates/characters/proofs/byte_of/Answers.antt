-- `characters::byte_of` meets its contract: the constant is the list of the definition.
use Rattle.std.proofs.Common.{rules, ◌≡◌, get_or}
use Rattle.characters.specs.Characters.{ranked}
use Rattle.characters.proofs.Tables.{by_rank}
use Rattle.characters.proofs.byte_of.Goals as goal

pub returns : goal.returns
returns c =
    let k = c.in-Some.k in
    let e : c.unwrap_or.result ≡ get_or ranked k 0 = search rules in
    rw (by_rank c.args.r k c.in-Some.ensures.0 c.in-Some.ensures.1) e
