-- `characters::rank` meets its contract: letters and digits stand in a row, by computed tests, and the constant is the list of the definition.
use native.Mathlib.Numerals.{add-one}
use mathlib.Core.Path.{ap, sym, ◌∙◌}
use Prim.Native.Nat.{suc}
use lib.Dec.{eqb}
use Rattle.std.specs.Prelude.{◌≡◌, position, unwrap_or}
use borrow.Author.Rules.{rules}
use Rattle.lists.specs.SearchLaws.{position_or_length}
use Rattle.characters.specs.Characters.{ranked, count}
use Rattle.characters.proofs.Tables.{in_a_row}
use Rattle.characters.proofs.rank.Goals as goal

pub returns-then-is_capital : goal.returns-then-is_capital
returns-then-is_capital c = rw c.from.ensures (in_a_row 65 90 21 c.args.b tt (search rules) (sym c.is_capital.ensures ∙ c.if-is_capital.true))

pub returns-then-between : goal.returns-then-between
returns-then-between c = rw c.from-then-between.ensures (in_a_row 97 122 47 c.args.b tt (search rules) (sym c.between.ensures ∙ c.if-between.true))

pub returns-then-is_digit : goal.returns-then-is_digit
returns-then-is_digit c = rw c.from-then-is_digit.ensures (in_a_row 48 57 74 c.args.b tt (search rules) (sym c.is_digit.ensures ∙ c.if-is_digit.true))

pub returns : goal.returns
returns c =
    let test = eqb c.args.b in
    let e : c.unwrap_or.result ≡ unwrap_or (position test ranked) count = search rules in
    add-one c.unwrap_or.result ∙ ap suc (e ∙ position_or_length test ranked)
