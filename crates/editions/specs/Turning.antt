-- Statements in the other edition: the operator respelled, all other items as they are.
use Rattle.std.specs.Prelude.{Bool, true, false, cond, not, ◌&&◌, List, [], ◌∷◌}
use Rattle.syntax.specs.Items.{Item, is}
use Rattle.syntax.specs.Items.Sort.{word, end}
use Rattle.syntax.specs.Statements.{is_operator}
use Rattle.syntax.specs.Tables.{Draft, is_first}
use Rattle.editions.specs.Convert.{respell}

abbrev pub respelled_item : Item → Item
respelled_item i = record { at = i.at; sort = i.sort; chars = cond (is word i) (respell i.chars) i.chars; good = i.good; colon = i.colon }

-- a statement, of which `awaited` tells whether its operator is still to come
unfoldable pub turned_if : Bool → List Item → List Item
turned_if awaited [] = []
turned_if awaited (i ∷ js) = cond (awaited && is_operator i) (respelled_item i ∷ js) (i ∷ turned_if awaited js)

abbrev pub turned : List Item → List Item
turned x = turned_if true x

-- the items of several statements
unfoldable pub turned_items : Bool → List Item → List Item
turned_items awaited [] = []
turned_items awaited (i ∷ js) =
    cond (is end i) (i ∷ turned_items true js)
    (cond (awaited && is_operator i) (respelled_item i ∷ turned_items false js) (i ∷ turned_items awaited js))

-- the draft of the other edition
abbrev pub turned_draft : Draft → Draft
turned_draft d =
    record {
      section = d.section;
      english = cond (is_first d) d.english (not d.english);
      names = d.names;
      waiting = d.waiting;
      tables = d.tables;
      closing = d.closing;
    }
