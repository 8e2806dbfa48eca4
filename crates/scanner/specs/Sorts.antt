-- The sorts of items of Items.antt as the code has them.
use Rattle.std.specs.Prelude.{Option, None, Some}
use Rattle.syntax.specs.Items as items
use Rattle.scanner.specs.declared.Sort.{Sort}

-- the sort that is meant; a separator is none
abbrev pub sort_in : Option Sort → items.Sort
sort_in None = items.Sort.separator
sort_in (Some Sort.Word) = items.Sort.word
sort_in (Some Sort.Colon) = items.Sort.colon
sort_in (Some Sort.End) = items.Sort.end
sort_in (Some Sort.Text) = items.Sort.text
sort_in (Some Sort.Wrong) = items.Sort.wrong
