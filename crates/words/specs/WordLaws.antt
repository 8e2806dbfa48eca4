-- Keywords of items, and as the code tells them.
use Rattle.std.specs.Prelude.{◌≡◌, refl, cond}
use Rattle.syntax.specs.Items.{Item, is}
use Rattle.syntax.specs.Items.Sort.{word}
use Rattle.syntax.specs.Statements.{Keyword, keyword_of}
use Rattle.words.specs.Keywords.{keyword_by}

pub keyword-item : (i : Item) → keyword_of i ≡ cond (is word i) (keyword_by i.chars) Keyword.unknown
unfolding keyword_of keyword_by
keyword-item i = refl
