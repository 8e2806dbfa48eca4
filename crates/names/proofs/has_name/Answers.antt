-- `names::has_name` meets its contract.
use Rattle.std.proofs.Common.{◌≡◌, ◌∙◌, rules, take, drop}
use borrow.Author.Tests.{tests}
use Rattle.std.proofs.lemmas.Iterator.{YieldsList-from_slice}
use Rattle.std.proofs.lemmas.Iterator.Search.{any_from_yields_List}
use Rattle.drafts.specs.Marks.{word_by}
use Rattle.lists.specs.Lists.{any, bytes_equal}
use Rattle.names.proofs.Seeking.{any-named}
use Rattle.names.proofs.has_name.Goals as goal

pub returns : goal.returns
returns c =
    let s = c.args.text.now in
    let w = take c.args.len (drop c.args.at s) in
    let e : c.any.result ≡ any (λ m. bytes_equal w (word_by s m)) c.args.names.now = any_from_yields_List (λ m. bytes_equal w (word_by s m)) _ _ c.any.result c.any.ensures.ran (YieldsList-from_slice _ c.iter.ensures.rest) (λ x b q k. search (rules, tests)) in
    e ∙ any-named s w c.args.names.now
