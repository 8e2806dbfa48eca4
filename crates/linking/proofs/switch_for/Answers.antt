-- `linking::switch_for` meets its contract.
use mathlib.Core.Path.{◌≡◌, ap, ◌∙◌}
use lib.ListN.{length}
use borrow.Author.Tests.{tests}
use Prim.Native.Nat.{ℕ}
use Rattle.std.proofs.Common.{rules}
use Rattle.std.proofs.lemmas.Iterator.{YieldsList-from_slice}
use Rattle.std.proofs.lemmas.Iterator.Search.{position_from_yields_List}
use Rattle.std.specs.Prelude.{Option, position, unwrap_or}
use Rattle.drafts.specs.Marks.{word_by}
use Rattle.lists.specs.Lists.{bytes_equal}
use Rattle.lists.specs.SearchLaws.{position_or_length}
use Rattle.linking.proofs.switch_for.Goals as goal

pub returns : goal.returns
returns c =
    let e : c.position.result ≡ position (λ x. bytes_equal (word_by c.args.text.now c.args.m) (word_by c.args.text.now x)) c.args.names.now = position_from_yields_List (λ x. bytes_equal (word_by c.args.text.now c.args.m) (word_by c.args.text.now x)) _ _ c.position.result c.position.ensures.ran (YieldsList-from_slice _ c.iter.ensures.rest) (λ x b q k. search (rules, tests)) in
    c.unwrap_or.ensures ∙ ap (λ (o : Option ℕ). unwrap_or o (length c.args.names.now)) e
    ∙ position_or_length (λ x. bytes_equal (word_by c.args.text.now c.args.m) (word_by c.args.text.now x)) c.args.names.now
