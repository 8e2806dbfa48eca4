-- `names::lowest_mark` meets its contract.
use Rattle.std.proofs.Common.{◌≡◌, refl, subst, map, rules}
use Rattle.std.proofs.lemmas.Fn.{fold_over, slice_gives, fronts}
use Rattle.drafts.specs.Marks.{place_by}
use Rattle.statements.specs.StatementAt.{fault_of}
use Rattle.names.proofs.Lowest.{mark-more}
use Rattle.names.proofs.lowest_mark.Goals as goal

pub returns : goal.returns
returns c = subst (λ ms. c.fold.result ≡ fault_of (map place_by ms)) c.iter.ensures.rest
    (fold_over fronts (λ y. y.now) _ (λ ms f. f ≡ fault_of (map place_by ms)) _ (λ ms f x r q a k. let more = mark-more ms x.now {r = r} a in search (rules, more))
    _ _ _ _ (slice_gives c.iter.result) refl c.fold.ensures.ran)
