-- `names::first_reserved` meets its contract.
use Rattle.std.proofs.Common.{◌≡◌, refl, subst, [], ◌∷◌, ◌++◌, rules}
use Rattle.std.proofs.lemmas.Fn.{fold_over, slice_gives, fronts}
use Rattle.statements.specs.Faults.{Fault, lower}
use Rattle.statements.specs.StatementAt.{fault_of}
use Rattle.names.specs.Names.{reserved_by}
use Rattle.names.proofs.Lowest.{reserved-next}
use Rattle.names.proofs.first_reserved.Goals as goal

pub returns : goal.returns
returns c =
    let s = c.args.text.now in
    subst (λ ms. c.fold.result ≡ fault_of (reserved_by s ms)) c.iter.ensures.rest
    (fold_over fronts (λ y. y.now) _ (λ ms f. f ≡ fault_of (reserved_by s ms)) _
    (λ ms f x r q a k. let more : (g : Fault) → g ≡ fault_of (reserved_by s (x.now ∷ [])) → r ≡ lower f g → r ≡ fault_of (reserved_by s (ms ++ (x.now ∷ []))) = λ g e l. reserved-next s ms x.now a e l in search (rules, more))
    _ _ _ _ (slice_gives c.iter.result) refl c.fold.ensures.ran)
