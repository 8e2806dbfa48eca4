-- What is kept of two rows, and the places of two rows of faults.
use Rattle.std.specs.Prelude.{◌≡◌, List, ◌++◌, map, ℕ, eqb}
use Rattle.std.proofs.Common.{ap, ◌∙◌}
use Rattle.std.proofs.lemmas.List.{map-append}
use Rattle.std.proofs.lemmas.List.Elements.{filter-append}
use Rattle.syntax.specs.Below.Lists.{keep}
use Rattle.macros.specs.Expansion.{Fault, places_of}

pub places-both : (number : ℕ) (xs ys : List Fault) → places_of number (xs ++ ys) ≡ places_of number xs ++ places_of number ys
places-both number xs ys =
    ap (map (λ f. f.at)) (filter-append (λ f. eqb number f.number) xs ys)
    ∙ map-append (λ f. f.at) (keep (λ f. eqb number f.number) xs) (keep (λ f. eqb number f.number) ys)
