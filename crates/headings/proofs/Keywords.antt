-- The two questions on a keyword where it is not the one that the code names.
use Rattle.std.proofs.Common.{◌≡◌, refl, false}
use Rattle.std.specs.Prelude.{Option, None, Some}
use Rattle.words.specs.declared.Keyword.{Keyword}
use Rattle.headings.specs.Headings.{is_kons, is_konp}

pub kons_rest : (k : Option Keyword) → (k ≡ Some Keyword.Kons → ⊥) → false ≡ is_kons k
kons_rest None h = refl
kons_rest (Some Keyword.Sekcja) h = refl
kons_rest (Some Keyword.Kons) h = absurd (h refl)
kons_rest (Some Keyword.Konp) h = refl
kons_rest (Some (Keyword.Switch b)) h = refl
kons_rest (Some (Keyword.Instr o)) h = refl

pub konp_rest : (k : Option Keyword) → (k ≡ Some Keyword.Konp → ⊥) → false ≡ is_konp k
konp_rest None h = refl
konp_rest (Some Keyword.Sekcja) h = refl
konp_rest (Some Keyword.Kons) h = refl
konp_rest (Some Keyword.Konp) h = absurd (h refl)
konp_rest (Some (Keyword.Switch b)) h = refl
konp_rest (Some (Keyword.Instr o)) h = refl
