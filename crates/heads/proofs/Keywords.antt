-- The questions on a keyword where it is none of those that the code names.
use Rattle.std.proofs.Common.{◌≡◌, refl, Bool, true, false, ◌⊎◌, inl, inr}
use Rattle.language.specs.declared.Operator.{Operator}
use Rattle.words.specs.declared.Keyword.{Keyword}
use Rattle.heads.specs.Heads.{opens, bars, is_switch, is_by_name, instr_by}
use Rattle.std.specs.Prelude.{Option, None, Some}

pub opens_rest : (k : Option Keyword) → (k ≡ Some Keyword.Sekcja → ⊥) → false ≡ opens k
opens_rest None h = refl
opens_rest (Some Keyword.Sekcja) h = absurd (h refl)
opens_rest (Some Keyword.Kons) h = refl
opens_rest (Some Keyword.Konp) h = refl
opens_rest (Some (Keyword.Switch b)) h = refl
opens_rest (Some (Keyword.Instr o)) h = refl

pub bars_here : (k : Option Keyword) → (k ≡ None) ⊎ (k ≡ Some Keyword.Sekcja) → true ≡ bars k
bars_here k (inl e) = rw e
bars_here k (inr e) = rw e

pub bars_rest : (k : Option Keyword) → (k ≡ None → ⊥) → (k ≡ Some Keyword.Sekcja → ⊥) → false ≡ bars k
bars_rest None u h = absurd (u refl)
bars_rest (Some Keyword.Sekcja) u h = absurd (h refl)
bars_rest (Some Keyword.Kons) u h = refl
bars_rest (Some Keyword.Konp) u h = refl
bars_rest (Some (Keyword.Switch b)) u h = refl
bars_rest (Some (Keyword.Instr o)) u h = refl

pub switch_rest : (k : Option Keyword) → ((b : Bool) → k ≡ Some (Keyword.Switch b) → ⊥) → false ≡ is_switch k
switch_rest None h = refl
switch_rest (Some Keyword.Sekcja) h = refl
switch_rest (Some Keyword.Kons) h = refl
switch_rest (Some Keyword.Konp) h = refl
switch_rest (Some (Keyword.Switch b)) h = absurd (h b refl)
switch_rest (Some (Keyword.Instr o)) h = refl

pub by_name_rest : (k : Option Keyword) → (k ≡ Some (Keyword.Switch true) → ⊥) → false ≡ is_by_name k
by_name_rest None h = refl
by_name_rest (Some Keyword.Sekcja) h = refl
by_name_rest (Some Keyword.Kons) h = refl
by_name_rest (Some Keyword.Konp) h = refl
by_name_rest (Some (Keyword.Switch true)) h = absurd (h refl)
by_name_rest (Some (Keyword.Switch false)) h = refl
by_name_rest (Some (Keyword.Instr o)) h = refl

pub instr_rest : (k : Option Keyword) → ((o : Operator) → k ≡ Some (Keyword.Instr o) → ⊥) → None ≡ instr_by k
instr_rest None h = refl
instr_rest (Some Keyword.Sekcja) h = refl
instr_rest (Some Keyword.Kons) h = refl
instr_rest (Some Keyword.Konp) h = refl
instr_rest (Some (Keyword.Switch b)) h = refl
instr_rest (Some (Keyword.Instr o)) h = absurd (h o refl)
