-- The number and the line that are told are those of load.
use Rattle.std.specs.Prelude.{◌≡◌, refl, ℕ, Ok, Err, is_ok}
use Rattle.std.proofs.Common.{sym, ap, ◌∙◌}
use Rattle.calls.specs.Calls.{load_number, load_line}
use Rattle.syntax.specs.Load as spec
use Rattle.loading.specs.Told.{Loaded, Numbered, numbered, told, loaded_number, loaded_line}

pub numbered-ok : (l : Loaded) → is_ok (numbered l) ≡ is_ok l
numbered-ok (Ok u) = refl
numbered-ok (Err r) = refl

abbrev number_in : Numbered → ℕ
number_in (Ok u) = 80
number_in (Err p) = p.0

abbrev line_in : Numbered → ℕ
line_in (Ok u) = 0
line_in (Err p) = p.1

number-in : (l : Loaded) → number_in (numbered l) ≡ loaded_number l
number-in (Ok u) = refl
number-in (Err r) = refl

line-in : (l : Loaded) → line_in (numbered l) ≡ loaded_line l
line-in (Ok u) = refl
line-in (Err r) = refl

number-by : (x : spec.Loaded) → number_in (told x) ≡ load_number x
number-by (spec.Loaded.refused number line) = refl
number-by (spec.Loaded.accepted p) = refl

line-by : (x : spec.Loaded) → line_in (told x) ≡ load_line x
line-by (spec.Loaded.refused number line) = refl
line-by (spec.Loaded.accepted p) = refl

module _ (l : Loaded) (x : spec.Loaded) (e : numbered l ≡ told x) where
  pub number-told : loaded_number l ≡ load_number x
  number-told = sym (number-in l) ∙ ap number_in e ∙ number-by x

  pub line-told : loaded_line l ≡ load_line x
  line-told = sym (line-in l) ∙ ap line_in e ∙ line-by x
