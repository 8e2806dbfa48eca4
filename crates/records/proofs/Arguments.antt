-- What an argument tests on records, with any letter but E, it tests on their first components.
use mathlib.Core.Path.{◌≡◌, refl, subst}
use mathlib.Core.List.{[], ◌∷◌}
use mathlib.Core.Bool.{false}
use lib.Dec.{T}
use Rattle.language.specs.Letters.{Reading, use_of}
use Rattle.language.specs.Letters.Reading.{one, count, any_of, whole}
use Rattle.language.specs.Program.{Arg}
use Rattle.language.specs.Program.Arg.{nothing, letter, label, switch, class, text}
use Rattle.language.specs.Values.{Store, Inputs}
use Rattle.cells.specs.Below.MachineArguments.{use_by, is_whole, first, by_reading, on_parts, on_records}
use Rattle.records.specs.Sequences.{on_first}

module _ (ins : Inputs) (s : Store) where
  reading-first : (r : Reading) (a : Arg) → is_whole r ≡ false
      → by_reading (λ x. first x.parts) (λ x. x) (λ x. x.parts) ins s r a ≡ on_first (by_reading (λ x. x) (λ x. x) (λ x. x ∷ []) ins s r a)
  reading-first one a h = refl
  reading-first count a h = refl
  reading-first any_of a h = refl
  reading-first whole a h = absurd (subst T h tt)

  pub on_records-first : (a : Arg) → is_whole (use_by a).reading ≡ false → on_records ins s a ≡ on_first (on_parts ins s a)
  on_records-first nothing h = refl
  on_records-first (letter l n) h = reading-first (use_of l).reading (letter l n) h
  on_records-first (label n) h = refl
  on_records-first (switch n) h = refl
  on_records-first (class cs) h = refl
  on_records-first (text t) h = refl
  on_records-first (Arg.number z) h = refl
