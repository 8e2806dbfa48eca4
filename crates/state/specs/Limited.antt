-- A store with as many variables as the machine has, within its limits.
use Rattle.std.specs.Prelude.{◌≡◌, Bool, cond, ◌≤◌, T, leb, length}
use Rattle.store.specs.Below.Limits as limit
use Rattle.store.specs.Below.LanguageValues.{Component, Store, chars}
use Rattle.store.specs.Below.Lists.{all}
use Rattle.store.specs.Below.Changes.{held}
use Rattle.store.specs.Below.LayoutMemory.{components_held, chars_held, records_held}

-- "a word 255 characters; each Q 4,096"
abbrev pub short_word : Component → Bool
short_word x = leb (length (chars x)) limit.word

abbrev pub short_outputs : Store → Bool
short_outputs s = all (λ q. leb (length q) limit.output) s.outputs

pub record Limited (s : Store) : Type 0 where
  pub exprs_is : length s.exprs ≡ limit.expressions
  pub files_is : length s.files ≡ limit.files
  pub outputs_is : length s.outputs ≡ limit.outputs
  pub components_most : components_held s ≤ limit.components
  pub chars_most : chars_held s ≤ limit.characters
  pub words_short : held (λ x. cond (short_word x) 0 1) s ≡ 0
  pub records_most : records_held s ≤ limit.records
  pub outputs_short : T (short_outputs s)
