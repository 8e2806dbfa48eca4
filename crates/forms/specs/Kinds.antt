-- What a word or a text can be: the sets of forms that one item reads as, of which there are seventeen.
use Rattle.std.specs.Prelude.{◌≡◌, Bool, List, [], ◌∷◌, ◌++◌, map, ℕ, ◌<◌, get_or}
use Rattle.language.specs.Letters.{letters, letter_code}
use Rattle.lists.specs.Lists.{among}
use Rattle.lists.specs.Quoted.{bytes}
use Rattle.words.specs.Below.ArgumentForms.{word_reads, reads}
use Rattle.words.specs.Below.Items.{Item}
use Rattle.forms.specs.Forms.{forms, mask}

-- each indexed letter, a number, a class, a text, another name, nothing
abbrev pub kinds : List (List ℕ)
kinds = map (λ l. letter_code l ∷ bytes "lwx") letters ++ (bytes "n" ∷ bytes "clwx" ∷ bytes "t" ∷ bytes "lwx" ∷ [] ∷ [])

abbrev pub kind_reads : ℕ → ℕ → Bool
kind_reads k f = among f (get_or kinds k [])

-- what reads as p is of the kind k
pub record OfKind (p : ℕ → Bool) (k : ℕ) : Type 0 where
  pub small : k < 17
  pub forms_read : map p forms ≡ map (kind_reads k) forms

-- the set of the forms that a word reads as, and of those that an item reads as
unfoldable pub word_kinds : List ℕ → ℕ
word_kinds w = mask (word_reads w)

unfoldable pub item_kinds : Item → ℕ
item_kinds i = mask (reads i)
