-- Marks are read back, and each word of a list is an entry.
use Rattle.std.specs.Prelude.{◌≡◌, refl, List, [], ◌∷◌, map, ℕ, ◌<◌, length}
use Rattle.std.proofs.Common.{arith, length-append}
use Rattle.acceptance.proofs.ProgramLaws.{entries-count}
use Rattle.lists.specs.Lists.{each, keep}
use Rattle.acceptance.specs.Below.Items.{is}
use Rattle.acceptance.specs.Below.Items.Sort.{word}
use Rattle.acceptance.specs.Below.Statements.{entries_in}
use Rattle.acceptance.specs.Below.Tables.{Choice}
use Rattle.drafts.specs.Drafting.{draft_switch}
use Rattle.drafts.specs.Marks.{mark_of, place_by, length_by}

pub place-back : (at len : ℕ) → len < 64 → place_by (mark_of at len) ≡ at
place-back at len h = omega arith

pub length_back : (at len : ℕ) → len < 64 → length_by (mark_of at len) ≡ len
length_back at len h = omega arith

pub entry-words : (cs : List Choice) → length (each (λ w. w.entries) (map draft_switch cs)) ≡ length (each (λ c. keep (is word) c.list) cs)
unfolding draft_switch
entry-words [] = refl
entry-words (c ∷ cs) =
    omega (
      arith,
      length-append (entries_in (λ w. 0) c.list) (each (λ w. w.entries) (map draft_switch cs)),
      length-append (keep (is word) c.list) (each (λ x. keep (is word) x.list) cs),
      entries-count (λ w. 0) c.list,
      entry-words cs,
    )
