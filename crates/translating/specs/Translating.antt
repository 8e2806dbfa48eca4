-- What the functions of the converter ask and promise.
use Rattle.std.specs.Prelude.{◌≡◌, Option, MatchOption, Bool, true, not, ◌&&◌, List, ◌++◌, ℕ, ◌≤◌, ◌<◌, length, is_some}
use Rattle.appending.specs.Appending.{Written}
use Rattle.editions.specs.Convert.{respell, respelled, loads}
use Rattle.editions.specs.Passing.{remaining, between}
use Rattle.lexer.specs.Tokens.{NextToken}
use Rattle.lexer.specs.declared.Token.{Token}
use Rattle.macros.specs.Load.{load_of}
use Rattle.macros.specs.Marks.{has_macros}
use Rattle.translating.specs.declared.Pass.{Pass}

-- "does the text load, has it no macro list"
abbrev pub taken : List ℕ → Bool
taken s = loads (load_of s) && not (has_macros s)

-- s is read and written as far as p tells, into the row c: behind what is made stand the bytes up to the next item, and what is still to be written
pub record Reached (s : List ℕ) (p : Pass) (c : List ℕ) : Type 0 where
  pub made : List ℕ
  pub written : Written made p.count c
  pub whole : respelled s ≡ made ++ between s p.from p.next ++ remaining respell p.awaited s p.next
  pub order : p.from ≤ p.next
  pub most : p.next ≤ length s

-- an item t there
pub record Passable (s : List ℕ) (t : Token) (p : Pass) (c : List ℕ) : Type 0 where
  pub reached : Reached s p c
  pub found : NextToken s p.next t
  pub item : is_some t.sort ≡ true

-- and behind it
pub record Passed (s : List ℕ) (t : Token) (p : Pass) (c : List ℕ) : Type 0 where
  pub reached : Reached s p c
  pub behind : p.next ≡ t.next

-- the same where it fits
pub record Passes (s : List ℕ) (t : Token) (r : Option Pass) (c : List ℕ) : Type 0 where
  pub told : MatchOption r (length c < length (respelled s)) (λ p. Passed s t p c)
