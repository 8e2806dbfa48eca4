-- The letters of indexed arguments (4.2.1): which variable a letter names, and how it reads and writes there.
use Rattle.std.specs.Prelude.{Bool, true, false, List, [], ◌∷◌, ℕ}
use Rattle.language.specs.Limits as limit

pub data Letter : Type 0 where
  A B C D E I N P Q T Y Z : Letter

abbrev pub letters : List Letter
letters = A ∷ B ∷ C ∷ D ∷ E ∷ I ∷ N ∷ P ∷ Q ∷ T ∷ Y ∷ Z ∷ []

-- its byte
abbrev pub letter_code : Letter → ℕ
letter_code A = 65
letter_code B = 66
letter_code C = 67
letter_code D = 68
letter_code E = 69
letter_code I = 73
letter_code N = 78
letter_code P = 80
letter_code Q = 81
letter_code T = 84
letter_code Y = 89
letter_code Z = 90

pub data Var : Type 0 where
  expression input output file : Var

-- "E and P go from 1 to 32, I and Q from 1 to 2"
abbrev pub indices : Var → ℕ
indices expression = limit.expressions
indices input = limit.inputs
indices output = limit.outputs
indices file = limit.files

-- what a letter offers as a value: one component, a count, any component, the whole
pub data Reading : Type 0 where
  one count any_of whole : Reading

-- whether reading removes, whether writing turns the order round, and whether it writes at the end (4.2.1.2, where the letter I is Y)
pub record Use : Type 0 where
  pub var : Var
  pub reading : Reading
  pub removes : Bool
  pub reverses : Bool
  pub at_end : Bool

abbrev uses : Var → Reading → Bool → Bool → Bool → Use
uses v r x y z = record { var = v; reading = r; removes = x; reverses = y; at_end = z }

abbrev pub use_of : Letter → Use
use_of A = uses expression one true true false
use_of B = uses expression one false false false
use_of C = uses file one true true false
use_of D = uses file one false false false
use_of E = uses expression whole false false false
use_of I = uses input any_of true false false
use_of N = uses expression count false false false
use_of P = uses file one false false false
use_of Q = uses output whole false false true
use_of T = uses expression any_of false false false
use_of Y = uses expression one false true true
use_of Z = uses expression one false false true
