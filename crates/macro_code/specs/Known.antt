-- What is known of the list of macros and the section in cells, one question after the other.
use Rattle.std.specs.Prelude.{◌≡◌, Bool, false, not, List, [], ◌∷◌, ℕ, ◌<◌, eqb, leb, length, get_or}
use Rattle.macros.specs.Expansion.{called_by, levels}
use Rattle.macros.specs.Silence.{silent, fixed}
use Rattle.macro_code.specs.Code.{bytes_at, body_in, macro_in, macros_in}

-- the number of the only macro of a name, among the first n
pub record Only (s c firsts : List ℕ) (n : ℕ) (w : List ℕ) (k : ℕ) : Type 0 where
  pub listed : k < n
  pub only : called_by (macros_in s c firsts n) w ≡ macro_in s c (get_or firsts k 0) ∷ []

-- of each macro, whether it is the only one of its name
pub record Singles (s c firsts : List ℕ) (n : ℕ) (singles : List Bool) : Type 0 where
  pub single_is : (k : ℕ) → k < n → get_or singles k false ≡ eqb (length (called_by (macros_in s c firsts n) (bytes_at s c (get_or firsts k 0)))) 1

-- of each macro the least count of levels with which its body writes nothing and meets no fault, and the least with which a call by a parameter is met
pub record Heights (s c firsts : List ℕ) (n : ℕ) (quiet loose : List ℕ) : Type 0 where
  pub quiet_is : (k l : ℕ) → k < n → l < levels → leb (get_or quiet k 0) l ≡ silent (macros_in s c firsts n) l (body_in s c (get_or firsts k 0))
  pub loose_is : (k l : ℕ) → k < n → l < levels → leb (get_or loose k 0) l ≡ not (fixed (macros_in s c firsts n) l (body_in s c (get_or firsts k 0)))
