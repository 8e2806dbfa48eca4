-- The heights of macros in the cells c of a text s, level by level, and what the functions on them ask and promise.
use Rattle.std.specs.Prelude.{Option, MatchOption, ◌≡◌, Bool, true, false, cond, not, ◌&&◌, List, ℕ, suc, ◌+◌, ◌≤◌, ◌<◌, leb, ltb, length, get_or, set}
use Rattle.lists.specs.Lists.{all}
use Rattle.macros.specs.Expansion.{levels}
use Rattle.macros.specs.Pieces.{Piece}
use Rattle.macros.specs.Silence.{right_call, silent_piece, fixed_piece, silent, fixed}
use Rattle.macro_code.specs.Code.{is_call, call_in, body_in, macros_in}
use Rattle.macro_code.specs.Known.{Singles}
use Rattle.macro_code.specs.Bounds.{near}

-- a call is right just where the body of the macro number k passes; or it never is
pub record RightBy (s c firsts : List ℕ) (n i k : ℕ) : Type 0 where
  pub listed : k < n
  pub is : is_call c i ≡ true → (passes : List Piece → Bool)
      → right_call (macros_in s c firsts n) passes (call_in s c i) (call_in s c i).name ≡ passes (body_in s c (get_or firsts k 0))

pub record NeverRight (s c firsts : List ℕ) (n i : ℕ) : Type 0 where
  pub is : is_call c i ≡ true → (passes : List Piece → Bool) → right_call (macros_in s c firsts n) passes (call_in s c i) (call_in s c i).name ≡ false

-- the macro that it is right by, if there is one
abbrev pub Aims : List ℕ → List ℕ → List ℕ → ℕ → ℕ → Option ℕ → Type 0
Aims s c firsts n i r = MatchOption r (NeverRight s c firsts n i) (λ k. RightBy s c firsts n i k)

-- the height of a call: one more than its macro's in a row, or `refused`
abbrev pub CallHeight : List ℕ → ℕ → Option ℕ → ℕ → Type 0
CallHeight row refused o r = MatchOption o (r ≡ refused) (λ k. r ≡ get_or row k 0 + 1)

pub record Greater (a b r : ℕ) : Type 0 where
  pub is : (l : ℕ) → leb r l ≡ (leb a l && leb b l)

pub record Lesser (a b r : ℕ) : Type 0 where
  pub is : (l : ℕ) → ltb l r ≡ (ltb l a && ltb l b)

-- Of some pieces: the height r, where the bodies of macros pass by their heights, one level below. A height may be the least level of those that pass, or of
-- those that do not: `at` tells whether the level l of a height is one that passes
pub record Measures (at : ℕ → ℕ → Bool) (test : (List Piece → Bool) → Piece → Bool) (s c firsts : List ℕ) (n : ℕ) (row : List ℕ) (ps : List Piece) (r : ℕ) : Type 0 where
  pub is : (l : ℕ) → l < levels → (passes : List Piece → Bool) → ((k : ℕ) → k < n → passes (body_in s c (get_or firsts k 0)) ≡ at (suc (get_or row k 0)) l)
      → at r l ≡ all (test passes) ps

abbrev pub quiet_at : ℕ → ℕ → Bool
quiet_at h l = leb h l

abbrev pub loose_at : ℕ → ℕ → Bool
loose_at h l = ltb l h

abbrev pub Quiet : List ℕ → List ℕ → List ℕ → ℕ → List ℕ → List Piece → ℕ → Type 0
Quiet s c firsts n row ps r = Measures quiet_at (silent_piece (macros_in s c firsts n)) s c firsts n row ps r

abbrev pub Loose : List ℕ → List ℕ → List ℕ → ℕ → List ℕ → List Piece → ℕ → Type 0
Loose s c firsts n row ps r = Measures loose_at (fixed_piece (macros_in s c firsts n)) s c firsts n row ps r

pub record Walkable (s c firsts : List ℕ) (n : ℕ) (singles : List Bool) (q : ℕ) : Type 0 where
  pub low : q < near
  pub singles_are : Singles s c firsts n singles

-- the two tables, by level and number
abbrev pub quiet_table : List ℕ → List ℕ → List ℕ → ℕ → ℕ → ℕ → Bool
quiet_table s c firsts n l k = silent (macros_in s c firsts n) l (body_in s c (get_or firsts k 0))

abbrev pub loose_table : List ℕ → List ℕ → List ℕ → ℕ → ℕ → ℕ → Bool
loose_table s c firsts n l k = not (fixed (macros_in s c firsts n) l (body_in s c (get_or firsts k 0)))

-- a row has the heights below l of a table
pub record UpTo (table : ℕ → ℕ → Bool) (n l : ℕ) (row : List ℕ) : Type 0 where
  pub room : n ≤ length row
  pub known : (k m : ℕ) → k < n → m < l → leb (get_or row k 0) m ≡ table m k
  pub apart : (k : ℕ) → k < n → get_or row k 0 < levels → get_or row k 0 < l

-- what passes at a level passes at the next
pub record Rises (table : ℕ → ℕ → Bool) : Type 0 where
  pub next : (l k : ℕ) → table l k ≡ true → table (suc l) k ≡ true

-- the macro number k has the height h, as far as the level l can tell, where a row has the heights below it
pub record HeightAt (table : ℕ → ℕ → Bool) (n l : ℕ) (row : List ℕ) (k h : ℕ) : Type 0 where
  pub is : ((j m : ℕ) → j < n → m < l → leb (get_or row j 0) m ≡ table m j) → leb h l ≡ table l k

pub record Settled (row : List ℕ) (k height level : ℕ) (after : List ℕ) : Type 0 where
  pub is : after ≡ cond (leb height level) (cond (leb levels (get_or row k 0)) (set row k level) row) row

pub record Unset (n : ℕ) (row : List ℕ) : Type 0 where
  pub none : (k : ℕ) → k < n → get_or row k 0 ≡ levels

pub record Settling (table : List ℕ → List ℕ → List ℕ → ℕ → ℕ → ℕ → Bool) (s c firsts : List ℕ) (n : ℕ) (singles : List Bool) (row : List ℕ) (level : ℕ) : Type 0 where
  pub low : level < levels
  pub singles_are : Singles s c firsts n singles
  pub below : UpTo (table s c firsts n) n level row

-- room for the heights of n macros
pub record Findable (n : ℕ) (quiet loose : List ℕ) : Type 0 where
  pub quiet_room : n ≤ length quiet
  pub loose_room : n ≤ length loose
