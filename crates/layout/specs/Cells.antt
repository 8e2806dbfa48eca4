-- Numbers in cells: of two and three cells of a byte each, the lowest first; four bytes in a cell of 32 bits; and lists by their index.
use Rattle.std.specs.Prelude.{cond, List, [], ◌∷◌, ◌++◌, ℕ, zero, suc, ◌+◌, ◌*◌, ◌-◌, ◌/◌, ◌%◌, leb, length, get_or, drop, replicate, ℤ, pos, negsuc}

abbrev pub cell : List ℕ → ℕ → ℕ
cell l k = get_or l k 0

abbrev pub two : ℕ → List ℕ
two n = n % 256 ∷ n / 256 ∷ []

abbrev pub two_at : ℕ → List ℕ → ℕ
two_at k l = cell l k + 256 * cell l (1 + k)

abbrev pub three : ℕ → List ℕ
three n = n % 256 ∷ n / 256 % 256 ∷ n / 65536 ∷ []

abbrev pub three_at : ℕ → List ℕ → ℕ
three_at k l = cell l k + 256 * cell l (1 + k) + 65536 * cell l (2 + k)

-- the bytes of a list, four to a cell, in n cells; and back
abbrev pub four : List ℕ → ℕ
four l = cell l 0 + 256 * cell l 1 + 65536 * cell l 2 + 16777216 * cell l 3

unfoldable pub fours : ℕ → List ℕ → List ℕ
fours zero l = []
fours (suc n) l = four l ∷ fours n (drop 4 l)

unfoldable pub unfours : List ℕ → List ℕ
unfours [] = []
unfours (x ∷ xs) = x % 256 ∷ x / 256 % 256 ∷ x / 65536 % 256 ∷ x / 16777216 ∷ unfours xs

-- a number of the machine as a natural one, and back
unfoldable pub code : ℤ → ℕ
code (pos n) = 8388607 + n
code (negsuc n) = 8388606 - n

unfoldable pub uncode : ℕ → ℤ
uncode v = cond (leb 8388607 v) (pos (v - 8388607)) (negsuc (8388606 - v))

-- f 0 to f (n - 1)
unfoldable pub tab : {X : Type 0} → ℕ → (ℕ → X) → List X
tab zero f = []
tab (suc n) f = f zero ∷ tab n (λ i. f (suc i))

-- zeros behind a list, up to n cells
unfoldable pub padded : ℕ → List ℕ → List ℕ
padded n l = l ++ replicate (n - length l) 0
