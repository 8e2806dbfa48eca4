-- "Characters" of document 01 with the small letters of request 2.1: the 87 characters, their ranks and classes, and the order of two words.
use Rattle.std.specs.Prelude.{Bool, true, false, cond, ◌&&◌, ◌||◌, List, [], ◌∷◌, ℕ, suc, leb, ltb, eqb, get_or}
use Rattle.lists.specs.Lists.{ahead, among}
use Rattle.lists.specs.Quoted.{bytes}

-- "characters, in the order of Appendix A's columns, without ◊ and CS"; "The 26 small letters become characters .. with ranks just after Z. SI and
-- all later ranks move up by 26." A character of rank k is element k - 1.
abbrev pub ranked : List ℕ
ranked =
    32 ∷ 46 ∷ 40 ∷ 43 ∷ 42 ∷ 41 ∷ 59 ∷ 45 ∷ 47 ∷ 44 ∷ 58 ∷ 39 ∷ 61 ∷ 91 ∷ 93 ∷ 60 ∷ 62 ∷ 63 ∷ 27 ∷ 14
    ∷ 65 ∷ 66 ∷ 67 ∷ 68 ∷ 69 ∷ 70 ∷ 71 ∷ 72 ∷ 73 ∷ 74 ∷ 75 ∷ 76 ∷ 77 ∷ 78 ∷ 79 ∷ 80 ∷ 81 ∷ 82 ∷ 83 ∷ 84 ∷ 85 ∷ 86 ∷ 87 ∷ 88 ∷ 89 ∷ 90
    ∷ 97 ∷ 98 ∷ 99 ∷ 100 ∷ 101 ∷ 102 ∷ 103 ∷ 104 ∷ 105 ∷ 106 ∷ 107 ∷ 108 ∷ 109 ∷ 110 ∷ 111 ∷ 112 ∷ 113 ∷ 114 ∷ 115 ∷ 116 ∷ 117 ∷ 118 ∷ 119 ∷ 120 ∷ 121 ∷ 122
    ∷ 15 ∷ 48 ∷ 49 ∷ 50 ∷ 51 ∷ 52 ∷ 53 ∷ 54 ∷ 55 ∷ 56 ∷ 57 ∷ 10 ∷ 12 ∷ 13 ∷ 127 ∷ []

abbrev pub count : ℕ
count = 87

-- one of the 87
unfoldable pub known : ℕ → Bool
known b = among b ranked

-- ranks run from 1 to 87; a byte that is none of the 87 has 88
abbrev pub rank : ℕ → ℕ
rank b = suc (ahead (eqb b) ranked)

-- the character of a rank; a number that is none of the ranks has 0
abbrev pub byte_of : ℕ → ℕ
byte_of r = get_or (0 ∷ ranked) r 0

abbrev pub between : ℕ → ℕ → ℕ → Bool
between a b x = leb a x && leb x b

-- the letters of identifiers and of arguments: "Operators and labels stay in capitals."
abbrev pub is_capital : ℕ → Bool
is_capital b = between 65 90 b

-- the letters of class L: "The 26 small letters become characters in data and texts, class L"
abbrev pub is_letter : ℕ → Bool
is_letter b = is_capital b || between 97 122 b

abbrev pub is_digit : ℕ → Bool
is_digit b = between 48 57 b

-- "Classes: L letters, D digits, B space, R the rest": the class's letter, 76, 68, 66 or 82
abbrev pub class_of : ℕ → ℕ
class_of b = cond (is_letter b) 76 (cond (is_digit b) 68 (cond (eqb b 32) 66 82))

-- where the class of a byte stands in LDBR
abbrev pub class_place : ℕ → ℕ
class_place b = ahead (eqb (class_of b)) (bytes "LDBR")

-- "The order of two words compares the first characters and then the rest; a missing character comes before any other."
abbrev pub precedes : List ℕ → List ℕ → Bool
precedes xs [] = false
precedes [] (y ∷ ys) = true
precedes (x ∷ xs) (y ∷ ys) = ltb (rank x) (rank y) || (eqb x y && precedes xs ys)
