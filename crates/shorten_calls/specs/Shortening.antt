-- "From a refused text, give a part made of some of its lines, each with its LF, in order, that load refuses with the same number."
use Rattle.std.specs.Prelude.{Bool, true, false, cond, ◌||◌, List, [], ◌∷◌, ◌++◌, reverse, ℕ, zero, suc, eqb, ltb, length}
use Rattle.lists.specs.Lists.{joined}
use Rattle.calls.specs.Calls.{load_number, table_after}
use Rattle.macros.specs.Load.{load_in}
use Rattle.calls.specs.Filling.{Filling}
use Rattle.calls.specs.Filling.Filling.{kept, fills}
use Rattle.text_lines.specs.Lines.{lines}

module _ (cells : ℕ) where
  -- "the same number": that of load, for a table of `cells` cells
  unfoldable pub number_of : List (List ℕ) → ℕ
  number_of ls = load_number (load_in cells (joined ls))

  -- "Lines are tried .. from the last to the first, each dropped if the number stays": the lines not yet tried stand in `left`, the last of them first, those kept in `after`
  unfoldable pub round : ℕ → List (List ℕ) → List (List ℕ) → List (List ℕ)
  round n after [] = after
  round n after (l ∷ left) = round n (cond (eqb (number_of (reverse left ++ after)) n) after (l ∷ after)) left

  abbrev pub round_of : ℕ → List (List ℕ) → List (List ℕ)
  round_of n ls = round n [] (reverse ls)

  -- "in rounds .., until a round drops none"; each round but the last drops one, so there are no more rounds than lines and one
  unfoldable pub rounds : ℕ → ℕ → List (List ℕ) → List (List ℕ)
  rounds zero n ls = ls
  rounds (suc k) n ls = elim (eqb (length (round_of n ls)) (length ls)) [ true ↦ ls | false ↦ rounds k n (round_of n ls) ]

  -- the lines of the part. "A text that loads is given back"
  unfoldable pub part_lines : List ℕ → List (List ℕ)
  part_lines s = elim (eqb (number_of (lines s)) 80) [ true ↦ lines s | false ↦ rounds (length (lines s)) (number_of (lines s)) (lines s) ]

  abbrev pub part : List ℕ → List ℕ
  part s = joined (part_lines s)

-- load's 40, and "one shorter than the text also brings 40"
abbrev pub brings_40 : ℕ → ℕ → List ℕ → Bool
brings_40 cells room s = ltb room (length s) || eqb (load_number (load_in cells s)) 40

-- what a text brings, with a table of `cells` cells and a buffer of `room` bytes. "A text that loads is given back, with 80."
unfoldable pub shorten_of : ℕ → ℕ → List ℕ → Filling
shorten_of cells room s = cond (brings_40 cells room s) (kept 40) (fills (load_number (load_in cells s)) (part cells s))

-- "A lent table is left as loading the part leaves it"; c are its cells before
unfoldable pub table_shortened : List ℕ → ℕ → List ℕ → List ℕ
table_shortened c room s = cond (brings_40 (length c) room s) c (table_after (load_in (length c) (part (length c) s)) c)
