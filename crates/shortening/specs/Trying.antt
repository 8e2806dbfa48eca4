-- What the functions of the rounds ask and promise.
use Rattle.std.specs.Prelude.{◌≡◌, Result, Ok, Err, Bool, false, cond, List, [], ◌∷◌, ◌++◌, ℕ, ◌≤◌, ◌<◌, eqb, length, take, drop}
use Rattle.calls.specs.Calls.{load_number, table_after}
use Rattle.calls.specs.Filling.{filling_number, filled_in, Filled, filled_of}
use Rattle.calls.specs.Questions as asked
use Rattle.calls.specs.declared.Question.{Question}
use Rattle.language.specs.Limits as limit
use Rattle.lists.specs.Lists.{joined}
use Rattle.macro_loading.specs.Below.Told.{Loaded, numbered, told, loaded_number}
use Rattle.statements.specs.Questions.{question_number}
use Rattle.macros.specs.Load.{load_in, load_of}
use Rattle.shorten_calls.specs.Shortening.{round_of, rounds, shorten_of, table_shortened}
use Rattle.text_lines.specs.Lines.{lines}
use Rattle.shortening.specs.declared.Shortened.{Shortened}

-- in the text s a line ends at `end`
pub record Ending (s : List ℕ) (end : ℕ) : Type 0 where
  pub some : 0 < end
  pub within : end ≤ length s

-- and begins at r
pub record LineStart (s : List ℕ) (end r : ℕ) : Type 0 where
  pub below : r < end
  pub is : lines (take end s) ≡ lines (take r s) ++ (drop r (take end s) ∷ [])

-- three places in d, in order
pub record Exchangeable (d : List ℕ) (from middle to : ℕ) : Type 0 where
  pub first : from ≤ middle
  pub second : middle ≤ to
  pub within : to ≤ length d

-- d with the bytes from `from` to `middle` behind those from `middle` to `to`
abbrev pub exchanged : List ℕ → ℕ → ℕ → ℕ → List ℕ
exchanged d from middle to = take from d ++ (drop middle (take to d) ++ (drop from (take middle d) ++ drop to d))

-- a text without its bytes from `from` to `to`
abbrev pub cut : List ℕ → ℕ → ℕ → List ℕ
cut p from to = take from p ++ drop to p

-- what load gives for it
abbrev pub cut_number : List ℕ → ℕ → ℕ → ℕ
cut_number p from to = load_number (load_of (cut p from to))

-- load refuses with this number
abbrev pub refused_with : ℕ → Loaded → Bool
refused_with number (Ok u) = false
refused_with number (Err r) = eqb (question_number r.question) number

-- a number of a refusal; the table has the right length
pub record Tryable (number table : ℕ) : Type 0 where
  pub refused : number ≡ 80 → ⊥
  pub long : table ≡ limit.table

-- a stretch of the text p
pub record Cuttable (p : List ℕ) (from to number table : ℕ) : Type 0 where
  pub tryable : Tryable number table
  pub upto : to ≤ length p
  pub some : from ≤ to

-- "each dropped if the number stays"; r bytes are left, in e
pub record Tried (p : List ℕ) (from to number : ℕ) (e : List ℕ) (r : ℕ) : Type 0 where
  pub is : take r e ≡ cond (eqb (cut_number p from to) number) (cut p from to) p
  pub size : r ≡ length (cond (eqb (cut_number p from to) number) (cut p from to) p)

-- the first r bytes of e are those of the lines that the round leaves
pub record Rounded (p : List ℕ) (number : ℕ) (e : List ℕ) (r : ℕ) : Type 0 where
  pub is : take r e ≡ joined (round_of limit.table number (lines p))
  pub size : r ≡ length (joined (round_of limit.table number (lines p)))

-- and those that all rounds leave
pub record Finished (p : List ℕ) (number : ℕ) (e : List ℕ) (r : ℕ) : Type 0 where
  pub is : take r e ≡ joined (rounds limit.table (length (lines p)) number (lines p))
  pub size : r ≡ length (joined (rounds limit.table (length (lines p)) number (lines p)))

-- p is no longer than a text, and there is room for it
pub record Givable (p : List ℕ) (out : ℕ) : Type 0 where
  pub short : length p ≤ limit.text
  pub room : length p ≤ out

-- p is loaded, on the table c, and written to the buffer b
pub record Given (p c b : List ℕ) (r : Shortened) (c' b' : List ℕ) : Type 0 where
  pub loaded_is : numbered r.loaded ≡ told (load_in (length c) p)
  pub count_is : r.count ≡ length p
  pub table_is : c' ≡ table_after (load_in (length c) p) c
  pub cells_are : b' ≡ p ++ drop (length p) b

-- a text that load refuses, not with 40, with room for its part
pub record RefusedText (s : List ℕ) (number table out : ℕ) : Type 0 where
  pub number_is : number ≡ load_number (load_in table s)
  pub not_40 : number ≡ 40 → ⊥
  pub not_80 : number ≡ 80 → ⊥
  pub room : length s ≤ out

abbrev pub Answer : Type 0
Answer = Result Shortened Question

-- the bytes written
abbrev pub shortened_filled : Answer → Filled
shortened_filled (Ok t) = Ok t.count
shortened_filled (Err e) = Err e

-- load's number, or that of the refused call
abbrev pub shortened_number : Answer → ℕ
shortened_number (Ok t) = loaded_number t.loaded
shortened_number (Err e) = asked.question_number e

-- the whole call: the text s, the table c and the buffer b, and what becomes of them
pub record Shortens (s c b : List ℕ) (r : Answer) (c' b' : List ℕ) : Type 0 where
  pub result_is : asked.numbered (shortened_filled r) ≡ filled_of (shorten_of (length c) (length b) s)
  pub number_is : shortened_number r ≡ filling_number (shorten_of (length c) (length b) s)
  pub cells_are : b' ≡ filled_in (shorten_of (length c) (length b) s) b
  pub table_is : c' ≡ table_shortened c (length b) s
