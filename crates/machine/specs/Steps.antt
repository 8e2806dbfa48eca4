-- "A step.": its questions in order, of which the first answered no names the stop; where there is none, its effect.
use Rattle.std.specs.Prelude.{Bool, true, cond, ◌&&◌, List, [], ◌∷◌, map, ℕ, suc, leb, length, drop}
use Rattle.language.specs.Limits as limit
use Rattle.language.specs.Program.{Program, instr_at, meets}
use Rattle.language.specs.Values.{State, Inputs}
use Rattle.language.specs.Below.Lists.{filled, head_or, if_any}
use Rattle.machine.specs.Arguments.{Asks, ask, ◌&◌}
use Rattle.machine.specs.Changes.{with_exprs, with_files, with_plus, with_outputs, with_places, put_expr, put_file, minus, minus_unless, placed, into, front, printed, stamped, stored, past_file, past_by, past, used_by, used, pointed, held, recorded, fits}
use Rattle.machine.specs.Effects.{Go, Row, moved, jump_if, relation, equality, ordered, by_name, by_index, computed, changed, set_to, exchanged, row}
use Rattle.machine.specs.Effects.Go.{on, jump, call, back}
use Rattle.machine.specs.Runs.{Outcome}
use Rattle.machine.specs.Runs.Outcome.{stop, went}

-- the row of the next instruction
unfoldable pub meaning : Program → Inputs → State → Row
meaning p ins s = let i = instr_at p s.next in row p ins s.store i.first i.second i.third i.op

-- the next instruction and the return stack after one at n: a call keeps the place just after itself
abbrev pub gone : Go → ℕ → List ℕ → ℕ × List ℕ
gone on n st = (suc n, st)
gone (jump t) n st = (t, st)
gone (call t) n st = (t, suc n ∷ st)
gone back n st = (head_or 0 st, drop 1 st)

-- "WROC with a filled stack? 57"
abbrev pub can_go : Go → List ℕ → Bool
can_go on st = true
can_go (jump t) st = true
can_go (call t) st = true
can_go back st = filled st

-- the state that a row makes
abbrev pub made : Row → State → State
made r s = let g = gone r.2 s.next s.stack in record { store = r.1; next = g.0; stack = g.1 }

-- a question: its number and the answer
abbrev pub Question : Type 0
Question = ℕ × Bool

-- the numbers of the questions, in order
abbrev pub numbers : List ℕ
numbers = 50 ∷ 52 ∷ 53 ∷ 54 ∷ 55 ∷ 56 ∷ 57 ∷ 58 ∷ 59 ∷ 60 ∷ []

-- What every instruction asks. "Limits are judged on the state after the instruction, so freed places count as free." "Result within the limits?
-- 59" "the return stack 64" "At most 8,388,607 addresses given? 60"
abbrev pub asks_after : Row → State → Asks
asks_after r s =
    let t = made r s in
    ask 57 (can_go r.2 s.stack)
    & ask 59 (fits t.store && leb (length t.stack) limit.stack)
    & ask 60 (leb t.store.last limit.addresses)

-- "Is it other than STOP? 50" and all that follows
unfoldable pub questions : Program → Inputs → State → List Question
questions p ins s = let r = meaning p ins s in map (λ n. (n, r.0 n && asks_after r s n)) numbers

-- the numbers of the questions answered no
abbrev pub refusals : List Question → List ℕ
refusals [] = []
refusals (q ∷ qs) = cond q.1 (refusals qs) (q.0 ∷ refusals qs)

-- "As in all lists here, the first no decides"
unfoldable pub step : Program → Inputs → State → Outcome State
step p ins s = if_any (went (made (meaning p ins s) s)) stop (refusals (questions p ins s))

-- everything that a step computes with, to be named on an `unfolding` line
unfoldable pub opened : Unit {0}
unfolding step questions meaning with_exprs with_files with_plus with_outputs with_places put_expr put_file minus minus_unless placed into front printed stamped stored past_file past_by past used_by used pointed moved jump_if relation equality ordered meets by_name by_index computed changed set_to exchanged row held recorded fits
opened = tt
