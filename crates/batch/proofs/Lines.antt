-- The line of the current instruction, and how much is printed.
use mathlib.Core.Path.{◌≡◌, refl, ap, sym, ◌∙◌}
use mathlib.Core.List.{List, [], ◌∷◌}
use Prim.Native.Nat.{ℕ, ◌+◌, ◌*◌, ◌%◌, ◌≤◌, ◌<◌}
use native.Mathlib.Omega.{arith}
use lib.ListN.{length}
use Rattle.std.specs.Prelude.{Option, None, Some, MatchOption}
use Rattle.language.specs.Limits as limit
use Rattle.language.specs.Program.{instr_at}
use Rattle.cells.specs.Cells.{Number}
use Rattle.layout.specs.Cells.{cell}
use Rattle.layout.specs.Memory.{state_of}
use Rattle.layout.specs.Table.{program_of, instr_in}
use Rattle.layout.proofs.TableLaws.{table-facts}
use Rattle.packed.specs.Packed.{table_of}
use Rattle.table.specs.Good.{GoodInstruction}
use Rattle.table.specs.GoodLaws.{good-instruction}
use Rattle.machine.specs.Runs.{ran}
use Rattle.console.specs.Console.{end_line, ran_bytes}
use Rattle.console.specs.Parts.{Put, SmallStop, EndRoom, answer_of}
use Rattle.console.proofs.Putting.{put-long, put_then}
use Rattle.viewing.specs.Viewing.{Shows}
use Rattle.batch.specs.Printed.{Ended}

small-stop : (o : Option ℕ) → MatchOption o (Unit {0}) (λ n. n ≤ 81) → SmallStop o
small-stop None h = tt
small-stop (Some n) h = omega (arith, h)

module _ {c m : List ℕ} {stopped : Option ℕ} {count long : ℕ} (e : Ended c m stopped count long) {k : ℕ} (n : Number (state_of m).next 16777216 k) where
  current : GoodInstruction c k (cell (table_of c) (8 + 4 * k) % 64)
  current = good-instruction c e.good k (rw n.is e.next) (cell (table_of c) (8 + 4 * k) % 64) refl

  pub table-long : limit.table ≤ length c
  table-long = (table-facts c e.good).long

  pub line-place : k < 512
  line-place = current.few

  module _ {l : ℕ} (r : Number (instr_in (table_of c) k).line 67108864 l) where
    pub line_is : l ≡ (instr_at (program_of c) (state_of m).next).line
    line_is = r.is ∙ sym (ap (λ x. x.line) current.is) ∙ ap (λ (i : ℕ). (instr_at (program_of c) i).line) n.is

    line_most : l ≤ limit.text
    line_most = rw (r.is ∙ sym (ap (λ x. x.line) current.is)) current.facts.line_to

    module _ {q d d₁ d₂ : List ℕ} {a b : ℕ} (s : Shows m q) (room : long ≡ length d) (p₁ : Put d 0 q d₁ a) (p₂ : Put d₁ a (10 ∷ []) d₂ b) where
      pub end-room : EndRoom (length d₂) b stopped l count
      end-room = record {
        room = omega (arith, put-long p₁, put-long p₂, p₁.count, p₂.count, s.most, e.room);
        number_most = small-stop stopped e.number_most;
        line_most = omega (arith, line_most);
        count_most = omega (arith, e.count_most);
      }

      pub all-printed : {d₃ : List ℕ} {r' : ℕ} → Put d₂ b (end_line (answer_of stopped) l count) d₃ r'
          → Put d 0 (ran_bytes (program_of c) (ran (answer_of stopped) count (state_of m))) d₃ r'
      unfolding ran_bytes
      all-printed p₃ = rw (← line_is, ← s.is) (put_then p₁ (put_then p₂ p₃))
