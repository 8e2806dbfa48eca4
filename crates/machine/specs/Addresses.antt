-- Addresses of records: how many records have one, and whether it is still to be given.
use Rattle.std.specs.Prelude.{cond, List, ℕ, ◌+◌, ◌-◌, min, eqb}
use Rattle.language.specs.Below.Lists.{total}
use Rattle.language.specs.Values.{Store}
use Rattle.machine.specs.Changes.{recorded}

-- 1 where two numbers are equal, else 0
unfoldable pub equal_count : ℕ → ℕ → ℕ
equal_count m n = cond (eqb m n) 1 0

-- how often a number stands in a list
abbrev pub count_of : ℕ → List ℕ → ℕ
count_of n ns = total (equal_count n) ns

-- how many records, in all files, have the address n
abbrev pub times : ℕ → Store → ℕ
times n s = recorded (λ r. equal_count n r.addr) s

-- 1 for an address past l, the last one given, else 0
unfoldable pub ungiven : ℕ → ℕ → ℕ
ungiven l n = min 1 (n - l)

-- how often an address is in use or still to be given: in a well-formed state at most once, and no step makes it more
abbrev pub uses : ℕ → Store → ℕ
uses n s = times n s + ungiven s.last n
