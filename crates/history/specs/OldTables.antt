-- Programs whose labels are named as operators.
use Rattle.std.specs.Prelude.{List, map, ℕ}
use Rattle.language.specs.Program.{Label, Program}

-- a program with other labels; and with other names for its labels
abbrev pub with_labels : Program → List Label → Program
with_labels p ls = record { code = p.code; labels = ls; switches = p.switches; texts = p.texts; numbers = p.numbers }

abbrev pub renamed : (List ℕ → List ℕ) → Program → Program
renamed f p = with_labels p (map (λ l. record { name = f l.name; target = l.target }) p.labels)
