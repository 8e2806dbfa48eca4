-- Names become places: in the program that a table holds, the marks of labels and switches are replaced by their places.
use Rattle.std.specs.Prelude.{List, ℕ, zero, suc, ◌<◌, length, get_or}
use Rattle.language.specs.Program.{Arg, Program, instr_at}
use Rattle.language.specs.Program.Arg.{nothing, letter, label, switch, class, text}
use Rattle.layout.specs.Table.{all_entries}
use Rattle.linking.specs.Lookup.{label_by, switch_by, argument}
use Rattle.writing.specs.Writing.{HoldsProgram, with_argument, with_entry_label}

abbrev pub resolved_arg : List ℕ → List ℕ → Program → Arg → Arg
resolved_arg s sw p nothing = nothing
resolved_arg s sw p (letter l n) = letter l n
resolved_arg s sw p (label m) = label (label_by s p m)
resolved_arg s sw p (switch m) = switch (switch_by s sw (length p.switches) m)
resolved_arg s sw p (class cs) = class cs
resolved_arg s sw p (text t) = text t
resolved_arg s sw p (Arg.number z) = Arg.number z

-- the first k of some changes, one after the other
unfoldable pub all_changed : (ℕ → Program → Program) → ℕ → Program → Program
all_changed f zero p = p
all_changed f (suc k) p = f k (all_changed f k p)

-- argument j of instruction k, all arguments of instruction k, and those of the first k instructions
unfoldable pub argument_resolved : List ℕ → List ℕ → ℕ → ℕ → Program → Program
argument_resolved s sw k j p = with_argument k j (resolved_arg s sw p (argument j (instr_at p k))) p

abbrev pub instr_resolved : List ℕ → List ℕ → ℕ → Program → Program
instr_resolved s sw k p = argument_resolved s sw k 2 (argument_resolved s sw k 1 (argument_resolved s sw k 0 p))

abbrev pub code_resolved : List ℕ → List ℕ → ℕ → Program → Program
code_resolved s sw = all_changed (instr_resolved s sw)

-- the label of entry k, and those of the first k entries
abbrev pub entry_resolved : List ℕ → List ℕ → ℕ → Program → Program
entry_resolved s en k p = with_entry_label k (label_by s p (get_or en k 0)) p

abbrev pub entries_resolved : List ℕ → List ℕ → ℕ → Program → Program
entries_resolved s en = all_changed (entry_resolved s en)

-- the marks of the entries' labels stand in en, and all those labels are there
pub record Labelling (s c en : List ℕ) : Type 0 where
  pub program : Program
  pub holds : HoldsProgram c program
  pub low : (k : ℕ) → k < length (all_entries program) → label_by s program (get_or en k 0) < 128
