-- What the tests of well-formed programs and states say, as facts with names.
use Rattle.std.specs.Prelude.{◌≡◌, not, ℕ, pred, ◌≤◌, ◌<◌, T, ltb, length}
use Rattle.language.specs.Below.Lists.{total, all}
use Rattle.language.specs.Limits as limit
use Rattle.language.specs.Instructions.{operation, is_call, is_end}
use Rattle.language.specs.Program.{Op, Instr, Label, Program, instr_at, identifier}
use Rattle.language.specs.Values.{Store, State, Inputs}
use Rattle.machine.specs.Changes.{fits}
use Rattle.machine.specs.Effects.{Go}
use Rattle.machine.specs.Effects.Go.{on, jump, call, back}
use Rattle.machine.specs.WellFormed.{ranged, listed, good_instr, good_label, good_switch, good_return, good_store}
use Rattle.machine.specs.Keeps.{Sound}

pub record InstrFacts (p : Program) (i : Instr) : Type 0 where
  pub forms : T (listed p i)
  pub first : T (ranged p i.first)
  pub second : T (ranged p i.second)
  pub third : T (ranged p i.third)
  pub line_from : 0 < i.line
  pub line_to : i.line ≤ limit.text

pub record LabelFacts (p : Program) (l : Label) : Type 0 where
  pub name : T (identifier l.name)
  pub short : length l.name ≤ limit.item
  pub target : l.target < length p.code

pub record ProgramFacts (p : Program) : Type 0 where
  pub filled : 0 < length p.code
  pub code_short : length p.code ≤ limit.instructions
  pub labels_few : length p.labels ≤ limit.labels
  pub switches_few : length p.switches ≤ limit.switches
  pub entries_few : total (λ w. length w.entries) p.switches ≤ limit.entries
  pub texts_few : length p.texts ≤ limit.texts
  pub numbers_few : length p.numbers ≤ limit.numbers
  pub instructions : T (all (good_instr p) p.code)
  pub labels : T (all (good_label p) p.labels)
  pub switches : T (all (good_switch p) p.switches)
  pub ends : T (is_end (operation (instr_at p (pred (length p.code))).op).flow)

pub record StoreFacts (ins : Inputs) (s : Store) : Type 0 where
  pub exprs : length s.exprs ≡ limit.expressions
  pub files : length s.files ≡ limit.files
  pub outputs : length s.outputs ≡ limit.outputs
  pub places : length s.places ≡ limit.inputs
  pub limits : T (fits s)
  pub given : s.last ≤ limit.addresses
  pub sound : Sound ins s

pub record StateFacts (p : Program) (ins : Inputs) (s : State) : Type 0 where
  pub store : T (good_store ins s.store)
  pub next : s.next < length p.code
  pub depth : length s.stack ≤ limit.stack
  pub returns : T (all (good_return p) s.stack)

-- Where an instruction may go on

module _ (p : Program) where
  abbrev pub InTable : ℕ → Type 0
  InTable t = T (ltb t (length p.code))

  -- only an operator that does not end goes on to the following instruction; only a call keeps a way back
  abbrev pub Allowed : Op → Go → Type 0
  Allowed o on = T (not (is_end (operation o).flow))
  Allowed o (jump t) = InTable t
  Allowed o (call t) = InTable t × T (is_call (operation o).flow)
  Allowed o back = Unit {0}
