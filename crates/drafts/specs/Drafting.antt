-- A program while its text is read. Where a label or a switch is used, the mark of its name stands for it, and entries have no labels yet.
use Rattle.std.specs.Prelude.{cond, List, map, ℕ, get_or, drop}
use Rattle.acceptance.specs.Below.Program.{Arg, classes, Instr, Switch, Program}
use Rattle.acceptance.specs.Below.LanguageValues.{amount, value_of}
use Rattle.lists.specs.Lists.{head_or}
use Rattle.acceptance.specs.Below.ArgumentForms.{form_in, letter_of, Argument}
use Rattle.acceptance.specs.Below.Items.{line_at}
use Rattle.acceptance.specs.Below.Statements.{entries_in}
use Rattle.acceptance.specs.Below.Tables.{Written, Choice, Tables}
use Rattle.drafts.specs.Marks.{mark}

unfoldable pub draft_arg : Argument → Arg
draft_arg a =
    let w = a.item.chars in
    cond (form_in "t" a.form) (Arg.text w)
    (cond (form_in "n" a.form) (Arg.number (value_of w))
    (cond (form_in "c" a.form) (Arg.class (classes w))
    (cond (form_in "l" a.form) (Arg.label (mark a.item))
    (cond (form_in "wx" a.form) (Arg.switch (mark a.item))
    (Arg.letter (letter_of (head_or 0 w)) (amount 0 (drop 1 w)))))))

-- of a text whose bytes have the lines ls
unfoldable pub draft_instr : List ℕ → Written → Instr
draft_instr ls i =
    let args = map draft_arg i.args in
    record { op = i.op; line = line_at ls i.at; first = get_or args 0 Arg.nothing; second = get_or args 1 Arg.nothing; third = get_or args 2 Arg.nothing }

unfoldable pub draft_switch : Choice → Switch
draft_switch c = record { goes_by_name = c.goes_by_name; entries = entries_in (λ w. 0) c.list }

unfoldable pub draft_program : List ℕ → Tables → Program
draft_program ls t =
    record {
      code = map (draft_instr ls) t.code;
      labels = t.labels;
      switches = map draft_switch t.switches;
      texts = t.texts;
      numbers = t.numbers;
    }
