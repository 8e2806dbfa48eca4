-- `macro_changes::read_change` meets its contract.
use mathlib.Core.Path.{sym, ◌∙◌}
use Rattle.macro_changes.proofs.Stepping.{change-some, started}
use Rattle.macro_changes.proofs.read_change.Goals as goal

pub read_call-requires : goal.read_call-requires
read_call-requires c =
    record {
      copy = c.requires.lent.copy;
      started = started c.requires (c.next_before.ensures.some c.in_ok-t.t c.in_ok-t.was);
      star = sym (c.is_mark.ensures c.args.source.now.text.now) ∙ c.if-is_mark.true;
    }

pub returns-then-is_mark : goal.returns-then-is_mark
returns-then-is_mark c = change-some (c.next_before.ensures.some c.in_ok-t.t c.in_ok-t.was) c.read_call.ensures

pub read_word-requires : goal.read_word-requires
read_word-requires c =
    record { started = started c.requires (c.next_before.ensures.some c.in_ok-t.t c.in_ok-t.was); plain = sym (c.is_mark.ensures c.args.source.now.text.now) ∙ c.if-is_mark.false }

pub returns : goal.returns
returns c = change-some (c.next_before.ensures.some c.in_ok-t.t c.in_ok-t.was) c.read_word.ensures
