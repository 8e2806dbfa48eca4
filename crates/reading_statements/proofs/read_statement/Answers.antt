-- `reading_statements::read_statement` meets its contract.
use mathlib.Core.Path.{sym, ap, ◌∙◌}
use Rattle.heads.specs.Heads.{instr_by, is_switch}
use Rattle.heads.specs.HeadLaws.{no-number}
use Rattle.reading_statements.specs.StandingLaws.{reading-here, reads_here, reads-empty}
use Rattle.reading_statements.proofs.read_statement.Goals as goal

pub returns-then-is_empty-clause-reads : goal.returns-then-is_empty-clause-reads
returns-then-is_empty-clause-reads c =
    let p = c.requires in
    reads-empty p.standing c.read_head-head.ensures (sym c.is_empty.ensures ∙ c.if-is_empty.true) c.following.ensures

pub read_instruction-requires : goal.read_instruction-requires
read_instruction-requires c =
    let p = c.requires in
    record {
      switches = _;
      entries = _;
      met = record { place = _; draft = p.draft; reading = reading-here p.standing c.read_head-head.ensures };
      is = c.in-Some.ensures ∙ ap instr_by c.keyword-keyword.ensures;
    }

pub returns-in-Some-clause-reads : goal.returns-in-Some-clause-reads
returns-in-Some-clause-reads c =
    let p = c.requires in
    reads_here p.standing c.read_head-head.ensures (c.read_instruction.ensures.reads _ _)

pub read_switch-requires : goal.read_switch-requires
read_switch-requires c =
    let p = c.requires in
    record {
      lines = _;
      met = record { place = _; draft = p.draft; reading = reading-here p.standing c.read_head-head.ensures };
      some = sym (c.is_switch.ensures ∙ ap is_switch c.keyword-keyword.ensures) ∙ c.if-is_switch.true;
    }

pub returns-then-is_switch-clause-reads : goal.returns-then-is_switch-clause-reads
returns-then-is_switch-clause-reads c =
    let p = c.requires in
    reads_here p.standing c.read_head-head.ensures (c.read_switch.ensures.reads _)

pub read_ending-requires : goal.read_ending-requires
read_ending-requires c =
    let p = c.requires in
    record {
      lines = _;
      table = _;
      switches = _;
      entries = _;
      met = record { place = _; draft = p.draft; reading = reading-here p.standing c.read_head-head.ensures };
      no_number = no-number _ (c.in_default.ensures ∙ ap instr_by c.keyword-keyword.ensures);
      no_switch = sym (c.is_switch.ensures ∙ ap is_switch c.keyword-keyword.ensures) ∙ c.if-is_switch.false;
    }

pub returns-clause-reads : goal.returns-clause-reads
returns-clause-reads c =
    let p = c.requires in
    reads_here p.standing c.read_head-head.ensures (c.read_ending.ensures.reads _ _ _ _)
