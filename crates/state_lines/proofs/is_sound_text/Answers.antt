-- `state_lines::is_sound_text` meets its contract. The invariant: what is left decides.
use Rattle.std.proofs.Common.{rules, ◌∙◌, sym}
use Rattle.state_lines.proofs.Lines.{sounding-stop, sounding-next, sounding-all}
use Rattle.state_lines.proofs.is_sound_text.Goals as goal

pub returns-then-not-is_sound : goal.returns-then-not-is_sound
returns-then-not-is_sound c = sounding-stop (search rules) c.line_end.ensures c.split_at.ensures.front c.split_at.ensures.back (sym c.is_sound.ensures ∙ c.if-not-is_sound.true) ∙ sym c.loop-rest.invariant

pub loop-rest-preserved : goal.loop-rest-preserved
loop-rest-preserved c = c.loop-rest.invariant ∙ sounding-next (search rules) c.line_end.ensures c.split_at.ensures.front c.split_at.ensures.back (sym c.is_sound.ensures ∙ c.if-not-is_sound.false)

pub returns : goal.returns
returns c = sounding-all c.loop-rest.rest.now (search rules) ∙ sym c.loop-rest.invariant
