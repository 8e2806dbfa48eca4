-- `macro_marks::joined_in_body` meets its contract.
use mathlib.Core.Path.{◌∙◌}
use Rattle.macro_marks.specs.Parts.{parameters}
use Rattle.macro_marks.proofs.Reaching.{no-identifier, no_second, by-parameter}
use Rattle.macro_marks.proofs.joined_in_body.Goals as goal

pub returns-then-not-identifier : goal.returns-then-not-identifier
returns-then-not-identifier c = let a = c.args in
    no-identifier a.text.now (parameters a.text.now a.header) a.t c.is.ensures c.if-not-is.false c.byte_at.ensures c.if-byte_at-ne39.false c.identifier.ensures c.if-not-identifier.true

pub returns-then-not-identifier-2 : goal.returns-then-not-identifier-2
returns-then-not-identifier-2 c = let a = c.args in
    no_second a.text.now (parameters a.text.now a.header) a.t c.is.ensures c.if-not-is.false c.byte_at.ensures c.if-byte_at-ne39.false c.identifier.ensures c.if-not-identifier.false c.word_end-end.ensures c.identifier-2.ensures c.if-not-identifier-2.true

pub returns : goal.returns
returns c = let a = c.args in
    c.then_some.ensures ∙ by-parameter a.text.now (parameters a.text.now a.header) a.t c.is.ensures c.if-not-is.false c.byte_at.ensures c.if-byte_at-ne39.false c.identifier.ensures c.if-not-identifier.false c.word_end-end.ensures c.identifier-2.ensures c.if-not-identifier-2.false c.is_parameter.ensures
