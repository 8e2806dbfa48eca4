-- `entering::enter_text_in` meets its contract.
use borrow.Enum.Refused.{opened}
use Rattle.entering.proofs.Adding.{no_text, value-past, value-is_text, value-names, value-text}
use Rattle.entering.proofs.enter_text_in.Goals as goal

pub enter_text_of-requires : goal.enter_text_of-requires
enter_text_of-requires c = value-text c.requires c.in-Text.is

pub returns-in-Text : goal.returns-in-Text
returns-in-Text c = λ i h. rw c.is_ok.ensures.value (c.enter_text_of.ensures.enters i (value-is_text h c.in-Text.is) (value-names h c.in-Text.is))

pub returns-in_default : goal.returns-in_default
returns-in_default c = λ i h. value-past h (no_text c.args.x (opened c.in_default.in_default-own.keys2))
