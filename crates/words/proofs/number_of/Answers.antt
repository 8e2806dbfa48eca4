-- `words::number_of` meets its contract.
use mathlib.Core.Path.{ap, ◌∙◌}
use Rattle.std.specs.Result.{result_ok}
use Rattle.words.proofs.Numbers.{number_read}
use Rattle.words.proofs.number_of.Goals as goal

pub returns : goal.returns
returns c = c.ok.ensures.value ∙ ap result_ok c.read_decimal.ensures ∙ number_read c.args.w.now
