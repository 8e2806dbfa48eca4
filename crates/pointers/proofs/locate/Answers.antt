-- `pointers::locate` meets its contract.
use mathlib.Core.Path.{sym, ◌∙◌}
use Rattle.language.specs.Letters.Letter.{P}
use Rattle.machine.specs.Arguments.{file_of, records}
use Rattle.state.specs.Working.{nth}
use Rattle.pointers.proofs.Searching.{located-front, located-before, located_after}
use Rattle.pointers.proofs.locate.Goals as goal

pub returns-then-address-eq0 : goal.returns-then-address-eq0
returns-then-address-eq0 c = located-front c.if-address-eq0.true (records (file_of c.args.state.now.store (nth P c.args.i)))

pub returns-in-Ok : goal.returns-in-Ok
returns-in-Ok c = located-before c.if-address-eq0.false c.before_bytes.ensures (file_of c.args.state.now.store (nth P c.args.i)).after c.in-Ok.ensures

pub returns : goal.returns
returns c = located_after c.if-address-eq0.false c.before_bytes.ensures c.after_bytes.ensures c.in-Err.ensures c.find-2.ensures (sym c.ok.ensures.value ∙ c.in_ok-place.was)
