-- `loading::load_typed` meets its contract.
use native.Mathlib.Omega.{arith}
use mathlib.Core.Path.{◌≡◌, sym}
use lib.ListN.{length}
use lib.Seq.{length-take-le}
use Rattle.loading.proofs.Outcomes.{lent, load-in}
use Rattle.loading.proofs.load_typed.Goals as goal

pub slice_bounds-load_lined-end : goal.slice_bounds-load_lined-end
slice_bounds-load_lined-end c = let size : length c.fill_lines.new.lines ≡ 32768 = (omega arith) in sym (length-take-le (length c.args.text.now) c.fill_lines.new.lines (omega (arith, size, c.requires.short)))

pub load_lined-requires : goal.load_lined-requires
load_lined-requires c = lent c.requires c.fill_lines.ensures

pub returns : goal.returns
returns c = load-in c.requires c.fill_lines.ensures c.load_lined.ensures
