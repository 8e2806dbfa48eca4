-- `loading::load_lined` meets its contract.
use native.Mathlib.Omega.{arith}
use Rattle.loading.proofs.Outcomes.{loadable, load-accepted, load-refused}
use Rattle.loading.proofs.load_lined.Goals as goal

pub clear_table-requires : goal.clear_table-requires
clear_table-requires c = c.requires.long

pub load_text-requires : goal.load_text-requires
load_text-requires c = loadable c.requires c.clear_table.ensures

pub refuse-requires : goal.refuse-requires
refuse-requires c = omega (arith, c.requires.long)

pub returns-in-Ok : goal.returns-in-Ok
returns-in-Ok c = load-accepted c.requires c.clear_table.ensures c.load_text.ensures c.in-Ok.is

pub returns-in-Err : goal.returns-in-Err
returns-in-Err c = load-refused c.requires c.clear_table.ensures c.load_text.ensures c.in-Err.r c.in-Err.is c.refuse.ensures
