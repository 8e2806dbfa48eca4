-- `shortening::shorten` meets its contract.
use mathlib.Core.Path.{refl, sym, ◌∙◌}
use native.Mathlib.Omega.{arith}
use Rattle.shortening.proofs.Giving.{front-copied, buffer-40, load-40, text-short, accepted-not_40, given_back, refused-text, refused-given}
use Rattle.shortening.proofs.shorten.Goals as goal

pub returns-then-out-text : goal.returns-then-out-text
returns-then-out-text c =
    buffer-40 c.args.text.now c.args.table.now c.args.out.now c.if-out-text.true

pub overflow_cast-result : goal.overflow_cast-result
overflow_cast-result c =
    record { fits = omega (arith, text-short c.args.text.now c.args.table.now c.args.out.now (accepted-not_40 c.args.text.now c.args.table.now c.args.out.now c.load-loaded.ensures c.in-Ok.is)) }

pub returns-in-Ok : goal.returns-in-Ok
returns-in-Ok c =
    given_back c.args.text.now c.args.table.now c.args.out.now c.load-loaded.ensures c.in-Ok.is c.if-out-text.false (front-copied c.args.out.now c.copy_from_slice.ensures.after) c.in-Ok.is refl

pub returns-then-is_refused_by : goal.returns-then-is_refused_by
returns-then-is_refused_by c =
    load-40 c.args.text.now c.args.table.now c.args.out.now c.load-loaded.ensures (sym c.is_refused_by.ensures ∙ c.if-is_refused_by.true)

pub shorten_refused-requires : goal.shorten_refused-requires
shorten_refused-requires c =
    refused-text c.args.text.now c.args.table.now c.args.out.now c.load-loaded.ensures c.in-Err.is (sym c.is_refused_by.ensures ∙ c.if-is_refused_by.false) c.if-out-text.false (omega arith)

pub returns-in-Err : goal.returns-in-Err
returns-in-Err c =
    refused-given c.args.text.now c.args.table.now c.args.out.now c.load-loaded.ensures c.in-Err.is (sym c.is_refused_by.ensures ∙ c.if-is_refused_by.false) c.if-out-text.false (omega arith) c.shorten_refused.ensures
