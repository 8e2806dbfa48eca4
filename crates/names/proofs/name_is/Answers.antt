-- `names::name_is` meets its contract.
use mathlib.Core.Path.{sym, ◌∙◌}
use Rattle.names.proofs.Seeking.{not-it, other-end, may-be-it}
use Rattle.names.proofs.name_is.Goals as goal

pub returns-then-length_of-len : goal.returns-then-length_of-len
returns-then-length_of-len c = not-it c.requires (λ e. c.if-length_of-len.true (c.length_of.ensures ∙ e))

pub returns-then-cell_of : goal.returns-then-cell_of
returns-then-cell_of c =
    other-end c.requires (sym c.length_of.ensures ∙ c.if-length_of-len.false) c.if-len-ge4.true
    (λ e. c.if-cell_of.true (c.cell_of.ensures ∙ e ∙ sym (rw c.place_of-from.ensures at c.cell_of-then-len-ge4.ensures)))

pub returns : goal.returns
returns c = may-be-it c.requires (sym c.length_of.ensures ∙ c.if-length_of-len.false) (rw c.place_of-from.ensures at c.same_word.ensures)
