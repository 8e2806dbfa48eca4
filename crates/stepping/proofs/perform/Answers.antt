-- `stepping::perform` meets its contract.
use mathlib.Core.Path.{◌≡◌, sym, subst}
use mathlib.Core.Logic.{◌⊎◌}
use lib.Dec.{T}
use Rattle.std.proofs.Common.{⊎_elim}
use Rattle.lists.specs.Lists.{among}
use Rattle.language.specs.Instructions.{number_of}
use Rattle.language.specs.Operators.{op_by}
use Rattle.language.specs.declared.Operator.{Operator}
use Rattle.perform_values.specs.Valuing.{value_operators}
use Rattle.perform_equality.specs.Below.Moving.{movers}
use Rattle.perform_equality.specs.Equating.{equality_operators}
use Rattle.perform_files.specs.Filing.{file_operators}
use Rattle.stepping.proofs.perform.Goals as goal

-- what holds of one of several operators, or of each of the rest
module _ (P : Operator → Type 0) {o k : Operator} where
  last : P k → o ≡ k → P o
  last p q = subst P (sym q) p

  either : {R : Type 0} → P k → (R → P o) → o ≡ k ⊎ R → P o
  either p f = ⊎_elim (last p) f

abbrev Move : Operator → Type 0
Move o = T (among (number_of (op_by o)) movers)

abbrev Value : Operator → Type 0
Value o = T (among (number_of (op_by o)) value_operators)

abbrev Equal : Operator → Type 0
Equal o = T (among (number_of (op_by o)) equality_operators)

abbrev File : Operator → Type 0
File o = T (among (number_of (op_by o)) file_operators)

-- one of ten
ten : (P : Operator → Type 0) {a b d e f g h i j k : Operator} → P a → P b → P d → P e → P f → P g → P h → P i → P j → P k → {o : Operator}
    → o ≡ a ⊎ (o ≡ b ⊎ (o ≡ d ⊎ (o ≡ e ⊎ (o ≡ f ⊎ (o ≡ g ⊎ (o ≡ h ⊎ (o ≡ i ⊎ (o ≡ j ⊎ o ≡ k)))))))) → P o
ten P a b d e f g h i j k =
    either P a (either P b (either P d (either P e (either P f (either P g (either P h (either P i (either P j (last P k)))))))))

pub perform_move-requires : goal.perform_move-requires
perform_move-requires c =
    let seven = either Move tt (either Move tt (either Move tt (either Move tt (either Move tt (either Move tt (last Move tt)))))) in
    record { performing = c.requires.performing; mover = seven c.in-PRZESLIJ.is }

pub perform_value-requires : goal.perform_value-requires
perform_value-requires c =
    record { carrying = c.requires.performing.carrying; one_of = ten Value tt tt tt tt tt tt tt tt tt tt c.in-WK.is }

pub perform_equality-requires : goal.perform_equality-requires
perform_equality-requires c = record { performing = c.requires.performing; one_of = either Equal tt (last Equal tt) c.in-RW.is }

pub perform_file-requires : goal.perform_file-requires
perform_file-requires c =
    record { carrying = c.requires.performing.carrying; one_of = ten File tt tt tt tt tt tt tt tt tt tt c.in-KOPIUJ.is }

pub returns-in-WK : goal.returns-in-WK
returns-in-WK c = c.perform_value.ensures c.args.task.first.now c.args.task.second.now

pub returns-in-KOPIUJ : goal.returns-in-KOPIUJ
returns-in-KOPIUJ c = c.perform_file.ensures c.args.task.first.now c.args.task.second.now
