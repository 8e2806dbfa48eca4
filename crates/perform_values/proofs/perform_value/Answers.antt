-- `perform_values::perform_value` meets its contract.
use mathlib.Core.Path.{◌≡◌, refl, ap}
use Rattle.language.specs.Operators.{op_by}
use Rattle.language.specs.declared.Operator.{Operator}
use Rattle.packed.specs.Packed.{table_of}
use Rattle.decoding.specs.Operands.{Lettered}
use Rattle.performing.specs.CarryingLaws.{known}
use Rattle.performing.specs.PlaceLaws.{read-one, read-two}
use Rattle.perform_values.proofs.Operands.{lettered-a, lettered-b, pair-a, pair-b, comparable, done-a, done-b, sourced, done-one, each-one}
use Rattle.perform_values.proofs.perform_value.Goals as goal

-- the first argument has a letter
pub index_of-index-requires : goal.index_of-index-requires
index_of-index-requires c =
    let w = read-one c.requires.carrying c.first-x.ensures in
    each-one (λ (o : Operator). c.args.op ≡ o → Lettered c.first-x.result)
    (λ q. lettered-b (known w (ap op_by q)) "nB" refl)
    (λ q. lettered-b (known w (ap op_by q)) "nB" refl)
    (λ q. lettered-b (known w (ap op_by q)) "tB" refl)
    (λ q. lettered-b (known w (ap op_by q)) "tB" refl)
    (λ q. lettered-a (known w (ap op_by q)) "nB" refl)
    (λ q. lettered-a (known w (ap op_by q)) "nB" refl)
    (λ q. lettered-a (known w (ap op_by q)) "nB" refl)
    (λ q. lettered-a (known w (ap op_by q)) "nB" refl)
    (λ q. (sourced (known w (ap op_by q)) refl).lettered)
    (λ q. (sourced (known w (ap op_by q)) refl).lettered)
    c.args.op c.requires.one_of refl

pub compare_numbers-requires : goal.compare_numbers-requires
compare_numbers-requires c = pair-b (known (read-two c.requires.carrying c.first-x.ensures c.second.ensures) (ap op_by c.in-WK.is)) c.index_of-index.ensures refl

pub compare_numbers-requires-in-MN : goal.compare_numbers-requires-in-MN
compare_numbers-requires-in-MN c = pair-b (known (read-two c.requires.carrying c.first-x.ensures c.second-in-MN.ensures) (ap op_by c.in-MN.is)) c.index_of-index.ensures refl

pub compare_words-requires : goal.compare_words-requires
compare_words-requires c = comparable (known (read-two c.requires.carrying c.first-x.ensures c.second-in-PP.ensures) (ap op_by c.in-PP.is)) c.index_of-index.ensures refl

pub compare_words-requires-in-NS : goal.compare_words-requires-in-NS
compare_words-requires-in-NS c = comparable (known (read-two c.requires.carrying c.first-x.ensures c.second-in-NS.ensures) (ap op_by c.in-NS.is)) c.index_of-index.ensures refl

pub compute-requires : goal.compute-requires
compute-requires c = pair-a (known (read-two c.requires.carrying c.first-x.ensures c.second-in-DODAJ.ensures) (ap op_by c.in-DODAJ.is)) c.index_of-index.ensures refl

pub compute-requires-in-ODEJMIJ : goal.compute-requires-in-ODEJMIJ
compute-requires-in-ODEJMIJ c = pair-a (known (read-two c.requires.carrying c.first-x.ensures c.second-in-ODEJMIJ.ensures) (ap op_by c.in-ODEJMIJ.is)) c.index_of-index.ensures refl

pub compute-requires-in-MNOZ : goal.compute-requires-in-MNOZ
compute-requires-in-MNOZ c = pair-a (known (read-two c.requires.carrying c.first-x.ensures c.second-in-MNOZ.ensures) (ap op_by c.in-MNOZ.is)) c.index_of-index.ensures refl

pub dziel-requires : goal.dziel-requires
dziel-requires c = pair-a (known (read-two c.requires.carrying c.first-x.ensures c.second-in-DZIEL.ensures) (ap op_by c.in-DZIEL.is)) c.index_of-index.ensures refl

pub source_of-requires : goal.source_of-requires
source_of-requires c = sourced (known (read-one c.requires.carrying c.first-x.ensures) (ap op_by c.in-SLOWO.is)) refl

pub source_of-requires-in-LICZBA : goal.source_of-requires-in-LICZBA
source_of-requires-in-LICZBA c = sourced (known (read-one c.requires.carrying c.first-x.ensures) (ap op_by c.in-LICZBA.is)) refl

pub returns-in-WK : goal.returns-in-WK
returns-in-WK c = done-b (known (read-two c.requires.carrying c.first-x.ensures c.second.ensures) (ap op_by c.in-WK.is)) c.index_of-index.ensures "nB" refl (c.compare_numbers.ensures (table_of c.args.table.cells.now))

pub returns-in-MN : goal.returns-in-MN
returns-in-MN c = done-b (known (read-two c.requires.carrying c.first-x.ensures c.second-in-MN.ensures) (ap op_by c.in-MN.is)) c.index_of-index.ensures "nB" refl (c.compare_numbers-in-MN.ensures (table_of c.args.table.cells.now))

pub returns-in-PP : goal.returns-in-PP
returns-in-PP c = done-b (known (read-two c.requires.carrying c.first-x.ensures c.second-in-PP.ensures) (ap op_by c.in-PP.is)) c.index_of-index.ensures "tB" refl c.compare_words.ensures

pub returns-in-NS : goal.returns-in-NS
returns-in-NS c = done-b (known (read-two c.requires.carrying c.first-x.ensures c.second-in-NS.ensures) (ap op_by c.in-NS.is)) c.index_of-index.ensures "tB" refl c.compare_words-in-NS.ensures

pub returns-in-DODAJ : goal.returns-in-DODAJ
returns-in-DODAJ c = done-a (known (read-two c.requires.carrying c.first-x.ensures c.second-in-DODAJ.ensures) (ap op_by c.in-DODAJ.is)) c.index_of-index.ensures "nB" refl (c.compute.ensures (table_of c.args.table.cells.now))

pub returns-in-ODEJMIJ : goal.returns-in-ODEJMIJ
returns-in-ODEJMIJ c = done-a (known (read-two c.requires.carrying c.first-x.ensures c.second-in-ODEJMIJ.ensures) (ap op_by c.in-ODEJMIJ.is)) c.index_of-index.ensures "nB" refl (c.compute-in-ODEJMIJ.ensures (table_of c.args.table.cells.now))

pub returns-in-MNOZ : goal.returns-in-MNOZ
returns-in-MNOZ c = done-a (known (read-two c.requires.carrying c.first-x.ensures c.second-in-MNOZ.ensures) (ap op_by c.in-MNOZ.is)) c.index_of-index.ensures "nB" refl (c.compute-in-MNOZ.ensures (table_of c.args.table.cells.now))

pub returns-in-DZIEL : goal.returns-in-DZIEL
returns-in-DZIEL c = done-a (known (read-two c.requires.carrying c.first-x.ensures c.second-in-DZIEL.ensures) (ap op_by c.in-DZIEL.is)) c.index_of-index.ensures "nB" refl (c.dziel.ensures (table_of c.args.table.cells.now))

pub returns-in-SLOWO : goal.returns-in-SLOWO
returns-in-SLOWO c = done-one (known (read-one c.requires.carrying c.first-x.ensures) (ap op_by c.in-SLOWO.is)) refl c.source_of.ensures c.slowo.ensures

pub returns-in-LICZBA : goal.returns-in-LICZBA
returns-in-LICZBA c = done-one (known (read-one c.requires.carrying c.first-x.ensures) (ap op_by c.in-LICZBA.is)) refl c.source_of-in-LICZBA.ensures c.liczba.ensures

pub unreachable-requires : goal.unreachable-requires
unreachable-requires c =
    let d = c.in_default in
    each-one (λ (o : Operator). c.args.op ≡ o → ⊥) d.not-WK d.not-MN d.not-PP d.not-NS d.not-DODAJ d.not-ODEJMIJ d.not-MNOZ d.not-DZIEL d.not-SLOWO d.not-LICZBA
    c.args.op c.requires.one_of refl
