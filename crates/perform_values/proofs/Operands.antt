-- From the arguments of the instructions of numbers and words to what their functions ask, and from what these promise to the instruction's meaning.
use mathlib.Core.Path.{◌≡◌, refl}
use mathlib.Core.List.{List, [], ◌∷◌}
use Prim.Native.Nat.{ℕ, ◌<◌}
use Prim.Native.String.{String}
use lib.Dec.{T}
use Rattle.lists.specs.Lists.{among}
use Rattle.lists.specs.Quoted.{bytes}
use Rattle.language.specs.Instructions.{operation, number_of}
use Rattle.language.specs.Operators.{op_by}
use Rattle.language.specs.declared.Operator.{Operator}
use Rattle.language.specs.declared.Operator.TheVariants as code
use Rattle.language.specs.Letters.Letter.{A, B}
use Rattle.language.specs.Limits as limit
use Rattle.language.specs.Program.{Op}
use Rattle.language.specs.Program.Arg.{nothing}
use Rattle.language.specs.Values.{State}
use Rattle.machine.specs.Effects.{row}
use Rattle.packed.specs.Packed.{table_of}
use Rattle.decoding.specs.Operands.{Lettered, Named, Listed, IsIndex, IsSource}
use Rattle.decoding.specs.OperandLaws.{form-letter, indexed-is, indexed-below}
use Rattle.instructions.specs.Does.{DoesFor}
use Rattle.instructions.specs.Below.Source.{Source}
use Rattle.operands.specs.Operands.{PairReadable}
use Rattle.ordering.specs.Ordering.{Comparable}
use Rattle.state.specs.Working.{nth, reading}
use Rattle.table.specs.Denote.{arg_of}
use Rattle.table.specs.LetterLaws.{listed-letter}
use Rattle.table.specs.declared.Letter.TheVariants as letter
use Rattle.table.specs.declared.Argument.{Argument}
use Rattle.performing.specs.Operating.{Carrying, PerformsFor}
use Rattle.performing.specs.CarryingLaws.{good-itself, formed, first-named, second_none, third-none, performed}
use Rattle.perform_values.specs.Valuing.{value_operators}

module _ {c : List ℕ} {σ : State} {op : Op} {x y z : Argument} (w : Carrying c σ op x y z) where
  -- ---- two operands, the first by A or B alone

  by-a : (b : String) → (operation op).forms ≡ ("A", b, "-") ∷ [] → Named (bytes "A") x
  by-a b f = first-named w ("A", b, "-") f tt

  by-b : (b : String) → (operation op).forms ≡ ("B", b, "-") ∷ [] → Named (bytes "B") x
  by-b b f = first-named w ("B", b, "-") f tt

  pub lettered-a : (b : String) → (operation op).forms ≡ ("A", b, "-") ∷ [] → Lettered x
  lettered-a b f = (by-a b f).lettered

  pub lettered-b : (b : String) → (operation op).forms ≡ ("B", b, "-") ∷ [] → Lettered x
  lettered-b b f = (by-b b f).lettered

  paired : {i : ℕ} → i < limit.expressions → Listed c (bytes "nB") y → PairReadable i y
  paired h m =
      let g = w.read.second in
      record {
        operand = record { index = g.index; form = form-letter c (bytes "nB") (listed-letter (λ l. l ≡ letter.B) (bytes "nB") refl) m; number = g.number };
        source = h;
      }

  module _ {i : ℕ} (q : IsIndex x i) where
    pub pair-a : (operation op).forms ≡ ("A", "nB", "-") ∷ [] → PairReadable i y
    pair-a f = paired (indexed-below A (by-a "nB" f) q) (formed w ("A", "nB", "-") f).second

    pub pair-b : (operation op).forms ≡ ("B", "nB", "-") ∷ [] → PairReadable i y
    pair-b f = paired (indexed-below B (by-b "nB" f) q) (formed w ("B", "nB", "-") f).second

    pub comparable : (operation op).forms ≡ ("B", "tB", "-") ∷ [] → Comparable c i y
    comparable f =
        record {
          other =
              record {
                good = good-itself w.read.second;
                form = form-letter c (bytes "tB") (listed-letter (λ l. l ≡ letter.B) (bytes "tB") refl) (formed w ("B", "tB", "-") f).second;
              };
          source = indexed-below B (by-b "tB" f) q;
        }

    module _ {told : ℕ} {σ' : State} where
      pub done-a : (b : String) → (operation op).forms ≡ ("A", b, "-") ∷ []
          → DoesFor σ told σ' (λ g ins. row g ins σ.store (nth A i) (arg_of (table_of c) y) nothing op) → PerformsFor c σ told σ'
      done-a b f = performed w (indexed-is A (by-a b f) q (table_of c)) refl (third-none w "A" b f)

      pub done-b : (b : String) → (operation op).forms ≡ ("B", b, "-") ∷ []
          → DoesFor σ told σ' (λ g ins. row g ins σ.store (nth B i) (arg_of (table_of c) y) nothing op) → PerformsFor c σ told σ'
      done-b b f = performed w (indexed-is B (by-b b f) q (table_of c)) refl (third-none w "B" b f)

  -- ---- one operand

  module _ (f : (operation op).forms ≡ ("AB", "-", "-") ∷ []) where
    pub sourced : Named (bytes "AB") x
    sourced = first-named w ("AB", "-", "-") f tt

    pub done-one : {s : Source} → IsSource x s → {told : ℕ} {σ' : State}
        → DoesFor σ told σ' (λ g ins. row g ins σ.store (nth (reading s.removes) s.i) nothing nothing op) → PerformsFor c σ told σ'
    done-one i = performed w (i.is (table_of c)) (second_none w "AB" "-" f) (third-none w "AB" "-" f)

-- ---- their operators

abbrev pub One : Operator → Type 0
One o = T (among (number_of (op_by o)) value_operators)

module _ (P : Operator → Type 0) (wk : P code.WK) (mn : P code.MN) (pp : P code.PP) (ns : P code.NS) (dodaj : P code.DODAJ)
    (odejmij : P code.ODEJMIJ) (mnoz : P code.MNOZ) (dziel : P code.DZIEL) (slowo : P code.SLOWO) (liczba : P code.LICZBA) where
  pub each-one : (o : Operator) → One o → P o
  each-one code.PRZESLIJ h = absurd h
  each-one code.CZYTAJ h = absurd h
  each-one code.PISZ h = absurd h
  each-one code.KOPIUJ h = absurd h
  each-one code.WSTAW h = absurd h
  each-one code.POBIERZ h = absurd h
  each-one code.SCHOWAJ h = absurd h
  each-one code.USTAW h = absurd h
  each-one code.ZAMIEN h = absurd h
  each-one code.UMIESC h = absurd h
  each-one code.USUN h = absurd h
  each-one code.SKRESL h = absurd h
  each-one code.RW h = absurd h
  each-one code.WK h = wk
  each-one code.MN h = mn
  each-one code.PP h = pp
  each-one code.NS h = ns
  each-one code.RZ h = absurd h
  each-one code.SKOCZ h = absurd h
  each-one code.WYKONAJ h = absurd h
  each-one code.SKOMI h = absurd h
  each-one code.SKOPL h = absurd h
  each-one code.WYMI h = absurd h
  each-one code.WYPL h = absurd h
  each-one code.SKONA h = absurd h
  each-one code.SKOIN h = absurd h
  each-one code.WYNA h = absurd h
  each-one code.WYIN h = absurd h
  each-one code.WROC h = absurd h
  each-one code.DODAJ h = dodaj
  each-one code.ODEJMIJ h = odejmij
  each-one code.MNOZ h = mnoz
  each-one code.DZIEL h = dziel
  each-one code.SLOWO h = slowo
  each-one code.LICZBA h = liczba
  each-one code.ZBIJ h = absurd h
  each-one code.ROZBIJ h = absurd h
  each-one code.SZUKAJ h = absurd h
  each-one code.OMIN h = absurd h
  each-one code.COFNIJ h = absurd h
  each-one code.STOP h = absurd h
