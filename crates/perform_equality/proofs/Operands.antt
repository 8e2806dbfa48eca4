-- From the arguments of a relation of equality to its operands, and from what the families promise to its meaning.
use mathlib.Core.Path.{◌≡◌, refl, sym, ◌∙◌}
use mathlib.Core.Bool.{Bool, true, false, ◌||◌}
use mathlib.Core.List.{List}
use mathlib.Core.Logic.{◌⊎◌, inl, inr}
use Prim.Native.Nat.{ℕ, ◌+◌, ◌*◌}
use lib.Dec.{T, eqb}
use Rattle.lists.specs.Lists.{all, among}
use Rattle.lists.specs.ListLaws.{all_among}
use Rattle.lists.specs.Quoted.{bytes}
use Rattle.language.specs.Instructions.{number_of}
use Rattle.language.specs.Letters as letters
use Rattle.language.specs.Letters.{letter_code}
use Rattle.language.specs.Program.{Op}
use Rattle.language.specs.Program.Arg.{nothing}
use Rattle.language.specs.Program.Op.{RW, RZ}
use Rattle.language.specs.Values.{State}
use Rattle.layout.specs.Places as layout
use Rattle.layout.specs.Table.{program_of}
use Rattle.machine.specs.Effects.{row}
use Rattle.machine.specs.WellFormed.{form}
use Rattle.packed.specs.Packed.{table_of}
use Rattle.decoding.specs.Operands.{Named, IsSource, IsIndex, IsVariable, Listed, Read, Shaped}
use Rattle.decoding.specs.OperandLaws.{good_of, listed_of, named, no-argument, form-letter, indexed-is, indexed-below, shapes}
use Rattle.decoding.specs.declared.Variable.{Variable}
use Rattle.decoding.specs.declared.Variable.TheVariants.{Expression, Input}
use Rattle.record_equality.specs.Below.Offers.{Holdable}
use Rattle.tests.specs.Prepares.{OtherLetter}
use Rattle.record_equality.specs.Below.Equality.{Relatable}
use Rattle.record_equality.specs.RecordEquality.{RecordRelatable}
use Rattle.input_equality.specs.InputEquality.{InputRelatable}
use Rattle.input_equality.specs.Below.Readings.{DoesPassing}
use Rattle.instructions.specs.Does.{DoesFor}
use Rattle.instructions.specs.Below.Source.{Source}
use Rattle.state.specs.Working.{nth, reading}
use Rattle.table.specs.Denote.{letter_of, arg_of}
use Rattle.table.specs.LetterLaws.{listed-letter}
use Rattle.table.specs.Reads.{IsArgument}
use Rattle.table.specs.declared.Argument.{Argument}
use Rattle.perform_moves.specs.Below.Stepping.{inputs}
use Rattle.perform_moves.specs.Below.Performing.{Performing, Performs}
use Rattle.perform_moves.specs.Below.Operating.{Carrying, PerformsFor}
use Rattle.perform_moves.specs.Below.OperatingLaws.{carrying, performs}
use Rattle.performing.specs.CarryingLaws.{good-itself, formed, first-named, third-none, performed}
use Rattle.performing.specs.Places.{PerformingAt}
use Rattle.performing.specs.PlaceLaws.{performing-one}
use Rattle.perform_moves.proofs.Operands.{named-of, no_others, unread}
use Rattle.perform_equality.specs.Equating.{any_letter, IsAny, RelatingExpression}

-- ---- the second argument

abbrev others : List ℕ
others = bytes "nNtcBTE"

wider : (c : List ℕ) (a : Argument) (fs gs : List ℕ) → T (all (λ n. among n gs) fs) → Listed c fs a → Listed c gs a
wider c a fs gs h m = all_among (λ n. among n gs) fs h (form (program_of c) (arg_of (table_of c) a)) m

holdable : {c : List ℕ} {σ : State} {op : Op} {x y z : Argument} → Carrying c σ op x y z → Listed c others y → Holdable c y
holdable {c} w m =
    record {
      good = good-itself w.read.second;
      form = form-letter c others (listed-letter OtherLetter others tt tt tt tt) m;
    }

-- ---- the forms of RW

record RelationForms (c : List ℕ) (x y z : Argument) : Type 0 where
  first : Listed c (bytes "ABTI") x
  second : Listed c others y
  none : arg_of (table_of c) z ≡ nothing

forms : {c : List ℕ} {k : ℕ} {x y z : Argument} → Read c k (number_of RW) x y z → RelationForms c x y z
forms {c} {k} {x} {y} {z} r = go (shapes r ("ABT", "nN", "-") ("ABTI", "tcBT", "-") refl)
  where
    go : Shaped c (bytes "ABT") (bytes "nN") (bytes "-") x y z ⊎ Shaped c (bytes "ABTI") (bytes "tcBT") (bytes "-") x y z → RelationForms c x y z
    go (inl s) = record { first = wider c x (bytes "ABT") (bytes "ABTI") tt s.first; second = wider c y (bytes "nN") others tt s.second; none = no-argument c z s.third }
    go (inr s) = record { first = s.first; second = wider c y (bytes "tcBT") others tt s.second; none = no-argument c z s.third }

-- ---- RW of an expression

-- its first argument
module _ {x : Argument} (n : Named (bytes "ABT") x) {r : Bool} (a : IsAny x r) where
  renamed : (fs : List ℕ) → T (among (letter_code (letter_of a.letter)) fs) → Named fs x
  renamed fs h =
      record {
        lettered = record { letter = a.letter; index = a.index; is = a.is; good = good_of a.letter a.index n.lettered a.is };
        listed = h;
      }

  pub any-named : r ≡ true → Named (bytes "T") x
  any-named q = renamed (bytes "T") (go (any_letter a.letter) (sym a.any ∙ q))
    where
      go : (b : Bool) → b ≡ true → T (b || false)
      go b q = rw q tt

  pub one-named : r ≡ false → Named (bytes "AB") x
  one-named q =
      let k = letter_code (letter_of a.letter) in
      renamed (bytes "AB") (go (eqb k 65) (eqb k 66) (eqb k 84) (sym a.any ∙ q) (listed_of a.letter a.index n a.is))
    where
      go : (b d f : Bool) → f ≡ false → T (b || (d || (f || false))) → T (b || (d || false))
      go b d f q t = rw q at t

module _ {c : List ℕ} {σ : State} {x y z : Argument} (w : Carrying c σ RW x y z) where
  relation : RelationForms c x y z
  relation = forms w.read

  -- any component
  module _ (n : Named (bytes "ABT") x) {r : Bool} (a : IsAny x r) (q : r ≡ true) {i : ℕ} (at : IsIndex x i) where
    pub any-relatable : Relatable c i y
    any-relatable = record { other = holdable w relation.second; source = indexed-below letters.Letter.T (any-named n a q) at }

    pub any-related : {told : ℕ} {σ' : State}
        → DoesFor σ told σ' (λ g ins. row g ins σ.store (nth letters.Letter.T i) (arg_of (table_of c) y) nothing RW)
        → PerformsFor c σ told σ'
    any-related h = performed w (indexed-is letters.Letter.T (any-named n a q) at (table_of c)) refl relation.none h

  -- the first
  module _ {s : Source} (from : IsSource x s) where
    pub one-relatable : Relatable c s.i y
    one-relatable = record { other = holdable w relation.second; source = from.below }

    pub one-related : {told : ℕ} {σ' : State}
        → DoesFor σ told σ' (λ g ins. row g ins σ.store (nth (reading s.removes) s.i) (arg_of (table_of c) y) nothing RW)
        → PerformsFor c σ told σ'
    one-related h = performed w (from.is (table_of c)) refl relation.none h

-- ---- RZ

module _ {c : List ℕ} {σ : State} {x y z : Argument} (w : Carrying c σ RZ x y z) where
  pub record-named : Named (bytes "P") x
  record-named = first-named w ("P", "ntBENT", "-") refl tt

  module _ {i : ℕ} (at : IsIndex x i) where
    pub record-relatable : RecordRelatable c i y
    record-relatable =
        record {
          other = holdable w (wider c y (bytes "ntBENT") others tt (formed w ("P", "ntBENT", "-") refl).second);
          source = indexed-below letters.Letter.P record-named at;
        }

    pub record-related : {told : ℕ} {σ' : State}
        → DoesFor σ told σ' (λ g ins. row g ins σ.store (nth letters.Letter.P i) (arg_of (table_of c) y) nothing RZ)
        → PerformsFor c σ told σ'
    record-related h = performed w (indexed-is letters.Letter.P record-named at (table_of c)) refl (third-none w "P" "ntBENT" refl) h

-- ---- RW

module _ {c i j : List ℕ} {σ : State} {x y z : Argument} (w : Performing c i j σ RW x y z) where
  pub related-named : Named (bytes "ABTI") x
  related-named = named c w.read.first (bytes "ABTI") tt (forms w.read).first

  pub related-others : {v : Variable} → IsVariable x v → (v ≡ Input → ⊥) → (v ≡ Expression → ⊥) → ⊥
  related-others which = no_others (bytes "ABTI") related-named which tt tt

  -- of an input
  module _ {k : ℕ} {v : Variable} (at : IsIndex x k) (which : IsVariable x v) (q : v ≡ Input) where
    of-input : Named (bytes "I") x
    of-input = named-of (bytes "ABTI") related-named which (bytes "I") Input tt q

    pub input-relatable : InputRelatable c σ i j k y
    input-relatable = record { unread = unread w k (indexed-below letters.Letter.I of-input at); other = holdable (carrying w) (forms w.read).second }

    pub input-related : {told : ℕ} {σ' : State}
        → DoesPassing σ told σ' (λ g. row g (inputs i j) σ.store (nth letters.Letter.I k) (arg_of (table_of c) y) nothing RW)
        → Performs c i j σ told σ'
    input-related h =
        performs (carrying w) (nth letters.Letter.I k) (arg_of (table_of c) y) nothing (indexed-is letters.Letter.I of-input at (table_of c)) refl
        (forms w.read).none i j (h (program_of c))

  -- of an expression
  pub related-expression : {v : Variable} → IsVariable x v → v ≡ Expression → Named (bytes "ABT") x
  related-expression which q = named-of (bytes "ABTI") related-named which (bytes "ABT") Expression tt q

-- by its place, its first argument read
pub expression-relating : {c i j : List ℕ} {σ : State} {k : ℕ} {x : Argument} → PerformingAt c i j σ RW k
    → IsArgument (table_of c) (1 + (layout.first_instruction + 4 * k)) x → {v : Variable} → IsVariable x v → v ≡ Expression → RelatingExpression c σ k x
expression-relating w f which q = record { carrying = w.carrying; read = f; expression = related-expression (performing-one w f) which q }
