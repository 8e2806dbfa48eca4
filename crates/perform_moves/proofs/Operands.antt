-- From the arguments of a move to its operands, and from what the families promise to its meaning.
use mathlib.Core.Path.{◌≡◌, refl, ap, subst}
use mathlib.Core.Bool.{Bool, true, not, ◌&&◌, ◌||◌}
use mathlib.Core.List.{List, [], ◌∷◌}
use Prim.Native.Nat.{ℕ, zero, suc, ◌≤◌, ◌<◌}
use native.Mathlib.Omega.{arith}
use lib.Dec.{T, eqb, leb, leb→le}
use lib.ListN.{length, get_or}
use Rattle.lists.specs.Lists.{all, among}
use Rattle.lists.specs.ListLaws.{T-left, T-right}
use Rattle.lists.specs.Quoted.{bytes}
use Rattle.characters.specs.Characters.{known}
use Rattle.language.specs.Instructions.{operation}
use Rattle.language.specs.Letters.Letter.{A, I, Q}
use Rattle.language.specs.Limits as limit
use Rattle.language.specs.Operators.{op_by}
use Rattle.language.specs.Program.{Arg, Op}
use Rattle.language.specs.Program.Arg.{nothing, switch}
use Rattle.language.specs.Program.Op.{PRZESLIJ, CZYTAJ, PISZ, USUN, SZUKAJ}
use Rattle.language.specs.Values.{State, Inputs}
use Rattle.language.specs.declared.Operator.{Operator}
use Rattle.layout.specs.Table.{program_of}
use Rattle.machine.specs.Effects.{row}
use Rattle.machine.specs.WellFormed.{good_inputs, overrun, store_faults}
use Rattle.machine.proofs.WellFormedLaws.{open-state, open-store}
use Rattle.packed.specs.Packed.{table_of}
use Rattle.decoding.specs.Operands.{var_of, letters_of, Named, IsSource, IsTarget, IsIndex, IsVariable, Listed, SwitchOf}
use Rattle.decoding.specs.OperandLaws.{switched-by-name, form-letter, narrowed, indexed-is, indexed-below}
use Rattle.decoding.specs.declared.Variable.{Variable}
use Rattle.decoding.specs.declared.Variable.TheVariants.{Expression, Input, Output, File}
use Rattle.instructions.specs.Does.{DoesIn, DoesFor}
use Rattle.instructions.specs.Operands.{target}
use Rattle.instructions.specs.Below.Source.{Source}
use Rattle.instructions.specs.Below.Target.{Target}
use Rattle.moves.specs.Moves.{Movable, Removable}
use Rattle.splitting.specs.Below.Joining.{WordsJoinable}
use Rattle.splitting.specs.Below.Readings.{input_of, Unread, InputPassable, InputReadable, DoesReading, DoesPassing}
use Rattle.switches.specs.Switches.{Looks}
use Rattle.state.specs.Working.{nth, reading}
use Rattle.table.specs.Denote.{arg_of}
use Rattle.table.specs.Good.{GoodArgument}
use Rattle.table.specs.declared.Argument.{Argument}
use Rattle.table.specs.declared.Argument.TheVariants.{Switch}
use Rattle.table.specs.LetterLaws.{listed-letter}
use Rattle.tests.specs.Prepares.{TestLetter, TestReadable}
use Rattle.performing.specs.Stepping.{inputs}
use Rattle.performing.specs.Performing.{Performing, Performs}
use Rattle.performing.specs.Operating.{Carrying, PerformsFor}
use Rattle.performing.specs.OperatingLaws.{carrying, performs}
use Rattle.performing.specs.Places.{CarryingAt, PerformingAt}
use Rattle.performing.specs.CarryingLaws.{good-itself, formed, first-named, second-named, third-none, performed}

-- ---- what all of them share

abbrev tests : List ℕ
tests = bytes "-nNctBT"

module _ {c : List ℕ} {σ : State} {op : Op} {x y z : Argument} (w : Carrying c σ op x y z) where
  test_of : {v : Arg} {a : Argument} → GoodArgument c v a → Listed c tests a → TestReadable c a
  test_of g m =
      record {
        good = good-itself g;
        form = form-letter c tests (listed-letter TestLetter tests tt tt tt) m;
      }

-- ---- the first argument, with the letters fs, by what it is of

module _ (fs : List ℕ) {x : Argument} (n : Named fs x) {v : Variable} (which : IsVariable x v) where
  pub named-of : (gs : List ℕ) (u : Variable) → T (all (λ k. not (among k (letters_of (var_of u))) || among k gs) fs) → v ≡ u → Named gs x
  named-of gs u h q = narrowed fs gs u h n (subst (λ (w : Variable). IsVariable x w) q which)

  -- an input or an expression, and nothing else
  pub no_others : T (all (λ k. not (among k (letters_of (var_of Output))) || among k []) fs) → T (all (λ k. not (among k (letters_of (var_of File))) || among k []) fs)
      → (v ≡ Input → ⊥) → (v ≡ Expression → ⊥) → ⊥
  no_others o f a b = go v refl
    where
      go : (u : Variable) → v ≡ u → ⊥
      go Expression q = b q
      go Input q = a q
      go Output q = (named-of [] Output o q).listed
      go File q = (named-of [] File f q).listed

-- ---- PRZESLIJ

module _ {c : List ℕ} {σ : State} {x y z : Argument} (w : Carrying c σ PRZESLIJ x y z) where
  pub send-from : Named (bytes "AB") x
  send-from = first-named w ("AB", "ABYZ", "-nNctBT") refl tt

  pub send-to : Named (bytes "ABYZ") y
  send-to = second-named w ("AB", "ABYZ", "-nNctBT") refl tt

  module _ {s : Source} {t : Target} (from : IsSource x s) (to : IsTarget y t) where
    pub sendable : Movable c s.i t.j limit.expressions z
    sendable =
        record {
          test = test_of w w.read.third (formed w ("AB", "ABYZ", "-nNctBT") refl).third;
          source = from.below;
          target = to.below;
        }

    pub sent : {told : ℕ} {σ' : State}
        → DoesFor σ told σ' (λ g ins. row g ins σ.store (nth (reading s.removes) s.i) (nth (target t.reverses t.at_end) t.j) (arg_of (table_of c) z) PRZESLIJ)
        → PerformsFor c σ told σ'
    sent h = performed w (from.is (table_of c)) (to.is (table_of c)) refl h

-- ---- PISZ

module _ {c : List ℕ} {σ : State} {x y z : Argument} (w : Carrying c σ PISZ x y z) where
  pub print-from : Named (bytes "AB") x
  print-from = first-named w ("AB", "Q", "-nNctBT") refl tt

  pub print-to : Named (bytes "Q") y
  print-to = second-named w ("AB", "Q", "-nNctBT") refl tt

  module _ {s : Source} {j : ℕ} (from : IsSource x s) (to : IsIndex y j) where
    pub printable : Movable c s.i j limit.outputs z
    printable =
        record {
          test = test_of w w.read.third (formed w ("AB", "Q", "-nNctBT") refl).third;
          source = from.below;
          target = indexed-below Q print-to to;
        }

    pub printed : {told : ℕ} {σ' : State}
        → DoesFor σ told σ' (λ g ins. row g ins σ.store (nth (reading s.removes) s.i) (nth Q j) (arg_of (table_of c) z) PISZ)
        → PerformsFor c σ told σ'
    printed h = performed w (from.is (table_of c)) (indexed-is Q print-to to (table_of c)) refl h

-- ---- ZBIJ and ROZBIJ

module _ {c : List ℕ} {σ : State} {op : Op} {x y z : Argument} (w : Carrying c σ op x y z) (q : (operation op).forms ≡ ("AB", "-nNctBT", "-") ∷ []) where
  pub pair-from : Named (bytes "AB") x
  pair-from = first-named w ("AB", "-nNctBT", "-") q tt

  module _ {s : Source} (from : IsSource x s) where
    pub joinable : WordsJoinable c s.i y
    joinable = record { test = test_of w w.read.second (formed w ("AB", "-nNctBT", "-") q).second; source = from.below }

    pub pair-done : {told : ℕ} {σ' : State}
        → DoesFor σ told σ' (λ g ins. row g ins σ.store (nth (reading s.removes) s.i) (arg_of (table_of c) y) nothing op)
        → PerformsFor c σ told σ'
    pair-done h = performed w (from.is (table_of c)) refl (third-none w "AB" "-nNctBT" q) h

-- ---- SZUKAJ

module _ {c : List ℕ} {σ : State} {x y z : Argument} (w : Carrying c σ SZUKAJ x y z) where
  pub seek-from : Named (bytes "AB") x
  seek-from = first-named w ("AB", "w", "-") refl tt

  pub seek-by : SwitchOf c y
  seek-by = switched-by-name c w.read.second (formed w ("AB", "w", "-") refl).second

  module _ {s : Source} {k : ℕ} (from : IsSource x s) (by : y ≡ Switch k) where
    pub seekable : Looks c s.i k
    seekable = record { index = from.below; switch = seek-by.good k by }

    pub sought : {told : ℕ} {σ' : State}
        → DoesIn σ told σ' (λ ins. row (program_of c) ins σ.store (nth (reading s.removes) s.i) (switch k) nothing SZUKAJ)
        → PerformsFor c σ told σ'
    sought h i j =
        performs w (nth (reading s.removes) s.i) (switch k) nothing (from.is (table_of c)) (ap (arg_of (table_of c)) by)
        (third-none w "AB" "w" refl) i j (h (inputs i j))

-- ---- inputs

-- a read place is within its input
inside : (ns : List ℕ) (ws : Inputs) → overrun ns ws ≡ 0 → (k : ℕ) → k < length ws → get_or ns k 0 ≤ length (get_or ws k [])
inside [] ws h k m = omega arith
inside (n ∷ ns) [] h k m = absurd (omega (arith, m))
inside (n ∷ ns) (w ∷ ws) h zero m = omega (arith, h)
inside (n ∷ ns) (w ∷ ws) h (suc k) m = inside ns ws (omega (arith, h)) k (omega (arith, m))

few : (f : List ℕ → Bool) (ws : Inputs) → T (all f ws) → (k : ℕ) → k < length ws → T (f (get_or ws k []))
few f [] h k m = absurd (omega (arith, m))
few f (w ∷ ws) h zero m = T-left (f w) (all f ws) h
few f (w ∷ ws) h (suc k) m = few f ws (T-right (f w) (all f ws) h) k (omega (arith, m))

short_input : (ins : Inputs) → T (good_inputs ins) → (k : ℕ) → k < length ins → length (get_or ins k []) ≤ limit.input
unfolding good_inputs
short_input ins h k m =
    let f : List ℕ → Bool = λ w. leb (length w) limit.input && all known w in
    let w : List ℕ = get_or ins k [] in
    leb→le (length w) limit.input (T-left (leb (length w) limit.input) (all known w) (few f ins (T-right (eqb (length ins) limit.inputs) (all f ins) h) k m))

module _ {c i j : List ℕ} {σ : State} {op : Op} {x y z : Argument} (w : Performing c i j σ op x y z) where
  pub unread : (k : ℕ) → k < limit.inputs → Unread σ (input_of i j k) k
  unfolding store_faults
  unread k m =
      let f = (open-store (inputs i j) σ.store (open-state (program_of c) (inputs i j) σ w.ready.good).store).sound.no_faults in
      record {
        index = m;
        short = short_input (inputs i j) w.ready.right k m;
        inside = inside σ.store.places (inputs i j) (omega (arith, f)) k m;
      }

-- ---- CZYTAJ

module _ {c i j : List ℕ} {σ : State} {x y z : Argument} (w : Performing c i j σ CZYTAJ x y z) where
  pub read_from : Named (bytes "I") x
  read_from = first-named (carrying w) ("I", "ABYZ", "-nNctBT") refl tt

  pub read-to : Named (bytes "ABYZ") y
  read-to = second-named (carrying w) ("I", "ABYZ", "-nNctBT") refl tt

  module _ {k : ℕ} {t : Target} (from : IsIndex x k) (to : IsTarget y t) where
    pub readable : InputReadable c σ i j k t.j z
    readable =
        record {
          unread = unread w k (indexed-below I read_from from);
          test = test_of (carrying w) w.read.third (formed (carrying w) ("I", "ABYZ", "-nNctBT") refl).third;
          target = to.below;
        }

    pub have-read : {told : ℕ} {σ' : State}
        → DoesReading σ told σ' (λ g reverses. row g (inputs i j) σ.store (nth I k) (nth (target reverses t.at_end) t.j) (arg_of (table_of c) z) CZYTAJ)
        → Performs c i j σ told σ'
    have-read h =
        performs (carrying w) (nth I k) (nth (target t.reverses t.at_end) t.j) (arg_of (table_of c) z) (indexed-is I read_from from (table_of c))
        (to.is (table_of c)) refl i j (h (program_of c) t.reverses)

-- ---- USUN

module _ {c i j : List ℕ} {σ : State} {x y z : Argument} (w : Performing c i j σ USUN x y z) where
  pub drop-from : Named (bytes "AI") x
  drop-from = first-named (carrying w) ("AI", "-nNctBT", "-") refl tt

  drop-test : TestReadable c y
  drop-test = test_of (carrying w) w.read.second (formed (carrying w) ("AI", "-nNctBT", "-") refl).second

  drop-none : arg_of (table_of c) z ≡ nothing
  drop-none = third-none (carrying w) "AI" "-nNctBT" refl

  pub drop-others : {v : Variable} → IsVariable x v → (v ≡ Input → ⊥) → (v ≡ Expression → ⊥) → ⊥
  drop-others which = no_others (bytes "AI") drop-from which tt tt

  -- of an input
  module _ {k : ℕ} {v : Variable} (at : IsIndex x k) (which : IsVariable x v) (q : v ≡ Input) where
    of-input : Named (bytes "I") x
    of-input = named-of (bytes "AI") drop-from which (bytes "I") Input tt q

    pub passable : InputPassable c σ i j k y
    passable = record { unread = unread w k (indexed-below I of-input at); test = drop-test }

    pub passed_by : {told : ℕ} {σ' : State}
        → DoesPassing σ told σ' (λ g. row g (inputs i j) σ.store (nth I k) (arg_of (table_of c) y) nothing USUN)
        → Performs c i j σ told σ'
    passed_by h =
        performs (carrying w) (nth I k) (arg_of (table_of c) y) nothing (indexed-is I of-input at (table_of c)) refl drop-none
        i j (h (program_of c))

  -- of an expression
  module _ {k : ℕ} {v : Variable} (at : IsIndex x k) (which : IsVariable x v) (q : v ≡ Expression) where
    of-expression : Named (bytes "A") x
    of-expression = named-of (bytes "AI") drop-from which (bytes "A") Expression tt q

    pub removable : Removable c k y
    removable = record { test = drop-test; source = indexed-below A of-expression at }

    pub removed : {told : ℕ} {σ' : State}
        → DoesFor σ told σ' (λ g ins. row g ins σ.store (nth (reading true) k) (arg_of (table_of c) y) nothing USUN)
        → Performs c i j σ told σ'
    removed h = performed (carrying w) (indexed-is A of-expression at (table_of c)) refl drop-none h i j

-- ---- the arms of the dispatcher

-- the same instruction, its operator known
pub carrying-by : {c i j : List ℕ} {σ : State} {o k : Operator} {n : ℕ} → PerformingAt c i j σ (op_by o) n → o ≡ k → CarryingAt c σ (op_by k) n
carrying-by {c} {σ = σ} {n = n} w q = subst (λ (m : Operator). CarryingAt c σ (op_by m) n) q w.carrying

-- what is promised for any inputs, of these two
pub for_inputs : (c i j : List ℕ) {σ : State} {told : ℕ} {σ' : State} → PerformsFor c σ told σ' → Performs c i j σ told σ'
for_inputs c i j h = h i j
