-- From an instruction of a well-formed table to what the decoders of its arguments ask, and from what they tell to the instruction's meaning.
use Rattle.std.specs.Prelude.{◌≡◌, refl, Bool, true, false, not, ◌||◌, List, [], ◌∷◌, ◌⊎◌, ℕ, suc, ◌+◌, ◌*◌, ◌%◌, ◌≤◌, ◌<◌, T, eqb, length, get_or}
use Rattle.std.proofs.Common.{sym, ap, ◌∙◌, subst, inl, inr, arith, eqb→eq}
use Rattle.lists.specs.Lists.{all, ahead, among}
use Rattle.lists.specs.ListLaws.{all_among}
use Rattle.lists.specs.Quoted.{bytes}
use Rattle.characters.specs.Characters.{is_capital}
use Rattle.language.specs.Limits as limit
use Rattle.language.specs.Instructions.{Forms, operation, operator_of, is_end}
use Rattle.language.specs.Letters as letters
use Rattle.language.specs.Letters.{indices, letter_code, use_of}
use Rattle.language.specs.Program.{Arg, Instr, Op, Program, instr_at}
use Rattle.language.specs.Program.Arg.{nothing}
use Rattle.language.specs.Values.{State, Inputs}
use Rattle.machine.proofs.ControlLaws.{gone-in}
use Rattle.machine.specs.Effects.{row}
use Rattle.machine.specs.Effects.Go.{on}
use Rattle.machine.specs.Facts.{ProgramFacts}
use Rattle.machine.specs.Steps.{meaning}
use Rattle.machine.specs.WellFormed.{form}
use Rattle.table.proofs.Below.LayoutArgumentLaws.{letter-back}
use Rattle.table.specs.Below.LayoutCells.{cell}
use Rattle.table.proofs.Below.LayoutProgramLaws.{program-ok}
use Rattle.table.specs.Below.Table.{program_of, good_table}
use Rattle.table.proofs.Below.TableLaws.{table-facts}
use Rattle.table.specs.Below.LayoutPlaces as layout
use Rattle.table.specs.Below.Packed.{table_of}
use Rattle.instructions.specs.Below.Working.{nth}
use Rattle.table.specs.Denote.{letter_of, arg_of}
use Rattle.table.specs.FormLaws.{one_list, two-lists, letter-told, nothing-told, label-told, name-told, index-told}
use Rattle.table.specs.LetterLaws.{every-letter}
use Rattle.table.specs.Good.{GoodIndex, GoodArgument, Formed}
use Rattle.table.specs.GoodLaws.{good-instruction, first_good, second-good, third-good}
use Rattle.table.specs.Reads.{IsArgument}
use Rattle.table.specs.declared.Letter.{Letter}
use Rattle.table.specs.declared.Letter.TheVariants.{A}
use Rattle.table.specs.declared.Argument.{Argument}
use Rattle.table.specs.declared.Argument.TheVariants.{Nothing, Indexed, Label, Switch, Class, Text, Number}
use Rattle.decoding.specs.Operands.{var_of, letters_of, Lettered, Named, IsIndex, IsVariable, Listed, Read, Shaped, LabelOf, SwitchOf}
use Rattle.decoding.specs.declared.Variable.{Variable}

-- ---- indexed letters

abbrev letter_in : Argument → Letter
letter_in Nothing = A
letter_in (Indexed l n) = l
letter_in (Label k) = A
letter_in (Switch k) = A
letter_in (Class m) = A
letter_in (Text v) = A
letter_in (Number v) = A

abbrev index_in : Argument → ℕ
index_in Nothing = 0
index_in (Indexed l n) = n
index_in (Label k) = 0
index_in (Switch k) = 0
index_in (Class m) = 0
index_in (Text v) = 0
index_in (Number v) = 0

module _ {a : Argument} {l m : Letter} {n k : ℕ} (e : a ≡ Indexed l n) (f : a ≡ Indexed m k) where
  same-letter : l ≡ m
  same-letter = ap letter_in (sym e ∙ f)

  same_index : n ≡ k
  same_index = ap index_in (sym e ∙ f)

pub good_of : {a : Argument} (l : Letter) (n : ℕ) → Lettered a → a ≡ Indexed l n → GoodIndex l n
good_of l n w q = rw (same-letter q w.is, same_index q w.is) w.good

pub listed_of : {fs : List ℕ} {a : Argument} (l : Letter) (n : ℕ) → Named fs a → a ≡ Indexed l n → T (among (letter_code (letter_of l)) fs)
listed_of l n w q = rw (same-letter q w.lettered.is) w.listed

-- a letter by its byte
abbrev back : ℕ → letters.Letter
back n = get_or letters.letters (ahead (λ l. eqb n (letter_code l)) letters.letters) letters.Letter.A

or-none : (b : Bool) → T (b || false) → T b
or-none true h = tt
or-none false h = h

-- where one letter is listed
module _ (l : letters.Letter) {a : Argument} {r : ℕ} (w : Named (letter_code l ∷ []) a) (q : IsIndex a r) where
  only : letter_of q.letter ≡ l
  only =
      let x = letter_code (letter_of q.letter) in
      let e : x ≡ letter_code l = eqb→eq x (letter_code l) (or-none (eqb x (letter_code l)) (listed_of q.letter (suc r) w q.is)) in
      sym (letter-back (letter_of q.letter)) ∙ ap back e ∙ letter-back l

  pub indexed-is : (t : List ℕ) → arg_of t a ≡ nth l r
  indexed-is t = ap (arg_of t) q.is ∙ ap (λ (m : letters.Letter). nth m r) only

  pub indexed-below : r < indices (use_of l).var
  indexed-below = let h = subst (λ (m : letters.Letter). suc r ≤ indices (use_of m).var) only q.good.to in omega (arith, h)

-- the letters of one variable among those listed
var-listed : (l : Letter) → T (among (letter_code (letter_of l)) (letters_of (use_of (letter_of l)).var))
var-listed l = every-letter (λ m. among (letter_code (letter_of m)) (letters_of (use_of (letter_of m)).var)) tt l

pub narrowed : {a : Argument} (fs gs : List ℕ) (v : Variable) → T (all (λ n. not (among n (letters_of (var_of v))) || among n gs) fs) → Named fs a → IsVariable a v
    → Named gs a
narrowed {a} fs gs v h w q =
    let l = w.lettered.letter in
    let x = letter_code (letter_of l) in
    let e : l ≡ q.letter = same-letter w.lettered.is q.is in
    let m : T (among x (letters_of (var_of v))) = subst (λ (y : letters.Var). T (among x (letters_of y))) (ap (λ (y : Letter). (use_of (letter_of y)).var) e ∙ q.variable) (var-listed l) in
    record { lettered = w.lettered; listed = go (among x gs) (among x (letters_of (var_of v))) m (all_among (λ n. not (among n (letters_of (var_of v))) || among n gs) fs h x w.listed) }
  where
    go : (c b : Bool) → T b → T (not b || c) → T c
    go c true m k = k
    go c false m k = absurd m

-- ---- an argument by the forms listed for it

module _ (c : List ℕ) {x : Arg} {a : Argument} (g : GoodArgument c x a) where
  -- letters
  pub named : (fs : List ℕ) → T (all is_capital fs) → Listed c fs a → Named fs a
  named fs h m =
      let r = letter-told (program_of c) (table_of c) fs h a m in
      record {
        lettered = record { letter = r.0; index = r.1; is = r.2; good = g.index r.0 r.1 r.2 };
        listed = subst (λ (y : Argument). T (among (form (program_of c) (arg_of (table_of c) y)) fs)) r.2 m;
      }

  -- a label, a NAZWA, an INDEKS
  pub labelled : Listed c (bytes "l") a → LabelOf c a
  labelled m = let r = label-told (program_of c) (table_of c) a m in record { labelled = record { place = r.0; is = r.1 }; good = g.label }

  pub switched-by-name : Listed c (bytes "w") a → SwitchOf c a
  switched-by-name m = let r = name-told (program_of c) (table_of c) a m in record { switched = record { place = r.0; is = r.1 }; good = g.switch }

  pub switched-by-index : Listed c (bytes "x") a → SwitchOf c a
  switched-by-index m = let r = index-told (program_of c) (table_of c) a m in record { switched = record { place = r.0; is = r.1 }; good = g.switch }

-- nothing
pub no-argument : (c : List ℕ) (a : Argument) → Listed c (bytes "-") a → arg_of (table_of c) a ≡ nothing
no-argument c a m = ap (arg_of (table_of c)) (nothing-told (program_of c) (table_of c) a m)

-- a letter among the forms listed
pub form-letter : {F : Letter → Type 0} (c fs : List ℕ) → ((l : Letter) → T (among (letter_code (letter_of l)) fs) → F l) → {a : Argument} → Listed c fs a
    → (l : Letter) (k : ℕ) → a ≡ Indexed l k → F l
form-letter c fs h m l k e = h l (subst (λ (y : Argument). T (among (form (program_of c) (arg_of (table_of c) y)) fs)) e m)

-- ---- an instruction

-- what is read of a well-formed table
module _ (c : List ℕ) (good : T (good_table c)) (i : ℕ) (h : i < length (program_of c).code) where
  pub read_all : {n : ℕ} {a₁ a₂ a₃ : Argument} → n ≡ cell (table_of c) (layout.first_instruction + 4 * i) % 64 → IsArgument (table_of c) (1 + (layout.first_instruction + 4 * i)) a₁
      → IsArgument (table_of c) (2 + (layout.first_instruction + 4 * i)) a₂ → IsArgument (table_of c) (3 + (layout.first_instruction + 4 * i)) a₃ → Read c i n a₁ a₂ a₃
  read_all {n} {a₁} {a₂} {a₃} q f s t =
      record {
        instruction = good-instruction c good i h n q;
        first = first_good c good i h a₁ f;
        second = second-good c good i h a₂ s;
        third = third-good c good i h a₃ t;
      }

  -- an instruction that does not end has another after it
  pub has-following : {n : ℕ} {a₁ a₂ a₃ : Argument} → Read c i n a₁ a₂ a₃ → T (not (is_end (operation (operator_of n)).flow)) → suc i < limit.instructions
  has-following {n} w m =
      let p : Program = program_of c in
      let f : ProgramFacts p = (program-ok p (table-facts c good).good).facts in
      let k : suc i < length p.code = gone-in p f i [] h tt on (subst (λ (o : Op). T (not (is_end (operation o).flow))) w.instruction.operator m) tt in
      omega (arith, f.code_short)

module _ {c : List ℕ} {i n : ℕ} {a₁ a₂ a₃ : Argument} (w : Read c i n a₁ a₂ a₃) where
  abbrev x : Instr
  x = instr_at (program_of c) i

  shaped : (f : Forms) → Formed (program_of c) x f → Shaped c (bytes f.0) (bytes f.1) (bytes f.2) a₁ a₂ a₃
  shaped f h =
      record {
        first = rw w.first.is h.first;
        second = rw w.second.is h.second;
        third = rw w.third.is h.third;
      }

  -- of an operator with one list of forms, and with two
  pub shape : (f : Forms) → (operation (operator_of n)).forms ≡ f ∷ [] → Shaped c (bytes f.0) (bytes f.1) (bytes f.2) a₁ a₂ a₃
  shape f q = shaped f (one_list (program_of c) x (operator_of n) f (sym w.instruction.operator) q w.instruction.facts.forms)

  pub shapes : (f g : Forms) → (operation (operator_of n)).forms ≡ f ∷ g ∷ []
      → Shaped c (bytes f.0) (bytes f.1) (bytes f.2) a₁ a₂ a₃ ⊎ Shaped c (bytes g.0) (bytes g.1) (bytes g.2) a₁ a₂ a₃
  shapes f g q = go (two-lists (program_of c) x (operator_of n) f g (sym w.instruction.operator) q w.instruction.facts.forms)
    where
      go : Formed (program_of c) x f ⊎ Formed (program_of c) x g
          → Shaped c (bytes f.0) (bytes f.1) (bytes f.2) a₁ a₂ a₃ ⊎ Shaped c (bytes g.0) (bytes g.1) (bytes g.2) a₁ a₂ a₃
      go (inl h) = inl (shaped f h)
      go (inr h) = inr (shaped g h)

-- its meaning, by its operands
pub meaning-is : (c : List ℕ) (ins : Inputs) (s : State) {n : ℕ} {a₁ a₂ a₃ : Argument} (y₁ y₂ y₃ : Arg) → Read c s.next n a₁ a₂ a₃
    → arg_of (table_of c) a₁ ≡ y₁ → arg_of (table_of c) a₂ ≡ y₂ → arg_of (table_of c) a₃ ≡ y₃
    → meaning (program_of c) ins s ≡ row (program_of c) ins s.store y₁ y₂ y₃ (operator_of n)
unfolding meaning
meaning-is c ins s y₁ y₂ y₃ w q₁ q₂ q₃ =
    rw (sym q₁, sym q₂, sym q₃, w.first.is, w.second.is, w.third.is, w.instruction.operator) refl
