-- One value comes to a table, unless it is there or the table is full: a text, or a number by its code.
use mathlib.Core.Path.{◌≡◌, refl, sym, ap, ◌∙◌, subst}
use mathlib.Core.Bool.{Bool, true, false, not, ◌&&◌, true≢false}
use mathlib.Core.List.{List, [], ◌∷◌, ◌++◌}
use Prim.Native.Nat.{ℕ, ◌≤◌, ◌<◌}
use native.Mathlib.Omega.{arith}
use lib.Dec.{ltb}
use lib.ListN.{length, take, drop, length-take}
use borrow.Author.Tests.{lt-ltb, le-ltb, le-leb, lt-leb}
use Rattle.arguments.specs.Valued.{is_text, text_from, text_to, NamesText, Spells, ItemValued, is_number}
use Rattle.language.specs.Limits as limit
use Rattle.language.specs.Program.{Program}
use Rattle.lists.specs.Lists.{any, bytes_equal}
use Rattle.writing.specs.Writing.{HoldsProgram, no_program, IsNumber}
use Rattle.cells.proofs.Laws.{pasted-front}
use Rattle.spelling.specs.Spelling.{Put, text_in, FitsText}
use Rattle.syntax.specs.Items.{Item, is}
use Rattle.syntax.specs.Items.Sort.{text}
use Rattle.arguments.specs.declared.Quoted.{Quoted}
use Rattle.arguments.specs.declared.ReadArgument.{ReadArgument}
use Rattle.arguments.specs.declared.ReadArgument.TheVariants.{Text, Nothing, Indexed, Label, Switch, Class, Number}
use Rattle.entering.specs.Entering.{Adds, Addable, EntersOne, EnterableText, EnterableValue, set_texts, set_numbers, long_text, AddsCode, large_number}
use Rattle.entering.proofs.Rows.{TableOf}
use Rattle.std.specs.Prelude.{Option, position, is_some}
use Rattle.finding.proofs.Found.{some_any}
use types.Run.{OneOf, miss}
use lib.IntN.{ℤ, nat_abs}
use Rattle.finding.proofs.References.{near, small-code, large-code}
use Rattle.table.specs.Denote.{is_small}
use Rattle.language.specs.Values.{same_number}
use Rattle.layout.specs.Cells.{code}
use Rattle.syntax.specs.Tables.{number_in}

-- the tables of texts and of numbers
pub texts-laws : TableOf (λ p. p.texts) set_texts
unfolding set_texts
texts-laws = record { get = λ t p. refl; twice = λ t u p. refl; same = λ p. refl; most = λ c p h. h.tabular.texts_most }

pub numbers-laws : TableOf (λ p. p.numbers) set_numbers
unfolding set_numbers
numbers-laws = record { get = λ t p. refl; twice = λ t u p. refl; same = λ p. refl; most = λ c p h. h.tabular.numbers_most }

module _ {X : Type 0} (equal : X → X → Bool) (table_of : Program → List X) (set-table : List X → Program → Program) (laws : TableOf table_of set-table) (x : X)
    {c : List ℕ} {found : Option ℕ} (f : (p : Program) → HoldsProgram c p → found ≡ position (equal x) (table_of p)) where
  -- it is there
  module _ (b : is_some found ≡ true) where
    there : (p : Program) → HoldsProgram c p → any (equal x) (table_of p) ≡ true
    there p h = some_any (equal x) (table_of p) (f p h) ∙ b

    pub adds-known : Adds equal table_of set-table x c true c
    adds-known =
        record {
          told = λ p h. rw (there p h) refl;
          holds = λ q p h. rw (there p h, laws.same p) h;
          same = λ q. absurd (true≢false q);
          beyond_same = refl;
        }

  -- it is new
  module _ (b : is_some found ≡ false) {n : ℕ} (m : (p : Program) → HoldsProgram c p → n ≡ length (table_of p)) where
    missing : (p : Program) → HoldsProgram c p → any (equal x) (table_of p) ≡ false
    missing p h = some_any (equal x) (table_of p) (f p h) ∙ b

    pub adds_none : n ≡ 128 → Adds equal table_of set-table x c false c
    adds_none e =
        record {
          told = λ p h. rw (missing p h, le-leb 128 (length (table_of p)) (omega (arith, e, m p h))) refl;
          holds = λ q. absurd (let y : ◌≡◌ {A = ℕ} 0 1 = cc in omega arith);
          same = λ q. refl;
          beyond_same = refl;
        }

    pub adds-new : (n ≡ 128 → ⊥) → {d : List ℕ} → ((p : Program) → HoldsProgram c p → HoldsProgram d (set-table (table_of p ++ (x ∷ [])) p)) → drop limit.table d ≡ drop limit.table c
        → Adds equal table_of set-table x c true d
    adds-new e g w =
        record {
          told = λ p h. rw (missing p h, lt-leb 128 (length (table_of p)) (omega (arith, e, m p h, laws.most c p h))) refl;
          holds = λ q p h. rw (missing p h) (g p h);
          same = λ q. absurd (true≢false q);
          beyond_same = w;
        }

-- one item
module _ {X : Type 0} (equal : X → X → Bool) (value_of_lem : Item → X) (passes : Item → Bool) (table_of : Program → List X) (set-table : List X → Program → Program)
    (laws : TableOf table_of set-table) (i : Item) {c : List ℕ} where
  pub enters-past : passes i ≡ false → EntersOne equal value_of_lem passes table_of set-table i c true c
  enters-past e =
      record {
        told = λ p h. rw e refl;
        holds = λ q p h. rw (e, laws.same p) h;
        same = λ q. absurd (true≢false q);
        beyond_same = refl;
      }

  pub enters-value : passes i ≡ true → {r : Bool} {d : List ℕ} (x : X) → x ≡ value_of_lem i → Adds equal table_of set-table x c r d
      → EntersOne equal value_of_lem passes table_of set-table i c r d
  enters-value e {r} {d} x q h =
      let k = subst (λ (y : X). Adds equal table_of set-table y c r d) q h in
      record { told = λ p g. rw e (k.told p g); holds = λ z p g. rw e (k.holds z p g); same = k.same; beyond_same = k.beyond_same }

-- characters in front of a buffer
module _ {d o w : List ℕ} {n : ℕ} (h : Put d 0 w n o) where
  pub put_front : take n o ≡ w
  put_front = rw h.is (pasted-front d w n (omega (arith, h.next)))

  pub put-long : n ≤ length o
  put-long = omega (arith, ap length put_front, length-take n o, h.next)

-- a text
abbrev OneText : Item → List ℕ → Bool → List ℕ → Type 0
OneText i c r d = EntersOne bytes_equal (λ j. j.chars) long_text (λ p. p.texts) set_texts i c r d

module _ {s : List ℕ} (i : Item) (t : is text i ≡ true) {q : Quoted} (h : NamesText s q i.chars) where
  long_is : long_text i ≡ ltb 1 (length (text_in s (text_from q) (text_to q)))
  long_is = ap (λ (b : Bool). b && ltb 1 (length i.chars)) t ∙ ap (λ (w : List ℕ). ltb 1 (length w)) (sym h.is)

  module _ {n : ℕ} {d o : List ℕ} (k : Put d 0 (text_in s (text_from q) (text_to q)) n o) where
    pub text_small : n < 2 → (c : List ℕ) → OneText i c true c
    text_small l c = enters-past bytes_equal (λ j. j.chars) long_text (λ p. p.texts) set_texts texts-laws i
        (long_is ∙ le-ltb 1 (length (text_in s (text_from q) (text_to q))) (omega (arith, k.next, l)))

    pub text-entered : 2 ≤ n → {c : List ℕ} {a : Bool} {d' : List ℕ} → Adds bytes_equal (λ p. p.texts) set_texts (take n o) c a d' → OneText i c a d'
    text-entered l y =
        enters-value bytes_equal (λ j. j.chars) long_text (λ p. p.texts) set_texts texts-laws i
        (long_is ∙ lt-ltb 1 (length (text_in s (text_from q) (text_to q))) (omega (arith, k.next, l))) (take n o) (put_front k ∙ h.is) y

-- its characters in front of a buffer
module _ {s : List ℕ} {q : Quoted} {c : List ℕ} (u : EnterableText s q c) where
  pub text-fits : {d : List ℕ} → length d ≡ 60 → FitsText s (text_from q) (text_to q) d
  text-fits l = record { between = u.names.between; room = omega (arith, ap length u.names.is, u.short, l) }

  pub text-addable : {d o : List ℕ} {n k : ℕ} → Put d 0 (text_in s (text_from q) (text_to q)) n o → k ≡ length (take n o) → Addable c k
  text-addable {d} {o} {n} h y = record { held = u.held; short = omega (arith, y, ap length (put_front h), ap length u.names.is, u.short) }

-- the text that a value names
pub value-past : {s : List ℕ} {i : Item} {x : ReadArgument} → ItemValued s i x → is_text x ≡ false → {c : List ℕ}
    → EntersOne bytes_equal (λ j. j.chars) long_text (λ p. p.texts) set_texts i c true c
value-past {i = i} h e = enters-past bytes_equal (λ j. j.chars) long_text (λ p. p.texts) set_texts texts-laws i (ap (λ (b : Bool). b && ltb 1 (length i.chars)) (h.text_is ∙ e))

module _ {s : List ℕ} {i : Item} {x : ReadArgument} (h : ItemValued s i x) {q : Quoted} (e : x ≡ Text q) where
  pub value-is_text : is text i ≡ true
  value-is_text = h.text_is ∙ ap is_text e

  pub value-names : NamesText s q i.chars
  value-names = subst (Spells s i.chars) e h.spelt

pub value-text : {s : List ℕ} {x : ReadArgument} {c : List ℕ} → EnterableValue s x c → {q : Quoted} → x ≡ Text q → EnterableText s q c
value-text u e = record { item = u.item; text_is = value-is_text u.valued e; names = value-names u.valued e; short = u.short; held = u.held }

-- ---- a number, by its code
large_is : (z : ℤ) → nat_abs z ≤ limit.size → ltb limit.small (nat_abs z) ≡ not (is_small (code z))
large_is z h = go (is_small (code z)) refl
  where
    go : (b : Bool) → is_small (code z) ≡ b → ltb limit.small (nat_abs z) ≡ not b
    go true e = le-ltb limit.small (nat_abs z) (near z h (small-code (code z) e).0 (small-code (code z) e).1)
    go false e = lt-ltb limit.small (nat_abs z) (large-code z h e)

-- the number of a value
module _ {s : List ℕ} {i : Item} {x : ReadArgument} (h : ItemValued s i x) where
  abbrev OneNumber : List ℕ → Bool → List ℕ → Type 0
  OneNumber c r d = EntersOne same_number number_in large_number (λ p. p.numbers) set_numbers i c r d

  past : large_number i ≡ false → {c : List ℕ} → OneNumber c true c
  past e = enters-past same_number number_in large_number (λ p. p.numbers) set_numbers numbers-laws i e

  pub number-none : is_number x ≡ false → {c : List ℕ} → OneNumber c true c
  number-none e = past (ap (λ (b : Bool). b && ltb limit.small (nat_abs (number_in i))) (h.number_is ∙ e))

  module _ {v : ℕ} (e : x ≡ Number v) where
    coded : IsNumber v (number_in i) no_program
    coded = subst (Spells s i.chars) e h.spelt

    module _ {r : Bool} (g : r ≡ is_small v) where
      is-large : large_number i ≡ not r
      is-large =
          ap (λ (b : Bool). b && ltb limit.small (nat_abs (number_in i))) (h.number_is ∙ ap is_number e)
          ∙ large_is (number_in i) coded.small
          ∙ ap (λ (n : ℕ). not (is_small n)) (sym coded.is) ∙ sym (ap not g)

      pub number_small : r ≡ true → {c : List ℕ} → OneNumber c true c
      number_small q = past (is-large ∙ ap not q)

      pub number-entered : r ≡ false → {c : List ℕ} {a : Bool} {d : List ℕ} → AddsCode v c a d → OneNumber c a d
      number-entered q k =
          enters-value same_number number_in large_number (λ p. p.numbers) set_numbers numbers-laws i (is-large ∙ ap not q) (number_in i) refl (k (number_in i) coded)

abbrev tag : ReadArgument → ℕ
tag x = denote.Enum.Declared.tag_of Rattle.arguments.specs.contracts.ReadArgument.the_type x

pub no_number : (x : ReadArgument) → OneOf (0 ∷ 1 ∷ 2 ∷ 3 ∷ 4 ∷ 5 ∷ []) (tag x) → is_number x ≡ false
no_number Nothing k = refl
no_number (Indexed l n) k = refl
no_number (Label n) k = refl
no_number (Switch n) k = refl
no_number (Class m) k = refl
no_number (Text m) k = refl
no_number (Number v) k = absurd (miss (0 ∷ 1 ∷ 2 ∷ 3 ∷ 4 ∷ 5 ∷ []) 6 tt k)

pub no_text : (x : ReadArgument) → OneOf (0 ∷ 1 ∷ 2 ∷ 3 ∷ 4 ∷ 6 ∷ []) (tag x) → is_text x ≡ false
no_text Nothing k = refl
no_text (Indexed l n) k = refl
no_text (Label n) k = refl
no_text (Switch n) k = refl
no_text (Class m) k = refl
no_text (Text m) k = absurd (miss (0 ∷ 1 ∷ 2 ∷ 3 ∷ 4 ∷ 6 ∷ []) 5 tt k)
no_text (Number v) k = refl
