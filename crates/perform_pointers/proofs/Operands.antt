-- From the arguments of the instructions of pointers, exchanges and constants to what their functions ask.
use mathlib.Core.Path.{◌≡◌, refl, subst}
use mathlib.Core.List.{List, [], map}
use mathlib.Core.Logic.{◌⊎◌, inl, inr}
use Prim.Native.Nat.{ℕ, ◌<◌}
use lib.Dec.{T}
use Rattle.lists.specs.Lists.{all, among}
use Rattle.lists.specs.Quoted.{bytes}
use Rattle.characters.specs.Characters.{is_capital}
use Rattle.language.specs.Limits as limit
use Rattle.language.specs.Program.{Op}
use Rattle.language.specs.Program.Op.{ZAMIEN, UMIESC}
use Rattle.language.specs.Program.Arg.{nothing}
use Rattle.language.specs.Values.{State}
use Rattle.table.specs.Below.Table.{program_of}
use Rattle.table.specs.Below.Packed.{table_of}
use Rattle.decoding.specs.Operands.{Lettered, Named, IsVariable, Listed, Shaped}
use Rattle.decoding.specs.OperandLaws.{named, no-argument, narrowed, shapes}
use Rattle.decoding.specs.declared.Variable.{Variable}
use Rattle.decoding.specs.declared.Variable.TheVariants.{Expression, Input, Output, File}
use Rattle.table.specs.Denote.{arg_of, kind, kind_of_form}
use Rattle.table.specs.FormLaws.{kind-told}
use Rattle.table.specs.declared.Argument.{Argument}
use Rattle.table.specs.declared.Argument.TheVariants.{Nothing, Indexed, Label, Switch, Class, Text, Number}
use Rattle.table.specs.declared.TextRef.{TextRef}
use Rattle.constants.specs.Constants.{IsConstant, Placeable, TextPlaceable}
use Rattle.performing.specs.Operating.{Carrying}
use Rattle.performing.specs.CarryingLaws.{good-itself}
use Rattle.perform_pointers.specs.Texts.{IsText}

-- ---- arguments by their forms

is-constant : (c : List ℕ) (a : Argument) → Listed c (bytes "nt") a → IsConstant a
is-constant c a m = go a (kind-told (program_of c) (table_of c) a (bytes "nt") m)
  where
    go : (a : Argument) → T (among (kind a) (map kind_of_form (bytes "nt"))) → IsConstant a
    go Nothing k = k
    go (Indexed l n) k = k
    go (Label n) k = k
    go (Switch n) k = k
    go (Class n) k = k
    go (Text n) k = tt
    go (Number n) k = tt

is_text : (c : List ℕ) (a : Argument) → Listed c (bytes "t") a → IsText a
is_text c a m = go a (kind-told (program_of c) (table_of c) a (bytes "t") m)
  where
    go : (a : Argument) → T (among (kind a) (map kind_of_form (bytes "t"))) → IsText a
    go Nothing k = absurd k
    go (Indexed l n) k = absurd k
    go (Label n) k = absurd k
    go (Switch n) k = absurd k
    go (Class n) k = absurd k
    go (Text n) k = record { reference = n; is = refl }
    go (Number n) k = absurd k

text-constant : {a : Argument} → IsText a → IsConstant a
text-constant t = rw t.is tt

-- no letter is of no form
no-form : {a : Argument} → Named [] a → ⊥
no-form w = w.listed

-- ---- UMIESC

module _ {c : List ℕ} {σ : State} {op : Op} {x y z : Argument} (w : Carrying c σ op x y z) where
  pub placeable : IsConstant x → {j most : ℕ} → j < most → Placeable c x j most
  placeable k h = record { good = good-itself w.read.first; form = k; index = h }

  pub text-placeable : {v : TextRef} {j : ℕ} → x ≡ Text v → j < limit.outputs → TextPlaceable c v j
  text-placeable {v} q h = record { good = w.read.first.text v q; index = h }

-- ---- the two lists of ZAMIEN

module _ {c : List ℕ} {σ : State} {x y z : Argument} (w : Carrying c σ ZAMIEN x y z) where
  module _ (fs : List ℕ) where
    abbrev Both : Type 0
    Both = Named fs x × Named fs y × (arg_of (table_of c) z ≡ nothing)

  both : (fs : List ℕ) → T (all is_capital fs) → Shaped c fs fs (bytes "-") x y z → Both fs
  both fs h s =
      let r = w.read in
      (named c r.first fs h s.first, named c r.second fs h s.second, no-argument c z s.third)

  exchanged : Both (bytes "E") ⊎ Both (bytes "P")
  exchanged = go (shapes w.read ("E", "E", "-") ("P", "P", "-") refl)
    where
      go : Shaped c (bytes "E") (bytes "E") (bytes "-") x y z ⊎ Shaped c (bytes "P") (bytes "P") (bytes "-") x y z → Both (bytes "E") ⊎ Both (bytes "P")
      go (inl s) = inl (both (bytes "E") tt s)
      go (inr s) = inr (both (bytes "P") tt s)

  pub both-lettered : Lettered x × Lettered y
  both-lettered = go exchanged
    where
      go : Both (bytes "E") ⊎ Both (bytes "P") → Lettered x × Lettered y
      go (inl b) = (b.0.lettered, b.1.lettered)
      go (inr b) = (b.0.lettered, b.1.lettered)

  pub of-exprs : {v : Variable} → v ≡ Expression → IsVariable x v → Both (bytes "E")
  of-exprs {v} q k = go exchanged (subst (λ (u : Variable). IsVariable x u) q k)
    where
      go : Both (bytes "E") ⊎ Both (bytes "P") → IsVariable x Expression → Both (bytes "E")
      go (inl b) k = b
      go (inr b) k = absurd (no-form (narrowed (bytes "P") [] Expression tt b.0 k))

  pub of-files : {v : Variable} → v ≡ File → IsVariable x v → Both (bytes "P")
  of-files {v} q k = go exchanged (subst (λ (u : Variable). IsVariable x u) q k)
    where
      go : Both (bytes "E") ⊎ Both (bytes "P") → IsVariable x File → Both (bytes "P")
      go (inl b) k = absurd (no-form (narrowed (bytes "E") [] File tt b.0 k))
      go (inr b) k = b

  pub of-others : (v : Variable) → (v ≡ Expression → ⊥) → (v ≡ File → ⊥) → IsVariable x v → ⊥
  of-others Expression n m k = n refl
  of-others Input n m k = go exchanged
    where
      go : Both (bytes "E") ⊎ Both (bytes "P") → ⊥
      go (inl b) = no-form (narrowed (bytes "E") [] Input tt b.0 k)
      go (inr b) = no-form (narrowed (bytes "P") [] Input tt b.0 k)
  of-others Output n m k = go exchanged
    where
      go : Both (bytes "E") ⊎ Both (bytes "P") → ⊥
      go (inl b) = no-form (narrowed (bytes "E") [] Output tt b.0 k)
      go (inr b) = no-form (narrowed (bytes "P") [] Output tt b.0 k)
  of-others File n m k = m refl

-- ---- and of UMIESC

module _ {c : List ℕ} {σ : State} {x y z : Argument} (w : Carrying c σ UMIESC x y z) where
  abbrev Either : Type 0
  Either = Shaped c (bytes "nt") (bytes "ABYZCD") (bytes "-") x y z ⊎ Shaped c (bytes "t") (bytes "Q") (bytes "-") x y z

  put : Either
  put = shapes w.read ("nt", "ABYZCD", "-") ("t", "Q", "-") refl

  second : (fs : List ℕ) → T (all is_capital fs) → Listed c fs y → Named fs y
  second fs h m = named c w.read.second fs h m

  pub constant : IsConstant x
  constant = go put
    where
      go : Either → IsConstant x
      go (inl s) = is-constant c x s.first
      go (inr s) = text-constant (is_text c x s.first)

  pub none-third : arg_of (table_of c) z ≡ nothing
  none-third = go put
    where
      go : Either → arg_of (table_of c) z ≡ nothing
      go (inl s) = no-argument c z s.third
      go (inr s) = no-argument c z s.third

  pub put-lettered : Lettered y
  put-lettered = go put
    where
      go : Either → Lettered y
      go (inl s) = (second (bytes "ABYZCD") tt s.second).lettered
      go (inr s) = (second (bytes "Q") tt s.second).lettered

  -- where it names an expression or a file: gs are the letters of these among the first list
  to-named : (gs : List ℕ) (v : Variable)
      → (Named (bytes "ABYZCD") y → IsVariable y v → Named gs y) → (Named (bytes "Q") y → IsVariable y v → Named gs y) → IsVariable y v → Named gs y
  to-named gs v f g k = go put
    where
      go : Either → Named gs y
      go (inl s) = f (second (bytes "ABYZCD") tt s.second) k
      go (inr s) = g (second (bytes "Q") tt s.second) k

  pub to-expr : {v : Variable} → v ≡ Expression → IsVariable y v → Named (bytes "ABYZ") y
  to-expr {v} q k =
      to-named (bytes "ABYZ") Expression (narrowed (bytes "ABYZCD") (bytes "ABYZ") Expression tt) (narrowed (bytes "Q") (bytes "ABYZ") Expression tt)
      (subst (λ (u : Variable). IsVariable y u) q k)

  pub to-file : {v : Variable} → v ≡ File → IsVariable y v → Named (bytes "CD") y
  to-file {v} q k =
      to-named (bytes "CD") File (narrowed (bytes "ABYZCD") (bytes "CD") File tt) (narrowed (bytes "Q") (bytes "CD") File tt)
      (subst (λ (u : Variable). IsVariable y u) q k)

  pub to-output : {v : Variable} → v ≡ Output → IsVariable y v → IsText x × Named (bytes "Q") y
  to-output {v} q k = go put (subst (λ (u : Variable). IsVariable y u) q k)
    where
      go : Either → IsVariable y Output → IsText x × Named (bytes "Q") y
      go (inl s) k = absurd (no-form (narrowed (bytes "ABYZCD") [] Output tt (second (bytes "ABYZCD") tt s.second) k))
      go (inr s) k = (is_text c x s.first, second (bytes "Q") tt s.second)

  pub to-other : (v : Variable) → (v ≡ Expression → ⊥) → (v ≡ File → ⊥) → (v ≡ Output → ⊥) → IsVariable y v → ⊥
  to-other Expression n m l k = n refl
  to-other Input n m l k =
      no-form (to-named [] Input (narrowed (bytes "ABYZCD") [] Input tt) (narrowed (bytes "Q") [] Input tt) k)
  to-other Output n m l k = l refl
  to-other File n m l k = m refl
