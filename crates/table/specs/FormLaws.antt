-- From the forms that an instruction lists for a place (02) to the case of the enum that is read there.
use Rattle.std.specs.Prelude.{◌≡◌, refl, Bool, true, false, cond, ◌&&◌, ◌||◌, List, [], ◌∷◌, map, ◌⊎◌, ℕ, eqb}
use Rattle.std.proofs.Common.{sym, inl, inr, eqb→eq, eqb-true, eq-eqb}
use Rattle.std.proofs.Math.Path.{subst}
use Rattle.std.proofs.Math.Dec.{T}
use Rattle.lists.specs.BoolLaws.{T-second}
use Rattle.packed.specs.Below.Lists.{all, any, among}
use Rattle.packed.specs.Below.ListLaws.{T-left, T-right, all_among}
use Rattle.packed.specs.Below.Quoted.{bytes}
use Rattle.packed.specs.Below.Characters.{is_capital}
use Rattle.packed.specs.Below.Instructions.{Forms, operation}
use Rattle.packed.specs.Below.Letters.{letter_code}
use Rattle.packed.specs.Below.Program.{Instr, Op, Program, switch_at}
use Rattle.packed.specs.Below.WellFormed.{form, listed}
use Rattle.table.specs.Denote.{letter_of, arg_of, kind, kind_of_form}
use Rattle.table.specs.Good.{Formed}
use Rattle.table.specs.LetterLaws.{every-letter}
use Rattle.table.specs.declared.Letter.{Letter}
use Rattle.table.specs.declared.Argument.{Argument}
use Rattle.table.specs.declared.Argument.TheVariants.{Nothing, Indexed, Label, Switch, Class, Text, Number}

-- ---- the list of forms of an instruction

module _ (p : Program) (i : Instr) where
  abbrev fit : Forms → Bool
  fit f = among (form p i.first) (bytes f.0) && among (form p i.second) (bytes f.1) && among (form p i.third) (bytes f.2)

  formed : (f : Forms) → T (fit f) → Formed p i f
  formed f h =
      let x = among (form p i.first) (bytes f.0) in
      let y = among (form p i.second) (bytes f.1) in
      let z = among (form p i.third) (bytes f.2) in
      let k = T-left (x && y) z h in
      record { first = T-left x y k; second = T-right x y k; third = T-right (x && y) z h }

  fit-any : (o : Op) → i.op ≡ o → T (listed p i) → T (any fit (operation o).forms)
  unfolding listed
  fit-any o e h = subst (λ (x : Op). T (any fit (operation x).forms)) e h

  or-none : (a : Bool) → T (a || false) → T a
  or-none true h = tt
  or-none false h = h

  -- of an instruction with one list, and with two
  pub one_list : (o : Op) (f : Forms) → i.op ≡ o → (operation o).forms ≡ f ∷ [] → T (listed p i) → Formed p i f
  one_list o f e g h = formed f (or-none (fit f) (subst (λ (fs : List Forms). T (any fit fs)) g (fit-any o e h)))

  pub two-lists : (o : Op) (f g : Forms) → i.op ≡ o → (operation o).forms ≡ f ∷ g ∷ [] → T (listed p i) → Formed p i f ⊎ Formed p i g
  two-lists o f g e q h = go (fit f) refl (subst (λ (fs : List Forms). T (any fit fs)) q (fit-any o e h))
    where
      go : (b : Bool) → fit f ≡ b → T (b || (fit g || false)) → Formed p i f ⊎ Formed p i g
      go true s k = inl (formed f (subst T (sym s) tt))
      go false s k = inr (formed g (or-none (fit g) k))

-- ---- the case of an argument of a form

module _ (p : Program) (c : List ℕ) where
  letter-kind : (l : Letter) → kind_of_form (letter_code (letter_of l)) ≡ 1
  letter-kind l = eqb→eq (kind_of_form (letter_code (letter_of l))) 1 (every-letter (λ m. eqb (kind_of_form (letter_code (letter_of m))) 1) tt l)

  switch-kind : (b : Bool) → kind_of_form (cond b 119 120) ≡ 3
  switch-kind true = refl
  switch-kind false = refl

  kind_of : (r : Argument) → kind_of_form (form p (arg_of c r)) ≡ kind r
  kind_of Nothing = refl
  kind_of (Indexed l n) = letter-kind l
  kind_of (Label k) = refl
  kind_of (Switch k) = switch-kind (switch_at p k).goes_by_name
  kind_of (Class m) = refl
  kind_of (Text v) = refl
  kind_of (Number v) = refl

  among-map : (f : ℕ → ℕ) (x : ℕ) (xs : List ℕ) → T (among x xs) → T (among (f x) (map f xs))
  among-map f x [] h = h
  among-map f x (y ∷ xs) h = go (eqb x y) refl h (among-map f x xs)
    where
      go : (b : Bool) → eqb x y ≡ b → T (b || among x xs) → (T (among x xs) → T (among (f x) (map f xs))) → T (eqb (f x) (f y) || among (f x) (map f xs))
      go true e k g = let q : x ≡ y = eqb-true x y e in rw q (same (f y) (among (f y) (map f xs)))
        where
          same : (z : ℕ) (b : Bool) → T (eqb z z || b)
          same z b = rw (eq-eqb z z refl) tt
      go false e k g = T-second (eqb (f x) (f y)) (among (f x) (map f xs)) (g k)

  module _ (r : Argument) where
    -- the case is one of those of the listed forms
    pub kind-told : (fs : List ℕ) → T (among (form p (arg_of c r)) fs) → T (among (kind r) (map kind_of_form fs))
    kind-told fs h = subst (λ (k : ℕ). T (among k (map kind_of_form fs))) (kind_of r) (among-map kind_of_form (form p (arg_of c r)) fs h)

  -- a letter where only letters are listed; and nothing, a label, a NAZWA, an INDEKS where only that is
  pub letter-told : (fs : List ℕ) → T (all is_capital fs) → (r : Argument) → T (among (form p (arg_of c r)) fs) → (l : Letter) × (n : ℕ) × (r ≡ Indexed l n)
  letter-told fs h r m = go r (all_among is_capital fs h (form p (arg_of c r)) m)
    where
      none : (b : Bool) → T (is_capital (cond b 119 120)) → ⊥
      none true k = k
      none false k = k

      go : (r : Argument) → T (is_capital (form p (arg_of c r))) → (l : Letter) × (n : ℕ) × (r ≡ Indexed l n)
      go Nothing k = absurd k
      go (Indexed l n) k = (l, n, refl)
      go (Label n) k = absurd k
      go (Switch n) k = absurd (none (switch_at p n).goes_by_name k)
      go (Class n) k = absurd k
      go (Text n) k = absurd k
      go (Number n) k = absurd k

  pub nothing-told : (r : Argument) → T (among (form p (arg_of c r)) (bytes "-")) → r ≡ Nothing
  nothing-told r m = go r (kind-told r (bytes "-") m)
    where
      go : (r : Argument) → T (among (kind r) (0 ∷ [])) → r ≡ Nothing
      go Nothing k = refl
      go (Indexed l n) k = absurd k
      go (Label n) k = absurd k
      go (Switch n) k = absurd k
      go (Class n) k = absurd k
      go (Text n) k = absurd k
      go (Number n) k = absurd k

  pub label-told : (r : Argument) → T (among (form p (arg_of c r)) (bytes "l")) → (k : ℕ) × (r ≡ Label k)
  label-told r m = go r (kind-told r (bytes "l") m)
    where
      go : (r : Argument) → T (among (kind r) (2 ∷ [])) → (k : ℕ) × (r ≡ Label k)
      go Nothing k = absurd k
      go (Indexed l n) k = absurd k
      go (Label n) k = (n, refl)
      go (Switch n) k = absurd k
      go (Class n) k = absurd k
      go (Text n) k = absurd k
      go (Number n) k = absurd k

  -- a switch where only switches of type b are listed
  switch_of : (b : Bool) (r : Argument) → T (among (form p (arg_of c r)) (cond b 119 120 ∷ [])) → (k : ℕ) × (r ≡ Switch k) × ((switch_at p k).goes_by_name ≡ b)
  switch_of b r m = go r (subst (λ (n : ℕ). T (among (kind r) (n ∷ []))) (switch-kind b) (kind-told r (cond b 119 120 ∷ []) m)) m
    where
      type-is : (a b : Bool) → T (among (cond a 119 120) (cond b 119 120 ∷ [])) → a ≡ b
      type-is true true h = refl
      type-is true false h = absurd h
      type-is false true h = absurd h
      type-is false false h = refl

      go : (r : Argument) → T (among (kind r) (3 ∷ [])) → T (among (form p (arg_of c r)) (cond b 119 120 ∷ [])) → (k : ℕ) × (r ≡ Switch k) × ((switch_at p k).goes_by_name ≡ b)
      go Nothing k h = absurd k
      go (Indexed l n) k h = absurd k
      go (Label n) k h = absurd k
      go (Switch n) k h = (n, refl, type-is (switch_at p n).goes_by_name b h)
      go (Class n) k h = absurd k
      go (Text n) k h = absurd k
      go (Number n) k h = absurd k

  pub name-told : (r : Argument) → T (among (form p (arg_of c r)) (bytes "w")) → (k : ℕ) × (r ≡ Switch k) × ((switch_at p k).goes_by_name ≡ true)
  name-told r m = switch_of true r m

  pub index-told : (r : Argument) → T (among (form p (arg_of c r)) (bytes "x")) → (k : ℕ) × (r ≡ Switch k) × ((switch_at p k).goes_by_name ≡ false)
  index-told r m = switch_of false r m
