-- What RW and RZ ask where the left side offers a single component: 52, 53, or the promise of the row.
use mathlib.Core.Path.{◌≡◌, refl, sym, ap, ◌∙◌, subst}
use mathlib.Core.Bool.{Bool, true, false, cond, ◌&&◌}
use mathlib.Core.List.{List, [], ◌∷◌}
use Prim.Native.Nat.{ℕ}
use native.Mathlib.Omega.{arith}
use lib.Dec.{eqb}
use lib.ListN.{length, take}
use borrow.Author.Tests.{ne_eqb}
use Rattle.std.specs.Prelude.{Result, Ok, Err, IfOk}
use Rattle.lists.specs.Lists.{all, filled}
use Rattle.language.specs.Program.{Arg}
use Rattle.language.specs.Values.{Component, Store, State, Inputs, kind}
use Rattle.machine.specs.Arguments.{Asks, use_by, side, is_count, single, ask, ◌&◌, when}
use Rattle.machine.specs.Effects.Go.{on}
use Rattle.layout.specs.Bounds.{Encoded}
use Rattle.layout.specs.Bounds.{WholeComponents}
use Rattle.layout.proofs.ComponentLaws.{components-of, components-none}
use Rattle.layout.specs.Components.{component_in, components_in}
use Rattle.components.specs.Parts.{Leading}
use Rattle.packed.specs.Packed.{table_of}
use Rattle.state.specs.Working.{HoldsState, Stands}
use Rattle.table.specs.Denote.{arg_of}
use Rattle.table.specs.declared.Argument.{Argument}
use Rattle.components.proofs.FirstLaws.{front_is}
use Rattle.instructions.specs.Questions.{question_number, told_by}
use Rattle.instructions.specs.declared.Question.{Question}
use Rattle.instructions.proofs.Asking.{some}
use Rattle.instructions.specs.Does.{with_store, Does, Quiet, stop_of}
use Rattle.instructions.proofs.Answers.{quiet-stop, quiet-done}
use Rattle.comparands.specs.Offers.{ArgumentOffers}
use Rattle.tests.specs.Prepares.{Beside, PutBeside}
use Rattle.equality.specs.Equality.{Unlike}
use Rattle.equality.proofs.Meeting.{leads}

-- ---- questions, by the answers

abbrev pub equal_by : Bool → Bool → Bool → Bool → Bool → Bool → Asks
equal_by s c fx fy al nu = ask 52 fx & when s (ask 52 fy) & when s (ask 53 al) & when c (ask 53 nu)

abbrev pub offer_by : Bool → Bool → Bool → Bool → Asks
offer_by s c fy nu = when s (ask 52 fy) & when c (ask 53 nu)

abbrev pub unlike_by : Bool → Bool → Bool
unlike_by s al = cond s (cond al false true) false

pub quiet_by : (s c fx fy al nu : Bool) → Quiet (equal_by s c fx fy al nu)
quiet_by true true fx fy al nu = record { is_50 = refl; is_55 = refl; is_56 = refl; is_57 = refl; is_58 = refl; is_59 = refl; is_60 = refl }
quiet_by true false fx fy al nu = record { is_50 = refl; is_55 = refl; is_56 = refl; is_57 = refl; is_58 = refl; is_59 = refl; is_60 = refl }
quiet_by false true fx fy al nu = record { is_50 = refl; is_55 = refl; is_56 = refl; is_57 = refl; is_58 = refl; is_59 = refl; is_60 = refl }
quiet_by false false fx fy al nu = record { is_50 = refl; is_55 = refl; is_56 = refl; is_57 = refl; is_58 = refl; is_59 = refl; is_60 = refl }

none-by : (s c fy al nu : Bool) → 52 ≡ stop_of (equal_by s c false fy al nu)
none-by true true fy al nu = refl
none-by true false fy al nu = refl
none-by false true fy al nu = refl
none-by false false fy al nu = refl

pub some-by : (s c fy al nu : Bool) → stop_of (equal_by s c true fy al nu) ≡ cond (eqb (stop_of (offer_by s c fy nu)) 0) (cond (unlike_by s al) 53 0) (stop_of (offer_by s c fy nu))
some-by false false fy al nu = refl
some-by false true fy al true = refl
some-by false true fy al false = refl
some-by true c false al nu = two c
  where
    two : (b : Bool) → stop_of (equal_by true b true false al nu) ≡ cond (eqb (stop_of (offer_by true b false nu)) 0) (cond (unlike_by true al) 53 0) (stop_of (offer_by true b false nu))
    two true = refl
    two false = refl
some-by true false true true nu = refl
some-by true false true false nu = refl
some-by true true true true true = refl
some-by true true true true false = refl
some-by true true true false true = refl
some-by true true true false false = refl

-- a single component is there where nothing is refused
offered : (c fy nu : Bool) → stop_of (offer_by true c fy nu) ≡ 0 → fy ≡ true
offered c true nu z = refl
offered true false nu z = absurd (omega (arith, z))
offered false false nu z = absurd (omega (arith, z))

abbrev pub kinds_alike : List Component → List Component → Bool
kinds_alike xs ys = all (λ x. all (λ y. eqb (kind x) (kind y)) (take 1 ys)) (take 1 xs)

abbrev pub numeric : List Component → Bool
numeric ys = all (λ x. eqb (kind x) 1) (take 1 ys)

-- ---- the argument a offers what stands in front of g, the left side the first of the components in x

-- what is beside where no question is answered no
pub beside : {q : Asks} {xs : List Component} {g : List ℕ} {r : Result ℕ Question} {n : ℕ} → PutBeside q xs g r → r ≡ Ok n → Beside xs g n
beside {xs = xs} {g = g} w e = subst (λ (v : Result ℕ Question). IfOk v (λ n. Beside xs g n)) e w.is

-- a single component is there where nothing is refused
module _ (c : List ℕ) (s : Store) (a : Argument) {g : List ℕ} {r : Result ℕ Question} (o : ArgumentOffers c s a g r) {n : ℕ} (y : r ≡ Ok n) where
  abbrev other : Arg
  other = arg_of (table_of c) a

  pub single-there : (ins : Inputs) → single other ≡ true → filled (side ins s other) ≡ true
  single-there ins m =
      offered (is_count (use_by other).reading) (filled (side ins s other)) (numeric (side ins s other))
      (ap (λ (v : Bool). stop_of (offer_by v (is_count (use_by other).reading) (filled (side ins s other)) (numeric (side ins s other)))) (sym m) ∙ sym (o ins).told ∙ ap told_by y)

  -- in front of the bytes beside
  pub leading-other : (ins : Inputs) → single other ≡ true → Leading (take n g)
  leading-other ins m = (leads (beside (o ins) y).encoded (single-there ins m)).0

module _ {σ : State} (h : Stands σ) (c : List ℕ) (a : Argument) {g : List ℕ} {r : Result ℕ Question}
    (o : ArgumentOffers c σ.store a g r) {x : List ℕ} (whole : WholeComponents x) {xs : List Component} (front : xs ≡ take 1 (components_in x)) where
  abbrev s : Store
  s = σ.store

  abbrev b : Arg
  b = arg_of (table_of c) a

  abbrev q : Inputs → Bool → Asks
  q ins fx = equal_by (single b) (is_count (use_by b).reading) fx (filled (side ins s b)) (kinds_alike xs (side ins s b)) (numeric (side ins s b))

  quiet : (ins : Inputs) (fx : Bool) → Quiet (q ins fx)
  quiet ins fx = quiet_by (single b) (is_count (use_by b).reading) fx (filled (side ins s b)) (kinds_alike xs (side ins s b)) (numeric (side ins s b))

  module _ (ins : Inputs) (t : Store) where
    stopped : {k : ℕ} → k ≡ stop_of (q ins (filled xs)) → (k ≡ 0 → ⊥) → Does σ k σ (q ins (filled xs), t, on)
    stopped w z = quiet-stop h (q ins (filled xs)) t (quiet ins (filled xs)) w z

    pub related-none : length x ≡ 0 → Does σ 52 σ (q ins (filled xs), t, on)
    related-none z =
        let w : filled xs ≡ false = rw (front, components-none x z) refl in
        stopped
        (none-by (single b) (is_count (use_by b).reading) (filled (side ins s b)) (kinds_alike xs (side ins s b)) (numeric (side ins s b)) ∙ ap (λ (v : Bool). stop_of (q ins v)) (sym w))
        (λ y. omega (arith, y))

    module _ (z : length x ≡ 0 → ⊥) where
      one-is : xs ≡ component_in x ∷ []
      one-is = front ∙ ap (take 1) (front_is whole z)

      stop_is : {k : ℕ} → told_by r ≡ k → stop_of (q ins (filled xs)) ≡ cond (eqb k 0) (cond (unlike_by (single b) (kinds_alike xs (side ins s b))) 53 0) k
      stop_is e =
          ap (λ (v : Bool). stop_of (q ins v)) (ap filled one-is)
          ∙ some-by (single b) (is_count (use_by b).reading) (filled (side ins s b)) (kinds_alike xs (side ins s b)) (numeric (side ins s b))
          ∙ ap (λ (k : ℕ). cond (eqb k 0) (cond (unlike_by (single b) (kinds_alike xs (side ins s b))) 53 0) k) (sym (o ins).told ∙ e)

      pub related-stop : {k : Question} → r ≡ Err k → Does σ (question_number k) σ (q ins (filled xs), t, on)
      related-stop {k} y = stopped (sym (stop_is (ap told_by y) ∙ rw (ne_eqb (question_number k) 0 (some k)) refl)) (some k)

      module _ {n : ℕ} (y : r ≡ Ok n) where
        stop-then : stop_of (q ins (filled xs)) ≡ cond (unlike_by (single b) (kinds_alike xs (side ins s b))) 53 0
        stop-then = stop_is (ap told_by y)

        encoded : Encoded (take n g) (side ins s b)
        encoded = (beside (o ins) y).encoded

        alike_is : single b ≡ true → kinds_alike xs (side ins s b) ≡ eqb (kind (component_in x)) (kind (component_in (take n g)))
        alike_is m =
            let k = (leads encoded (single-there c s a o y ins m)).1 in
            rw (one-is, ← components-of encoded, k) (last-true (eqb (kind (component_in x)) (kind (component_in (take n g)))))
          where
            last-true : (v : Bool) → ((v && true) && true) ≡ v
            last-true true = refl
            last-true false = refl

        unlike-is : {u : Bool} → u ≡ cond (single b) (cond (eqb (kind (component_in x)) (kind (component_in (take n g)))) false true) false
            → u ≡ unlike_by (single b) (kinds_alike xs (side ins s b))
        unlike-is w = w ∙ go (single b) refl
          where
            go : (v : Bool) → single b ≡ v
                → cond (single b) (cond (eqb (kind (component_in x)) (kind (component_in (take n g)))) false true) false ≡ unlike_by (single b) (kinds_alike xs (side ins s b))
            go true m = ap (λ (v : Bool). cond (single b) (cond v false true) false) (sym (alike_is m))
            go false m = rw m refl

        pub related-unlike : {u : Bool} → Unlike x (take n g) a u → u ≡ true → Does σ 53 σ (q ins (filled xs), t, on)
        related-unlike w v =
            stopped (sym (stop-then ∙ ap (λ (k : Bool). cond k 53 0) (sym (unlike-is (w (table_of c))) ∙ v))) (λ k. omega (arith, k))

        pub related-done : {u : Bool} → Unlike x (take n g) a u → u ≡ false → {σ' : State} → HoldsState σ' (with_store t σ)
            → Does σ 0 σ' (q ins (filled xs), t, on)
        related-done w v d =
            quiet-done h (q ins (filled xs)) t (quiet ins (filled xs)) (stop-then ∙ ap (λ (j : Bool). cond j 53 0) (sym (unlike-is (w (table_of c))) ∙ v)) d
