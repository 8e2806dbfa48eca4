-- Operands read from components and arguments, and the questions on their kinds.
use mathlib.Core.Path.{◌≡◌, refl, sym, ap, ◌∙◌, subst}
use mathlib.Core.Bool.{Bool, true, false, not, ◌&&◌, ◌||◌}
use mathlib.Core.List.{List, [], ◌∷◌}
use mathlib.Core.Logic.{◌⊎◌, inl, inr}
use Prim.Native.Nat.{ℕ, ◌-◌, ◌≤◌, ◌<◌}
use native.Mathlib.Omega.{arith}
use lib.Dec.{T, eqb}
use lib.ListN.{length, take}
use lib.IntN.{ℤ, pos, negsuc}
use borrow.Author.Tests.{eqb-true, eqb-false}
use denote.Enum.Bare.{sameb}
use Rattle.lists.specs.Lists.{all}
use Rattle.lists.specs.ListLaws.{T-left, T-right}
use Rattle.language.specs.Letters.Letter.{E}
use Rattle.language.specs.Program.Arg.{letter}
use Rattle.language.specs.Values.{Component, Store, State, Inputs, value, kind}
use Rattle.language.specs.Values.Component.{word, address}
use Rattle.machine.specs.Arguments.{expr, first, side, listed_pair, of_kinds}
use Rattle.layout.specs.Bounds as bounds
use Rattle.layout.specs.Cells.{code, uncode}
use Rattle.layout.proofs.ComponentLaws.{next-component}
use Rattle.layout.specs.Components.{component_in}
use Rattle.cells.specs.Cells as cells
use Rattle.state.specs.Working.{nth, reading}
use Rattle.state.specs.Blocks.{ExprLent}
use Rattle.table.specs.Denote.{letter_of}
use Rattle.table.specs.declared.Letter.{Letter}
use Rattle.table.specs.declared.Letter.TheVariants.{B}
use Rattle.table.specs.declared.Argument.{Argument}
use Rattle.table.specs.declared.TextRef.{TextRef}
use Rattle.table.specs.declared.Argument.TheVariants as argument
use Rattle.instructions.specs.Does.{stop_of}
use Rattle.instructions.proofs.Answers.{unstopped}
use Rattle.components.proofs.FirstLaws.{high, front-value}
use Rattle.state.proofs.Fronts.{none-there, one-there}
use Rattle.table.specs.GoodLaws.{index_back}
use Rattle.language.specs.Limits as limit
use Rattle.std.specs.Prelude.{Option, Some, None, IfSome, Result}
use Rattle.std.proofs.lemmas.Result.{IfOk-weaker}
use Rattle.components.specs.Parts.{kind_number}
use Rattle.components.specs.contracts.Kind.{the_type}
use Rattle.components.specs.declared.Kind.{Kind}
use Rattle.components.proofs.KindLaws.{kinds_same}
use Rattle.components.specs.declared.Kind.TheVariants.{Word, Number}
use Rattle.instructions.specs.Fronts.{FrontLent}
use Rattle.instructions.proofs.Fronts as front
use Rattle.instructions.specs.declared.Question.{Question}
use Rattle.operands.specs.Operands.{kind_offered, kinds_stop, OneNumber, OperandReadable, Offers, ReadsOffered, ReadsOperand, ReadsOperands, NumbersOf, AsksKinds, Both}
use Rattle.operands.specs.declared.Pair.{Pair}
use Rattle.operands.specs.declared.Offered.{Offered}

abbrev offers : Kind → ℕ → Offered
offers k n = record { kind = k; number = n }

-- the code of 0
zero_is : uncode 8388607 ≡ pos 0
zero_is = high 8388607 (omega arith)

-- ---- the first component of an expression

no_value : (x : Component) → (kind x ≡ 1 → ⊥) → pos 0 ≡ value x
no_value (word w) k = refl
no_value (Component.number z) k = absurd (k refl)
no_value (address n) k = refl

code_most : (x : Component) → bounds.Ok x → kind x ≡ 1 → code (value x) ≤ 16777214
unfolding code
code_most (word w) h k = absurd (omega (arith, k))
code_most (Component.number (pos n)) h k = omega (arith, h)
code_most (Component.number (negsuc n)) h k = omega (arith, h)
code_most (address n) h k = absurd (omega (arith, k))

module _ (k : Kind) {t : Bool} (e : t ≡ sameb the_type k Number) where
  pub number-kind : t ≡ true → kind_number k ≡ 1
  number-kind f = eqb-true (kind_number k) 1 (sym (kinds_same k Number) ∙ sym e ∙ f)

  pub other-kind : t ≡ false → kind_number k ≡ 1 → ⊥
  other-kind f = eqb-false (kind_number k) 1 (sym (kinds_same k Number) ∙ sym e ∙ f)

module _ {σ : State} {i : ℕ} {x : List ℕ} (l : ExprLent σ i x) where
  abbrev es : List Component
  es = expr σ.store (nth E i)

  pub none_told : length x ≡ 0 → ReadsOffered (take 1 es) None
  none_told z = record { kind_is = rw (none-there l z) refl; is = tt }

  module _ (z : length x ≡ 0 → ⊥) {k : Kind} (q : kind_number k ≡ kind (component_in x)) where
    pub kind-told : (kind_number k ≡ 1 → ⊥) → ReadsOffered (take 1 es) (Some (offers k 8388607))
    kind-told d =
        record {
          kind_is = rw (one-there l z) (ap (λ (n : ℕ). Some n) q);
          is = record { value_is = rw (one-there l z) (zero_is ∙ no_value (component_in x) (λ y. d (q ∙ y))); most = omega arith };
        }

    pub value-told : {m : ℕ} → kind_number k ≡ 1 → cells.Number (code (value (component_in x))) 16777216 m → ReadsOffered (take 1 es) (Some (offers k m))
    value-told {m} d h =
        let y : kind (component_in x) ≡ 1 = sym q ∙ d in
        record {
          kind_is = rw (one-there l z) (ap (λ (n : ℕ). Some n) q);
          is = record {
            value_is = rw (one-there l z) (front-value l.whole z y h);
            most = omega (arith, h.is, code_most (component_in x) (next-component l.whole (omega (arith, z))).first_ok y);
          };
        }

-- the number in front
pub front-number : {σ : State} {i : ℕ} {x : List ℕ} → FrontLent σ i 1 x → {m : ℕ} → cells.Number (code (value (component_in x))) 16777216 m
    → OneNumber (take 1 (expr σ.store (nth E i))) m
front-number {σ} {i} {x} f {m} h =
    let l = f.lent in
    let z = front.there f in
    record {
      is = rw (one-there l z) (ap (λ (y : Component). y ∷ []) (a-number (component_in x) f.kind_is) ∙ ap (λ (v : ℤ). Component.number v ∷ []) (sym (front-value l.whole z f.kind_is h)));
      most = omega (arith, h.is, code_most (component_in x) (next-component l.whole (omega (arith, z))).first_ok f.kind_is);
    }
  where
    a-number : (y : Component) → kind y ≡ 1 → y ≡ Component.number (value y)
    a-number (word w) e = absurd (omega (arith, e))
    a-number (Component.number v) e = refl
    a-number (address n) e = absurd (omega (arith, e))

-- ---- arguments

pub operand-named : {a : Argument} {l : Letter} {k : ℕ} → OperandReadable a → a ≡ argument.Indexed l k → k - 1 < limit.expressions
operand-named {l = l} {k = k} h e = omega (arith, (h.index l k e).from, (h.index l k e).most)

module _ (s : Store) where
  pub as_read : {r : Option Offered} {a b : Argument} → a ≡ b → ReadsOperand s b r → ReadsOperand s a r
  as_read {r} e w = subst (λ (x : Argument). ReadsOperand s x r) (sym e) w

  pub number-told : (v : ℕ) → v ≤ 16777214 → ReadsOperand s (argument.Number v) (Some (offers Number v))
  number-told v m c ins = record { kind_is = refl; is = record { value_is = refl; most = m } }

  pub text-told : (v : TextRef) → ReadsOperand s (argument.Text v) (Some (offers Word 8388607))
  text-told v c ins = record { kind_is = refl; is = record { value_is = zero_is; most = omega arith } }

  -- the others offer none
  pub class-told : (v : ℕ) → ReadsOperand s (argument.Class v) None
  class-told v c ins = record { kind_is = refl; is = tt }

  pub nothing-told : ReadsOperand s argument.Nothing None
  nothing-told c ins = record { kind_is = refl; is = tt }

  pub label-told : (v : ℕ) → ReadsOperand s (argument.Label v) None
  label-told v c ins = record { kind_is = refl; is = tt }

  pub switch-told : (v : ℕ) → ReadsOperand s (argument.Switch v) None
  switch-told v c ins = record { kind_is = refl; is = tt }

pub letter-told : (σ : State) {a : Argument} {l : Letter} {k : ℕ} {r : Option Offered} → OperandReadable a → a ≡ argument.Indexed l k
    → ReadsOffered (take 1 (expr σ.store (nth E (k - 1)))) r → ReadsOperand σ.store a r
letter-told σ {a} {l} {k} {r} h q w =
    as_read σ.store q (subst (λ (m : Letter). ReadsOperand σ.store (argument.Indexed m k) r) (sym (h.form l k q))
    (λ c ins. subst (λ (j : ℕ). ReadsOffered (side ins σ.store (letter (letter_of B) j)) r) (index_back (h.index l k q)) w))

-- ---- none of the others offers one
pub none-offered : (s : Store) {a : Argument}
    → ((m : ℕ) × (a ≡ argument.Class m)) ⊎ ((a ≡ argument.Nothing) ⊎ (((k : ℕ) × (a ≡ argument.Label k)) ⊎ ((k : ℕ) × (a ≡ argument.Switch k))))
    → ReadsOperand s a None
none-offered s (inl (m, e)) = as_read s e (class-told s m)
none-offered s (inr (inl e)) = as_read s e (nothing-told s)
none-offered s (inr (inr (inl (k, e)))) = as_read s e (label-told s k)
none-offered s (inr (inr (inr (k, e)))) = as_read s e (switch-told s k)

-- ---- two of them

stop-kinds : (ks : List (ℕ × ℕ)) (xs ys : List Component) → kinds_stop ks (kind_offered xs) (kind_offered ys) ≡ stop_of (of_kinds ks xs ys)
stop-kinds ks [] ys = refl
stop-kinds ks (x ∷ xs) [] = refl
stop-kinds ks (x ∷ xs) (y ∷ ys) = refl

-- what is told of the kinds is told of what offers them
pub kinds-told : (ks : List (ℕ × ℕ)) (xs ys : List Component) {j k : Option ℕ} {m : ℕ} → j ≡ kind_offered xs → k ≡ kind_offered ys → m ≡ kinds_stop ks j k
    → m ≡ stop_of (of_kinds ks xs ys)
kinds-told ks xs ys h i e = e ∙ rw (h, i) (stop-kinds ks xs ys)

pair-of : (xs ys : List Component) (x y : Option Offered) → IfSome x (λ z. Offers xs z) → IfSome y (λ z. Offers ys z) → (p : Pair) → NumbersOf x y p → Both xs ys p
pair-of xs ys None y h j p n = absurd n
pair-of xs ys (Some a) None h j p n = absurd n
pair-of xs ys (Some a) (Some b) h j p n =
    rw n record { left_is = h.value_is; right_is = j.value_is; left_most = h.most; right_most = j.most }

pub pair-told : (ks : List (ℕ × ℕ)) (xs ys : List Component) {x y : Option Offered} {r : Result Pair Question} → ReadsOffered xs x → ReadsOffered ys y
    → AsksKinds ks x y r → ReadsOperands ks xs ys r
pair-told ks xs ys {x} {y} {r} h j a =
    record {
      told = kinds-told ks xs ys h.kind_is j.kind_is a.told;
      is = IfOk-weaker r (λ p. NumbersOf x y p) (λ p. Both xs ys p) (pair-of xs ys x y h.is j.is) a.is;
    }

-- where no word is listed as the first, the first is none
abbrev pub wordless : List (ℕ × ℕ) → Bool
wordless ks = all (λ q. not (eqb q.0 0)) ks

listed-left : (ks : List (ℕ × ℕ)) (j k : ℕ) → T (wordless ks) → listed_pair ks j k ≡ true → j ≡ 0 → ⊥
listed-left [] j k h e z = subst T (sym e) tt
listed-left (q ∷ ks) j k h e z = go (eqb j q.0) refl e (λ g. listed-left ks j k (T-right (not (eqb q.0 0)) (wordless ks) h) g z)
  where
    go : (b : Bool) → eqb j q.0 ≡ b → ((b && eqb k q.1) || listed_pair ks j k) ≡ true → (listed_pair ks j k ≡ true → ⊥) → ⊥
    go true f g rest = subst (λ (n : ℕ). T (not (eqb n 0))) (sym (eqb-true j q.0 f) ∙ z) (T-left (not (eqb q.0 0)) (wordless ks) h)
    go false f g rest = rest g

pub left-kind : (ks : List (ℕ × ℕ)) (xs ys : List Component) → T (wordless ks) → stop_of (of_kinds ks xs ys) ≡ 0 → kind (first xs) ≡ 0 → ⊥
left-kind ks xs ys h z = listed-left ks (kind (first xs)) (kind (first ys)) h (unstopped (of_kinds ks xs ys) z).1

-- A and B offer the first component
pub first-side : (s : Store) (i : ℕ) {r : Option Offered} → ReadsOffered (take 1 (expr s (nth E i))) r → (b : Bool) (ins : Inputs) → ReadsOffered (side ins s (nth (reading b) i)) r
first-side s i h true ins = h
first-side s i h false ins = h
