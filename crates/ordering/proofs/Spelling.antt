-- Words read from components and arguments.
use mathlib.Core.Path.{◌≡◌, refl, ap}
use mathlib.Core.List.{List}
use Prim.Native.Nat.{ℕ, ◌-◌, ◌≤◌, ◌<◌}
use native.Mathlib.Omega.{arith}
use lib.ListN.{length, take}
use Rattle.std.specs.Prelude.{Option, Some, None, IfSome, Result}
use Rattle.std.proofs.lemmas.Result.{IfOk-weaker}
use Rattle.language.specs.Instructions.{two_words}
use Rattle.language.specs.Limits as limit
use Rattle.language.specs.Letters.Letter.{E}
use Rattle.language.specs.Values.{Component, State, kind}
use Rattle.machine.specs.Arguments.{expr}
use Rattle.layout.specs.Components.{component_in}
use Rattle.cells.specs.Cells.{pasted}
use Rattle.cells.proofs.Laws.{pasted-front, length-pasted}
use Rattle.components.specs.Parts.{kind_number, LentChars}
use Rattle.components.specs.declared.Kind.{Kind}
use Rattle.state.specs.Working.{nth}
use Rattle.state.specs.Blocks.{ExprLent}
use Rattle.table.specs.declared.Letter.{Letter}
use Rattle.table.specs.declared.Argument.{Argument}
use Rattle.table.specs.declared.Argument.TheVariants as argument
use Rattle.instructions.specs.declared.Question.{Question}
use Rattle.operands.specs.Operands.{NumbersOf, AsksKinds}
use Rattle.operands.specs.declared.Offered.{Offered}
use Rattle.operands.specs.declared.Pair.{Pair}
use Rattle.state.proofs.Fronts.{none-there, one-there}
use Rattle.operands.proofs.Reading.{kinds-told}
use Rattle.ordering.specs.Ordering.{OtherReadable, Spelled, ReadsWord, BothSpelled, ReadsTwo}

-- ---- the first component of an expression

module _ {σ : State} {i : ℕ} {x : List ℕ} (l : ExprLent σ i x) (g : List ℕ) where
  abbrev es : List Component
  es = expr σ.store (nth E i)

  pub none_told : length x ≡ 0 → ReadsWord (take 1 es) g None
  none_told z = record { kind_is = rw (none-there l z) refl; is = tt }

  pub word-told : (length x ≡ 0 → ⊥) → {k : Kind} → kind_number k ≡ kind (component_in x) → {w : List ℕ} → LentChars (component_in x) w → {g' : List ℕ} → g' ≡ pasted g 0 w
      → 32768 ≤ length g → ReadsWord (take 1 es) g' (Some (record { kind = k; number = length w }))
  word-told z k {w} v q r =
      record {
        kind_is = rw (one-there l z) (ap (λ (n : ℕ). Some n) k);
        is = record {
          is = rw (q, one-there l z, ← v.is) (pasted-front g w (length w) refl);
          inside = rw (q, length-pasted g 0 w (omega (arith, v.most, r))) (omega (arith, v.most, r));
        };
      }

-- ---- arguments

pub other-named : {c : List ℕ} {a : Argument} {l : Letter} {k : ℕ} → OtherReadable c a → a ≡ argument.Indexed l k → k - 1 < limit.expressions
other-named {l = l} {k = k} h q = omega (arith, (h.good.index l k q).from, (h.good.index l k q).most)

-- ---- both

pair-of : (xs ys : List Component) {g h : List ℕ} (x y : Option Offered) → length g ≤ 32768 → length h ≤ 32768 → IfSome x (λ z. Spelled xs g z) → IfSome y (λ z. Spelled ys h z)
    → (p : Pair) → NumbersOf x y p → BothSpelled xs ys g h p
pair-of xs ys None y a b v w p n = absurd n
pair-of xs ys (Some x) None a b v w p n = absurd n
pair-of xs ys (Some x) (Some y) a b v w p n =
    rw n record { left_is = v.is; right_is = w.is; left_most = omega (arith, v.inside, a); right_most = omega (arith, w.inside, b) }

pub both-told : (xs ys : List Component) {g h : List ℕ} {x y : Option Offered} {r : Result Pair Question} → ReadsWord xs g x → ReadsWord ys h y → length g ≤ 32768
    → length h ≤ 32768 → AsksKinds two_words x y r → ReadsTwo xs ys g h r
both-told xs ys {g} {h} {x} {y} {r} v w a b e =
    record {
      told = kinds-told two_words xs ys v.kind_is w.kind_is e.told;
      is = IfOk-weaker r (λ p. NumbersOf x y p) (λ p. BothSpelled xs ys g h p) (pair-of xs ys x y a b v.is w.is) e.is;
    }
