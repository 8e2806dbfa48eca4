-- The next character of an input, and the characters that an argument means.
use mathlib.Core.Path.{◌≡◌, refl, sym, ap, ◌∙◌, fun_ext}
use mathlib.Core.Bool.{Bool, ◌||◌, or-false}
use mathlib.Core.List.{List, [], ◌∷◌, map}
use Prim.Native.Nat.{ℕ, min}
use native.Mathlib.Omega.{arith}
use lib.ListN.{length, take, drop}
use Rattle.lists.specs.Lists.{any, among}
use Rattle.language.specs.Values.{Component, Store, State, Inputs}
use Rattle.machine.specs.Arguments.{char, side, matches, cut, taken}
use Rattle.machine.specs.Changes.{minus_unless}
use Rattle.layout.specs.Components.{components_in}
use Rattle.matching.specs.Tests.{in_class, first_chars, TookChars}
use Rattle.matching.specs.declared.CharsTaken.{CharsTaken}
use Rattle.matching.proofs.OnChars.{first_met, class-met}
use Rattle.state.specs.Working.{HoldsState, on_store}
use Rattle.table.specs.Denote.{arg_of, text_of}
use Rattle.table.specs.declared.Argument.{Argument}
use Rattle.table.specs.declared.Argument.TheVariants as argument
use Rattle.equality.specs.Equality.{firsts_by}
use Rattle.readings.specs.Readings.{read_place, Left}
use Rattle.input_equality.specs.InputEquality.{compared}

any-map : (p : Component → Bool) (f : ℕ → Component) (ys : List ℕ) → any (λ y. p (f y)) ys ≡ any p (map f ys)
any-map p f [] = refl
any-map p f (y ∷ ys) = ap (λ (t : Bool). p (f y) || t) (any-map p f ys)

-- whether one of the characters ys is met
module _ (c : List ℕ) (ins : Inputs) (s : Store) (g ys : List ℕ) where
  met_by : (a : Argument) (p : ℕ → Bool) → ((b : ℕ) → p b ≡ matches cut ins s (arg_of c a) (char b)) → any p ys ≡ any (matches cut ins s (arg_of c a)) (map char ys)
  met_by a p h = ap (λ (q : ℕ → Bool). any q ys) (fun_ext h) ∙ any-map (matches cut ins s (arg_of c a)) char ys

  pub met-chars : (a : Argument) → components_in g ≡ side ins s (arg_of c a)
      → (taken (firsts_by a g) ys).1 ≡ any (matches cut ins s (arg_of c a)) (map char ys)
  met-chars argument.Nothing e = met_by argument.Nothing (λ b. among b (first_chars (components_in g))) (λ b. rw e refl)
  met-chars (argument.Indexed l n) e =
      met_by (argument.Indexed l n) (λ b. among b (first_chars (components_in g))) (λ b. rw e (sym (first_met b (side ins s (arg_of c (argument.Indexed l n))))))
  met-chars (argument.Label k) e = met_by (argument.Label k) (λ b. among b (first_chars (components_in g))) (λ b. rw e refl)
  met-chars (argument.Switch k) e = met_by (argument.Switch k) (λ b. among b (first_chars (components_in g))) (λ b. rw e refl)
  met-chars (argument.Class m) e = met_by (argument.Class m) (in_class m) (λ b. sym (class-met m b))
  met-chars (argument.Text v) e =
      met_by (argument.Text v) (λ b. among b (first_chars (components_in g)))
      (λ b. rw e (sym (first_met b (Component.word (text_of c v) ∷ [])) ∙ or-false (matches cut ins s (arg_of c (argument.Text v)) (char b))))
  met-chars (argument.Number v) e = met_by (argument.Number v) (λ b. among b (first_chars (components_in g))) (λ b. rw e refl)

-- ---- the next character

next_one : (w : List ℕ) → take (min (length w) 1) w ≡ take 1 w
next_one [] = refl
next_one (x ∷ w) =
    let e : min (length (x ∷ w)) 1 ≡ 1 = omega arith in
    ap (λ (m : ℕ). take m (x ∷ w)) e

module _ {σ : State} {input : List ℕ} {i : ℕ} {rest : List ℕ} (l : Left σ input i rest) {k : ℕ} (q : k ≡ min (length rest) 1) where
  pub compared-done : (b : Argument) (g : List ℕ) {t : CharsTaken} → TookChars (firsts_by b g) (take k rest) t → {σ' : State}
      → HoldsState σ' (on_store (minus_unless t.reached) σ) → HoldsState σ' (on_store (compared b g input i) σ)
  unfolding on_store compared
  compared-done b g {t} w d =
      let l : take k rest ≡ take 1 (drop (read_place σ.store i) input) = ap (λ (m : ℕ). take m rest) q ∙ next_one rest ∙ ap (take 1) l.is in
      let r : (taken (firsts_by b g) (take 1 (drop (read_place σ.store i) input))).1 ≡ t.reached =
      ap (λ (ys : List ℕ). (taken (firsts_by b g) ys).1) (sym l)
      ∙ ap (λ (x : ℕ × Bool). x.1) w.is in
      rw r d
