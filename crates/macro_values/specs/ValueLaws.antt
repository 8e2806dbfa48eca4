-- What a name or an argument stands for, from the innermost call outwards.
use Rattle.std.specs.Bool.{passes, then_some}
use Rattle.std.specs.Prelude.{◌≡◌, refl, Bool, true, false, cond, eqb, ltb}
use Rattle.std.proofs.Common.{sym, ◌∙◌, arith, ltb-true, ltb-false, ne_eqb, eqb→eq}
use Rattle.std.proofs.Math.Path.{ap}
use Rattle.std.proofs.lemmas.Bool.{false≢true}
use Rattle.std.proofs.lemmas.Option.{none-some, same_Some}
use Rattle.std.specs.Prelude.{Option, Some, None}
use mathlib.Core.List.{List, [], ◌++◌, map, append-nil, append_assoc}
use Prim.Native.Nat.{ℕ, zero, suc, ◌-◌, ◌<◌, ◌≤◌}
use Rattle.std.proofs.Math.ListN.{length, get_or, length-map, get_or-map, get_or-eq_default}
use Rattle.layout.specs.Cells.{tab}
use Rattle.layout.proofs.CellLaws.{length-tab, get_d-tab}
use Rattle.macros.specs.Expansion.{filled_in}
use Rattle.macros.specs.Pieces as piece
use Rattle.macros.specs.Pieces.Given.{typed, parameter, joined}
use Rattle.macro_code.specs.Bounds.{far}
use Rattle.macro_code.specs.Code.{bytes_at, given_in, call_in, arguments_in, argument_count, argument_cell}
use Rattle.macro_code.specs.Kinds.{GivenAt, parameter_of}
use Rattle.macro_code.specs.Places as place
use Rattle.macro_code.specs.declared.Given.{Given}
use Rattle.macro_code.specs.declared.Given.TheVariants.{Typed, Parameter, Joined}
use Rattle.macro_values.specs.Values.{kind_of, number_in, own, goes_up, next_cell, has_argument, ArgumentOf, Above}

-- what the parameter stands for
abbrev pub up : List (List ℕ) → List ℕ → ℕ → List ℕ
up env c g = cond (eqb (kind_of c g) place.typed_kind) [] (get_or env (number_in c g) [])

pub given-parts : (s c : List ℕ) (env : List (List ℕ)) (g : ℕ) → filled_in env (given_in s c g) ≡ own s c g ++ up env c g
unfolding given_in own filled_in
given-parts s c env g = go (eqb (kind_of c g) 0) (eqb (kind_of c g) 1) refl refl
  where
    go : (a b : Bool) → eqb (kind_of c g) 0 ≡ a → eqb (kind_of c g) 1 ≡ b
        → filled_in env (cond a (typed (bytes_at s c g)) (cond b (parameter (number_in c g)) (joined (bytes_at s c g) (number_in c g))))
        ≡ cond b [] (bytes_at s c g) ++ cond a [] (get_or env (number_in c g) [])
    go true true e f =
        let x = eqb→eq (kind_of c g) 0 (passes _ e) in
        let y = eqb→eq (kind_of c g) 1 (passes _ f) in
        absurd (omega arith)
    go true false e f = sym (append-nil (bytes_at s c g))
    go false true e f = refl
    go false false e f = refl

-- an argument of a call
module _ (s c calls : List ℕ) (d k : ℕ) where
  pub argument-here : k < argument_count c (get_or calls d 0)
      → get_or (arguments_in s c calls (suc d)) k [] ≡ filled_in (arguments_in s c calls d) (given_in s c (argument_cell (get_or calls d 0) k))
  unfolding arguments_in call_in filled_in
  argument-here l =
      let i = get_or calls d 0 in
      let n = argument_count c i in
      let f : ℕ → piece.Given = λ j. given_in s c (argument_cell i j) in
      get_or-map (filled_in (arguments_in s c calls d)) (tab n f) k (typed [])
      ∙ ap (filled_in (arguments_in s c calls d)) (get_d-tab n f k (typed []) l)

  pub argument-none : argument_count c (get_or calls d 0) ≤ k → get_or (arguments_in s c calls (suc d)) k [] ≡ []
  unfolding arguments_in call_in
  argument-none l =
      let i = get_or calls d 0 in
      let n = argument_count c i in
      let f : ℕ → piece.Given = λ j. given_in s c (argument_cell i j) in
      let e : length (map (filled_in (arguments_in s c calls d)) (tab n f)) ≡ n = length-map (tab n f) (filled_in (arguments_in s c calls d)) ∙ length-tab n f in
      get_or-eq_default (map (filled_in (arguments_in s c calls d)) (tab n f)) [] {n = k} (omega (arith, e))

-- one call further up, and the end
pub up_next : (s c calls : List ℕ) (d g : ℕ) → goes_up c calls (suc d) g ≡ true
    → up (arguments_in s c calls (suc d)) c g ≡ filled_in (arguments_in s c calls d) (given_in s c (next_cell c calls d g))
unfolding goes_up
up_next s c calls d g h = go (eqb (kind_of c g) 0) h
  where
    go : (b : Bool) → cond b false (ltb (number_in c g) (argument_count c (get_or calls d 0))) ≡ true
        → cond b [] (get_or (arguments_in s c calls (suc d)) (number_in c g) []) ≡ filled_in (arguments_in s c calls d) (given_in s c (next_cell c calls d g))
    go true e = absurd (false≢true e)
    go false e = argument-here s c calls d (number_in c g) (ltb-true _ _ e)

pub up-end : (s c calls : List ℕ) (d g : ℕ) → goes_up c calls d g ≡ false → up (arguments_in s c calls d) c g ≡ []
unfolding goes_up arguments_in
up-end s c calls zero g h = none (eqb (kind_of c g) 0)
  where
    none : (b : Bool) → ◌≡◌ {A = List ℕ} (cond b [] []) []
    none true = refl
    none false = refl
up-end s c calls (suc d) g h = go (eqb (kind_of c g) 0) h
  where
    go : (b : Bool) → cond b false (ltb (number_in c g) (argument_count c (get_or calls d 0))) ≡ false
        → cond b [] (get_or (arguments_in s c calls (suc d)) (number_in c g) []) ≡ []
    go true e = refl
    go false e = argument-none s c calls d (number_in c g) (ltb-false _ _ e)

-- a turn outwards, behind the bytes a
pub climbs : (s c calls : List ℕ) (d g : ℕ) → goes_up c calls d g ≡ true → 1 ≤ d
unfolding goes_up
climbs s c calls zero g h = absurd (false≢true h)
climbs s c calls (suc d) g h = omega arith

pub climb : (s c calls x a : List ℕ) (d g : ℕ) → goes_up c calls d g ≡ true → x ≡ a ++ up (arguments_in s c calls d) c g
    → x ≡ (a ++ own s c (next_cell c calls (d - 1) g)) ++ up (arguments_in s c calls (d - 1)) c (next_cell c calls (d - 1) g)
climb s c calls x a zero g h e = absurd (let z = climbs s c calls zero g h in omega arith)
climb s c calls x a (suc d) g h e =
    let f : suc d - 1 ≡ d = omega arith in
    let i = next_cell c calls d g in
    rw f
    (e
    ∙ ap (λ l. a ++ l) (up_next s c calls d g h ∙ given-parts s c (arguments_in s c calls d) i)
    ∙ sym (append_assoc a (own s c i) (up (arguments_in s c calls d) c i)))

pub climbed : (s c calls a : List ℕ) (depth g₀ d g : ℕ) → goes_up c calls d g ≡ false → up (arguments_in s c calls depth) c g₀ ≡ a ++ up (arguments_in s c calls d) c g
    → own s c g₀ ++ a ≡ filled_in (arguments_in s c calls depth) (given_in s c g₀)
climbed s c calls a depth g₀ d g h e =
    sym (given-parts s c (arguments_in s c calls depth) g₀
    ∙ ap (λ l. own s c g₀ ++ l) (e ∙ ap (λ l. a ++ l) (up-end s c calls d g h) ∙ append-nil a))

-- what the code asks
pub typed-end : (c calls : List ℕ) (d g : ℕ) → kind_of c g ≡ place.typed_kind → false ≡ goes_up c calls d g
unfolding goes_up
typed-end c calls zero g h = refl
typed-end c calls (suc d) g h = rw h

pub up_is : (c calls : List ℕ) (d g : ℕ) → (kind_of c g ≡ place.typed_kind → ⊥) → (d ≡ 0 → ⊥)
    → ltb (number_in c g) (argument_count c (get_or calls (d - 1) 0)) ≡ goes_up c calls d g
unfolding goes_up
up_is c calls zero g h k = absurd (k refl)
up_is c calls (suc d) g h k = let e : suc d - 1 ≡ d = omega arith in rw (e, ne_eqb (kind_of c g) place.typed_kind h)

-- what the code reads
pub without-parameter : (c : List ℕ) (g : ℕ) (r : Given) → GivenAt c g r → parameter_of r ≡ None → kind_of c g ≡ place.typed_kind
without-parameter c g Typed h e = h
without-parameter c g (Parameter k) h e = absurd (none-some k (sym e))
without-parameter c g (Joined k) h e = absurd (none-some k (sym e))

pub with-parameter : (c : List ℕ) (g k : ℕ) (r : Given) → GivenAt c g r → parameter_of r ≡ Some k → (kind_of c g ≡ place.typed_kind → ⊥) × (k ≡ number_in c g) × (k < place.half)
with-parameter c g k Typed h e = absurd (none-some k e)
with-parameter c g k (Parameter j) h e = let z : k ≡ j = same_Some k j (sym e) in ((λ y. omega (arith, y, h.0)), z ∙ h.1.0, omega (arith, z, h.1.1))
with-parameter c g k (Joined j) h e = let z : k ≡ j = same_Some k j (sym e) in (h.0, z ∙ h.2.0, omega (arith, z, h.2.1))

pub climb-told : (s c calls x a b : List ℕ) (d g i : ℕ) → goes_up c calls d g ≡ true → i ≡ next_cell c calls (d - 1) g → b ≡ own s c i
    → x ≡ a ++ up (arguments_in s c calls d) c g → x ≡ (a ++ b) ++ up (arguments_in s c calls (d - 1)) c i
climb-told s c calls x a b d g i h f k e = rw (k, f) (climb s c calls x a d g h e)

-- a parameter's value: the call around it, and none
pub value-bare : (s c calls : List ℕ) (d k : ℕ) → d ≡ 0 → [] ≡ get_or (arguments_in s c calls d) k []
unfolding arguments_in
value-bare s c calls d k e = rw e

pub value_none : (s c calls : List ℕ) (d k i : ℕ) → (d ≡ 0 → ⊥) → i ≡ get_or calls (d - 1) 0 → argument_count c i ≤ k → [] ≡ get_or (arguments_in s c calls d) k []
value_none s c calls zero k i h f l = absurd (h refl)
value_none s c calls (suc d) k i h f l =
    let e : suc d - 1 ≡ d = omega arith in
    let g : i ≡ get_or calls d 0 = rw e at f in
    sym (argument-none s c calls d k (rw g at l))

pub value-here : (s c calls : List ℕ) (d k i : ℕ) → (d ≡ 0 → ⊥) → i ≡ get_or calls (d - 1) 0 → k < argument_count c i
    → filled_in (arguments_in s c calls (d - 1)) (given_in s c (argument_cell i k)) ≡ get_or (arguments_in s c calls d) k []
value-here s c calls zero k i h f l = absurd (h refl)
value-here s c calls (suc d) k i h f l =
    let e : suc d - 1 ≡ d = omega arith in
    let g : i ≡ get_or calls d 0 = rw e at f in
    rw (e, g) (sym (argument-here s c calls d k (rw g at l)))

-- the argument of a number, and none
pub goes-argument : (c calls : List ℕ) (d g k : ℕ) → (kind_of c g ≡ place.typed_kind → ⊥) → k ≡ number_in c g → goes_up c calls d g ≡ has_argument c calls d k
unfolding goes_up has_argument
goes-argument c calls zero g k h e = refl
goes-argument c calls (suc d) g k h e = rw (ne_eqb (kind_of c g) place.typed_kind h, e) refl

pub above-told : (c calls : List ℕ) (d g k : ℕ) (r : Option ℕ) → (kind_of c g ≡ place.typed_kind → ⊥) → k ≡ number_in c g → ArgumentOf c calls d k r → Above c calls d g r
above-told c calls d g k None h e a = goes-argument c calls d g k h e ∙ a
above-told c calls d g k (Some i) h e a = (goes-argument c calls d g k h e ∙ a.0, a.1, a.2 ∙ ap (argument_cell (get_or calls (d - 1) 0)) e, a.3)

pub argument-told : (c calls : List ℕ) (d k i n : ℕ) → 1 ≤ d → i ≡ get_or calls (d - 1) 0 → n ≡ argument_count c i → has_argument c calls d k ≡ ltb k n
unfolding has_argument
argument-told c calls zero k i n h e f = absurd (omega arith)
argument-told c calls (suc d) k i n h e f = let z : suc d - 1 ≡ d = omega arith in rw (f, e, z) refl

-- as the code asks
pub argument-if : (c calls : List ℕ) (d k : ℕ) (b : Bool) → has_argument c calls d k ≡ b → 1 ≤ d → {i : ℕ} → i ≡ argument_cell (get_or calls (d - 1) 0) k → i < far
    → ArgumentOf c calls d k (then_some b i)
argument-if c calls d k true h p e l = (h, p, e, l)
argument-if c calls d k false h p e l = h

pub no-argument : (s c calls : List ℕ) (d k : ℕ) → has_argument c calls d k ≡ false → [] ≡ get_or (arguments_in s c calls d) k []
unfolding has_argument
no-argument s c calls zero k h = value-bare s c calls zero k refl
no-argument s c calls (suc d) k h = sym (argument-none s c calls d k (ltb-false _ _ h))

pub the-argument : (s c calls : List ℕ) (d k i : ℕ) → has_argument c calls d k ≡ true → i ≡ argument_cell (get_or calls (d - 1) 0) k
    → filled_in (arguments_in s c calls (d - 1)) (given_in s c i) ≡ get_or (arguments_in s c calls d) k []
unfolding has_argument
the-argument s c calls zero k i h e = absurd (false≢true h)
the-argument s c calls (suc d) k i h e =
    let f : suc d - 1 ≡ d = omega arith in
    rw (e, f) (sym (argument-here s c calls d k (ltb-true _ _ h)))

pub goes-told : (c calls : List ℕ) (d g k i n : ℕ) → (kind_of c g ≡ place.typed_kind → ⊥) → (d ≡ 0 → ⊥) → k ≡ number_in c g → i ≡ get_or calls (d - 1) 0
    → n ≡ argument_count c i → goes_up c calls d g ≡ ltb k n
goes-told c calls d g k i n h z e f m = rw (m, f, e) (sym (up_is c calls d g h z))

pub next-told : (c calls : List ℕ) (d g k call i : ℕ) → i ≡ argument_cell call k → call ≡ get_or calls (d - 1) 0 → k ≡ number_in c g → i ≡ next_cell c calls (d - 1) g
next-told c calls d g k call i h e f = rw (h, e, f) refl
