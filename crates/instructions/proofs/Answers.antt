-- From the questions of a row to what an instruction's function promises.
use mathlib.Core.Path.{◌≡◌, refl, sym, ap, ◌∙◌, subst}
use mathlib.Core.Bool.{Bool, true, false, cond, ◌&&◌}
use mathlib.Core.List.{List, [], ◌∷◌, ◌++◌, map}
use Prim.Native.Nat.{ℕ, ◌≤◌}
use native.Mathlib.Omega.{arith}
use lib.Dec.{T, leb, ltb, ltb→lt}
use lib.ListN.{length}
use borrow.Author.Tests.{le-leb}
use Rattle.state.specs.Below.Lists.{all, head_or, if_any}
use Rattle.state.specs.Below.ListLaws.{T-left, T-right}
use Rattle.state.specs.Below.Limits as limit
use Rattle.state.specs.Below.LanguageValues.{Store, State}
use Rattle.state.specs.Below.MachineArguments.{Asks}
use Rattle.state.specs.Below.Changes.{fits}
use Rattle.state.specs.Below.Effects.{Row}
use Rattle.state.specs.Below.Effects.Go.{on}
use Rattle.state.specs.Below.Steps.{made, numbers, refusals}
use Rattle.state.specs.Below.LayoutBounds.{Each}
use Rattle.state.specs.Working.{HoldsState, Stands, on_store}
use Rattle.state.proofs.Standing.{after-state, on-store-twice}
use Rattle.state.proofs.Fits.{fine-limited, fits-limited}
use Rattle.instructions.specs.Does.{answered, asked_of, answer_of, with_store, kept_of, done_of, Does, Goes, Quiet, stop_of, Tried}

-- ---- the first no

module _ (f : ℕ → Bool) where
  abbrev no : List ℕ → List ℕ
  no ns = refusals (map (λ n. (n, f n)) ns)

  first_no : (before : List ℕ) (k : ℕ) (after : List ℕ) → Each (λ n. f n ≡ true) before → f k ≡ false → head_or 0 (no (before ++ (k ∷ after))) ≡ k
  first_no [] k after h e = rw e refl
  first_no (n ∷ before) k after h e = rw h.0 (first_no before k after h.1 e)

  none-no : (ns : List ℕ) → Each (λ n. f n ≡ true) ns → no ns ≡ []
  none-no [] h = refl
  none-no (n ∷ ns) h = rw h.0 (none-no ns h.1)

  none-refused : (ns : List ℕ) → T (all (λ n. ltb 0 n) ns) → head_or 0 (no ns) ≡ 0 → no ns ≡ []
  none-refused [] h e = refl
  none-refused (n ∷ ns) h e = go (f n) (none-refused ns (T-right (ltb 0 n) (all (λ n. ltb 0 n) ns) h)) e
    where
      go : (b : Bool) → (head_or 0 (no ns) ≡ 0 → no ns ≡ []) → head_or 0 (cond b (no ns) (n ∷ no ns)) ≡ 0 → cond b (no ns) (n ∷ no ns) ≡ []
      go true k q = k q
      go false k q = absurd (omega (arith, q, ltb→lt 0 n (T-left (ltb 0 n) (all (λ n. ltb 0 n) ns) h)))

-- the first of ns that is answered no, or 0
abbrev pub decided : (ℕ → Bool) → List ℕ → ℕ
decided f [] = 0
decided f (n ∷ ns) = cond (f n) (decided f ns) n

decided-is : (f : ℕ → Bool) (ns : List ℕ) → head_or 0 (no f ns) ≡ decided f ns
decided-is f [] = refl
decided-is f (n ∷ ns) = go (f n) (decided-is f ns)
  where
    go : (b : Bool) → head_or 0 (no f ns) ≡ decided f ns → head_or 0 (cond b (no f ns) (n ∷ no f ns)) ≡ cond b (decided f ns) n
    go true h = h
    go false h = refl

stopped : {X : Type 0} (x : X) (f : ℕ → X) (rs : List ℕ) (k : ℕ) → head_or 0 rs ≡ k → (k ≡ 0 → ⊥) → if_any x f rs ≡ f k
stopped x f [] k e z = absurd (z (sym e))
stopped x f (r ∷ rs) k e z = ap f e

module _ (r : Row) (s : State) where
  -- question k is answered no, and those before it yes; all are answered yes
  pub answer-no : (before : List ℕ) (k : ℕ) (after : List ℕ) → numbers ≡ before ++ (k ∷ after) → Each (λ n. answered r s n ≡ true) before
      → answered r s k ≡ false → answer_of r s ≡ k
  answer-no before k after e h x = ap (λ (ns : List ℕ). head_or 0 (no (answered r s) ns)) e ∙ first_no (answered r s) before k after h x

  pub answer-decided : answer_of r s ≡ decided (answered r s) numbers
  answer-decided = decided-is (answered r s) numbers

  none-asked : answer_of r s ≡ 0 → refusals (asked_of r s) ≡ []
  none-asked z = none-refused (answered r s) numbers tt z

  pub kept-stop : {k : ℕ} → answer_of r s ≡ k → (k ≡ 0 → ⊥) → kept_of r s ≡ s
  kept-stop {k} e z = stopped (with_store r.1 s) (λ n. s) (refusals (asked_of r s)) k e z

  pub kept-done : answer_of r s ≡ 0 → kept_of r s ≡ with_store r.1 s
  kept-done e = ap (if_any (with_store r.1 s) (λ n. s)) (none-asked e)

  pub done-stop : {k : ℕ} → answer_of r s ≡ k → (k ≡ 0 → ⊥) → done_of r s ≡ s
  done-stop {k} e z = stopped (made r s) (λ n. s) (refusals (asked_of r s)) k e z

  pub done-done : answer_of r s ≡ 0 → done_of r s ≡ made r s
  done-done e = ap (if_any (made r s) (λ n. s)) (none-asked e)

-- ---- an instruction stops, and the memory is as it was; or all is answered yes, and it holds what the row makes

module _ {σ : State} (h : Stands σ) (r : Row) where
  pub does-stop : {k : ℕ} → answer_of r σ ≡ k → (k ≡ 0 → ⊥) → Does σ k σ r
  does-stop q z = record { is = sym q; holds = rw (kept-stop r σ q z) h }

  pub does-done : {σ' : State} → answer_of r σ ≡ 0 → HoldsState σ' (with_store r.1 σ) → Does σ 0 σ' r
  does-done q k = record { is = sym q; holds = rw (kept-done r σ q) k }

  pub goes-stop : {k : ℕ} → answer_of r σ ≡ k → (k ≡ 0 → ⊥) → Goes σ k σ r
  goes-stop q z = record { is = sym q; holds = rw (done-stop r σ q z) h }

-- where all is answered yes, the new state alone has to be fine
pub goes-done : {σ : State} (r : Row) {σ' : State} → answer_of r σ ≡ 0 → HoldsState σ' (made r σ) → Goes σ 0 σ' r
goes-done {σ} r q k = record { is = sym q; holds = rw (done-done r σ q) k }

-- ---- rows that ask 52, 53 and 54 alone

abbrev refused : Bool → Bool → Bool → Bool → Bool → List ℕ
refused a b c f l =
    let r₄ : List ℕ = cond l [] (60 ∷ []) in
    let r₃ : List ℕ = cond ((f && true) && true) r₄ (59 ∷ r₄) in
    let r₂ : List ℕ = cond (c && true) r₃ (54 ∷ r₃) in
    let r₁ : List ℕ = cond (b && true) r₂ (53 ∷ r₂) in
    cond (a && true) r₁ (52 ∷ r₁)

abbrev closed : Bool → Bool → Bool → Bool → Bool → ℕ
closed a b c f l = cond a (cond b (cond c (cond f (cond l 0 60) 59) 54) 53) 52

refused-head : (a b c f l : Bool) → head_or 0 (refused a b c f l) ≡ closed a b c f l
refused-head false b c f l = refl
refused-head true false c f l = refl
refused-head true true false f l = refl
refused-head true true true false l = refl
refused-head true true true true true = refl
refused-head true true true true false = refl

module _ (q : Asks) (t : Store) (s : State) (k : Quiet q) (st : length s.stack ≤ limit.stack) where
  quiet_is : refusals (asked_of (q, t, on) s) ≡ refused (q 52) (q 53) (q 54) (fits t) (leb t.last limit.addresses)
  quiet_is =
      rw (
        k.is_50,
        k.is_55,
        k.is_56,
        k.is_57,
        k.is_58,
        k.is_59,
        k.is_60,
        le-leb (length s.stack) limit.stack st,
      ) refl

  pub answer-quiet : answer_of (q, t, on) s ≡ closed (q 52) (q 53) (q 54) (fits t) (leb t.last limit.addresses)
  answer-quiet = ap (head_or 0) quiet_is ∙ refused-head (q 52) (q 53) (q 54) (fits t) (leb t.last limit.addresses)

abbrev pub stop_by : Bool → Bool → Bool → ℕ
stop_by a b c = cond a (cond b (cond c 0 54) 53) 52

closed-stop : (a b c f l : Bool) → (stop_by a b c ≡ 0 → ⊥) → closed a b c f l ≡ stop_by a b c
closed-stop false b c f l z = refl
closed-stop true false c f l z = refl
closed-stop true true false f l z = refl
closed-stop true true true f l z = absurd (z refl)

closed_on : (a b c f l : Bool) → stop_by a b c ≡ 0 → closed a b c f l ≡ cond f (cond l 0 60) 59
closed_on false b c f l z = absurd (omega (arith, z))
closed_on true false c f l z = absurd (omega (arith, z))
closed_on true true false f l z = absurd (omega (arith, z))
closed_on true true true f l z = refl

module _ {σ : State} (h : Stands σ) (q : Asks) (t : Store) (k : Quiet q) where
  -- 52, 53 or 54 is answered no, whatever the row would make
  pub quiet-stop : {x : ℕ} → x ≡ stop_of q → (x ≡ 0 → ⊥) → Does σ x σ (q, t, on)
  quiet-stop w z =
      does-stop h (q, t, on)
      (answer-quiet q t σ k h.fine.stack_most
      ∙ closed-stop (q 52) (q 53) (q 54) (fits t) (leb t.last limit.addresses) (λ y. z (w ∙ y)) ∙ sym w) z

  -- they are answered yes; all are
  pub answer-on : stop_of q ≡ 0 → answer_of (q, t, on) σ ≡ cond (fits t) (cond (leb t.last limit.addresses) 0 60) 59
  answer-on w = answer-quiet q t σ k h.fine.stack_most ∙ closed_on (q 52) (q 53) (q 54) (fits t) (leb t.last limit.addresses) w

  pub quiet-done : {σ' : State} → stop_of q ≡ 0 → HoldsState σ' (with_store t σ) → Does σ 0 σ' (q, t, on)
  quiet-done w g =
      does-done h (q, t, on)
      (answer-on w ∙ rw (fits-limited (fine-limited (with_store t σ) g.fine), le-leb t.last limit.addresses g.fine.last_most) refl) g

-- ---- 53 by what is taken, and 59

none-stopped : (a b c : Bool) → stop_by a b c ≡ 0 → (a ≡ true) × (b ≡ true) × (c ≡ true)
none-stopped false b c z = absurd (omega (arith, z))
none-stopped true false c z = absurd (omega (arith, z))
none-stopped true true false z = absurd (omega (arith, z))
none-stopped true true true z = (refl, refl, refl)

pub unstopped : (q : Asks) → stop_of q ≡ 0 → (q 52 ≡ true) × (q 53 ≡ true) × (q 54 ≡ true)
unstopped q z = none-stopped (q 52) (q 53) (q 54) z

module _ {σ : State} (h : Stands σ) (t : Store) where
  pub tried-wrong : {right : Bool} → right ≡ false → Tried σ 53 σ right t
  tried-wrong r = record { is = rw r refl; holds = rw r h }

  pub tried-full : {right : Bool} → right ≡ true → fits t ≡ false → Tried σ 59 σ right t
  tried-full r f = record { is = rw (r, f) refl; holds = rw (r, f) h }

  pub tried-done : {right : Bool} {σ' : State} → right ≡ true → HoldsState σ' (with_store t σ) → Tried σ 0 σ' right t
  tried-done r g = let f : fits t ≡ true = fits-limited (fine-limited (with_store t σ) g.fine) in record { is = rw (r, f) refl; holds = rw (r, f) g }

  pub quiet-tried : (q : Asks) → Quiet q → {x : ℕ} {right : Bool} {σ' : State} → q 52 ≡ true → q 53 ≡ right → q 54 ≡ true
      → Tried σ x σ' right t → Does σ x σ' (q, t, on)
  quiet-tried q k {x} {right} {σ'} a b c w =
      go right (fits t) (answer-quiet q t σ k h.fine.stack_most ∙ rw (a, b, c) refl) w.is w.holds
    where
      go : (r f : Bool) → answer_of (q, t, on) σ ≡ cond r (cond f (cond (leb t.last limit.addresses) 0 60) 59) 53 → x ≡ cond r (cond f 0 59) 53
          → HoldsState σ' (cond r (cond f (with_store t σ) σ) σ) → Does σ x σ' (q, t, on)
      go true true z i g =
          let y : answer_of (q, t, on) σ ≡ 0 = z ∙ rw (le-leb t.last limit.addresses g.fine.last_most) refl in
          record { is = i ∙ sym y; holds = rw (kept-done (q, t, on) σ y) g }
      go true false z i g = record { is = i ∙ sym z; holds = rw (kept-stop (q, t, on) σ z (λ y. omega (arith, y))) g }
      go false f z i g = record { is = i ∙ sym z; holds = rw (kept-stop (q, t, on) σ z (λ y. omega (arith, y))) g }

-- ---- two changes, one after the other

pub one-after : {σ' σ'' : State} (s : State) (f g : Store → Store) → HoldsState σ' (on_store f s)
    → HoldsState σ'' (on_store g (σ')) → HoldsState σ'' (on_store (λ t. g (f t)) s)
one-after {σ'' = σ''} s f g h k =
    subst (λ (t : State). HoldsState σ'' t) (on-store-twice f g s) (after-state h (on_store g) k)
