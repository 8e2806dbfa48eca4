-- The state at work after the run goes on: the next instruction, and the return stack, of which each entry has two cells.
use mathlib.Core.Path.{◌≡◌, refl, ap, ◌∙◌}
use mathlib.Core.List.{List, [], ◌∷◌}
use Prim.Native.Nat.{ℕ, suc, ◌+◌, ◌*◌, ◌/◌, ◌%◌, ◌≤◌, ◌<◌}
use native.Mathlib.Omega.{arith}
use lib.ListN.{length, get_or, take, drop, set}
use Rattle.lists.specs.Lists.{each, head_or}
use Rattle.language.specs.Limits as limit
use Rattle.language.specs.Values.{Store, State}
use Rattle.machine.specs.Arguments.{Asks}
use Rattle.machine.specs.Effects.{Go}
use Rattle.machine.specs.Effects.Go.{on, jump, call, back}
use Rattle.machine.specs.Steps.{made}
use Rattle.layout.specs.Bounds.{Below, Fine}
use Rattle.layout.specs.Cells.{two, two_at}
use Rattle.layout.proofs.CellLaws.{each-drop, length-each, two_back}
use Rattle.layout.specs.Memory.{strings}
use Rattle.layout.proofs.MemoryLaws.{string-stack}
use Rattle.layout.specs.Places as layout
use Rattle.store.specs.Below.Gaps.{pushed_front}
use Rattle.store.specs.Below.Pool.{string}
use Rattle.store.specs.Store.{dropped_front}
use Rattle.strings.specs.Strings.{Pushable, Within}
use Rattle.layout.specs.Places.{stack_string}
use Rattle.state.specs.Working.{Lies, on_store}
use Rattle.state.proofs.Standing.{number_is, string-is, pushable}
use Rattle.state.proofs.Strings.{strings-stack}
use Rattle.control.specs.Going.{going, Deep, Callable}
use Rattle.state.proofs.Fineness.{fine-beside}

pub made-going : (q : Asks) (g : Go) (s : State) → made (q, s.store, g) s ≡ going g s
unfolding going
made-going q g s = refl

-- the same with the store changed after the way on is set
pub made_after : (q : Asks) (f : Store → Store) (g : Go) (s : State) → made (q, f s.store, g) s ≡ on_store f (going g s)
unfolding going on_store
made_after q f g s = refl

-- another next instruction and stack
module _ (s : State) (f : Fine s) (t : ℕ) (st : List ℕ) (b : t < limit.instructions) (ok : Below limit.instructions st) (most : length st ≤ limit.stack) where
  abbrev there : State
  there = record { store = s.store; next = t; stack = st }

  fine-there : Fine there
  fine-there =
      fine-beside s f s.store.plus s.store.outputs s.store.places t st f.outputs_is f.outputs_ok f.places_is f.places_ok b ok most

  holds-there : {vs vs' : List (List ℕ)} {n n' : List ℕ} → Lies vs n s → vs' ≡ set (strings s) stack_string (each two st) → n' ≡ set n layout.next_scalar t
      → Lies vs' n' there
  holds-there h g q =
      record {
        strings_is = rw (strings-stack s f.exprs_is f.files_is t st) g;
        numbers = q ∙ ap (λ (m : List ℕ). set m 3 t) h.numbers;
        fine = fine-there;
      }

module _ {vs : List (List ℕ)} {n : List ℕ} {s : State} (h : Lies vs n s) where
  -- the next instruction alone
  next-set : (t : ℕ) {n' : List ℕ} → t < limit.instructions → n' ≡ set n layout.next_scalar t
      → Lies vs n' (record { store = s.store; next = t; stack = s.stack })
  unfolding strings
  next-set t b q =
      record {
        strings_is = h.strings_is;
        numbers = q ∙ ap (λ (m : List ℕ). set m 3 t) h.numbers;
        fine = fine-there s h.fine t s.stack b h.fine.stack_ok h.fine.stack_most;
      }

  stack_is : string stack_string vs ≡ each two s.stack
  stack_is = string-is h stack_string ∙ string-stack s h.fine

  stack-long : length (string stack_string vs) ≡ 2 * length s.stack
  stack-long = rw stack_is (length-each 2 two (λ n. refl) s.stack)

  pub deep : {r : ℕ} → r ≡ length (string stack_string vs) → Deep s (r / 2)
  deep q = record { stands = record { is = refl; fine = h.fine }; is = omega (arith, stack-long); most = omega (arith, stack-long, h.fine.stack_most) }

pub went_on : {vs : List (List ℕ)} {n n' : List ℕ} {s : State} → Lies vs n s → suc s.next < limit.instructions → n' ≡ set n layout.next_scalar (get_or n layout.next_scalar 0 + 1) → Lies vs n' (going on s)
unfolding going
went_on {n = n} {s = s} h l q =
    let x : get_or n layout.next_scalar 0 + 1 ≡ suc s.next = omega (arith, number_is h 3) in
    next-set h (suc s.next) l (q ∙ ap (λ (k : ℕ). set n layout.next_scalar k) x)

pub jumped : {vs : List (List ℕ)} {n n' : List ℕ} {s : State} {t : ℕ} → Lies vs n s → t < limit.instructions → n' ≡ set n layout.next_scalar t → Lies vs n' (going (jump t) s)
unfolding going
jumped {t = t} h l q = next-set h t l q

module _ {vs : List (List ℕ)} {n : List ℕ} {s : State} (h : Lies vs n s) {t : ℕ} (pre : Callable s t) where
  abbrev kept : List ℕ
  kept = suc s.next ∷ s.stack

  pub back_is : get_or n layout.next_scalar 0 + 1 ≡ suc s.next
  back_is = omega (arith, number_is h 3)

  -- the two bytes of the way back
  pub entry-is : {r : ℕ} {b : List ℕ} → r ≡ get_or n layout.next_scalar 0 → b ≡ ((r + 1) % 256 ∷ (r + 1) / 256 % 256 ∷ []) → b ≡ two (get_or n layout.next_scalar 0 + 1)
  entry-is {r} q w =
      let e : (r + 1) / 256 % 256 ≡ (r + 1) / 256 = omega (arith, q, back_is, pre.following) in
      w ∙ ap (λ (k : ℕ). (r + 1) % 256 ∷ k ∷ []) e ∙ ap (λ (k : ℕ). two (k + 1)) q

  stack-more : {b : List ℕ} → b ≡ two (get_or n layout.next_scalar 0 + 1) → pushed_front stack_string b vs ≡ set (strings s) stack_string (each two kept)
  unfolding pushed_front
  stack-more q =
      rw (q, back_is, h.strings_is, string-stack s h.fine)

  pub return-pushable : {m : ℕ} → m ≡ 2 → Pushable vs stack_string m
  return-pushable q =
      let f = h.fine in
      let m : length kept ≤ limit.stack = omega (arith, pre.room) in
      pushable h (there s f t kept pre.below (pre.following, f.stack_ok) m) (fine-there s f t kept pre.below (pre.following, f.stack_ok) m)
      stack_string (each two kept) (strings-stack s f.exprs_is f.files_is t kept) (omega arith)
      (rw (string-stack s f) (omega (arith, q)))

  pub called : {b : List ℕ} {vs' : List (List ℕ)} {n' : List ℕ} → b ≡ two (get_or n layout.next_scalar 0 + 1) → vs' ≡ pushed_front stack_string b vs → n' ≡ set n layout.next_scalar t
      → Lies vs' n' (going (call t) s)
  unfolding going
  called q g r =
      holds-there s h.fine t kept pre.below (pre.following, h.fine.stack_ok) (omega (arith, pre.room)) h
      (rw (stack-more q) at g) r

-- the top of the stack, and the rest
top-is : (st : List ℕ) → 0 < length st → two_at 0 (take 2 (drop 0 (each two st))) ≡ head_or 0 st
top-is [] b = absurd (omega arith)
top-is (x ∷ st) b = two_back x

rest_is : (st : List ℕ) → drop 2 (each two st) ≡ each two (drop 1 st)
rest_is [] = refl
rest_is (x ∷ st) = refl

top_below : (st : List ℕ) → 0 < length st → Below limit.instructions st → head_or 0 st < limit.instructions
top_below [] b ok = absurd (omega arith)
top_below (x ∷ st) b ok = ok.0

rest-most : (st : List ℕ) → length (drop 1 st) ≤ length st
rest-most [] = omega arith
rest-most (x ∷ st) = omega arith

module _ {vs : List (List ℕ)} {n : List ℕ} {s : State} (h : Lies vs n s) (kept : 0 < length s.stack) where
  pub top_within : Within vs stack_string 0 2
  top_within =
      record { index = omega arith; within = omega (arith, stack-long h, kept) }

  pub top_read : {b : List ℕ} → b ≡ take 2 (drop 0 (string stack_string vs)) → two_at 0 b ≡ head_or 0 s.stack
  top_read q = rw (q, stack_is h) (top-is s.stack kept)

  stack-less : dropped_front stack_string 2 vs ≡ set (strings s) stack_string (each two (drop 1 s.stack))
  unfolding dropped_front
  stack-less =
      rw (h.strings_is, string-stack s h.fine, rest_is s.stack)

  pub returned : {vs' : List (List ℕ)} {n' : List ℕ} {t : ℕ} → t ≡ head_or 0 s.stack → vs' ≡ dropped_front stack_string 2 vs → n' ≡ set n layout.next_scalar t
      → Lies vs' n' (going back s)
  unfolding going
  returned q g r =
      let st = s.stack in
      holds-there s h.fine (head_or 0 st) (drop 1 st) (top_below st kept h.fine.stack_ok)
      (each-drop (λ x. x < limit.instructions) 1 st h.fine.stack_ok) (omega (arith, rest-most st, h.fine.stack_most)) h
      (rw stack-less at g) (r ∙ ap (λ (k : ℕ). set n layout.next_scalar k) q)
