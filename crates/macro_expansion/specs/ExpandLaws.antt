-- A body with its calls: each call's body is written with one level less.
use Rattle.std.specs.Prelude.{Option, Some, None, ◌≡◌, refl, Bool, true, false, length, take, set}
use Rattle.std.proofs.Common.{sym, ap, ◌∙◌, get_or-set_same, take-take}
use mathlib.Core.List.{List, [], map}
use Prim.Native.Nat.{ℕ, suc, ◌+◌, ◌-◌, ◌≤◌, ◌<◌}
use native.Mathlib.Omega.{arith}
use Rattle.std.proofs.Math.ListN.{get_or}
use Rattle.std.proofs.lemmas.List.{take-set-le}
use Rattle.macros.specs.Expansion.{Writing, just, followed_by, filled_in, expand, levels}
use Rattle.macro_code.specs.Code.{high, low, call_in, body_in, macros_in, arguments_in, first_change, change_count}
use Rattle.macro_code.specs.Places as place
use Rattle.macro_memory.specs.Memory.{entered_writes, Remembers, Stored}
use Rattle.macro_memory.specs.MemoryLaws.{absorbed-after}
use Rattle.macro_memory.specs.declared.Memory.{Memory}
use Rattle.macro_memory.specs.declared.Slot.{Slot}
use Rattle.macro_values.specs.declared.Written.{Written}
use Rattle.macro_values.specs.WritingLaws.{wrote-both}
use Rattle.macro_values.specs.Wrote.{is_over, size_of, Wrote}
use Rattle.macro_memory.specs.declared.Level.{Level}
use Rattle.macro_expansion.specs.declared.Rest.{Rest}
use Rattle.macro_expansion.specs.declared.Pause.{Pause}
use Rattle.macro_expansion.specs.declared.Paused.{Paused}
use Rattle.macro_expansion.specs.Expanding.{change_writes, Enters, arguments_at, rest_writes, pause_writes, Ran, Whole, Behind, Fits, Expands, Keeps}
use Rattle.macro_expansion.specs.WalkLaws.{followed-assoc, followed-none, none-followed, expand-walks, arguments-same}

-- a body is the rest from its beginning
pub body-rest : (s c f : List ℕ) (n : ℕ) (calls : List ℕ) (left m : ℕ) → expand (macros_in s c f n) left (arguments_at s c calls left) (body_in s c m)
    ≡ rest_writes s c f n calls left (high c (m + place.span_cell)) (low c (m + place.span_cell)) (first_change c m) (change_count c m)
unfolding body_in
body-rest s c f n calls left m = ap (λ g. g (arguments_at s c calls left) (body_in s c m)) (expand-walks (macros_in s c f n) left)

pub run-whole : (s c f : List ℕ) (n : ℕ) (calls : List ℕ) (at : Level) (r : Rest) (v : Written) (e : Paused) (o p : List ℕ) → Whole c at r
    → Ran s c f n calls r.left r.stop r.changes.left (rest_writes s c f n calls r.left r.place r.stop r.changes.cell r.changes.left) v e o p
    → Ran s c f n calls at.left (low c (at.cell + place.span_cell)) (change_count c at.cell)
    (expand (macros_in s c f n) at.left (arguments_at s c calls at.left) (body_in s c at.cell)) v e o p
run-whole s c f n calls at r v e o p w h =
    rw (body-rest s c f n calls at.left at.cell)
    (rw (w.left_is, w.stop_is, w.changes_are.left_is, w.from_is, w.changes_are.cell_is) at h)

pub run-behind : (s c f : List ℕ) (n : ℕ) (calls : List ℕ) (at : Level) (x : Pause) (r : Rest) (v : Written) (e : Paused) (o p : List ℕ) → Behind c at x r
    → Ran s c f n calls r.left r.stop r.changes.left (rest_writes s c f n calls r.left r.place r.stop r.changes.cell r.changes.left) v e o p
    → Ran s c f n calls at.left (low c (at.cell + place.span_cell)) x.changes.left
    (rest_writes s c f n calls at.left (low c x.cell) (low c (at.cell + place.span_cell)) x.changes.cell x.changes.left) v e o p
run-behind s c f n calls at x r v e o p w h = rw (w.left_is, w.stop_is, w.changes_are, w.from_is) at h

pub fits-rest : (s c f : List ℕ) (n : ℕ) (slots : List Slot) (at : Level) (r : Rest) (v : Written) (o : List ℕ) → r.left ≡ at.left
    → Fits s c f n at.left slots v o → Fits s c f n r.left slots v o
fits-rest s c f n slots at r v o e k = rw e k

-- the arguments within a call that is entered
module _ (s c calls₀ calls calls₁ : List ℕ) (left i : ℕ) (some : 1 ≤ left) (most : left ≤ levels) (room : levels - left < length calls)
    (same : take (levels - left) calls ≡ take (levels - left) calls₀) (stored : calls₁ ≡ set calls (levels - left) i) where
  around : take (levels - left) calls₁ ≡ take (levels - left) calls₀
  around = rw stored (take-set-le (levels - left) calls (levels - left) i (omega arith) ∙ same)

  pub inner-arguments : arguments_at s c calls₁ (left - 1) ≡ map (filled_in (arguments_at s c calls₀ left)) (call_in s c i).args
  unfolding arguments_in
  inner-arguments =
      let e : levels - (left - 1) ≡ suc (levels - left) = omega arith in
      let a : arguments_in s c calls₁ (levels - left) ≡ arguments_in s c calls₀ (levels - left) = arguments-same s c calls₀ calls₁ (levels - left) around in
      let g : get_or calls₁ (levels - left) 0 ≡ i = rw stored (get_or-set_same calls (levels - left) i 0 room) in
      rw e (λ j. map (filled_in (a j)) (call_in s c (g j)).args)

  pub calls-after : (calls₂ : List ℕ) → take (levels - (left - 1)) calls₂ ≡ take (levels - (left - 1)) calls₁ → take (levels - left) calls₂ ≡ take (levels - left) calls₀
  calls-after calls₂ e =
      sym (take-take (levels - left) (levels - (left - 1)) calls₂ (omega arith))
      ∙ ap (take (levels - left)) e
      ∙ take-take (levels - left) (levels - (left - 1)) calls₁ (omega arith)
      ∙ around

-- what is left does not depend on the calls within
rest_same : (s c f : List ℕ) (n : ℕ) (calls others : List ℕ) (left place stop i k : ℕ) → take (levels - left) others ≡ take (levels - left) calls
    → rest_writes s c f n others left place stop i k ≡ rest_writes s c f n calls left place stop i k
rest_same s c f n calls others left place stop i k e = rw (arguments-same s c calls others (levels - left) e)

pause-same : (s c f : List ℕ) (n : ℕ) (calls others : List ℕ) (left stop : ℕ) (r : Option Pause) → take (levels - left) others ≡ take (levels - left) calls
    → pause_writes s c f n others left stop r ≡ pause_writes s c f n calls left stop r
unfolding pause_writes
pause-same s c f n calls others left stop None e = refl
pause-same s c f n calls others left stop (Some x) e = rw (arguments-same s c calls others (levels - left) e)

pause-enters : (s c f : List ℕ) (n : ℕ) (calls : List ℕ) (left stop : ℕ) (r : Option Pause) (x : Pause) → r ≡ Some x
    → pause_writes s c f n calls left stop r
    ≡ followed_by (entered_writes s c f n calls left x.cell x.body) (rest_writes s c f n calls left (low c x.cell) stop x.changes.cell x.changes.left)
unfolding pause_writes
pause-enters s c f n calls left stop r x e = rw e

pause-over : (s c f : List ℕ) (n : ℕ) (calls : List ℕ) (left stop : ℕ) (r : Option Pause) → r ≡ None → pause_writes s c f n calls left stop r ≡ just []
unfolding pause_writes
pause-over s c f n calls left stop r e = rw e

-- a call is entered, and the body goes on behind it
pub expand-turn : (s c f : List ℕ) (n : ℕ) (calls₀ calls : List ℕ) (m₁ m₂ : Memory) (left stop : ℕ) (x u : Writing) (v w w' : Written) (o q p r : List ℕ) (e e' : Paused) (b : Pause)
    → 1 ≤ left → left ≤ levels → levels - left < length calls → take (levels - left) calls ≡ take (levels - left) calls₀ → m₁.calls ≡ set calls (levels - left) b.cell
    → Wrote u v w o q → x ≡ followed_by u (pause_writes s c f n calls₀ left stop e.call) → e.call ≡ Some b → Expands s c f n m₁ m₂ (left - 1) b.body w w' q p
    → Ran s c f n m₂.calls left stop b.changes.left (rest_writes s c f n m₂.calls left (low c b.cell) stop b.changes.cell b.changes.left) w' e' p r
    → (y : Writing) × Wrote y v e'.state o r × (x ≡ followed_by y (pause_writes s c f n calls₀ left stop e'.call)) × (take (levels - left) m₂.calls ≡ take (levels - left) calls₀)
expand-turn s c f n calls₀ calls m₁ m₂ left stop x u v w w' o q p r e e' b some most room same stored wrote is enters inside run =
    let after = calls-after s c calls₀ calls m₁.calls left b.cell some most room same stored m₂.calls inside.calls_stay in
    let a = inner-arguments s c calls₀ calls m₁.calls left b.cell some most room same stored in
    let E = entered_writes s c f n calls₀ left b.cell b.body in
    let B = run.behind in
    let P = pause_writes s c f n calls₀ left stop e'.call in
    let k : Wrote E w w' q p = rw a at inside.wrote in (
      followed_by (followed_by u E) B,
      wrote-both (followed_by u E) B v w' e'.state o p r (wrote-both u E v w w' o q p wrote k) run.wrote,
      is
          ∙ ap (followed_by u)
          (pause-enters s c f n calls₀ left stop e.call b enters
          ∙ ap (followed_by E)
          (sym (rest_same s c f n calls₀ m₂.calls left (low c b.cell) stop b.changes.cell b.changes.left after)
          ∙ run.is
          ∙ ap (followed_by B) (pause-same s c f n calls₀ m₂.calls left stop e'.call after)))
          ∙ sym (followed-assoc u E (followed_by B P))
          ∙ sym (followed-assoc (followed_by u E) B P),
      after,
    )

-- the body ends, and is remembered
module _ (s c f : List ℕ) (n : ℕ) (m₀ m₁ m₂ : Memory) (left stop k m : ℕ) (u : Writing) (v : Written) (e e' : Paused) (o q p : List ℕ) (steady : Bool)
    (run : Ran s c f n m₀.calls left stop k (expand (macros_in s c f n) left (arguments_at s c m₀.calls left) (body_in s c m)) v e o q) (wrote : Wrote u e.state e'.state q p)
    (is : pause_writes s c f n m₀.calls left stop e.call ≡ followed_by u (pause_writes s c f n m₀.calls left stop e'.call)) (over : e'.call ≡ None)
    (stay : take (levels - left) m₁.calls ≡ take (levels - left) m₀.calls) where
  abbrev written : List ℕ → Writing
  written l = expand (macros_in s c f n) left (arguments_at s c l left) (body_in s c m)

  all-written : Wrote (written m₀.calls) v e'.state o p
  all-written =
      let a : written m₀.calls ≡ followed_by run.behind u =
      run.is ∙ ap (followed_by run.behind) (is ∙ ap (followed_by u) (pause-over s c f n m₀.calls left stop e'.call over) ∙ followed-none u) in
      rw a (wrote-both run.behind u v e.state e'.state o q p run.wrote wrote)

  pub expand-ends : Remembers s c f n m₁.slots e'.state → (steady ≡ true → is_over e'.state ≡ false → size_of e'.state ≡ size_of v) → Keeps s c m₁ m₂ left m steady
      → Expands s c f n m₀ m₂ left m v e'.state o p
  expand-ends h same keeps =
      let a : arguments_at s c m₁.calls left ≡ arguments_at s c m₀.calls left = arguments-same s c m₀.calls m₁.calls (levels - left) stay in
      record {
        wrote = all-written;
        calls_stay = ap (take (levels - left)) keeps.calls_stay ∙ stay;
        remembers = keeps.remembers f n e'.state h (λ z. rw a (absorbed-after (written m₀.calls) v e'.state o p all-written (same z)));
      }

pub keeps-none : (s c : List ℕ) (same : Memory) (left m : ℕ) (steady : Bool) → Keeps s c same same left m steady
keeps-none s c same left m steady = record { calls_stay = refl; remembers = λ f n v h k. h }

pub keeps-stored : (s c : List ℕ) (before after : Memory) (left m : ℕ) (steady : Bool) → steady ≡ true → Stored before after (left + 1) m → Keeps s c before after left m steady
keeps-stored s c before after left m steady e h =
    let g : left + 1 - 1 ≡ left = omega arith in
    record { calls_stay = h.nested; remembers = λ f n v r k. h.remembers s c f n v r (rw g (k e)) }

-- a call alone
pub change-enters : (s c f : List ℕ) (n : ℕ) (calls : List ℕ) (m₁ m₂ : Memory) (left i m : ℕ) (v w w' : Written) (o q p : List ℕ) → left ≤ levels → levels - left < length calls
    → m₁.calls ≡ set calls (levels - left) i → Enters s c f n calls left i m → Wrote (just []) v w o q → Expands s c f n m₁ m₂ (left - 1) m w w' q p
    → Wrote (change_writes s c f n calls left i) v w' o p
change-enters s c f n calls m₁ m₂ left i m v w w' o q p most room stored enters waits inside =
    let a = inner-arguments s c calls calls m₁.calls left i enters.deeper most room refl stored in
    let E = entered_writes s c f n calls left i m in
    let k : Wrote E w w' q p = rw a at inside.wrote in
    rw enters.writes (rw (none-followed E) at (wrote-both (just []) E v w w' o q p waits k))
