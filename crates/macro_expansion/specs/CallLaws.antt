-- What a call writes, by its macro: at fault, too deep, skipped, or entered.
use Rattle.std.specs.Bool.{passes}
use Rattle.std.specs.Option.{is_none, unwrap_or}
use Rattle.std.specs.Prelude.{Option, Some, None, ◌≡◌, Bool, true, false, cond, ◌||◌, ℕ, zero, suc, ◌+◌, ◌-◌, ◌≤◌, ◌<◌, eqb, ltb, length, get_or, take, drop}
use Rattle.std.proofs.Math.Path.{refl}
use Rattle.std.proofs.Common.{sym, ap, ◌∙◌, true≢false, arith, le-leb, le-ltb, ltb-true}
use Rattle.std.proofs.lemmas.Bool.{false≢true, lt-leb, not-false}
use mathlib.Core.List.{List, [], ◌∷◌, map, append-nil}
use mathlib.Core.Bool.{or-false, or-true}
use Rattle.language.specs.Limits as limit
use Rattle.layout.specs.Cells.{tab}
use Rattle.lists.specs.Lists.{filled, keep, bytes_equal}
use Rattle.lists.specs.ListLaws.{other_length}
use Rattle.macros.specs.Expansion.{Fault, fault, places_of, called_by, argument_faults, faults_of, Writing, just, too_deep, filled_in, entered, expand, levels}
use Rattle.macros.specs.Macros.{Macro}
use Rattle.macros.specs.Pieces.{Call, Piece}
use Rattle.macros.specs.Silence.{fixed}
use Rattle.macros.proofs.SilenceLaws.{silent-writes, fixed-faults}
use Rattle.macro_code.specs.Places as place
use Rattle.macro_values.specs.Values.{kind_of}
use Rattle.macro_code.specs.Code.{bytes_at, given_in, body_in, macro_in, macros_in}
use Rattle.macro_code.specs.Known.{Heights}
use Rattle.statements.specs.Faults.{lower}
use Rattle.statements.specs.StatementAt.{fault_of}
use Rattle.std.specs.Prelude.{Some}
use Rattle.macro_values.specs.declared.Written.{Written}
use Rattle.macro_values.specs.WritingLaws.{lower-none-right}
use Rattle.macro_values.specs.Wrote.{is_over, size_of, Wrote}
use Rattle.macro_expansion.specs.Expanding.{inner}
use Rattle.macro_expansion.specs.Known.{ShortNames}

-- a name longer than those of the list is not in it
none_kept : {X : Type 0} (p : X → Bool) (n : ℕ) (g : ℕ → X) → ((k : ℕ) → k < n → p (g k) ≡ false) → keep p (tab n g) ≡ []
unfolding tab
none_kept p zero g h = refl
none_kept p (suc n) g h = rw (h zero (omega arith)) (none_kept p n (λ k. g (suc k)) (λ k l. h (suc k) (omega (arith, l))))

called-none : (s c f : List ℕ) (n : ℕ) (w : List ℕ) → ShortNames s c f n → limit.item < length w → called_by (macros_in s c f n) w ≡ []
unfolding macros_in macro_in
called-none s c f n w h l =
    none_kept (λ m. bytes_equal w m.name) n (λ k. macro_in s c (get_or f k 0)) (λ k m. other_length w (bytes_at s c (get_or f k 0)) (λ e. omega (arith, e, h k m)))

-- Faults

-- what a call at fault writes
abbrev at_fault : List Fault → Writing
at_fault fs = record { bytes = []; faults = fs; deep = false }

module _ (ms : List Macro) (enter : List (List ℕ) → List Piece → Writing) (env : List (List ℕ)) (c : Call) where
  -- not in the list once
  pub unknown-writes : (ns : List Macro) → eqb (length ns) 1 ≡ false → entered ms enter env c ns ≡ at_fault (fault 64 c.name_at ∷ [])
  unfolding entered faults_of
  unknown-writes [] e = refl
  unknown-writes (m ∷ ns) e = rw e

  -- in the list once
  pub faulty-writes : (ns : List Macro) (m : Macro) → ns ≡ m ∷ [] → filled (argument_faults c m) ≡ true → entered ms enter env c ns ≡ at_fault (argument_faults c m)
  unfolding entered faults_of
  faulty-writes ns m e f = rw (e, append-nil (argument_faults c m), f)

  pub right-writes : (ns : List Macro) (m : Macro) → ns ≡ m ∷ [] → argument_faults c m ≡ [] → entered ms enter env c ns ≡ enter (map (filled_in env) c.args) m.body
  unfolding entered faults_of
  right-writes ns m e f = rw (e, f)

pub no-uneven : (c : Call) (m : Macro) → places_of 65 (argument_faults c m) ≡ [] → argument_faults c m ≡ []
unfolding argument_faults
no-uneven c m h = go (ltb (length c.args) (length m.params)) (take 1 (drop (length m.params) c.arg_places)) h
  where
    go : (b : Bool) (ps : List ℕ) → places_of 65 (cond b (fault 65 c.name_at ∷ []) (map (fault 65) ps)) ≡ []
        → cond b (fault 65 c.name_at ∷ []) (map (fault 65) ps) ≡ []
    go true ps e = absurd (let z : ◌≡◌ {A = ℕ} 0 1 = cc in omega arith)
    go false [] e = refl
    go false (p ∷ ps) e = absurd (let z : ◌≡◌ {A = ℕ} 0 1 = cc in omega arith)

pub some-uneven : (fs : List Fault) (p : ℕ) → fault_of (places_of 65 fs) ≡ Some p → filled fs ≡ true
some-uneven [] p e = absurd (let z : ◌≡◌ {A = ℕ} 0 1 = cc in omega arith)
some-uneven (f ∷ fs) p e = refl

-- the state with a fault, or too deep
module _ (v r : Written) (o : List ℕ) (l : size_of v ≤ length o) (count : size_of r ≡ size_of v) where
  module _ (over : is_over r ≡ is_over v) where
    over-same : is_over r ≡ (is_over v || ltb (length o) (size_of v + 0))
    over-same = over ∙ sym (ap (λ b. (is_over v) || b) (le-ltb (length o) (size_of v + 0) (omega arith)) ∙ or-false (is_over v))

    pub wrote-faults : (fs : List Fault) → r.faults.unknown ≡ lower v.faults.unknown (fault_of (places_of 64 fs)) → r.faults.uneven ≡ lower v.faults.uneven (fault_of (places_of 65 fs))
        → Wrote (at_fault fs) v r o o
    wrote-faults fs e f =
        record {
          unknown = e;
          uneven = f;
          over = over-same;
          size = refl;
          within = λ z. (omega (arith, count), ap (λ n. take n o) count ∙ sym (append-nil (take (size_of v) o)));
          most = omega (arith, count);
        }

over-size : (w : Written) → is_over w ≡ true → size_of w ≡ 0
over-size w e = go w.count e
  where
    go : (n : Option ℕ) → is_none n ≡ true → unwrap_or n 0 ≡ 0
    go None f = refl
    go (Some n) f = absurd (false≢true f)

pub wrote-deep : (v r : Written) (o : List ℕ) → is_over r ≡ true → r.faults.unknown ≡ v.faults.unknown → r.faults.uneven ≡ v.faults.uneven → Wrote too_deep v r o o
wrote-deep v r o e f g =
    record {
      unknown = f ∙ lower-none-right v.faults.unknown;
      uneven = g ∙ lower-none-right v.faults.uneven;
      over = e ∙ sym (or-true (is_over v));
      size = refl;
      within = λ z. absurd (true≢false (sym e ∙ z));
      most = omega (arith, over-size r e);
    }

-- Levels

pub inner-deep : (ms : List Macro) (l : ℕ) (env : List (List ℕ)) (ps : List Piece) → l ≡ 0 → inner ms l env ps ≡ too_deep
unfolding inner
inner-deep ms l env ps e = rw e

pub inner-expands : (ms : List Macro) (l : ℕ) (env : List (List ℕ)) (ps : List Piece) → (l ≡ 0 → ⊥) → inner ms l env ps ≡ expand ms (l - 1) env ps
unfolding inner
inner-expands ms zero env ps h = absurd (h refl)
inner-expands ms (suc l) env ps h = let e : suc l - 1 ≡ l = omega arith in rw e

-- the heights of the macro with the number k
module _ (s c f : List ℕ) (n : ℕ) (quiet loose : List ℕ) (h : Heights s c f n quiet loose) (k l : ℕ) (listed : k < n) (env : List (List ℕ)) where
  pub quiet-writes : l < levels → get_or quiet k 0 ≤ l → expand (macros_in s c f n) l env (body_in s c (get_or f k 0)) ≡ just []
  quiet-writes m e =
      silent-writes (macros_in s c f n) l env (body_in s c (get_or f k 0)) (passes _ (sym (h.quiet_is k l listed m) ∙ le-leb (get_or quiet k 0) l e))

  pub fixed-writes : l < levels → l < get_or loose k 0 → (expand (macros_in s c f n) l env (body_in s c (get_or f k 0))).faults ≡ []
  fixed-writes m e =
      fixed-faults (macros_in s c f n) l env (body_in s c (get_or f k 0)) (passes _ (not-false (fixed (macros_in s c f n) l (body_in s c (get_or f k 0))) (sym (h.loose_is k l listed m) ∙ lt-leb (get_or loose k 0) l e)))

-- a name that has no room
pub long-unknown : (s c f : List ℕ) (n : ℕ) (w o : List ℕ) → ShortNames s c f n → limit.item < length o → ltb (length o) (0 + length w) ≡ true
    → false ≡ eqb (length (called_by (macros_in s c f n) w)) 1
long-unknown s c f n w o h l e =
    let m = ltb-true (length o) (0 + length w) e in
    rw (called-none s c f n w h (omega arith))

-- a typed name
pub typed-given : (s c : List ℕ) (env : List (List ℕ)) (g : ℕ) → kind_of c g ≡ place.typed_kind → filled_in env (given_in s c g) ≡ bytes_at s c g
unfolding given_in filled_in
typed-given s c env g e = rw e
