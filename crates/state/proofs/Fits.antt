-- Question 59: whether a changed store fits is a comparison of totals.
use mathlib.Core.Path.{◌≡◌, refl, ◌∙◌}
use mathlib.Core.Bool.{Bool, true, false, cond, ◌&&◌, and-true}
use mathlib.Core.List.{List, [], ◌∷◌, ◌++◌}
use Prim.Native.Nat.{ℕ, suc, pred, ◌+◌, ◌≤◌, ◌<◌}
use native.Mathlib.Omega.{arith}
use lib.Dec.{leb}
use lib.ListN.{length, length-append}
use borrow.Author.Tests.{le-leb}
use lib.Ieee.Bits.{is_true}
use Rattle.store.specs.Below.Lists.{total, all}
use Rattle.store.specs.Below.ListLaws.{total-append, total-set, all-total, failing}
use Rattle.store.specs.Below.Limits as limit
use Rattle.store.specs.Below.Program.{Arg}
use Rattle.store.specs.Below.LanguageValues.{Component, Record, File, Store, State, chars, empty_file}
use Rattle.store.specs.Below.LanguageValues.Component.{word, address}
use Rattle.store.specs.Below.MachineArguments.{place, use_by, at, expr, file_of, records}
use Rattle.store.specs.Below.Changes.{with_exprs, with_files, with_plus, with_outputs, put, put_expr, minus_unless, placed, into, printed, stamped, stored, held, recorded, fits}
use Rattle.store.proofs.Below.ChangeLaws.{placed_total}
use Rattle.store.proofs.Below.SumLaws.{held-put_expr, recorded-put_expr, outputs-put}
use Rattle.store.specs.Below.LayoutBounds.{Each, Ok, RecordOk, FileOk, Fine}
use Rattle.store.specs.Below.LayoutMemory.{components_held, chars_held, records_held}
use Rattle.state.specs.Working.{turned, filed, char_count}
use Rattle.state.specs.Limited.{short_word, short_outputs, Limited}
use Rattle.state.proofs.Sequences.{total-ones, total-same, turned-total}
use Rattle.state.proofs.Ties.{stored_is}

-- ---- a fine state is within the limits

abbrev overlong : Component → ℕ
overlong x = failing short_word x

passes : (b : Bool) → b ≡ true → ◌≡◌ {A = ℕ} (cond b 0 1) 0
passes b q = rw q

ok-short : (x : Component) → Ok x → overlong x ≡ 0
ok-short (word w) h = passes (leb (length w) limit.word) (le-leb (length w) limit.word h.1)
ok-short (Component.number z) h = refl
ok-short (address n) h = refl

module _ {X : Type 0} (f : X → ℕ) (P : X → Type 0) (z : (x : X) → P x → f x ≡ 0) where
  none_of : (xs : List X) → Each P xs → total f xs ≡ 0
  none_of [] h = refl
  none_of (x ∷ xs) h = omega (arith, z x h.0, none_of xs h.1)

pub oks-short : (xs : List Component) → Each Ok xs → total overlong xs ≡ 0
oks-short xs h = none_of overlong Ok ok-short xs h

records-short : (rs : List Record) → Each RecordOk rs → total (λ r. total overlong r.parts) rs ≡ 0
records-short rs h = none_of (λ r. total overlong r.parts) RecordOk (λ r k. oks-short r.parts k.parts_ok) rs h

file-short : (f : File) → FileOk f → total (λ r. total overlong r.parts) (records f) ≡ 0
file-short f h =
    omega (
      arith,
      total-append (λ r. total overlong r.parts) f.before f.after,
      records-short f.before h.before_ok,
      records-short f.after h.after_ok,
    )

short-all : (os : List (List ℕ)) → Each (λ q. length q ≤ limit.output) os → all (λ q. leb (length q) limit.output) os ≡ true
short-all [] h = refl
short-all (q ∷ os) h = rw (le-leb (length q) limit.output h.0) (short-all os h.1)

pub fine-limited : (s : State) → Fine s → Limited s.store
unfolding held
fine-limited s f =
    let e = none_of (total overlong) (Each Ok) oks-short s.store.exprs f.exprs_ok in
    let r = none_of (λ g. total (λ r. total overlong r.parts) (records g)) FileOk file-short s.store.files f.files_ok in
    let o = short-all s.store.outputs f.outputs_ok in
    record {
      exprs_is = f.exprs_is;
      files_is = f.files_is;
      outputs_is = f.outputs_is;
      components_most = f.components_most;
      chars_most = f.chars_most;
      words_short = omega (arith, e, r);
      records_most = f.records_most;
      outputs_short = rw o tt;
    }

-- ---- the five tests

last_two : (b : Bool) → (b && true && true) ≡ b
last_two true = refl
last_two false = refl

middle : (a b : Bool) → (a && true && b && true) ≡ (a && b)
middle true true = refl
middle true false = refl
middle false b = refl

fits-as : (t : Store) {c d o r : ℕ} {b : Bool} → components_held t ≡ c → chars_held t ≡ d → held overlong t ≡ o → records_held t ≡ r → short_outputs t ≡ b
    → fits t ≡ (leb c limit.components && leb d limit.characters && leb o 0 && leb r limit.records && b)
unfolding fits
fits-as t pc pd po pr pb = rw (pc, pd, po, pr, pb)

pub fits-limited : {s : Store} → Limited s → fits s ≡ true
fits-limited {s} h =
    fits-as s refl refl h.words_short refl (is_true (short_outputs s) h.outputs_short)
    ∙ rw (le-leb (components_held s) limit.components h.components_most, le-leb (chars_held s) limit.characters h.chars_most, le-leb (records_held s) limit.records h.records_most)

-- H is not counted
pub fits-plus : (b : Bool) (s : Store) → fits (with_plus b s) ≡ fits s
unfolding fits held recorded with_plus
fits-plus b s = refl

pub fits-minus_unless : (b : Bool) (s : Store) → fits (minus_unless b s) ≡ fits s
unfolding minus_unless
fits-minus_unless b s = fits-plus (b && s.plus) s

-- ---- components written

module _ (a : Arg) (s : Store) (l : pred (place a) < length s.exprs) (xs : List Component) where
  pub held-into : (g : Component → ℕ) → held g (into a xs s) ≡ held g s + total g xs
  unfolding into
  held-into g = omega (arith, held-put_expr a s g (placed (use_by a) xs (expr s a)) l, placed_total g (use_by a) xs (expr s a))

  pub recorded-into : (g : Record → ℕ) → recorded g (into a xs s) ≡ recorded g s
  unfolding into
  recorded-into g = recorded-put_expr a s g (placed (use_by a) xs (expr s a))

  outputs-into : short_outputs (into a xs s) ≡ short_outputs s
  unfolding into put_expr with_exprs
  outputs-into = refl

  module _ (h : Limited s) where
    pub fits-into : fits (into a xs s)
        ≡ (leb (components_held s + length xs) limit.components && leb (chars_held s + char_count xs) limit.characters && all short_word xs)
    fits-into =
        let c : components_held (into a xs s) ≡ components_held s + length xs = omega (arith, held-into (λ x. 1), total-ones xs) in
        let o : held overlong (into a xs s) ≡ total overlong xs = omega (arith, held-into overlong, h.words_short) in
        fits-as (into a xs s) c (held-into (λ x. length (chars x))) o (recorded-into (λ r. 1)) (outputs-into ∙ is_true (short_outputs s) h.outputs_short)
        ∙ rw (← all-total short_word xs, le-leb (records_held s) limit.records h.records_most) (last_two (leb (components_held s + length xs) limit.components && leb (chars_held s + char_count xs) limit.characters && all short_word xs))

    pub fits-into-ok : Each Ok xs
        → fits (into a xs s) ≡ (leb (components_held s + length xs) limit.components && leb (chars_held s + char_count xs) limit.characters)
    fits-into-ok k = let q : all short_word xs ≡ true = all-total short_word xs ∙ rw (oks-short xs k) in
        fits-into ∙ rw q (and-true (leb (components_held s + length xs) limit.components && leb (chars_held s + char_count xs) limit.characters))

-- ---- characters written

module _ (a : Arg) (s : Store) (l : pred (place a) < length s.outputs) (w : List ℕ) (h : Limited s) where
  held-printed : (g : Component → ℕ) → held g (printed a w s) ≡ held g s
  unfolding held printed with_outputs
  held-printed g = refl

  recorded-printed : (g : Record → ℕ) → recorded g (printed a w s) ≡ recorded g s
  unfolding recorded printed with_outputs
  recorded-printed g = refl

  outputs-printed : short_outputs (printed a w s) ≡ leb (length (at [] s.outputs a) + length w) limit.output
  unfolding printed with_outputs
  outputs-printed = outputs-put a s (at [] s.outputs a ++ w) h.outputs_short l ∙ rw (length-append (at [] s.outputs a) w)

  pub fits-printed : fits (printed a w s) ≡ leb (length (at [] s.outputs a) + length w) limit.output
  fits-printed =
      fits-as (printed a w s) (held-printed (λ x. 1)) (held-printed (λ x. length (chars x))) (held-printed overlong ∙ h.words_short)
      (recorded-printed (λ r. 1)) outputs-printed
      ∙ rw (le-leb (components_held s) limit.components h.components_most, le-leb (chars_held s) limit.characters h.chars_most, le-leb (records_held s) limit.records h.records_most)

-- ---- records written

pub filed-total : (g : Record → ℕ) (b : Bool) (rs : List Record) (f : File) → total g (records (filed b rs f)) ≡ total g (records f) + total g rs
filed-total g true rs f =
    omega (arith, total-append g f.before (rs ++ f.after), total-append g rs f.after, total-append g f.before f.after)
filed-total g false rs f =
    omega (arith, total-append g (f.before ++ rs) f.after, total-append g f.before rs, total-append g f.before f.after)

stamped-parts : (g : List Component → ℕ) (n : ℕ) (xs : List (List Component)) → total (λ r. g r.parts) (stamped n xs) ≡ total g xs
unfolding stamped
stamped-parts g n [] = refl
stamped-parts g n (x ∷ xs) = omega (arith, stamped-parts g (suc n) xs)

module _ (a : Arg) (s : Store) (l : pred (place a) < length s.files) (xs : List (List Component)) where
  abbrev turns : Bool
  turns = (use_by a).reverses

  abbrev new : List Record
  new = turned turns (stamped s.last xs)

  files-then : (g : Record → ℕ)
      → total (λ f. total g (records f)) (put s.files a (filed turns new (file_of s a))) ≡ total (λ f. total g (records f)) s.files + total g (stamped s.last xs)
  files-then g =
      omega (
        arith,
        total-set (λ f. total g (records f)) empty_file s.files (pred (place a)) (filed turns new (file_of s a)) l,
        filed-total g turns new (file_of s a),
        turned-total g turns (stamped s.last xs),
      )

  pub held-stored : (g : Component → ℕ) → held g (stored a xs s) ≡ held g s + total (total g) xs
  unfolding held with_files
  held-stored g = rw (stored_is a xs s) (omega (arith, files-then (λ r. total g r.parts), stamped-parts (total g) s.last xs))

  pub recorded-stored : records_held (stored a xs s) ≡ records_held s + length xs
  unfolding recorded with_files
  recorded-stored = rw (stored_is a xs s) (omega (arith, files-then (λ r. 1), stamped-parts (λ x. 1) s.last xs, total-ones xs))

  outputs-stored : short_outputs (stored a xs s) ≡ short_outputs s
  unfolding stored with_files
  outputs-stored = refl

  -- components that a store may hold
  pub fits-stored : Limited s → Each (Each Ok) xs
      → fits (stored a xs s)
      ≡ (leb (components_held s + total length xs) limit.components && leb (chars_held s + total char_count xs) limit.characters
      && leb (records_held s + length xs) limit.records)
  fits-stored h k =
      let c : components_held (stored a xs s) ≡ components_held s + total length xs =
      omega (arith, held-stored (λ x. 1), total-same (total (λ x. 1)) length total-ones xs) in
      let o : held overlong (stored a xs s) ≡ 0 = omega (arith, held-stored overlong, h.words_short, none_of (total overlong) (Each Ok) oks-short xs k) in
      fits-as (stored a xs s) c (held-stored (λ x. length (chars x))) o recorded-stored (outputs-stored ∙ is_true (short_outputs s) h.outputs_short)
      ∙ middle (leb (components_held s + total length xs) limit.components && leb (chars_held s + total char_count xs) limit.characters)
      (leb (records_held s + length xs) limit.records)
