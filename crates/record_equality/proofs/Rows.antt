-- The row of RZ, and that its function does what it says.
use mathlib.Core.Path.{◌≡◌, refl, sym, ap, ◌∙◌}
use mathlib.Core.Bool.{Bool, true, false, cond}
use mathlib.Core.List.{List}
use Prim.Native.Nat.{ℕ}
use lib.ListN.{length, take}
use Rattle.lists.specs.Lists.{any, filled, same_list}
use Rattle.std.specs.Prelude.{Result, Ok, Err}
use Rattle.language.specs.Letters.Letter.{P}
use Rattle.language.specs.Program.{Arg, Program}
use Rattle.language.specs.Program.Arg.{nothing}
use Rattle.language.specs.Program.Op.{RZ}
use Rattle.language.specs.Values.{Component, Record, Store, State, Inputs, same}
use Rattle.machine.specs.Arguments.{use_by, expr, file_of, next_parts, side, is_count, is_whole, single, matches, taken}
use Rattle.machine.specs.Changes.{minus_unless, used_by, used}
use Rattle.machine.specs.Effects.{relation, equality, row}
use Rattle.machine.specs.Effects.Go.{on}
use Rattle.layout.specs.Bounds.{Encoded}
use Rattle.layout.proofs.ComponentLaws.{components-of, whole-components}
use Rattle.layout.specs.Components.{components_in, records_in}
use Rattle.filing.specs.Files.{RecordsLent}
use Rattle.matching.specs.Tests.{Took}
use Rattle.matching.specs.declared.Taken.{Taken}
use Rattle.packed.specs.Packed.{table_of}
use Rattle.records.specs.Places.{Part, next_contents}
use Rattle.state.specs.Working.{HoldsState, Stands, on_store, nth}
use Rattle.table.specs.Denote.{arg_of}
use Rattle.table.specs.declared.Argument.{Argument}
use Rattle.instructions.specs.Questions.{question_number}
use Rattle.instructions.specs.declared.Question.{Question}
use Rattle.instructions.specs.Does.{DoesFor}
use Rattle.comparands.specs.Offers.{ArgumentOffers}
use Rattle.equality.specs.Equality.{until_by, OtherArgument, Unlike}
use Rattle.equality.proofs.Meeting.{met}
use Rattle.equality.proofs.Questions.{equal_by, kinds_alike, numeric, beside, related-none, related-stop, related-unlike, related-done}
use Rattle.comparands.proofs.Below.Signs.{kept-or-minus}
use Rattle.record_equality.specs.RecordEquality.{NextLent, Meets}
use Rattle.record_equality.proofs.Wholes.{all-offered}

-- ---- what is read

pub next-lent : (s : Store) (i : ℕ) {f x : List ℕ} → RecordsLent (file_of s (nth P i)).after f → Part f (next_contents (records_in f)) x → NextLent s i x
next-lent s i l k =
    record { whole = whole-components k.cells; is = components-of k.cells ∙ ap (λ (rs : List Record). next_contents rs) l.is }

-- by the first component of the record
pub meets-first : (a : Argument) (x g : List ℕ) {y : List ℕ} {w : Bool} {t : Taken} → ((c : List ℕ) → w ≡ is_whole (use_by (arg_of c a)).reading) → w ≡ false
    → Part x (take 1 (components_in x)) y → Took (until_by a g) (components_in y) t → Meets x g a t.reached
meets-first a x g {y} {t = t} h f k m c =
    let q : (taken (until_by a g) (take 1 (components_in x))).1 ≡ t.reached =
    ap (λ (ys : List Component). (taken (until_by a g) ys).1) (sym (components-of k.cells))
    ∙ ap (λ (u : ℕ × Bool). u.1) m.is in
    rw (sym (h c) ∙ f) (sym q)

-- ---- the row

module _ (g : Program) (ins : Inputs) (s : Store) (i : ℕ) (b : Arg) where
  abbrev next : List Component
  next = next_parts (file_of s (nth P i))

  abbrev holds : Bool
  holds = cond (is_whole (use_by b).reading) (same_list same next (expr s b)) (any (matches (λ x. x) ins s b) (take 1 next))

  row-rz : row g ins s (nth P i) b nothing RZ
      ≡ (
        equal_by (single b) (is_count (use_by b).reading) (filled (take 1 next)) (filled (side ins s b)) (kinds_alike (take 1 next) (side ins s b)) (numeric (side ins s b)),
        minus_unless holds s,
        on,
      )
  unfolding row equality relation used used_by
  row-rz =
      ap (λ (t : Store). (equal_by (single b) (is_count (use_by b).reading) (filled (take 1 next)) (filled (side ins s b)) (kinds_alike (take 1 next) (side ins s b)) (numeric (side ins s b)), t, on))
      (kept-or-minus holds s)

-- ---- RZ

module _ {σ : State} (h : Stands σ) (i : ℕ) (c : List ℕ) (a : Argument) {g : List ℕ} {r : Result ℕ Question}
    (o : ArgumentOffers c σ.store a g r) {x : List ℕ} (l : NextLent σ.store i x) where
  abbrev s : Store
  s = σ.store

  abbrev b : Arg
  b = arg_of (table_of c) a

  abbrev does : ℕ → State → Type 0
  does k σ' = DoesFor σ k σ' (λ f ins. row f ins s (nth P i) b nothing RZ)

  abbrev t : Program → Inputs → Store
  t f ins = minus_unless (holds f ins s i b) s

  front : take 1 (next_parts (file_of s (nth P i))) ≡ take 1 (components_in x)
  front = ap (take 1) (sym l.is)

  pub rz-none : length x ≡ 0 → does 52 σ
  rz-none z f ins = rw (row-rz f ins s i b) (related-none h c a o l.whole front ins (t f ins) z)

  module _ (z : length x ≡ 0 → ⊥) where
    pub rz-stop : {k : Question} → r ≡ Err k → does (question_number k) σ
    rz-stop y f ins = rw (row-rz f ins s i b) (related-stop h c a o l.whole front ins (t f ins) z y)

    module _ {n : ℕ} (y : r ≡ Ok n) {u : Bool} (w : Unlike x (take n g) a u) where
      pub rz-unlike : u ≡ true → does 53 σ
      rz-unlike v f ins = rw (row-rz f ins s i b) (related-unlike h c a o l.whole front ins (t f ins) z y w v)

      -- what is told of the bytes is what the row asks
      holds-is : OtherArgument a → (f : Program) (ins : Inputs) {m : Bool} → Meets x (take n g) a m → m ≡ holds f ins s i b
      holds-is k f ins d = d (table_of c) ∙ go (is_whole (use_by b).reading) refl
        where
          e : Encoded (take n g) (side ins s b)
          e = (beside (o ins) y).encoded

          go : (v : Bool) → is_whole (use_by b).reading ≡ v
              → cond (is_whole (use_by b).reading) (same_list same (components_in x) (components_in (take n g))) (taken (until_by a (take n g)) (take 1 (components_in x))).1
              ≡ holds f ins s i b
          go true v = rw (v, l.is, components-of e, all-offered (table_of c) a ins s k v) refl
          go false v = rw (v, ← front) (met (table_of c) a ins s (take n g) (take 1 (next_parts (file_of s (nth P i)))) (components-of e))

      pub rz-done : u ≡ false → OtherArgument a → {m : Bool} → Meets x (take n g) a m → {σ' : State} → HoldsState σ' (on_store (minus_unless m) σ) → does 0 σ'
      unfolding on_store
      rz-done v k q d f ins =
          rw (row-rz f ins s i b) (related-done h c a o l.whole front ins (t f ins) z y w v (rw (holds-is k f ins q) at d))
