-- One argument and one entry after the other.
use mathlib.Core.Path.{◌≡◌, refl, sym, ap, ◌∙◌, subst}
use mathlib.Core.Bool.{cond, true≢false}
use mathlib.Core.List.{List}
use Prim.Native.Nat.{ℕ, zero, suc, ◌+◌, ◌*◌, ◌/◌, ◌%◌, ◌≤◌, ◌<◌}
use native.Mathlib.Numerals.{add-one}
use native.Mathlib.Omega.{arith}
use lib.Dec.{eqb}
use lib.ListN.{length, get_or, set, take, length-set, length-take}
use lib.Seq.{set-get_or}
use borrow.Author.Tests.{eq-eqb, ne_eqb}
use Rattle.drafts.specs.Marks.{word_by}
use Rattle.finding.specs.Finding.{Tells}
use Rattle.language.specs.Program.{Arg, Instr, Program, no_instr, instr_at, no_entry}
use Rattle.language.specs.Program.Arg.{nothing, letter, label, switch, class, text}
use Rattle.layout.specs.ArgumentKinds.{number, IsKind}
use Rattle.layout.specs.declared.ArgumentKind.{ArgumentKind}
use Rattle.layout.specs.declared.ArgumentKind.TheVariants as kind
use Rattle.layout.specs.declared.NoKind.{NoKind}
use Rattle.std.specs.Prelude.{Result, Ok, Err}
use Rattle.layout.specs.Cells.{cell}
use Rattle.layout.specs.Table.{arg_cell, all_entries}
use Rattle.layout.specs.Places as layout
use Rattle.lists.specs.Lists.{bytes_equal}
use Rattle.lists.specs.ListLaws.{ahead-le}
use Rattle.linking.proofs.Uses.{kind_of, cell-kind, switches-most, argument_is, instruction-there}
use Rattle.linking.specs.Lookup.{label_by, switch_by, argument, Asking, AskingAt, AskingFor}
use Rattle.packed.specs.Packed.{table_of}
use Rattle.writing.proofs.Held.{entry_count, switch_count}
use Rattle.writing.proofs.Replacing.{relabelled-entries}
use Rattle.writing.proofs.Rooms.{entry_place}
use Rattle.writing.specs.Writing.{HoldsProgram, Changes, Writes, IsArg, EntryAt, with_argument, put_argument, with_entry_label, to_label}
use Rattle.linking.specs.Resolving.{all_changed, resolved_arg, argument_resolved, instr_resolved, code_resolved, entry_resolved, entries_resolved, Labelling}

-- ---- changes

pub changed-twice : {f g : Program → Program} {c d e : List ℕ} → Changes f c d → Changes g d e → Changes (λ p. g (f p)) c e
changed-twice {f} x y = record { holds = λ p h. y.holds (f p) (x.holds p h); beyond = y.beyond ∙ x.beyond }

pub changed-as : {f g : Program → Program} {c d : List ℕ} → ((p : Program) → HoldsProgram c p → f p ≡ g p) → Changes f c d → Changes g c d
changed-as {f} {g} {c} {d} e x = record { holds = λ p h. subst (HoldsProgram d) (e p h) (x.holds p h); beyond = x.beyond }

module _ (f : ℕ → Program → Program) where
  pub all_first : (c : List ℕ) → Changes (all_changed f 0) c c
  unfolding all_changed
  all_first c = record { holds = λ p h. h; beyond = refl }

  pub all-next : {c d e : List ℕ} (k : ℕ) → Changes (all_changed f k) c d → Changes (f k) d e → Changes (all_changed f (k + 1)) c e
  unfolding all_changed
  all-next k x y = changed-as (λ p h. ap (λ (j : ℕ). all_changed f j p) (sym (add-one k))) (changed-twice x y)

  pub all_done : {c d : List ℕ} (count : Program → ℕ) {n k : ℕ} → ((p : Program) → HoldsProgram c p → n ≡ count p) → n ≤ k → k ≤ n → Changes (all_changed f k) c d
      → Changes (λ p. all_changed f (count p) p) c d
  all_done count {n} {k} q u v x = changed-as (λ p h. let e : k ≡ count p = omega (arith, q p h) in ap (λ (j : ℕ). all_changed f j p) e) x

  -- what no change touches
  pub untouched : {X : Type 0} (g : Program → X) → ((k : ℕ) (p : Program) → g (f k p) ≡ g p) → (k : ℕ) (p : Program) → g (all_changed f k p) ≡ g p
  unfolding all_changed
  untouched g h zero p = refl
  untouched g h (suc k) p = h k (all_changed f k p) ∙ untouched g h k p

-- ---- an argument by its cell

-- a kind by its number
abbrev kind_by : ℕ → ArgumentKind
kind_by n =
    cond (eqb n 1) kind.Letter (cond (eqb n 2) kind.Label (cond (eqb n 3) kind.Switch (cond (eqb n 4) kind.Class (cond (eqb n 5) kind.Text (cond (eqb n 6) kind.Number kind.Nothing)))))

kind-back : (a : ArgumentKind) → kind_by (number a) ≡ a
kind-back kind.Nothing = refl
kind-back kind.Letter = refl
kind-back kind.Label = refl
kind-back kind.Switch = refl
kind-back kind.Class = refl
kind-back kind.Text = refl
kind-back kind.Number = refl

resolved-by-kind : (s sw : List ℕ) (p : Program) (a : Arg) → resolved_arg s sw p a
    ≡ cond (eqb (kind_of a) 2) (label (label_by s p (arg_cell p a / 8))) (cond (eqb (kind_of a) 3) (switch (switch_by s sw (length p.switches) (arg_cell p a / 8))) a)
resolved-by-kind s sw p nothing = refl
resolved-by-kind s sw p (letter l n) = refl
resolved-by-kind s sw p (label m) = ap (λ (v : ℕ). label (label_by s p v)) (let z : m ≡ (2 + 8 * m) / 8 = omega arith in z)
resolved-by-kind s sw p (switch m) = ap (λ (v : ℕ). switch (switch_by s sw (length p.switches) v)) (let z : m ≡ (3 + 8 * m) / 8 = omega arith in z)
resolved-by-kind s sw p (class cs) = refl
resolved-by-kind s sw p (text t) = refl
resolved-by-kind s sw p (Arg.number z) = refl

same-argument : (j : ℕ) (i : Instr) → put_argument j (argument j i) i ≡ i
same-argument zero i = refl
same-argument (suc zero) i = refl
same-argument (suc (suc j)) i = refl

with-same : (k j : ℕ) (p : Program) → with_argument k j (argument j (instr_at p k)) p ≡ p
unfolding with_argument
with-same k j p =
    let e : set p.code k (put_argument j (argument j (instr_at p k)) (instr_at p k)) ≡ p.code =
    ap (set p.code k) (same-argument j (instr_at p k)) ∙ set-get_or p.code k no_instr in
    λ i. record { code = e i; labels = p.labels; switches = p.switches; texts = p.texts; numbers = p.numbers }

module _ (s sw c : List ℕ) (k j x : ℕ) (a : AskingFor c k j) (is : x ≡ cell (table_of c) (1 + j + (layout.first_instruction + 4 * k))) where
  becomes : (p : Program) → HoldsProgram c p → resolved_arg s sw p (argument j (instr_at p k))
      ≡ cond (eqb (x % 8) 2) (label (label_by s p (x / 8))) (cond (eqb (x % 8) 3) (switch (switch_by s sw (length p.switches) (x / 8))) (argument j (instr_at p k)))
  becomes p h =
      let b : Arg = argument j (instr_at p k) in
      let e : arg_cell p b ≡ x = sym (argument_is c k j x (instruction-there a.at) a.place is p h) in
      let f : kind_of b ≡ x % 8 = sym (cell-kind p b) ∙ ap (λ (y : ℕ). y % 8) e in
      resolved-by-kind s sw p b
      ∙ (λ i. cond (eqb (f i) 2) (label (label_by s p (e i / 8))) (cond (eqb (f i) 3) (switch (switch_by s sw (length p.switches) (e i / 8))) b))

  put : {d : List ℕ} (n : ℕ) (y : Arg) → ((p : Program) → IsArg n y p) → ((p : Program) → HoldsProgram c p → y ≡ resolved_arg s sw p (argument j (instr_at p k)))
      → Writes (IsArg n) (with_argument k j) c d → Changes (argument_resolved s sw k j) c d
  unfolding argument_resolved
  put {d} n y i r w =
      record { holds = λ p h. subst (λ (z : Arg). HoldsProgram d (with_argument k j z p)) (r p h) (w.holds y p h (i p)); beyond = w.beyond }

  pub label-put : {d : List ℕ} (v : ℕ) → x % 8 ≡ 2 → Tells c (λ p. label_by s p (x / 8)) 128 v → Writes (IsArg (2 + 8 * v)) (with_argument k j) c d
      → Changes (argument_resolved s sw k j) c d
  label-put v e t w =
      put (2 + 8 * v) (label v) (λ p. record { is = refl; kept = tt }) (λ p h. ap label (t.is p h) ∙ sym (rw (eq-eqb (x % 8) 2 e) at (becomes p h))) w

  pub switch-put : {d : List ℕ} (n v : ℕ) → x % 8 ≡ 3 → n ≡ cell (table_of c) 2 → v ≡ switch_by s sw n (x / 8) → Writes (IsArg (3 + 8 * v)) (with_argument k j) c d
      → Changes (argument_resolved s sw k j) c d
  switch-put n v e c_is t w =
      put (3 + 8 * v) (switch v) (λ p. record { is = refl; kept = tt })
      (λ p h. ap switch (t ∙ ap (λ (n : ℕ). switch_by s sw n (x / 8)) (c_is ∙ switch_count c p h))
      ∙ sym (rw (ne_eqb (x % 8) 2 (λ f. omega (arith, e, f)), eq-eqb (x % 8) 3 e) at (becomes p h))) w

  none-put : (x % 8 ≡ 2 → ⊥) → (x % 8 ≡ 3 → ⊥) → Changes (argument_resolved s sw k j) c c
  unfolding argument_resolved
  none-put e f =
      record {
        holds = λ p h. subst (HoldsProgram c)
            (sym (with-same k j p) ∙ ap (λ (y : Arg). with_argument k j y p) (sym (rw (ne_eqb (x % 8) 2 e, ne_eqb (x % 8) 3 f) at (becomes p h)))) h;
        beyond = refl;
      }

  -- neither a label nor a switch, by the kind of the cell
  pub none-kind : {r : Result ArgumentKind NoKind} → IsKind (x % 8) r → (r ≡ Ok kind.Label → ⊥) → (r ≡ Ok kind.Switch → ⊥) → Changes (argument_resolved s sw k j) c c
  none-kind {r} i l w = none-put (λ e. other r i 2 e (omega arith) kind.Label refl l) (λ e. other r i 3 e (omega arith) kind.Switch refl w)
    where
      same : (a b : ArgumentKind) → number a ≡ number b → a ≡ b
      same a b e = sym (kind-back a) ∙ ap kind_by e ∙ kind-back b

      other : (o : Result ArgumentKind NoKind) → IsKind (x % 8) o → (n : ℕ) → x % 8 ≡ n → n < 7 → (a : ArgumentKind) → number a ≡ n → (o ≡ Ok a → ⊥) → ⊥
      other (Ok b) i n e m a q f = f (ap Ok (same b a (i.number_is ∙ e ∙ sym q)))
      other (Err b) i n e m a q f = true≢false (sym (i.some (omega (arith, e, m))))

-- what a search for a switch answers is small
pub switch-low : {c : List ℕ} (s sw : List ℕ) (n m v : ℕ) → Asking c → n ≡ cell (table_of c) 2 → v ≡ switch_by s sw n m → v ≤ 32
switch-low s sw n m v a e f =
    omega (arith, f, ahead-le (λ x. bytes_equal (word_by s m) (word_by s x)) (take n sw), length-take n sw, switches-most n a e)

-- ---- instructions

pub asking-after : {f : Program → Program} {c d : List ℕ} {k : ℕ} → ((p : Program) → length (f p).code ≡ length p.code) → AskingAt c k → Changes f c d → AskingAt d k
asking-after {f} e a x =
    let p : Program = a.asking.program in
    record { asking = record { program = f p; holds = x.holds p a.asking.holds }; there = omega (arith, a.there, e p) }

module _ (s sw : List ℕ) where
  pub argument-long : (k j : ℕ) (p : Program) → length (argument_resolved s sw k j p).code ≡ length p.code
  unfolding argument_resolved with_argument
  argument-long k j p = length-set p.code k _

  pub arguments-long : (k j : ℕ) (p : Program) → length (all_changed (argument_resolved s sw k) j p).code ≡ length p.code
  arguments-long k = untouched (argument_resolved s sw k) (λ p. length p.code) (argument-long k)

  -- all three arguments
  pub all-three : {c d : List ℕ} (k : ℕ) → Changes (all_changed (argument_resolved s sw k) 3) c d → Changes (instr_resolved s sw k) c d
  unfolding all_changed
  all-three k x = x

  pub code-long : (k : ℕ) (p : Program) → length (code_resolved s sw k p).code ≡ length p.code
  code-long =
      untouched (instr_resolved s sw) (λ p. length p.code)
      (λ k q. argument-long k 2 (argument_resolved s sw k 1 (argument_resolved s sw k 0 q)) ∙ argument-long k 1 (argument_resolved s sw k 0 q) ∙ argument-long k 0 q)

-- ---- entries

module _ (s en : List ℕ) where
  entry-long : (k : ℕ) (p : Program) → length (all_entries (entry_resolved s en k p)) ≡ length (all_entries p)
  unfolding with_entry_label
  entry-long k p =
      let m : ℕ = label_by s p (get_or en k 0) in
      ap length (sym (relabelled-entries k m p.switches)) ∙ length-set (all_entries p) k (to_label m (get_or (all_entries p) k no_entry))

  pub entries-long : (k : ℕ) (p : Program) → length (all_entries (entries_resolved s en k p)) ≡ length (all_entries p)
  entries-long = untouched (entry_resolved s en) (λ p. length (all_entries p)) entry-long

  pub entries-same : (k : ℕ) (p : Program) (m : ℕ) → label_by s (entries_resolved s en k p) m ≡ label_by s p m
  unfolding with_entry_label
  entries-same k p m = untouched (entry_resolved s en) (λ p. label_by s p m) (λ k p. refl) k p

  pub entry-put : {c d : List ℕ} (k x v : ℕ) → x ≡ get_or en k 0 → Tells c (λ p. label_by s p x) 128 v → Changes (with_entry_label k v) c d → Changes (entry_resolved s en k) c d
  entry-put k x v e t w = changed-as (λ p h. ap (λ (m : ℕ). with_entry_label k m p) (t.is p h ∙ ap (label_by s p) e)) w

  module _ {c : List ℕ} (n k : ℕ) (is : n ≡ cell (table_of c) 3) where
    module _ (a : Labelling s c en) (l : k < n) where
      low-entry : k < length (all_entries a.program)
      low-entry = omega (arith, is, entry_count c a.program a.holds)

      pub entry_ready : {d : List ℕ} (x v : ℕ) → x ≡ get_or en k 0 → Changes (entries_resolved s en k) c d → Tells d (λ p. label_by s p x) 128 v → EntryAt d k v
      entry_ready {d} x v e y t =
          let p : Program = a.program in
          let q : Program = entries_resolved s en k p in
          let h : HoldsProgram d q = y.holds p a.holds in
          let m : v ≡ label_by s p (get_or en k 0) = t.is q h ∙ ap (label_by s q) e ∙ entries-same k p (get_or en k 0) in
          entry_place d q h k v (omega (arith, entries-long k p, low-entry)) (omega (arith, m, a.low k low-entry))
