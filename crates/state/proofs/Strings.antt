-- The strings of a state after a change of it: those of what is changed are set.
use mathlib.Core.Path.{◌≡◌, refl, sym, ap, ◌∙◌}
use mathlib.Core.List.{List, [], ◌∷◌, ◌++◌, map, append_assoc}
use Prim.Native.Nat.{ℕ, zero, suc, ◌+◌, ◌*◌, ◌<◌}
use native.Mathlib.Nat.{suc-add, zero-add}
use native.Mathlib.Omega.{arith}
use lib.ListN.{length, set, length-set, length-append, length-map}
use lib.Seq.{set-append_left, map-set}
use Rattle.store.specs.Below.Lists.{each}
use Rattle.store.specs.Below.Limits as limit
use Rattle.store.specs.Below.LanguageValues.{Component, File, State}
use Rattle.store.specs.Below.Changes.{with_exprs, with_files, with_outputs}
use Rattle.store.specs.Below.LayoutCells.{two}
use Rattle.store.proofs.Below.LayoutCellLaws.{twice, twice-one}
use Rattle.store.specs.Below.Components.{components_bytes, records_bytes}
use Rattle.store.specs.Below.LayoutMemory.{file_strings, strings}
use Rattle.store.proofs.Below.MemoryLaws.{length-file_strings}
use Rattle.store.specs.Below.LayoutPlaces as layout
use Rattle.store.specs.Below.LayoutPlaces.{before_string, after_string, output_string, stack_string}
use Rattle.state.specs.Working.{on_store}

set_append_right : {X : Type 0} (xs ys : List X) (k i : ℕ) (y : X) → length xs ≡ k → set (xs ++ ys) (k + i) y ≡ xs ++ set ys i y
set_append_right [] ys k i y h = rw (sym h) (ap (λ n. set ys n y) (zero-add i))
set_append_right (x ∷ xs) ys k i y h =
    rw (sym h, suc-add (length xs) i) (ap (λ (l : List _). x ∷ l) (set_append_right xs ys (length xs) i y refl))

-- string i of a file's two strings
set-file_strings : (fs : List File) (i : ℕ) (g : File)
    → file_strings (set fs i g) ≡ set (set (file_strings fs) (2 * i) (records_bytes g.before)) (2 * i + 1) (records_bytes g.after)
unfolding file_strings
set-file_strings [] i g = refl
set-file_strings (f ∷ fs) zero g = refl
set-file_strings (f ∷ fs) (suc i) g =
    rw (twice-one i, twice i)
    (ap (λ (l : List (List ℕ)). records_bytes f.before ∷ records_bytes f.after ∷ l) (set-file_strings fs i g))

module _ (s : State) (es : length s.store.exprs ≡ limit.expressions) (fs : length s.store.files ≡ limit.files) where
  abbrev expr_strings : List (List ℕ)
  expr_strings = map components_bytes s.store.exprs

  abbrev both_strings : List (List ℕ)
  both_strings = file_strings s.store.files

  abbrev last_strings : List (List ℕ)
  last_strings = each two s.stack ∷ s.store.outputs

  exprs-long : length expr_strings ≡ 32
  exprs-long = length-map s.store.exprs components_bytes ∙ es

  files-long : length both_strings ≡ 64
  files-long = rw (length-file_strings, fs)

  -- expression i becomes xs
  pub strings-expr : (i : ℕ) (xs : List Component) → i < limit.expressions
      → strings (on_store (with_exprs (set s.store.exprs i xs)) s) ≡ set (strings s) i (components_bytes xs)
  unfolding strings on_store with_exprs
  strings-expr i xs h =
      rw (map-set components_bytes s.store.exprs i xs)
      (sym (set-append_left expr_strings (both_strings ++ last_strings) i (components_bytes xs) (rw exprs-long h)))

  -- file i becomes g, and the last address m
  pub strings-file : (i : ℕ) (g : File) (m : ℕ) → i < limit.files
      → strings (on_store (with_files (set s.store.files i g) m) s)
      ≡ set (set (strings s) (before_string i) (records_bytes g.before)) (after_string i) (records_bytes g.after)
  unfolding strings on_store with_files
  strings-file i g m h =
      let b : List ℕ = records_bytes g.before in
      let a : List ℕ = records_bytes g.after in
      let h0 : 2 * i < length both_strings = omega (arith, files-long) in
      let h1 : 2 * i + 1 < length (set both_strings (2 * i) b) = simp length-set (omega (arith, files-long)) in
      rw (set-file_strings s.store.files i g)
      (sym (ap (λ (l : List (List ℕ)). set l (after_string i) a) (set_append_right expr_strings (both_strings ++ last_strings) 32 (2 * i) b exprs-long)
      ∙ set_append_right expr_strings (set (both_strings ++ last_strings) (2 * i) b) 32 (2 * i + 1) a exprs-long
      ∙ ap (λ (l : List (List ℕ)). expr_strings ++ l)
      (ap (λ (l : List (List ℕ)). set l (2 * i + 1) a) (set-append_left both_strings last_strings (2 * i) b h0)
      ∙ set-append_left (set both_strings (2 * i) b) last_strings (2 * i + 1) a h1)))

  -- behind the variables
  set_last : (k : ℕ) (v : List ℕ) → set (strings s) (layout.stack_string + k) v ≡ expr_strings ++ (both_strings ++ set last_strings k v)
  unfolding strings
  set_last k v =
      let h : length (expr_strings ++ both_strings) ≡ layout.stack_string = simp length-append (omega (arith, exprs-long, files-long)) in
      rw (← append_assoc expr_strings both_strings last_strings, ← append_assoc expr_strings both_strings (set last_strings k v))
      (set_append_right (expr_strings ++ both_strings) last_strings layout.stack_string k v h)

  -- output k becomes w
  pub strings-output : (k : ℕ) (w : List ℕ)
      → strings (on_store (with_outputs (set s.store.outputs k w)) s) ≡ set (strings s) (output_string k) w
  unfolding strings on_store with_outputs
  strings-output k w = let n : output_string k ≡ layout.stack_string + suc k = omega arith in rw n (sym (set_last (suc k) w))

  -- the stack becomes st
  pub strings-stack : (n : ℕ) (st : List ℕ)
      → strings (record { store = s.store; next = n; stack = st }) ≡ set (strings s) stack_string (each two st)
  unfolding strings
  strings-stack n st = sym (set_last 0 (each two st))
