-- Reading past elements keeps a store within the limits; the totals after components or records are removed.
use mathlib.Core.Path.{◌≡◌, refl, ◌∙◌}
use mathlib.Core.Bool.{Bool, true, false, cond}
use mathlib.Core.List.{List, [], ◌++◌}
use Prim.Native.Nat.{ℕ, pred, ◌+◌, ◌≤◌, ◌<◌}
use native.Mathlib.Omega.{arith}
use lib.ListN.{length, get_or, take, drop, length-set}
use lib.Seq.{length-take-le}
use Rattle.store.specs.Below.Letters.Letter.{E, P}
use Rattle.store.specs.Below.Letters.{Var}
use Rattle.store.specs.Below.Letters.Var.{expression, input, output, file}
use Rattle.store.specs.Below.Program.{Arg}
use Rattle.store.specs.Below.LanguageValues.{Component, Record, File, Store, chars, empty_file}
use Rattle.store.specs.Below.Lists.{total}
use Rattle.store.specs.Below.ListLaws.{failing, total-split, total-put}
use Rattle.store.specs.Below.MachineArguments.{place, use_by, expr, file_of, records}
use Rattle.store.specs.Below.Changes.{with_exprs, with_files, with_places, put, put_expr, put_file, past_file, past_by, past, held, recorded}
pub use Rattle.store.proofs.Below.SumLaws.{removed-total}
use Rattle.store.proofs.Below.SumLaws.{passed-total, held-put_expr, recorded-put_expr, held-put_file, recorded-put_file}
use Rattle.store.specs.Below.LayoutMemory.{components_held, chars_held}
use Rattle.state.specs.Limited.{short_word, Limited}
use Rattle.state.specs.Blocks.{FirstParts}
use Rattle.state.proofs.Sequences.{total-ones}
use Rattle.state.specs.Working.{nth, reading, filing}

module _ (s : Store) (h : Limited s) where
  -- expressions that count no more
  limited-exprs : (es : List (List Component)) → length es ≡ length s.exprs
      → ((g : Component → ℕ) → total (total g) es ≤ total (total g) s.exprs) → Limited (with_exprs es s)
  unfolding with_exprs held recorded
  limited-exprs es q c =
      record {
        exprs_is = q ∙ h.exprs_is;
        files_is = h.files_is;
        outputs_is = h.outputs_is;
        components_most = omega (arith, h.components_most, c (λ x. 1));
        chars_most = omega (arith, h.chars_most, c (λ x. length (chars x)));
        words_short = omega (arith, h.words_short, c (failing short_word));
        records_most = h.records_most;
        outputs_short = h.outputs_short;
      }

  -- files that count no more
  limited-files : (fs : List File) (m : ℕ) → length fs ≡ length s.files
      → ((g : Record → ℕ) → total (λ f. total g (records f)) fs ≤ total (λ f. total g (records f)) s.files) → Limited (with_files fs m s)
  unfolding with_files held recorded
  limited-files fs m q c =
      record {
        exprs_is = h.exprs_is;
        files_is = q ∙ h.files_is;
        outputs_is = h.outputs_is;
        components_most = omega (arith, h.components_most, c (λ r. total (λ x. 1) r.parts));
        chars_most = omega (arith, h.chars_most, c (λ r. total (λ x. length (chars x)) r.parts));
        words_short = omega (arith, h.words_short, c (λ r. total (failing short_word) r.parts));
        records_most = omega (arith, h.records_most, c (λ r. 1));
        outputs_short = h.outputs_short;
      }

  limited-put_expr : (a : Arg) (xs : List Component) → ((g : Component → ℕ) → total g xs ≤ total g (expr s a)) → Limited (put_expr a xs s)
  unfolding put_expr
  limited-put_expr a xs c =
      limited-exprs (put s.exprs a xs) (length-set s.exprs (pred (place a)) xs)
      (λ g. omega (arith, c g, total-put (total g) [] refl s.exprs (pred (place a)) xs))

  limited-put_file : (a : Arg) (xs ys : List Record) → ((g : Record → ℕ) → total g (xs ++ ys) ≤ total g (records (file_of s a))) → Limited (put_file a xs ys s)
  unfolding put_file
  limited-put_file a xs ys c =
      let f : File = record { before = xs; after = ys } in
      limited-files (put s.files a f) s.last (length-set s.files (pred (place a)) f)
      (λ g. omega (arith, c g, total-put (λ f. total g (records f)) empty_file refl s.files (pred (place a)) f))

  -- H and read places
  limited-beside : (b : Bool) (ps : List ℕ)
      → Limited (record { exprs = s.exprs; files = s.files; plus = b; outputs = s.outputs; places = ps; last = s.last })
  unfolding held recorded
  limited-beside b ps =
      record {
        exprs_is = h.exprs_is;
        files_is = h.files_is;
        outputs_is = h.outputs_is;
        components_most = h.components_most;
        chars_most = h.chars_most;
        words_short = h.words_short;
        records_most = h.records_most;
        outputs_short = h.outputs_short;
      }

  -- ---- reading past

  limited-off : (b : Bool) (a : Arg) (k : ℕ) → Limited (cond b (put_expr a (drop k (expr s a)) s) s)
  limited-off true a k = limited-put_expr a (drop k (expr s a)) (λ g. omega (arith, total-split g k (expr s a)))
  limited-off false a k = h

  limited-past_file : (b : Bool) (a : Arg) (k : ℕ) → Limited (past_file b a k s)
  unfolding past_file
  limited-past_file true a k =
      let f = file_of s a in
      limited-put_file a f.before (drop k f.after) (λ g. omega (arith, removed-total g f k))
  limited-past_file false a k =
      let f = file_of s a in
      limited-put_file a (f.before ++ take k f.after) (drop k f.after) (λ g. omega (arith, passed-total g f k))

  limited-past-by : (v : Var) (a : Arg) (k : ℕ) → Limited (past_by v a k s)
  unfolding past_by with_places
  limited-past-by expression a k = limited-off (use_by a).removes a k
  limited-past-by input a k = limited-beside s.plus (put s.places a (get_or s.places (pred (place a)) 0 + k))
  limited-past-by output a k = h
  limited-past-by file a k = limited-past_file (use_by a).removes a k

  pub limited-past : (a : Arg) (k : ℕ) → Limited (past a k s)
  unfolding past
  limited-past a k = limited-past-by (use_by a).var a k

-- ---- the totals after components or records are removed, and after the pointer moves

module _ (s : Store) (i k : ℕ) where
  module _ (l : i < length s.exprs) where
    pub held-off : (g : Component → ℕ) → held g (past (nth (reading true) i) k s) + total g (take k (expr s (nth E i))) ≡ held g s
    unfolding past past_by
    held-off g = omega (arith, held-put_expr (nth (reading true) i) s g (drop k (expr s (nth E i))) l, total-split g k (expr s (nth E i)))

    pub recorded-off : (g : Record → ℕ) → recorded g (past (nth (reading true) i) k s) ≡ recorded g s
    unfolding past past_by
    recorded-off g = recorded-put_expr (nth (reading true) i) s g (drop k (expr s (nth E i)))

  module _ (l : i < length s.files) where
    abbrev f : File
    f = file_of s (nth P i)

    pub held-records-off : (g : Component → ℕ)
        → held g (past (nth (filing true) i) k s) + total (λ r. total g r.parts) (take k f.after) ≡ held g s
    unfolding past past_by past_file
    held-records-off g =
        omega (arith, held-put_file (nth (filing true) i) s g f.before (drop k f.after) l, removed-total (λ r. total g r.parts) f k)

    pub recorded-records-off : (g : Record → ℕ) → recorded g (past (nth (filing true) i) k s) + total g (take k f.after) ≡ recorded g s
    unfolding past past_by past_file
    recorded-records-off g = omega (arith, recorded-put_file (nth (filing true) i) s g f.before (drop k f.after) l, removed-total g f k)

    -- the pointer moves past them
    pub held-records-on : (g : Component → ℕ) → held g (past (nth (filing false) i) k s) ≡ held g s
    unfolding past past_by past_file
    held-records-on g =
        omega (
          arith,
          held-put_file (nth (filing false) i) s g (f.before ++ take k f.after) (drop k f.after) l,
          passed-total (λ r. total g r.parts) f k,
        )

    pub recorded-records-on : (g : Record → ℕ) → recorded g (past (nth (filing false) i) k s) ≡ recorded g s
    unfolding past past_by past_file
    recorded-records-on g =
        omega (
          arith,
          recorded-put_file (nth (filing false) i) s g (f.before ++ take k f.after) (drop k f.after) l,
          passed-total g f k,
        )

-- ---- the same by the counts that the functions are told

-- what is removed, and what is left to be held twice
pub removed-or-left : (b : Bool) (k : ℕ) → cond b k 0 + cond b 0 k ≡ k
removed-or-left true k = omega arith
removed-or-left false k = omega arith

module _ (s : Store) (i k : ℕ) (l : i < length s.exprs) {y c : ℕ} (h : FirstParts (expr s (nth E i)) k y c) where
  first_count : total (λ (x : Component). 1) (take k (expr s (nth E i))) ≡ k
  first_count = total-ones (take k (expr s (nth E i))) ∙ length-take-le k (expr s (nth E i)) h.most

  pub components-past : (b : Bool) → components_held (past (nth (reading b) i) k s) + cond b k 0 ≡ components_held s
  unfolding past past_by
  components-past true = omega (arith, held-off s i k l (λ x. 1), first_count)
  components-past false = omega arith

  pub chars-past : (b : Bool) → chars_held (past (nth (reading b) i) k s) + cond b c 0 ≡ chars_held s
  unfolding past past_by
  chars-past true = omega (arith, held-off s i k l (λ x. length (chars x)), h.chars_is)
  chars-past false = omega arith
