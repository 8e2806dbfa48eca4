-- Every change of a store keeps what a step keeps, where what it writes has no faults.
use Rattle.std.specs.Prelude.{◌≡◌, Bool, cond, ◌&&◌, ℕ, suc, pred, ◌+◌, ◌-◌, ◌≤◌, drop}
use Rattle.std.proofs.Math.Path.{refl, ap, sym}
use Rattle.std.proofs.Common.{◌∙◌, add-zero, suc-add, add-suc}
use Rattle.std.proofs.Math.Bool.{true, false}
use mathlib.Core.List.{List, [], ◌∷◌, ◌++◌, reverse}
use native.Mathlib.Omega.{arith}
use Rattle.std.proofs.Math.ListN.{length, get_or, take, length-set, length-drop}
use Rattle.language.specs.Below.Lists.{total}
use Rattle.language.specs.Below.ListLaws.{total-append, total-reverse, total-split, total-put, total-at, total_mono, total-exchange}
use Rattle.language.specs.Letters.{Var, Use}
use Rattle.language.specs.Letters.Var.{expression, input, output, file}
use Rattle.language.specs.Program.{Arg}
use Rattle.language.specs.Values.{Component, Record, File, Store, Inputs, empty_file}
use Rattle.language.specs.Values.Component.{word, address}
use Rattle.machine.specs.Arguments.{place, use_by, expr, file_of, records, unread}
use Rattle.machine.specs.Changes.{with_exprs, with_files, with_plus, with_outputs, with_places, put, put_expr, put_file, minus, minus_unless, placed, into, front, printed, stamped, stored, past_file, past_by, past, used_by, used, records_to, pointed, recorded}
use Rattle.machine.specs.WellFormed.{strange, faults, parts_faults, record_faults, overrun, store_faults}
use Rattle.machine.specs.Addresses.{equal_count, ungiven}
use Rattle.machine.specs.Keeps.{Clean, Faultless, Enough, Keeps}
use Rattle.machine.proofs.AddressLaws.{ungiven-next}
use Rattle.machine.proofs.KeepLaws.{keeps-refl}
use Rattle.machine.proofs.SumLaws.{removed-total, passed-total, overrun-set, overrun-at}

-- with more addresses given, no more are faults
faults-mono : {l m : ℕ} → l ≤ m → (x : Component) → faults m x ≤ faults l x
faults-mono h (word w) = omega arith
faults-mono h (Component.number z) = omega arith
faults-mono h (address n) = omega arith

parts-mono : {l m : ℕ} → l ≤ m → (xs : List Component) → total (faults m) xs ≤ total (faults l) xs
parts-mono {l} {m} h xs = total_mono (faults m) (faults l) (faults-mono h) xs

-- the four ways of writing add up
pub placed_total : {X : Type 0} (g : X → ℕ) (u : Use) (xs ys : List X) → total g (placed u xs ys) ≡ total g xs + total g ys
unfolding placed
placed_total g u xs ys = go u.reverses u.at_end
  where
    turned : (b : Bool) → total g (cond b (reverse xs) xs) ≡ total g xs
    turned true = total-reverse g xs
    turned false = refl

    go : (b c : Bool) → total g (cond c (ys ++ cond b (reverse xs) xs) (cond b (reverse xs) xs ++ ys)) ≡ total g xs + total g ys
    go b true = omega (arith, total-append g ys (cond b (reverse xs) xs), turned b)
    go b false = omega (arith, total-append g (cond b (reverse xs) xs) ys, turned b)

module _ (ins : Inputs) where
  store-mono : (s : Store) {l m : ℕ} → l ≤ m → store_faults ins m s ≤ store_faults ins l s
  unfolding store_faults
  store-mono s {l} {m} h =
      omega (
        arith,
        total_mono (total (faults m)) (total (faults l)) (parts-mono h) s.exprs,
        total_mono (λ f. total (record_faults m) (records f)) (λ f. total (record_faults l) (records f)) in-file s.files,
      )
    where
      in-file : (f : File) → total (record_faults m) (records f) ≤ total (record_faults l) (records f)
      in-file f = total_mono (record_faults m) (record_faults l) (λ r. omega (arith, parts-mono h r.parts)) (records f)

  -- H, outputs and read places: whatever leaves expressions, files and the last address
  beside : (s : Store) (b : Bool) (o : List (List ℕ)) (r : List ℕ) → length o ≡ length s.outputs → length r ≡ length s.places
      → (Faultless ins s → total (total strange) o + overrun r ins ≤ total (total strange) s.outputs + overrun s.places ins)
      → Keeps ins s (record { exprs = s.exprs; files = s.files; plus = b; outputs = o; places = r; last = s.last })
  unfolding store_faults recorded
  beside s b o r p q c =
      record {
        shape = record { exprs = refl; files = refl; outputs = p; places = q };
        later = omega arith;
        counts = λ n. omega arith;
        no_faults = λ h. omega (arith, c h);
      }

  pub with_plus-keeps : (b : Bool) (s : Store) → Keeps ins s (with_plus b s)
  unfolding with_plus
  with_plus-keeps b s = beside s _ _ _ refl refl (λ h. omega arith)

  pub minus-keeps : (s : Store) → Keeps ins s (minus s)
  unfolding minus
  minus-keeps s = with_plus-keeps false s

  pub minus_unless-keeps : (b : Bool) (s : Store) → Keeps ins s (minus_unless b s)
  unfolding minus_unless
  minus_unless-keeps b s = with_plus-keeps (b && s.plus) s

  pub printed-keeps : (a : Arg) (w : List ℕ) (s : Store) → total strange w ≡ 0 → Keeps ins s (printed a w s)
  unfolding printed with_outputs
  printed-keeps a w s c =
      let old = get_or s.outputs (pred (place a)) [] in
      beside s _ _ _ (length-set s.outputs (pred (place a)) (old ++ w)) refl
      (λ h. omega (arith, total-append strange old w, total-put (total strange) [] refl s.outputs (pred (place a)) (old ++ w)))

  places-within : (s : Store) (a : Arg) (k : ℕ) → Faultless ins s → k ≤ length (unread ins s a)
      → overrun (put s.places a (get_or s.places (pred (place a)) 0 + k)) ins ≡ 0
  unfolding store_faults
  places-within s a k h e =
      let n = get_or s.places (pred (place a)) 0 in
      let w = get_or ins (pred (place a)) [] in
      let inside : n - length w ≡ 0 = omega (arith, overrun-at s.places ins (pred (place a))) in
      omega (arith, overrun-set s.places ins (pred (place a)) (n + k), length-drop n w)

  -- Expressions

  pub clean-expr : (s : Store) (a : Arg) → Faultless ins s → Clean s.last (expr s a)
  unfolding store_faults
  clean-expr s a h = omega (arith, total-at (total (faults s.last)) [] refl s.exprs (pred (place a)))

  pub put_expr-keeps : (a : Arg) (xs : List Component) (s : Store) → Clean s.last xs → Keeps ins s (put_expr a xs s)
  unfolding put_expr with_exprs store_faults recorded
  put_expr-keeps a xs s c =
      record {
        shape = record { exprs = length-set s.exprs (pred (place a)) xs; files = refl; outputs = refl; places = refl };
        later = omega arith;
        counts = λ n. omega arith;
        no_faults = λ h. omega (arith, total-put (total (faults s.last)) [] refl s.exprs (pred (place a)) xs);
      }

  pub into-keeps : (a : Arg) (xs : List Component) (s : Store) → Faultless ins s → Clean s.last xs → Keeps ins s (into a xs s)
  unfolding into
  into-keeps a xs s h c = put_expr-keeps a _ s (omega (arith, placed_total (faults s.last) (use_by a) xs (expr s a), clean-expr s a h))

  pub front-keeps : (a : Arg) (xs : List Component) (s : Store) → Faultless ins s → Clean s.last xs → Keeps ins s (front a xs s)
  unfolding front
  front-keeps a xs s h c = put_expr-keeps a _ s (omega (arith, total-append (faults s.last) xs (expr s a), clean-expr s a h))

  -- Files: another file in the place of one, and perhaps more addresses given

  abbrev having : ℕ → List Record → ℕ
  having n rs = total (λ r. equal_count n r.addr) rs

  replaced-keeps : (a : Arg) (g : File) (m : ℕ) (s : Store) → s.last ≤ m
      → ((n : ℕ) → having n (records g) + ungiven m n ≤ having n (records (file_of s a)) + ungiven s.last n)
      → total (record_faults s.last) (records g) ≤ total (record_faults s.last) (records (file_of s a))
      → Keeps ins s (with_files (put s.files a g) m s)
  unfolding with_files store_faults recorded
  replaced-keeps a g m s l c e =
      record {
        shape = record { exprs = refl; files = length-set s.files (pred (place a)) g; outputs = refl; places = refl };
        later = l;
        counts = λ n. omega (arith, c n, total-put (λ f. having n (records f)) empty_file refl s.files (pred (place a)) g);
        no_faults =
            λ h. omega (
              arith,
              store-mono (with_files (put s.files a g) m s) l,
              total-put (λ f. total (record_faults s.last) (records f)) empty_file refl s.files (pred (place a)) g,
            );
      }

  -- records that count no more than the file's, whatever is counted
  pub put_file-keeps : (a : Arg) (xs ys : List Record) (s : Store)
      → ((g : Record → ℕ) → total g (xs ++ ys) ≤ total g (records (file_of s a))) → Keeps ins s (put_file a xs ys s)
  unfolding put_file
  put_file-keeps a xs ys s c =
      let f : File = record { before = xs; after = ys } in
      replaced-keeps a f s.last s (omega arith) (λ n. omega (arith, c (λ r. equal_count n r.addr))) (c (record_faults s.last))

  -- new records: addresses that were still to be given, once each
  stamped-new : (n l : ℕ) (xs : List (List Component)) → having n (stamped l xs) + ungiven (l + length xs) n ≤ ungiven l n
  unfolding stamped
  stamped-new n l [] = omega (arith, ap (λ k. ungiven k n) (add-zero l))
  stamped-new n l (x ∷ xs) =
      omega (arith, ungiven-next l n, stamped-new n (suc l) xs, ap (λ k. ungiven k n) (suc-add l (length xs) ∙ sym (add-suc l (length xs))))

  stamped-faults : (l k : ℕ) (xs : List (List Component)) → total (record_faults l) (stamped k xs) ≡ total (parts_faults l) xs
  unfolding stamped
  stamped-faults l k [] = refl
  stamped-faults l k (x ∷ xs) = omega (arith, stamped-faults l (suc k) xs)

  pub stored-keeps : (a : Arg) (xs : List (List Component)) (s : Store) → total (parts_faults s.last) xs ≡ 0 → Keeps ins s (stored a xs s)
  unfolding stored
  stored-keeps a xs s c = go (use_by a).reverses
    where
      new : List Record
      new = stamped s.last xs

      f : File
      f = file_of s a

      made : Bool → File
      made b = cond b (record { before = f.before; after = reverse new ++ f.after }) (record { before = f.before ++ new; after = f.after })

      adds : (g : Record → ℕ) (b : Bool) → total g (records (made b)) ≡ total g (records f) + total g new
      adds g true =
          omega (
            arith,
            total-append g f.before (reverse new ++ f.after),
            total-append g (reverse new) f.after,
            total-reverse g new,
            total-append g f.before f.after,
          )
      adds g false =
          omega (
            arith,
            total-append g (f.before ++ new) f.after,
            total-append g f.before new,
            total-append g f.before f.after,
          )

      go : (b : Bool) → Keeps ins s (with_files (put s.files a (made b)) (s.last + length xs) s)
      go b =
          replaced-keeps a (made b) (s.last + length xs) s (omega arith)
          (λ n. omega (arith, adds (λ r. equal_count n r.addr) b, stamped-new n s.last xs))
          (omega (arith, adds (record_faults s.last) b, stamped-faults s.last s.last xs))

  pub pointed-keeps : (a : Arg) (n : ℕ) (s : Store) → Keeps ins s (pointed a n s)
  unfolding pointed
  pointed-keeps a n s =
      let rs = records (file_of s a) in
      let k = records_to n rs in
      put_file-keeps a _ _ s (λ g. omega (arith, total-append g (take k rs) (drop k rs), total-split g k rs))

  pub exchange-keeps : (a b : Arg) (s : Store)
      → let f = file_of s a in let g = file_of s b in Keeps ins s (put_file b f.before f.after (put_file a g.before g.after s))
  unfolding put_file with_files store_faults recorded
  exchange-keeps a b s =
      record {
        shape = record { exprs = refl; files = as_many; outputs = refl; places = refl };
        later = omega arith;
        counts = λ n. omega (arith, swap (λ r. equal_count n r.addr));
        no_faults = λ h. omega (arith, swap (record_faults s.last));
      }
    where
      as_many : length (put (put s.files a (file_of s b)) b (file_of s a)) ≡ length s.files
      as_many = length-set (put s.files a (file_of s b)) (pred (place b)) (file_of s a) ∙ length-set s.files (pred (place a)) (file_of s b)

      swap : (g : Record → ℕ)
          → total (λ f. total g (records f)) (put (put s.files a (file_of s b)) b (file_of s a)) ≤ total (λ f. total g (records f)) s.files
      swap g = total-exchange empty_file (λ f. total g (records f)) refl s.files (pred (place a)) (pred (place b))

  -- Reading past elements, and using the first component

  past_file-keeps : (b : Bool) (a : Arg) (k : ℕ) (s : Store) → Keeps ins s (past_file b a k s)
  unfolding past_file
  past_file-keeps true a k s = put_file-keeps a _ _ s (λ g. omega (arith, removed-total g (file_of s a) k))
  past_file-keeps false a k s = put_file-keeps a _ _ s (λ g. omega (arith, passed-total g (file_of s a) k))

  past-by-keeps : (v : Var) (a : Arg) (k : ℕ) (s : Store) → Faultless ins s → Enough ins v s a k → Keeps ins s (past_by v a k s)
  unfolding past_by with_places
  past-by-keeps expression a k s h e = go (use_by a).removes
    where
      go : (b : Bool) → Keeps ins s (cond b (put_expr a (drop k (expr s a)) s) s)
      go true = put_expr-keeps a _ s (omega (arith, clean-expr s a h, total-split (faults s.last) k (expr s a)))
      go false = keeps-refl ins s
  past-by-keeps input a k s h e = beside s _ _ _ refl (length-set s.places (pred (place a)) _) (λ g. omega (arith, places-within s a k h e))
  past-by-keeps output a k s h e = keeps-refl ins s
  past-by-keeps file a k s h e = past_file-keeps (use_by a).removes a k s

  pub past-keeps : (a : Arg) (k : ℕ) (s : Store) → Faultless ins s → Enough ins (use_by a).var s a k → Keeps ins s (past a k s)
  unfolding past
  past-keeps a k s h e = past-by-keeps (use_by a).var a k s h e

  used_by-keeps : (v : Var) (a : Arg) (s : Store) → Faultless ins s → Keeps ins s (used_by v a s)
  unfolding used_by
  used_by-keeps expression a s h = past-by-keeps expression a 1 s h tt
  used_by-keeps input a s h = keeps-refl ins s
  used_by-keeps output a s h = keeps-refl ins s
  used_by-keeps file a s h = keeps-refl ins s

  pub used-keeps : (a : Arg) (s : Store) → Faultless ins s → Keeps ins s (used a s)
  unfolding used
  used-keeps a s h = used_by-keeps (use_by a).var a s h

-- neither gives an address

past-by-last : (v : Var) (a : Arg) (k : ℕ) (s : Store) → (past_by v a k s).last ≡ s.last
unfolding past_by past_file put_expr put_file with_exprs with_files with_places
past-by-last expression a k s = go (use_by a).removes
  where
    go : (b : Bool) → (cond b (put_expr a (drop k (expr s a)) s) s).last ≡ s.last
    go true = refl
    go false = refl
past-by-last input a k s = refl
past-by-last output a k s = refl
past-by-last file a k s = go (use_by a).removes
  where
    go : (b : Bool) → (past_file b a k s).last ≡ s.last
    go true = refl
    go false = refl

pub past-last : (a : Arg) (k : ℕ) (s : Store) → (past a k s).last ≡ s.last
unfolding past
past-last a k s = past-by-last (use_by a).var a k s

used_by-last : (v : Var) (a : Arg) (s : Store) → (used_by v a s).last ≡ s.last
unfolding used_by
used_by-last expression a s = past-by-last expression a 1 s
used_by-last input a s = refl
used_by-last output a s = refl
used_by-last file a s = refl

pub used-last : (a : Arg) (s : Store) → (used a s).last ≡ s.last
unfolding used
used-last a s = used_by-last (use_by a).var a s
