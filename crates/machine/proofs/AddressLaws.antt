-- Laws of addresses: what the count of a number says of a list whose elements are different, or all pass a test.
use Rattle.std.specs.Prelude.{◌≡◌, refl, Bool, true, false, not, cond, ◌||◌, List, [], ◌∷◌, ◌++◌, map, ℕ, suc, ◌+◌, ◌≤◌, ◌<◌, T, eqb}
use Rattle.std.proofs.Common.{arith, T_not, eqb-true}
use Rattle.std.proofs.Math.Decide.{dec_le}
use Rattle.std.proofs.Math.Dec.{eqb_refl, not_T}
use Rattle.language.specs.Below.Lists.{total, all, among}
use Rattle.language.specs.Below.ListLaws.{T-left, T-right, T-both, all_among, all_cons, total-append, total-map}
use Rattle.language.specs.Values.{File, Store}
use Rattle.machine.specs.Arguments.{records}
use Rattle.machine.specs.Changes.{recorded}
use Rattle.machine.specs.WellFormed.{different, all_records, addresses}
use Rattle.machine.specs.Addresses.{equal_count, count_of, times, ungiven}

pub equal-self : (n : ℕ) → equal_count n n ≡ 1
unfolding equal_count
equal-self n = go (eqb n n) (eqb_refl n)
  where
    go : (b : Bool) → T b → cond {A = ℕ} b 1 0 ≡ 1
    go true h = refl
    go false h = absurd h

-- Addresses still to be given

pub ungiven-le : (l n : ℕ) → ungiven l n ≤ 1
unfolding ungiven
ungiven-le l n = omega arith

pub ungiven-0 : (l : ℕ) → ungiven l 0 ≡ 0
unfolding ungiven
ungiven-0 l = omega arith

pub ungiven-old : {l n : ℕ} → n ≤ l → ungiven l n ≡ 0
unfolding ungiven
ungiven-old h = omega arith

pub ungiven-new : {l n : ℕ} → l < n → ungiven l n ≡ 1
unfolding ungiven
ungiven-new h = omega arith

-- the next address is given once, and then is no longer to be given
pub ungiven-next : (l n : ℕ) → equal_count n (suc l) + ungiven (suc l) n ≤ ungiven l n
unfolding equal_count ungiven
ungiven-next l n = go (eqb n (suc l)) refl
  where
    go : (b : Bool) → eqb n (suc l) ≡ b → cond b 1 0 + ungiven (suc l) n ≤ ungiven l n
    go true e = let q : n ≡ suc l = eqb-true n (suc l) e in omega arith
    go false e = omega arith

-- Lists of numbers: what is among them is counted

among-counted : (n : ℕ) (ns : List ℕ) → T (among n ns) → 1 ≤ count_of n ns
unfolding equal_count
among-counted n [] h = absurd h
among-counted n (x ∷ ns) h = go (eqb n x) (among-counted n ns) h
  where
    go : (b : Bool) → (T (among n ns) → 1 ≤ count_of n ns) → T (b || among n ns) → 1 ≤ cond b 1 0 + count_of n ns
    go true k h = omega arith
    go false k h = omega (arith, k h)

counted-among : (n : ℕ) (ns : List ℕ) → 1 ≤ count_of n ns → T (among n ns)
unfolding equal_count
counted-among n [] h = absurd (omega arith)
counted-among n (x ∷ ns) h = go (eqb n x) (counted-among n ns) h
  where
    go : (b : Bool) → (1 ≤ count_of n ns → T (among n ns)) → 1 ≤ cond b 1 0 + count_of n ns → T (b || among n ns)
    go true k h = tt
    go false k h = k (omega arith)

pub counted-all : (p : ℕ → Bool) (ns : List ℕ) → T (all p ns) → (n : ℕ) → 1 ≤ count_of n ns → T (p n)
counted-all p ns h n k = all_among p ns h n (counted-among n ns k)

pub all-counted : (p : ℕ → Bool) (ns : List ℕ) → ((n : ℕ) → 1 ≤ count_of n ns → T (p n)) → T (all p ns)
all-counted p [] h = tt
all-counted p (x ∷ ns) h = all_cons p x ns (h x (omega (arith, equal-self x))) (all-counted p ns (λ n k. h n (omega arith)))

-- different elements are counted once at most, and the other way round
pub different-once : (n : ℕ) (ns : List ℕ) → T (different eqb ns) → count_of n ns ≤ 1
unfolding equal_count
different-once n [] h = omega arith
different-once n (x ∷ ns) h = go (eqb n x) refl (dec_le 1 (count_of n ns)) (different-once n ns (T-right (not (among x ns)) (different eqb ns) h))
  where
    go : (b : Bool) → eqb n x ≡ b → Dec (1 ≤ count_of n ns) → count_of n ns ≤ 1 → cond b 1 0 + count_of n ns ≤ 1
    go true e (yes k) l =
        let q : n ≡ x = eqb-true n x e in
        absurd (T_not (among x ns) (T-left (not (among x ns)) (different eqb ns) h) (rw q at (counted-among n ns k)))
    go true e (no k) l = omega arith
    go false e d l = omega arith

pub once-different : (ns : List ℕ) → ((n : ℕ) → count_of n ns ≤ 1) → T (different eqb ns)
once-different [] h = tt
once-different (x ∷ ns) h =
    T-both (not (among x ns)) (different eqb ns) (not_T (among x ns) (λ t. omega (arith, h x, equal-self x, among-counted x ns t)))
    (once-different ns (λ n. omega (arith, h n)))

-- The addresses of a store's records

counted-records : (g : ℕ → ℕ) (fs : List File) → total (λ f. total (λ r. g r.addr) (records f)) fs ≡ total g (map (λ r. r.addr) (all_records fs))
counted-records g [] = refl
counted-records g (f ∷ fs) =
    omega (
      arith,
      counted-records g fs,
      total-map g (λ r. r.addr) (records f ++ all_records fs),
      total-map g (λ r. r.addr) (all_records fs),
      total-append (λ r. g r.addr) (records f) (all_records fs),
    )

pub times-is : (n : ℕ) (s : Store) → times n s ≡ count_of n (addresses s)
unfolding recorded
times-is n s = counted-records (equal_count n) s.files
