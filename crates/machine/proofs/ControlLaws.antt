-- Where instructions go on: every place is in the table, every way back just after a call.
use Rattle.std.specs.Prelude.{◌≡◌, not, cond, ◌&&◌, ◌||◌, leb, ltb, eqb, length, get_or, ℤ, pos, negsuc, nat_abs}
use Rattle.std.proofs.Math.Path.{refl}
use Rattle.std.proofs.Common.{subst, arith, leb→le, ltb→lt, lt→ltb, T_not}
use Rattle.std.proofs.Math.Bool.{Bool, true, false}
use mathlib.Core.List.{List, [], ◌∷◌}
use Prim.Native.Nat.{ℕ, zero, suc, pred, ◌<◌}
use Rattle.std.proofs.Math.Decide.{dec_lt}
use Rattle.std.proofs.Math.Dec.{T}
use Rattle.std.proofs.Math.ListN.{get_or-eq_default}
use Rattle.std.specs.Int.Signed.{lt_z}
use Rattle.language.specs.Below.Lists.{all, filled, if_any, among}
use Rattle.language.specs.Below.ListLaws.{T-left, T-right, T-both, all_head, all_tail, all_cons, all-at, all_keep}
use Rattle.language.specs.Instructions.{Flow, operation, is_call, is_end}
use Rattle.language.specs.Instructions.Flow.{through, calls, ends}
use Rattle.language.specs.Letters.{Letter, letter_code}
use Rattle.language.specs.Letters.Letter.{A, B, C, D, E, I, N, P, Q, T as T', Y, Z}
use Rattle.language.specs.Program.{Arg, Op, Instr, Entry, Switch, Program, no_instr, no_label, no_switch, no_entry, instr_at, label_at, switch_at, target_of}
use Rattle.language.specs.Program.Arg.{nothing, letter, label, switch, class, text}
use Rattle.language.specs.Program.Op.{PRZESLIJ, CZYTAJ, PISZ, KOPIUJ, WSTAW, POBIERZ, SCHOWAJ, USTAW, ZAMIEN, UMIESC, USUN, SKRESL, RW, WK, MN, PP, NS, RZ, SKOCZ, WYKONAJ, SKOMI, SKOPL, WYMI, WYPL, SKONA, SKOIN, WYNA, WYIN, WROC, DODAJ, ODEJMIJ, MNOZ, DZIEL, SLOWO, LICZBA, ZBIJ, ROZBIJ, SZUKAJ, OMIN, COFNIJ, STOP}
use Rattle.language.specs.Values.{Store, Inputs, value}
use Rattle.machine.specs.Arguments.{place, first, side}
use Rattle.machine.specs.Effects.{Go, jump_if, relation, equality, ordered, goal, entries_of, named, by_name, by_index, computed, changed, row}
use Rattle.machine.specs.Effects.Go.{on, jump, call, back}
use Rattle.machine.specs.Steps.{numbers, gone, can_go}
use Rattle.machine.specs.WellFormed.{form, ranged, listed, good_instr, good_label, good_entry, good_switch, good_return}
use Rattle.machine.specs.Facts.{ProgramFacts, InTable, Allowed}
use Rattle.machine.proofs.WellFormedLaws.{open-instr, open-label}

-- Forms: of all arguments only a label has the form l, which is 108

no-letter : (l : Letter) → T (eqb (letter_code l) 108) → ⊥
no-letter A t = t
no-letter B t = t
no-letter C t = t
no-letter D t = t
no-letter E t = t
no-letter I t = t
no-letter N t = t
no-letter P t = t
no-letter Q t = t
no-letter T' t = t
no-letter Y t = t
no-letter Z t = t

not-a-switch : (b : Bool) → T (eqb (cond b 119 120) 108) → ⊥
not-a-switch true t = t
not-a-switch false t = t

-- the first place of an instruction with one list of forms, of one form there
only : (f x y : Bool) → T (((f || false) && x && y) || false) → T f
only true x y h = tt
only false x y h = h

-- an index of question 56
index_in : (z : ℤ) (n : ℕ) → T (lt_z (pos 0) z && leb (nat_abs z) n) → pred (nat_abs z) < n
index_in (pos k) n h = omega (arith, ltb→lt 0 k (T-left (ltb 0 k) (leb k n) h), leb→le k n (T-right (ltb 0 k) (leb k n) h))
index_in (negsuc k) n h = absurd h

module _ (p : Program) where
  -- the entries of a switch, a missing one too, are good
  entries-good : (ws : List Switch) → T (all (good_switch p) ws) → (k : ℕ)
      → let w = get_or ws k no_switch in T (all (good_entry p w.goes_by_name) w.entries)
  unfolding good_switch
  entries-good [] h k = tt
  entries-good (w ∷ ws) h zero = T-right (filled w.entries) (all (good_entry p w.goes_by_name) w.entries) (all_head (good_switch p) w ws h)
  entries-good (w ∷ ws) h (suc k) = entries-good ws (all_tail (good_switch p) w ws h) k

  module _ (labels : T (all (good_label p) p.labels)) where
    -- a declared label leads into the table
    label_in : (k : ℕ) → T (ltb k (length p.labels)) → InTable p (label_at p k).target
    label_in k h =
        let l = label_at p k in
        let good = all-at (good_label p) p.labels labels k no_label (ltb→lt k (length p.labels) h) in
        lt→ltb l.target (length p.code) (open-label p l good).target

    entry_in : (b : Bool) (e : Entry) → T (good_entry p b e) → InTable p (target_of p e)
    entry_in b e h = label_in e.label (T-left (ltb e.label (length p.labels)) _ h)

    module _ (switches : T (all (good_switch p) p.switches)) (ins : Inputs) (s : Store) where
      goal-in : (a : Arg) → T (eqb (form p a) 108) → T (ranged p a) → InTable p (goal p ins s a)
      goal-in nothing f r = absurd f
      goal-in (letter l n) f r = absurd (no-letter l f)
      goal-in (label n) f r = label_in n r
      goal-in (switch n) f r = absurd (not-a-switch (switch_at p n).goes_by_name f)
      goal-in (class cs) f r = absurd f
      goal-in (text t) f r = absurd f
      goal-in (Arg.number z) f r = absurd f

      by_name-goes : (o : Op) (to : ℕ → Go) (missed : Store) (a b : Arg) → ((t : ℕ) → InTable p t → Allowed p o (to t)) → Allowed p o on
          → Allowed p o (by_name p ins s to missed a b).2
      unfolding by_name
      by_name-goes o to missed a b h n =
          go (named p ins s a b) (all_keep good _ (entries_of p ins s b) (entries-good p.switches switches (place b)))
        where
          good : Entry → Bool
          good e = good_entry p (switch_at p (place b)).goes_by_name e

          go : (es : List Entry) → T (all good es) → Allowed p o (if_any on (λ e. to (target_of p e)) es)
          go [] t = n
          go (e ∷ es) t = h (target_of p e) (entry_in (switch_at p (place b)).goes_by_name e (all_head good e es t))

      by-index-goes : (o : Op) (to : ℕ → Go) (a b : Arg) → ((t : ℕ) → InTable p t → Allowed p o (to t)) → T ((by_index p ins s to a b).0 56)
          → Allowed p o (by_index p ins s to a b).2
      unfolding by_index
      by-index-goes o to a b h y =
          let es = entries_of p ins s b in
          let z = value (first (side ins s a)) in
          let n = (switch_at p (place b)).goes_by_name in
          let good = entries-good p.switches switches (place b) in
          h _ (entry_in n (get_or es (pred (nat_abs z)) no_entry) (all-at (good_entry p n) es good (pred (nat_abs z)) no_entry (index_in z (length es) y)))

      jump_if-goes : (o : Op) (b : Bool) (go : Go) → Allowed p o on → Allowed p o go → Allowed p o (jump_if p ins s b go).2
      unfolding jump_if
      jump_if-goes o true go n g = g
      jump_if-goes o false go n g = n

      module _ (line : ℕ) (a b c : Arg) where
        abbrev instr : Op → Instr
        instr o = record { op = o; line = line; first = a; second = b; third = c }

        -- of the operators whose one argument is a label
        to_label : (o : Op) → T (good_instr p (instr o)) → (x y : Bool)
            → listed p (instr o) ≡ (((eqb (form p a) 108 || false) && x && y) || false) → InTable p (goal p ins s a)
        to_label o g x y e =
            let f = open-instr p (instr o) g in
            goal-in a (only (eqb (form p a) 108) x y (subst T e f.forms)) f.first

        pub row_goes : (o : Op) → T (good_instr p (instr o)) → ((n : ℕ) → T (among n numbers) → T ((row p ins s a b c o).0 n))
            → Allowed p o (row p ins s a b c o).2
        unfolding row equality ordered changed relation computed listed
        row_goes PRZESLIJ g y = tt
        row_goes CZYTAJ g y = tt
        row_goes PISZ g y = tt
        row_goes KOPIUJ g y = tt
        row_goes WSTAW g y = tt
        row_goes POBIERZ g y = tt
        row_goes SCHOWAJ g y = tt
        row_goes USTAW g y = tt
        row_goes ZAMIEN g y = tt
        row_goes UMIESC g y = tt
        row_goes USUN g y = tt
        row_goes SKRESL g y = tt
        row_goes RW g y = tt
        row_goes WK g y = tt
        row_goes MN g y = tt
        row_goes PP g y = tt
        row_goes NS g y = tt
        row_goes RZ g y = tt
        row_goes SKOCZ g y = to_label SKOCZ g _ _ refl
        row_goes WYKONAJ g y = (to_label WYKONAJ g _ _ refl, tt)
        row_goes SKOMI g y = jump_if-goes SKOMI _ _ tt (to_label SKOMI g _ _ refl)
        row_goes SKOPL g y = jump_if-goes SKOPL _ _ tt (to_label SKOPL g _ _ refl)
        row_goes WYMI g y = jump_if-goes WYMI _ _ tt (to_label WYMI g _ _ refl, tt)
        row_goes WYPL g y = jump_if-goes WYPL _ _ tt (to_label WYPL g _ _ refl, tt)
        row_goes SKONA g y = by_name-goes SKONA jump _ a b (λ t h. h) tt
        row_goes SKOIN g y = by-index-goes SKOIN jump a b (λ t h. h) (y 56 tt)
        row_goes WYNA g y = by_name-goes WYNA call _ a b (λ t h. (h, tt)) tt
        row_goes WYIN g y = by-index-goes WYIN call a b (λ t h. (h, tt)) (y 56 tt)
        row_goes WROC g y = tt
        row_goes DODAJ g y = tt
        row_goes ODEJMIJ g y = tt
        row_goes MNOZ g y = tt
        row_goes DZIEL g y = tt
        row_goes SLOWO g y = tt
        row_goes LICZBA g y = tt
        row_goes ZBIJ g y = tt
        row_goes ROZBIJ g y = tt
        row_goes SZUKAJ g y = tt
        row_goes OMIN g y = tt
        row_goes COFNIJ g y = tt
        row_goes STOP g y = absurd (y 50 tt)

-- Flow

call-not-end : (f : Flow) → T (is_call f) → T (is_end f) → ⊥
call-not-end through c e = c
call-not-end calls c e = e
call-not-end ends c e = c

module _ (p : Program) (f : ProgramFacts p) where
  abbrev flow_at : ℕ → Flow
  flow_at n = (operation (instr_at p n).op).flow

  -- the last instruction ends, so what does not end has another after it
  on_in : (n : ℕ) → n < length p.code → T (not (is_end (flow_at n))) → suc n < length p.code
  on_in n l h = go (dec_lt (suc n) (length p.code))
    where
      go : Dec (suc n < length p.code) → suc n < length p.code
      go (yes k) = k
      go (no k) =
          let e : n ≡ pred (length p.code) = omega (arith, f.filled) in
          absurd (T_not (is_end (flow_at n)) h (rw e f.ends))

  return-in : (e : ℕ) → T (good_return p e) → e < length p.code
  unfolding good_return
  return-in e h = go (dec_lt e (length p.code)) (dec_lt (pred e) (length p.code))
    where
      c : T (is_call (flow_at (pred e)))
      c = T-right (ltb 0 e) (is_call (flow_at (pred e))) h

      go : Dec (e < length p.code) → Dec (pred e < length p.code) → e < length p.code
      go (yes k) d = k
      go (no k) (yes d) =
          let q : pred e ≡ pred (length p.code) = omega (arith, f.filled) in
          absurd (call-not-end (flow_at (pred e)) c (rw q f.ends))
      go (no k) (no d) =
          let q : instr_at p (pred e) ≡ no_instr = get_or-eq_default p.code no_instr {n = pred e} (omega arith) in
          absurd (subst (λ (i : Instr). T (is_call (operation i.op).flow)) q c)

  after_call : (n : ℕ) → T (is_call (flow_at n)) → T (good_return p (suc n))
  unfolding good_return
  after_call n h = T-both (ltb 0 (suc n)) (is_call (flow_at n)) (lt→ltb 0 (suc n) (omega arith)) h

  -- the next instruction is in the table
  pub gone-in : (n : ℕ) (st : List ℕ) → n < length p.code → T (all (good_return p) st) → (g : Go) → Allowed p (instr_at p n).op g
      → T (can_go g st) → (gone g n st).0 < length p.code
  gone-in n st l r on a c = on_in n l a
  gone-in n st l r (jump t) a c = ltb→lt t (length p.code) a
  gone-in n st l r (call t) a c = ltb→lt t (length p.code) a.0
  gone-in n [] l r back a c = absurd c
  gone-in n (e ∷ st) l r back a c = return-in e (all_head (good_return p) e st r)

  -- the ways back stay just after calls
  pub gone-returns : (n : ℕ) (st : List ℕ) → T (all (good_return p) st) → (g : Go) → Allowed p (instr_at p n).op g
      → T (all (good_return p) (gone g n st).1)
  gone-returns n st r on a = r
  gone-returns n st r (jump t) a = r
  gone-returns n st r (call t) a = all_cons (good_return p) (suc n) st (after_call n a.1) r
  gone-returns n [] r back a = tt
  gone-returns n (e ∷ st) r back a = all_tail (good_return p) e st r

  -- and in the table
  pub returns-in : (st : List ℕ) → T (all (good_return p) st) → T (all (λ e. ltb e (length p.code) && good_return p e) st)
  returns-in [] h = tt
  returns-in (e ∷ st) h =
      let g = all_head (good_return p) e st h in
      all_cons (λ e. ltb e (length p.code) && good_return p e) e st
      (T-both (ltb e (length p.code)) (good_return p e) (lt→ltb e (length p.code) (return-in e g)) g)
      (returns-in st (all_tail (good_return p) e st h))
