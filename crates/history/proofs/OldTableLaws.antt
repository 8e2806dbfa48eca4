-- "Tables already made keep running": question 62 does not ask whether a label is a keyword.
use Rattle.std.specs.Prelude.{◌≡◌, Bool, true, false, ◌&&◌, ◌||◌, ℕ, ltb, get_or}
use Rattle.std.proofs.Math.Path.{refl, subst}
use Rattle.std.proofs.Common.{ap, sym}
use mathlib.Core.List.{List, [], ◌∷◌, ◌++◌, map}
use Rattle.std.proofs.Math.Dec.{T, leb}
use Rattle.std.proofs.Math.ListN.{length, length-map}
use Rattle.language.specs.Limits as limit
use Rattle.language.specs.Program.{Arg, identifier, Instr, Label, Switch, Program}
use Rattle.language.specs.Program.Arg.{nothing, letter, label, switch, class, text}
use Rattle.lists.specs.Lists.{all, any, bytes_equal}
use Rattle.lists.specs.ListLaws.{T-right, T-both, part, parts, all_head, all_tail, all_cons, same_bytes-eq}
use Rattle.machine.specs.WellFormed.{form, ranged, listed, good_instr, good_label, good_entry, good_switch, program_tests, good_program}
use Rattle.layout.specs.Table.{table_cells}
use Rattle.layout.proofs.TableLaws.{program_of-cells, table_good}
use Rattle.syntax.specs.Statements.{words_of, reserved}
use Rattle.history.specs.AcceptedTable.{AcceptedTable}
use Rattle.history.specs.OldTables.{with_labels, renamed}

all_same : {X : Type 0} (f g : X → Bool) → ((x : X) → f x ≡ g x) → (xs : List X) → all f xs ≡ all g xs
all_same f g h [] = refl
all_same f g h (x ∷ xs) = rw (h x, all_same f g h xs) refl

-- ---- a keyword is a name that 62 takes

named : List ℕ → Bool
named w = identifier w && leb (length w) limit.item

keywords-named : (english : Bool) → T (all named (words_of english))
unfolding named
keywords-named true = tt
keywords-named false = tt

one_of : (w : List ℕ) (ws : List (List ℕ)) → T (all named ws) → T (any (bytes_equal w) ws) → T (named w)
one_of w [] h k = absurd k
one_of w (v ∷ ws) h k = go (bytes_equal w v) refl k (one_of w ws (all_tail named v ws h))
  where
    go : (b : Bool) → bytes_equal w v ≡ b → T (b || any (bytes_equal w) ws) → (T (any (bytes_equal w) ws) → T (named w)) → T (named w)
    go true e k rest = subst (λ (u : List ℕ). T (named u)) (sym (same_bytes-eq w v (subst T (sym e) tt))) (all_head named v ws h)
    go false e k rest = rest k

reserved-named : (w : List ℕ) → T (reserved w) → T (named w)
unfolding reserved
reserved-named w h = go (any (bytes_equal w) (words_of false)) refl h
  where
    go : (b : Bool) → any (bytes_equal w) (words_of false) ≡ b → T (b || any (bytes_equal w) (words_of true)) → T (named w)
    go true e h = one_of w (words_of false) (keywords-named false) (subst T (sym e) tt)
    go false e h = one_of w (words_of true) (keywords-named true) h

-- ---- of other labels 62 sees how many they are

module _ (p : Program) (ls : List Label) (n : length ls ≡ length p.labels) where
  form-same : (a : Arg) → form (with_labels p ls) a ≡ form p a
  form-same nothing = refl
  form-same (letter l i) = refl
  form-same (label i) = refl
  form-same (switch i) = refl
  form-same (class cs) = refl
  form-same (text t) = refl
  form-same (Arg.number z) = refl

  ranged-same : (a : Arg) → ranged (with_labels p ls) a ≡ ranged p a
  ranged-same nothing = refl
  ranged-same (letter l i) = refl
  ranged-same (label i) = ap (ltb i) n
  ranged-same (switch i) = refl
  ranged-same (class cs) = refl
  ranged-same (text t) = refl
  ranged-same (Arg.number z) = refl

  instr-same : (i : Instr) → good_instr (with_labels p ls) i ≡ good_instr p i
  unfolding good_instr listed
  instr-same i =
      rw (form-same i.first, form-same i.second, form-same i.third, ranged-same i.first, ranged-same i.second, ranged-same i.third) refl

  switch-same : (w : Switch) → good_switch (with_labels p ls) w ≡ good_switch p w
  unfolding good_switch
  switch-same w = rw (all_same (good_entry (with_labels p ls) w.goes_by_name) (good_entry p w.goes_by_name) (λ e. rw n refl) w.entries) refl

module _ (f : List ℕ → List ℕ) (reserved-all : (w : List ℕ) → T (reserved (f w))) where
  label-good : (p q : Program) → p.code ≡ q.code → (l : Label) → T (good_label p l) → T (good_label q (record { name = f l.name; target = l.target }))
  unfolding good_label named
  label-good p q e l h =
      T-both (identifier (f l.name) && leb (length (f l.name)) limit.item) (ltb l.target (length q.code)) (reserved-named (f l.name) (reserved-all l.name))
      (subst (λ (c : List Instr). T (ltb l.target (length c))) e (T-right (identifier l.name && leb (length l.name) limit.item) (ltb l.target (length p.code)) h))

  labels-good : (p q : Program) → p.code ≡ q.code → (ls : List Label) → T (all (good_label p) ls) → T (all (good_label q) (map (λ l. record { name = f l.name; target = l.target }) ls))
  labels-good p q e [] h = tt
  labels-good p q e (l ∷ ls) h =
      all_cons (good_label q) (record { name = f l.name; target = l.target }) (map (λ l. record { name = f l.name; target = l.target }) ls)
      (label-good p q e l (all_head (good_label p) l ls h)) (labels-good p q e ls (all_tail (good_label p) l ls h))

  pub renamed-good : (p : Program) → T (good_program p) → T (good_program (renamed f p))
  unfolding good_program
  renamed-good p h =
      let q = renamed f p in
      let n : length q.labels ≡ length p.labels = length-map p.labels (λ l. record { name = f l.name; target = l.target }) in
      let t : (i : ℕ) → T (get_or (program_tests p) i true) = part (program_tests p) h in
      parts (program_tests q) (
        t 0,
        (
          t 1,
          (
            subst (λ (m : ℕ). T (leb m limit.labels)) (sym n) (t 2),
            (
              t 3,
              (
                t 4,
                (
                  t 5,
                  (
                    t 6,
                    (
                      subst T (sym (all_same (good_instr q) (good_instr p) (instr-same p q.labels n) p.code)) (t 7),
                      (
                        labels-good p q refl p.labels (t 8),
                        (
                          subst T (sym (all_same (good_switch q) (good_switch p) (switch-same p q.labels n) p.switches)) (t 9),
                          (t 10, (t 11, (t 12, (t 13, (t 14, tt))))),
                        ),
                      ),
                    ),
                  ),
                ),
              ),
            ),
          ),
        ),
      )

  -- of every well-formed program, with all its labels named as operators, the table is well formed too, and reads back as it
  pub old-tables : (p : Program) → T (good_program p) → (rest : List ℕ) → AcceptedTable (renamed f p) (table_cells (renamed f p) ++ rest)
  old-tables p h rest =
      let g = renamed-good p h in
      record { well_formed = table_good (renamed f p) g rest; reads_back = program_of-cells (renamed f p) g rest }
