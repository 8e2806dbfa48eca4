-- Bodies one after the other, and the changes of a body.
use Rattle.std.specs.Prelude.{◌≡◌, refl, List, [], ◌∷◌, ◌++◌, ℕ, ◌+◌, get_or}
use Rattle.std.proofs.Common.{sym, ap, ◌∙◌, append_assoc, append-nil}
use Rattle.std.proofs.Math.Path.{subst}
use Rattle.lists.specs.Lists.{each}
use Rattle.layout.specs.Cells.{tab}
use Rattle.macros.specs.Expansion as met
use Rattle.macros.specs.Macros.{Macro}
use Rattle.macros.specs.Pieces.{Piece}
use Rattle.macros.specs.Prepared.{piece_faults}
use Rattle.macro_code.specs.ChangeLaws.{changes-turn, changes-done}
use Rattle.macro_code.specs.Changes.{StartsAt, Gives}
use Rattle.macro_code.specs.Code.{change_in, changes_in, body_in, macro_in, macros_in}
use Rattle.macro_code.specs.declared.changes.Changes.{Changes}
use Rattle.macro_calls.specs.Calls.{change_faults, typed_in, Told, none_of, both_of}
use Rattle.macro_calls.specs.FaultLaws.{body-faults, told_none, told-both}
use Rattle.macro_calls.specs.TableLaws.{each_append, tab-next}
use Rattle.macro_code.specs.declared.faults.Faults.{Faults}

-- of two rows the first of which has one more
module _ {X : Type 0} (g : X → List met.Fault) where
  pub told_more : (xs : List X) {ys : List X} (x : X) {a b r : Faults} → ys ≡ xs ++ (x ∷ []) → Told (each g xs) a → Told (g x) b → r ≡ both_of a b → Told (each g ys) r
  told_more xs {ys} x {a} {b} {r} e h k f =
      let both : each g xs ++ g x ≡ each g ys = ap (λ fs. each g xs ++ fs) (sym (append-nil (g x))) ∙ sym (each_append g xs (x ∷ [])) ∙ ap (each g) (sym e) in
      rw f (subst (λ fs. Told fs (both_of a b)) both (told-both h k))

-- some changes of the body at the cell q are passed, and the others are left
pub record Walking (ms : List Macro) (s c : List ℕ) (q : ℕ) (left : Changes) (r : Faults) : Type 0 where
  pub code : left.coded.code.now ≡ c
  pub passed : List met.Fault
  pub told : Told passed r
  pub is : each (piece_faults ms) (body_in s c q) ≡ passed ++ each (change_faults ms) (changes_in s c left.cell left.left)

module _ (ms : List Macro) (s c : List ℕ) (q : ℕ) where
  pub walking-first : {left : Changes} → StartsAt c q left → Walking ms s c q left none_of
  walking-first h = record { code = h.code_is; passed = []; told = told_none; is = rw (h.cell_is, h.left_is) (body-faults ms s c q) }

  module _ {left : Changes} {r : Faults} (w : Walking ms s c q left r) where
    pub walking_on : {i : ℕ} {after : Changes} → Gives left i after → {f g : Faults} → Told (change_faults ms (change_in s c i)) f → g ≡ both_of r f → Walking ms s c q after g
    walking_on {i} {after} gives {f} {g} h e =
        record {
          code = gives.code_stays ∙ w.code;
          passed = w.passed ++ change_faults ms (change_in s c i);
          told = rw e (told-both w.told h);
          is = w.is ∙ ap (λ ds. w.passed ++ each (change_faults ms) ds) (changes-turn s c left w.code gives)
              ∙ sym (append_assoc w.passed (change_faults ms (change_in s c i)) (each (change_faults ms) (changes_in s c after.cell after.left)));
        }

    pub walking-end : left.left ≡ 0 → Told (each (piece_faults ms) (body_in s c q)) r
    walking-end e = rw (w.is, changes-done s c left w.code e, append-nil w.passed) w.told

-- the bodies of the first k macros
pub record PassingBodies (s c firsts : List ℕ) (n k : ℕ) (r : Faults) : Type 0 where
  pub told : Told (each (λ m. each (piece_faults (macros_in s c firsts n)) m.body) (macros_in s c firsts k)) r

module _ (s c firsts : List ℕ) (n : ℕ) where
  abbrev ms : List Macro
  ms = macros_in s c firsts n

  pub bodies-first : PassingBodies s c firsts n 0 none_of
  unfolding macros_in tab
  bodies-first = record { told = told_none }

  module _ {k : ℕ} {r : Faults} (p : PassingBodies s c firsts n k r) where
    pub bodies-on : {q : ℕ} → q ≡ get_or firsts k 0 → {f g : Faults} → Told (each (piece_faults ms) (body_in s c q)) f → g ≡ both_of r f → PassingBodies s c firsts n (k + 1) g
    unfolding macros_in macro_in
    bodies-on {q} e {f} {g} h b =
        record {
          told = told_more (λ m. each (piece_faults ms) m.body) (macros_in s c firsts k) (macro_in s c (get_or firsts k 0)) (tab-next k (λ j. macro_in s c (get_or firsts j 0)))
              p.told (rw e at h) b;
        }

    each-each : (f : Macro → List Piece) (ds : List Macro) → each (λ m. each (piece_faults ms) (f m)) ds ≡ each (piece_faults ms) (each f ds)
    each-each f [] = refl
    each-each f (m ∷ ds) = ap (λ fs. each (piece_faults ms) (f m) ++ fs) (each-each f ds) ∙ sym (each_append (piece_faults ms) (f m) (each f ds))

    pub bodies-end : k ≡ n → (q : ℕ) {f g : Faults} → Told (each (piece_faults ms) (body_in s c q)) f → g ≡ both_of r f → Told (typed_in s c firsts n q) g
    bodies-end e q {f} {g} h b =
        let t : Told (each (piece_faults ms) (each (λ m. m.body) ms)) r = rw (← each-each (λ m. m.body) ms) (rw e at p.told) in
        rw (b, each_append (piece_faults ms) (each (λ m. m.body) ms) (body_in s c q)) (told-both t h)
