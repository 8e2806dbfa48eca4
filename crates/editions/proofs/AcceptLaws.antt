-- An accepted text: all its statements pass, and its program is that of the tables at its end, with the lines of places.
use Rattle.std.specs.Prelude.{◌≡◌, refl, Bool, true, false, not, ℕ, drop}
use Rattle.std.proofs.Math.Path.{ap, sym}
use Rattle.std.proofs.Common.{◌∙◌, arith}
use Rattle.std.proofs.Math.Bool.{cond}
use mathlib.Core.List.{List, [], ◌∷◌, ◌++◌, map, map-map}
use Rattle.std.proofs.Math.ListN.{get_or}
use Rattle.lists.specs.SearchLaws.{ahead-map}
use Rattle.language.specs.Program.{Arg, classes, Switch, Program}
use Rattle.language.specs.Values.{amount, value_of}
use Rattle.lists.specs.Lists.{filled, head_or, bytes_equal}
use Rattle.syntax.specs.ArgumentForms.{Argument, form_in, letter_of}
use Rattle.syntax.specs.Ending.{end_faults, last_questions}
use Rattle.syntax.specs.Items.{Item, line_at}
use Rattle.syntax.specs.Load.{Loaded, label_place, arg_of, instr_of, program_of, unless_refused, load_from}
use Rattle.syntax.specs.Load.Loaded.{accepted}
use Rattle.syntax.specs.Questions.{questions}
use Rattle.syntax.specs.Statements.{entries_in}
use Rattle.syntax.specs.Tables.{Written, Choice, Tables, Draft, draft_after}
use Rattle.syntax.specs.Verdict.{Verdict, decide, first_no}
use Rattle.syntax.specs.Verdict.Verdict.{yes}
use Rattle.macros.proofs.AcceptedLaws.{none_both}
use Rattle.macros.proofs.LoadLaws.{passed-verdict}
use Rattle.editions.proofs.MapLaws.{map_same}
use Rattle.editions.specs.Moving.{moved, moved_argument, moved_written, moved_choice, moved_tables, Passes, final, instr_by, program_by}
use Rattle.editions.proofs.MovingLaws.{moved-entries}

goes : (ls : List ℕ) (v : Verdict) (r : Loaded) → v ≡ yes → unless_refused ls v r ≡ r
unfolding unless_refused
goes ls v r e = ap (λ w. unless_refused ls w r) e

same_program-by : (ls : List ℕ) (t : Tables) → program_of ls t ≡ program_by (line_at ls) t
unfolding program_of program_by instr_of instr_by
same_program-by ls t = refl

accepted-is : (p q : Program) → accepted p ≡ accepted q → p ≡ q
accepted-is p q e = cc

module _ (ls : List ℕ) (last : ℕ) where
  pub accepted-passes : (d : Draft) (xs : List (List Item)) (p : Program) → load_from ls last d xs ≡ accepted p
      → Passes last d xs × (program_by (line_at ls) (final d xs).tables ≡ p)
  unfolding load_from Passes final
  accepted-passes d [] p h =
      let r = passed-verdict ls (first_no (last_questions last d)) (accepted (program_of ls d.tables)) p h in
      (r.0, sym (same_program-by ls d.tables) ∙ accepted-is (program_of ls d.tables) p r.1)
  accepted-passes d (x ∷ xs) p h =
      let r = passed-verdict ls (first_no (questions d x)) (load_from ls last (draft_after d x) xs) p h in
      let k = accepted-passes (draft_after d x) xs p r.1 in
      ((r.0, k.0), k.1)

  pub passes-accepted : (d : Draft) (xs : List (List Item)) → Passes last d xs → load_from ls last d xs ≡ accepted (program_by (line_at ls) (final d xs).tables)
  unfolding load_from Passes final
  passes-accepted d [] h =
      goes ls (first_no (last_questions last d)) (accepted (program_of ls d.tables)) h ∙ ap accepted (same_program-by ls d.tables)
  passes-accepted d (x ∷ xs) h =
      goes ls (first_no (questions d x)) (load_from ls last (draft_after d x) xs) h.0 ∙ passes-accepted (draft_after d x) xs h.1

-- the place of the last byte does not decide what passes
no_place : (n : ℕ) (ps qs : List ℕ) (v w : Verdict) → (ps ≡ [] → qs ≡ []) → (v ≡ yes → w ≡ yes) → decide n ps v ≡ yes → decide n qs w ≡ yes
unfolding decide
no_place n [] qs v w f g h = ap (λ zs. decide n zs w) (f refl) ∙ g h
no_place n (p ∷ ps) qs v w f g h = let z : ◌≡◌ {A = ℕ} 0 1 = cc in absurd (omega arith)

empties : (xs xs' ys ys' : List ℕ) → (xs ≡ [] → xs' ≡ []) → (ys ≡ [] → ys' ≡ []) → xs ++ ys ≡ [] → xs' ++ ys' ≡ []
empties xs xs' ys ys' f g h = let r = none_both xs ys h in ap (λ zs. zs ++ ys') (f r.0) ∙ g r.1

absent-empty : (b : Bool) (xs : List ℕ) (m n : ℕ) → cond b xs (m ∷ []) ≡ [] → cond b xs (n ∷ []) ≡ []
absent-empty true xs m n h = h
absent-empty false xs m n h = let z : ◌≡◌ {A = ℕ} 0 1 = cc in absurd (omega arith)

last-anywhere : (m n : ℕ) (d : Draft) → first_no (last_questions m d) ≡ yes → first_no (last_questions n d) ≡ yes
unfolding last_questions first_no end_faults
last-anywhere m n d h =
    let code = d.tables.code in
    no_place 0 _ _ _ _ (absent-empty (not (not (filled d.section))) [] m n)
    (no_place 25 _ _ _ _
    (empties _ _ _ _
    (empties _ _ _ _
    (empties _ _ _ _
    (empties _ _ _ _
    (empties d.closing.faults d.closing.faults _ _ (λ e. e)
    (absent-empty d.closing.after_KONS d.closing.early m n))
    (absent-empty d.closing.after_KONP [] m n))
    (absent-empty (filled code) [] m n))
    (λ e. e))
    (λ e. e))
    (λ e. e))
    h

pub passes-anywhere : (m n : ℕ) (d : Draft) (xs : List (List Item)) → Passes m d xs → Passes n d xs
unfolding Passes
passes-anywhere m n d [] h = last-anywhere m n d h
passes-anywhere m n d (x ∷ xs) h = (h.0, passes-anywhere m n (draft_after d x) xs h.1)

-- The program of moved tables

module _ (f : ℕ → ℕ) (t : Tables) where
  moved-arg : (a : Argument) → arg_of (moved_tables f t) (moved_argument f a) ≡ arg_of t a
  unfolding arg_of
  moved-arg a =
      let w = a.item.chars in
      ap (λ n.
      cond (form_in "t" a.form) (Arg.text w)
      (cond (form_in "n" a.form) (Arg.number (value_of w))
      (cond (form_in "c" a.form) (Arg.class (classes w))
      (cond (form_in "l" a.form) (Arg.label (label_place t w))
      (cond (form_in "wx" a.form) (Arg.switch n)
      (Arg.letter (letter_of (head_or 0 w)) (amount 0 (drop 1 w))))))))
      (ahead-map (λ c. bytes_equal w c.name) (moved_choice f) t.switches)

  moved-instr_by : (i : Written) → instr_by (λ n. n) (moved_tables f t) (moved_written f i) ≡ instr_by f t i
  unfolding instr_by
  moved-instr_by i =
      ap (λ ys. record { op = i.op; line = f i.at; first = get_or ys 0 Arg.nothing; second = get_or ys 1 Arg.nothing; third = get_or ys 2 Arg.nothing })
      (map-map (arg_of (moved_tables f t)) (moved_argument f) i.args ∙ map_same (λ a. arg_of (moved_tables f t) (moved_argument f a)) (arg_of t) moved-arg i.args)

  pub moved-program : program_by (λ n. n) (moved_tables f t) ≡ program_by f t
  unfolding program_by
  moved-program = λ k. record { code = code k; labels = t.labels; switches = switches k; texts = t.texts; numbers = t.numbers }
    where
      code : map (instr_by (λ n. n) (moved_tables f t)) (map (moved_written f) t.code) ≡ map (instr_by f t) t.code
      code =
          map-map (instr_by (λ n. n) (moved_tables f t)) (moved_written f) t.code
          ∙ map_same (λ i. instr_by (λ n. n) (moved_tables f t) (moved_written f i)) (instr_by f t) moved-instr_by t.code

      shown : List Choice → List Switch
      shown cs = map (λ (c : Choice). record { goes_by_name = c.goes_by_name; entries = entries_in (label_place t) c.list }) cs

      switches : shown (map (moved_choice f) t.switches) ≡ shown t.switches
      switches =
          map-map (λ (c : Choice). record { goes_by_name = c.goes_by_name; entries = entries_in (label_place t) c.list }) (moved_choice f) t.switches
          ∙ map_same (λ (c : Choice). record { goes_by_name = c.goes_by_name; entries = entries_in (label_place t) (map (moved f) c.list) })
          (λ (c : Choice). record { goes_by_name = c.goes_by_name; entries = entries_in (label_place t) c.list })
          (λ c. ap (λ es. record { goes_by_name = c.goes_by_name; entries = es }) (moved-entries f (label_place t) c.list)) t.switches
