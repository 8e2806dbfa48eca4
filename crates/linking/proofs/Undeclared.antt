-- Questions 12 and 13: the places at fault by the marks in the table are those of the text's tables.
use mathlib.Core.Path.{◌≡◌, refl, sym, ap, ◌∙◌, subst}
use mathlib.Core.Bool.{Bool, true, false, cond, not, ◌&&◌, ◌||◌, beq}
use mathlib.Core.List.{List, [], ◌∷◌, ◌++◌, map, map-append}
use Prim.Native.Nat.{ℕ}
use Prim.Native.String.{String}
use native.Mathlib.Omega.{arith}
use lib.Dec.{T}
use lib.ListN.{length, take, drop}
use lib.IntN.{ℤ}
use Rattle.acceptance.specs.Drafts.{FineItem, SoundArgument, SoundWritten, SoundChoice}
use Rattle.acceptance.proofs.RowLaws.{each_map}
use Rattle.drafts.specs.DraftingLaws.{entry-words}
use Rattle.drafts.specs.Drafting.{draft_instr, draft_switch, draft_program}
use Rattle.drafts.specs.Marks.{mark, place_by, word_by}
use Rattle.drafts.specs.Tabled.{Spelt, entry_items, Tabled}
use Rattle.language.specs.Program.{Instr, Program}
use Rattle.layout.specs.Bounds.{Each}
use Rattle.layout.proofs.CellLaws.{each_append}
use Rattle.layout.specs.Table.{all_entries}
use Rattle.lists.specs.ListLaws.{all_among}
use Rattle.lists.specs.Quoted.{bytes}
use Rattle.lists.specs.Lists.{all, any, each, keep, head_or, bytes_equal}
use Rattle.linking.proofs.Faults.{joined-join, faults-append}
use Rattle.linking.specs.Lookup.{joined, known, faults, instr_uses, is_switch, Judges}
use Rattle.statements.specs.StatementAt.{fault_of}
use Rattle.statements.specs.Faults.{Fault}
use Rattle.std.specs.Prelude.{None}
use Rattle.syntax.specs.ArgumentForms.{form_in, Argument, of_form}
use Rattle.syntax.specs.Ending.{given_as, used_labels, undeclared_labels, undeclared_switches}
use Rattle.syntax.specs.Items.{Item, is, places}
use Rattle.syntax.specs.Items.Sort.{word}
use Rattle.syntax.specs.Tables.{Written, Choice, Tables}
use Rattle.linking.proofs.Marked.{label-uses, switch-uses, all-uses, Used, used-word, used-argument}
use Rattle.linking.specs.Linking.{Finds, label_places, switch_places}

-- ---- faults by items

module _ (s sw : List ℕ) (kind : ℕ) (named : Bool) (p : Program) (q : Item → Bool) where
  faults-items : (js : List Item) → Each (λ i. (known s sw kind named p (mark i) ≡ q i) × (place_by (mark i) ≡ i.at)) js
      → faults s sw kind named p (map (λ i. mark i) js) ≡ places (keep (λ i. not (q i)) js)
  faults-items [] e = refl
  faults-items (i ∷ js) e =
      ap (λ (b : Bool). map (λ m. place_by m) (cond (not b) (mark i ∷ keep (λ m. not (known s sw kind named p m)) (map (λ i. mark i) js))
      (keep (λ m. not (known s sw kind named p m)) (map (λ i. mark i) js)))) e.0.0
      ∙ go (q i) (keep (λ m. not (known s sw kind named p m)) (map (λ i. mark i) js)) (keep (λ i. not (q i)) js) (faults-items js e.1)
    where
      go : (b : Bool) (ms : List ℕ) (ks : List Item) → map (λ m. place_by m) ms ≡ places ks
          → map (λ m. place_by m) (cond (not b) (mark i ∷ ms) ms) ≡ places (cond (not b) (i ∷ ks) ks)
      go true ms ks r = r
      go false ms ks r = λ j. e.0.1 j ∷ r j

-- a switch's name among the marks
switch_there : (s : List ℕ) (named : Bool) (m : ℕ) (sw : List ℕ) (cs : List Choice) → map (word_by s) (take (length cs) sw) ≡ map (λ c. c.name) cs
    → is_switch s named m sw (map draft_switch cs) ≡ any (λ c. bytes_equal (word_by s m) c.name && beq named c.goes_by_name) cs
unfolding draft_switch
switch_there s named m [] [] e = refl
switch_there s named m (x ∷ sw) [] e = refl
switch_there s named m [] (c ∷ cs) e = absurd (omega (arith, ap length e))
switch_there s named m (x ∷ sw) (c ∷ cs) e =
    let h : word_by s x ≡ c.name = ap (head_or []) e in
    let r : map (word_by s) (take (length cs) sw) ≡ map (λ c. c.name) cs = ap (drop 1) e in
    λ j. (bytes_equal (word_by s m) (h j) && beq named c.goes_by_name) || switch_there s named m sw cs r j

-- ---- all names that are used

module _ (s : List ℕ) (texts : List (List ℕ)) (numbers : List ℤ) (fs : String) (only : T (all (form_in "lwx") (bytes fs))) where
  used-args : (bs : List Argument) → Each (SoundArgument (length s) texts numbers) bs → Each (λ a. Spelt s a.item) bs → Each (Used s) (of_form fs bs)
  used-args [] h u = tt
  used-args (b ∷ bs) h u = go (form_in fs b.form) refl (used-args bs h.1 u.1)
    where
      go : (x : Bool) → form_in fs b.form ≡ x → Each (Used s) (of_form fs bs)
          → Each (Used s) (map (λ a. a.item) (cond x (b ∷ keep (λ a. form_in fs a.form) bs) (keep (λ a. form_in fs a.form) bs)))
      go true e r = (used-argument s texts numbers b h.0 u.0 (all_among (form_in "lwx") (bytes fs) only b.form (subst T (sym e) tt)), r)
      go false e r = r

  used-code : (ws : List Written) → Each (SoundWritten (length s) texts numbers) ws → Each (λ w. Each (λ a. Spelt s a.item) w.args) ws
      → Each (Used s) (each (λ w. of_form fs w.args) ws)
  used-code [] h u = tt
  used-code (w ∷ ws) h u =
      each_append (Used s) (of_form fs w.args) (each (λ w. of_form fs w.args) ws) (used-args w.args h.0.each_argument u.0) (used-code ws h.1 u.1)

used-list : (s : List ℕ) (n : ℕ) (js ks : List Item) → Each (FineItem n) js → Each (Spelt s) (keep (is word) js ++ ks) → Each (Used s) (keep (is word) js) × Each (Spelt s) ks
used-list s n [] ks h u = (tt, u)
used-list s n (i ∷ js) ks h u = go (is word i) refl u (λ v. used-list s n js ks h.1 v)
  where
    go : (b : Bool) → is word i ≡ b → Each (Spelt s) (cond b (i ∷ keep (is word) js) (keep (is word) js) ++ ks)
        → (Each (Spelt s) (keep (is word) js ++ ks) → Each (Used s) (keep (is word) js) × Each (Spelt s) ks)
        → Each (Used s) (cond b (i ∷ keep (is word) js) (keep (is word) js)) × Each (Spelt s) ks
    go true e u f = let r = f u.1 in ((used-word s i u.0 (subst T (sym e) tt) h.0.short, r.0), r.1)
    go false e u f = f u

used-entries : (s : List ℕ) (texts : List (List ℕ)) (cs : List Choice) → Each (SoundChoice (length s) texts) cs → Each (Spelt s) (each (λ c. keep (is word) c.list) cs)
    → Each (Used s) (each (λ c. keep (is word) c.list) cs)
used-entries s texts [] h u = tt
used-entries s texts (c ∷ cs) h u =
    let r = used-list s (length s) c.list (each (λ c. keep (is word) c.list) cs) h.0.fine u in
    each_append (Used s) (keep (is word) c.list) (each (λ c. keep (is word) c.list) cs) r.0 (used-entries s texts cs h.1 r.1)

typed : (named : Bool) → T (all (form_in "lwx") (bytes (cond named "w" "x")))
typed true = tt
typed false = tt

-- ---- the marks of a text, in code and in entries

module _ (s lines : List ℕ) (t : Tables) (c sw en : List ℕ) (h : Tabled s lines t c sw en) where
  abbrev draft : Program
  draft = draft_program lines t

  code-marks : (u : Instr → List ℕ) (fs : String) → Each (λ w. u (draft_instr lines w) ≡ map (λ i. mark i) (of_form fs w.args)) t.code
      → each u draft.code ≡ map (λ i. mark i) (given_as fs t)
  unfolding draft_program
  code-marks u fs e = all-uses lines u fs t.code e

  pub used-of : (fs : String) → T (all (form_in "lwx") (bytes fs)) → Each (Used s) (given_as fs t)
  used-of fs only = used-code s t.texts t.numbers fs only t.code h.sound.code h.spelt_arguments

  pub entries-used : Each (Used s) (entry_items t)
  entries-used = used-entries s t.texts t.switches h.sound.switches h.spelt_entries

  label-ok : (i : Item) → Used s i → (known s sw 2 true draft (mark i) ≡ any (λ l. bytes_equal i.chars l.name) t.labels) × (place_by (mark i) ≡ i.at)
  unfolding draft_program
  label-ok i u = (ap (λ (w : List ℕ). any (λ l. bytes_equal w l.name) t.labels) u.spells, u.place)

  switch-ok : (named : Bool) (i : Item) → Used s i
      → (known s sw 3 named draft (mark i) ≡ any (λ c. bytes_equal i.chars c.name && beq named c.goes_by_name) t.switches) × (place_by (mark i) ≡ i.at)
  unfolding draft_program
  switch-ok named i u = (
    switch_there s named (mark i) sw t.switches h.switch_names
        ∙ ap (λ (w : List ℕ). any (λ c. bytes_equal w c.name && beq named c.goes_by_name) t.switches) u.spells,
    u.place,
  )

  switch_faults : (named : Bool) → faults s sw 3 named draft (each (instr_uses 3 named draft) draft.code) ≡ undeclared_switches named t
  unfolding undeclared_switches
  switch_faults named =
      ap (faults s sw 3 named draft) (code-marks (instr_uses 3 named draft) (cond named "w" "x")
      (each_map (SoundWritten (length s) t.texts t.numbers) _ (λ w e. switch-uses lines (length s) draft t.texts t.numbers w e named) t.code h.sound.code))
      ∙ faults-items s sw 3 named draft (λ i. any (λ c. bytes_equal i.chars c.name && beq named c.goes_by_name) t.switches) (given_as (cond named "w" "x") t)
      (each_map (Used s) _ (switch-ok named) (given_as (cond named "w" "x") t) (used-of (cond named "w" "x") (typed named)))

  pub entries-draft : length (all_entries draft) ≡ length (entry_items t)
  unfolding draft_program
  entries-draft = entry-words t.switches

  entry_marks-are : take (length (all_entries draft)) en ≡ map (λ i. mark i) (entry_items t)
  entry_marks-are = ap (λ (n : ℕ). take n en) entries-draft ∙ h.entry_marks

  label_faults : faults s sw 2 true draft (each (instr_uses 2 true draft) draft.code ++ take (length (all_entries draft)) en) ≡ undeclared_labels t
  unfolding undeclared_labels
  label_faults =
      let a = code-marks (instr_uses 2 true draft) "l"
      (each_map (SoundWritten (length s) t.texts t.numbers) _ (λ w e. label-uses lines (length s) draft t.texts t.numbers w e true) t.code h.sound.code) in
      (λ j. faults s sw 2 true draft (a j ++ entry_marks-are j)) ∙ ap (faults s sw 2 true draft) (sym (map-append (λ i. mark i) (given_as "l" t) (entry_items t)))
      ∙ faults-items s sw 2 true draft (λ i. any (λ l. bytes_equal i.chars l.name) t.labels) (used_labels t)
      (each_map (Used s) _ label-ok (used_labels t) (each_append (Used s) (given_as "l" t) (entry_items t) (used-of "l" tt) entries-used))

-- ---- the answers

module _ (s c sw en : List ℕ) where
  pub labels-found : {f r : Fault} → Judges c (λ p. joined None (faults s sw 2 true p (each (instr_uses 2 true p) p.code))) f
      → Judges c (λ p. joined f (faults s sw 2 true p (take (length (all_entries p)) en))) r → Finds s c sw en label_places r
  labels-found x y =
      record {
        is = λ lines t h. let p : Program = draft_program lines t in
            let a : List ℕ = each (instr_uses 2 true p) p.code in
            let b : List ℕ = take (length (all_entries p)) en in
            y.is p h.holds ∙ ap (λ (g : Fault). joined g (faults s sw 2 true p b)) (x.is p h.holds)
            ∙ joined-join None (faults s sw 2 true p a) (faults s sw 2 true p b) ∙ ap fault_of (sym (faults-append s sw 2 true p a b) ∙ label_faults s lines t c sw en h);
      }

  pub switches-found : {f r : Fault} → Judges c (λ p. joined None (faults s sw 3 true p (each (instr_uses 3 true p) p.code))) f
      → Judges c (λ p. joined f (faults s sw 3 false p (each (instr_uses 3 false p) p.code))) r → Finds s c sw en switch_places r
  switches-found x y =
      record {
        is = λ lines t h. let p : Program = draft_program lines t in
            let a : List ℕ = faults s sw 3 true p (each (instr_uses 3 true p) p.code) in
            let b : List ℕ = faults s sw 3 false p (each (instr_uses 3 false p) p.code) in
            y.is p h.holds ∙ ap (λ (g : Fault). joined g b) (x.is p h.holds) ∙ joined-join None a b
            ∙ (λ j. fault_of (switch_faults s lines t c sw en h true j ++ switch_faults s lines t c sw en h false j));
      }
