-- The switches of the program, where all entries have their labels; and the whole program.
use mathlib.Core.Path.{◌≡◌, refl, sym, ap, ◌∙◌}
use mathlib.Core.Bool.{Bool, true, false, cond, not}
use mathlib.Core.List.{List, [], ◌∷◌, ◌++◌, map, map-append}
use Prim.Native.Nat.{ℕ, zero, suc, ◌≤◌, ◌<◌}
use native.Mathlib.Omega.{arith}
use lib.Dec.{T}
use lib.ListN.{length, get_or, set, take, length-map, length-take}
use lib.Seq.{take-suc, length-take-le, get_or-take}
use Rattle.std.proofs.lemmas.List.{get_or-map, map_push}
use Rattle.std.proofs.Math.Facts.{T_not-not}
use Rattle.lists.specs.SearchLaws.{ahead-below}
use Rattle.acceptance.specs.Switches.{switch_of}
use Rattle.acceptance.proofs.ProgramLaws.{entries-count}
use Rattle.acceptance.proofs.RowLaws.{each_map, keep-none, map-none}
use Rattle.drafts.specs.Drafting.{draft_switch, draft_program}
use Rattle.drafts.specs.Marks.{mark}
use Rattle.drafts.specs.Tabled.{entry_items, Tabled}
use Rattle.language.specs.Program.{Entry, Program, no_entry}
use Rattle.layout.specs.Bounds.{Each}
use Rattle.layout.proofs.CellLaws.{each_in, each_right}
use Rattle.layout.specs.Table.{all_entries}
use Rattle.lists.specs.Lists.{any, each, if_any, keep, bytes_equal}
use Rattle.linking.specs.Lookup.{label_by}
use Rattle.linking.specs.Resolving.{all_changed, argument_resolved, code_resolved, entry_resolved, entries_resolved, Labelling}
use Rattle.linking.proofs.Steps.{untouched, entries-same}
use Rattle.syntax.specs.Ending.{given_as, used_labels, undeclared_labels}
use Rattle.syntax.specs.Items.{Item, is}
use Rattle.syntax.specs.Items.Sort.{word, text}
use Rattle.syntax.specs.Load.{label_place, program_of}
use Rattle.syntax.specs.Statements.{entries_in}
use Rattle.syntax.specs.Tables.{Choice, Tables}
use Rattle.writing.proofs.Replacing.{relabelled-entries}
use Rattle.writing.proofs.Shapes.{kinds, counts_of, relabelled-kinds, relabelled-counts, same-switches}
use Rattle.writing.proofs.Switching.{entries_of}
use Rattle.writing.specs.Writing.{HoldsProgram, with_argument, with_entry_label, to_label}
use Rattle.linking.proofs.Marked.{Used}
use Rattle.linking.proofs.Undeclared.{entries-used, entries-draft}
use Rattle.linking.proofs.Placing.{code-only, label-placed, program-code}

no_item : Item
no_item = record { at = 0; sort = word; chars = []; good = true; colon = [] }

-- ---- entries with other labels

abbrev relabel : List ℕ → List Entry → List Entry
relabel [] es = es
relabel (l ∷ ls) [] = []
relabel (l ∷ ls) (e ∷ es) = to_label l e ∷ relabel ls es

relabel-next : (ls : List ℕ) (es : List Entry) (l : ℕ) → length ls < length es
    → set (relabel ls es) (length ls) (to_label l (get_or (relabel ls es) (length ls) no_entry)) ≡ relabel (ls ++ (l ∷ [])) es
relabel-next [] [] l h = absurd (omega (arith, h))
relabel-next [] (e ∷ es) l h = refl
relabel-next (x ∷ ls) [] l h = absurd (omega (arith, h))
relabel-next (x ∷ ls) (e ∷ es) l h = ap (λ (r : List Entry). to_label x e ∷ r) (relabel-next ls es l (omega (arith, h)))

relabel-append : (ls ms : List ℕ) (es fs : List Entry) → length ls ≡ length es → relabel (ls ++ ms) (es ++ fs) ≡ relabel ls es ++ relabel ms fs
relabel-append [] ms [] fs h = refl
relabel-append [] ms (e ∷ es) fs h = absurd (omega (arith, h))
relabel-append (l ∷ ls) ms [] fs h = absurd (omega (arith, h))
relabel-append (l ∷ ls) ms (e ∷ es) fs h = ap (λ (r : List Entry). to_label l e ∷ r) (relabel-append ls ms es fs (omega (arith, h)))

-- the entries of a list, with labels by place
abbrev placed_in : (List ℕ → ℕ) → List Item → List ℕ
placed_in place js = map (λ i. place i.chars) (keep (is word) js)

entries-placed : (place : List ℕ → ℕ) (js : List Item) → entries_in place js ≡ relabel (placed_in place js) (entries_in (λ w. 0) js)
unfolding entries_in
entries-placed place [] = refl
entries-placed place (i ∷ js) = go (is word i) (if_any [] (λ j. cond (is text j) j.chars []) js) (entries-placed place js)
  where
    go : (b : Bool) (v : List ℕ) → entries_in place js ≡ relabel (placed_in place js) (entries_in (λ w. 0) js)
        → cond b (record { label = place i.chars; text = v } ∷ []) [] ++ entries_in place js
        ≡ relabel (map (λ i. place i.chars) (cond b (i ∷ keep (is word) js) (keep (is word) js))) (cond b (record { label = 0; text = v } ∷ []) [] ++ entries_in (λ w. 0) js)
    go true v e = ap (λ (r : List Entry). record { label = place i.chars; text = v } ∷ r) e
    go false v e = e

all_placed : (place : List ℕ → ℕ) (cs : List Choice)
    → each entries_of (map (switch_of place) cs) ≡ relabel (map (λ i. place i.chars) (each (λ c. keep (is word) c.list) cs)) (each entries_of (map draft_switch cs))
unfolding draft_switch
all_placed place [] = refl
all_placed place (c ∷ cs) =
    let ls : List ℕ = placed_in place c.list in
    let es : List Entry = entries_in (λ w. 0) c.list in
    let rest : List Item = each (λ c. keep (is word) c.list) cs in
    (λ j. entries-placed place c.list j ++ all_placed place cs j)
    ∙ sym (relabel-append ls (map (λ i. place i.chars) rest) es (each entries_of (map draft_switch cs))
    (length-map (keep (is word) c.list) (λ i. place i.chars) ∙ sym (entries-count (λ w. 0) c.list)))
    ∙ ap (λ (ms : List ℕ). relabel ms (es ++ each entries_of (map draft_switch cs))) (sym (map-append (λ i. place i.chars) (keep (is word) c.list) rest))

-- ---- the entries after k labels

module _ (s en : List ℕ) where
  entries-so-far : (k : ℕ) (q : Program) → k ≤ length (all_entries q) → length (all_entries q) ≤ length en
      → all_entries (entries_resolved s en k q) ≡ relabel (map (label_by s q) (take k en)) (all_entries q)
  unfolding all_changed with_entry_label
  entries-so-far zero q h l = refl
  entries-so-far (suc k) q h l =
      let r : Program = entries_resolved s en k q in
      let ls : List ℕ = map (label_by s q) (take k en) in
      let n : length ls ≡ k = length-map (take k en) (label_by s q) ∙ length-take-le k en (omega arith) in
      let x : ℕ = label_by s q (get_or en k 0) in
      let v : k ≡ length ls = sym n in
      sym (relabelled-entries k (label_by s r (get_or en k 0)) r.switches)
      ∙ ap (λ (es : List Entry). set es k (to_label (label_by s r (get_or en k 0)) (get_or es k no_entry))) (entries-so-far k q (omega arith) l)
      ∙ (λ j. set (relabel ls (all_entries q)) (v j) (to_label (entries-same s en k q (get_or en k 0) j) (get_or (relabel ls (all_entries q)) (v j) no_entry)))
      ∙ relabel-next ls (all_entries q) x (omega (arith, n))
      ∙ ap (λ (ms : List ℕ). relabel ms (all_entries q)) (sym (map_push (label_by s q) (take k en) (get_or en k 0)) ∙ ap (map (label_by s q)) (sym (take-suc en k 0 (omega arith))))

-- ---- the whole program

draft-kinds : (place : List ℕ → ℕ) (cs : List Choice) → kinds (map draft_switch cs) ≡ kinds (map (switch_of place) cs)
unfolding draft_switch
draft-kinds place [] = refl
draft-kinds place (c ∷ cs) = ap (λ (l : List Bool). c.goes_by_name ∷ l) (draft-kinds place cs)

draft-counts : (place : List ℕ → ℕ) (cs : List Choice) → counts_of (map draft_switch cs) ≡ counts_of (map (switch_of place) cs)
unfolding draft_switch
draft-counts place [] = refl
draft-counts place (c ∷ cs) = λ j. (entries-count (λ w. 0) c.list ∙ sym (entries-count place c.list)) j ∷ draft-counts place cs j

labels-placed : (f : ℕ → ℕ) (place : List ℕ → ℕ) (js : List Item) → Each (λ i. f (mark i) ≡ place i.chars) js → map f (map (λ i. mark i) js) ≡ map (λ i. place i.chars) js
labels-placed f place [] e = refl
labels-placed f place (i ∷ js) e = λ j. e.0 j ∷ labels-placed f place js e.1 j

module _ (s lines : List ℕ) (t : Tables) (c sw en : List ℕ) (h : Tabled s lines t c sw en) where
  abbrev draft : Program
  draft = draft_program lines t

  abbrev coded : Program
  coded = code_resolved s sw (length draft.code) draft

  coded-as : {X : Type 0} (g : Program → X) → ((k j : ℕ) (p : Program) → g (argument_resolved s sw k j p) ≡ g p) → g coded ≡ g draft
  coded-as g e = code-only s sw g e (length draft.code) draft

  coded-entries : all_entries coded ≡ all_entries draft
  unfolding argument_resolved with_argument
  coded-entries = coded-as (λ p. all_entries p) (λ k j p. refl)

  coded-long : length (all_entries coded) ≡ length (entry_items t)
  coded-long = ap length coded-entries ∙ entries-draft s lines t c sw en h

  coded-place : (m : ℕ) → label_by s coded m ≡ label_by s draft m
  unfolding argument_resolved with_argument
  coded-place m = coded-as (λ p. label_by s p m) (λ k j p. refl)

  entries_few : length (all_entries coded) ≤ length en
  entries_few =
      omega (arith, coded-long, length-take (length (entry_items t)) en, ap length h.entry_marks, length-map (entry_items t) (λ i. mark i))

  abbrev linked : Program
  linked = entries_resolved s en (length (all_entries coded)) coded

  linked-as : {X : Type 0} (g : Program → X) → ((k : ℕ) (p : Program) → g (entry_resolved s en k p) ≡ g p) → g linked ≡ g coded
  linked-as g e = untouched (entry_resolved s en) g e (length (all_entries coded)) coded

  linked-entries : all_entries linked ≡ each entries_of (map (switch_of (label_place t)) t.switches)
  unfolding draft_program
  linked-entries =
      entries-so-far s en (length (all_entries coded)) coded (omega arith) entries_few
      ∙ (λ j. relabel (map (label_by s coded) (take (coded-long j) en)) (coded-entries j))
      ∙ ap (λ (ms : List ℕ). relabel (map (label_by s coded) ms) (each entries_of (map draft_switch t.switches))) h.entry_marks
      ∙ ap (λ (ls : List ℕ). relabel ls (each entries_of (map draft_switch t.switches)))
      (labels-placed (label_by s coded) (label_place t) (entry_items t)
      (each_map (Used s) _ (λ i u. coded-place (mark i) ∙ label-placed s lines t c sw en h i u) (entry_items t) (entries-used s lines t c sw en h)))
      ∙ sym (all_placed (label_place t) t.switches)

  linked-switches : linked.switches ≡ map (switch_of (label_place t)) t.switches
  unfolding draft_program argument_resolved with_argument with_entry_label
  linked-switches =
      let u : coded.switches ≡ draft.switches = coded-as (λ p. p.switches) (λ k j p. refl) in
      same-switches linked.switches (map (switch_of (label_place t)) t.switches)
      (linked-as (λ p. kinds p.switches) (λ k p. relabelled-kinds k _ p.switches) ∙ ap kinds u ∙ draft-kinds (label_place t) t.switches)
      (linked-as (λ p. counts_of p.switches) (λ k p. relabelled-counts k _ p.switches) ∙ ap counts_of u ∙ draft-counts (label_place t) t.switches) linked-entries

  pub linked-program : linked ≡ program_of lines t
  unfolding program_of draft_program argument_resolved with_argument with_entry_label
  linked-program = λ j. record {
    code = (linked-as (λ p. p.code) (λ k p. refl) ∙ program-code s lines t c sw en h) j;
    labels = (linked-as (λ p. p.labels) (λ k p. refl) ∙ coded-as (λ p. p.labels) (λ k j p. refl)) j;
    switches = linked-switches j;
    texts = (linked-as (λ p. p.texts) (λ k p. refl) ∙ coded-as (λ p. p.texts) (λ k j p. refl)) j;
    numbers = (linked-as (λ p. p.numbers) (λ k p. refl) ∙ coded-as (λ p. p.numbers) (λ k j p. refl)) j;
  }

  -- where every used label is declared, those of the entries are in range
  module _ (none : undeclared_labels t ≡ []) where
    declared : Each (λ i. T (any (λ l. bytes_equal i.chars l.name) t.labels)) (entry_items t)
    unfolding undeclared_labels
    declared =
        each_right (λ i. T (any (λ l. bytes_equal i.chars l.name) t.labels)) (given_as "l" t) (entry_items t)
        (each_map _ _ (λ i e. T_not-not (any (λ l. bytes_equal i.chars l.name) t.labels) e) (used_labels t)
        (keep-none (λ i. not (any (λ l. bytes_equal i.chars l.name) t.labels)) (used_labels t)
        (map-none (λ i. i.at) (keep (λ i. not (any (λ l. bytes_equal i.chars l.name) t.labels)) (used_labels t)) none)))

    pub labelling : {d : List ℕ} → HoldsProgram d coded → Labelling s d en
    labelling k =
        record {
          program = coded;
          holds = k;
          low = λ j l. let n : ℕ = length (entry_items t) in
              let b : j < n = omega (arith, coded-long) in
              let i : Item = get_or (entry_items t) j no_item in
              let e : get_or en j 0 ≡ mark i = sym (get_or-take n en j 0 b) ∙ ap (λ (ms : List ℕ). get_or ms j 0) h.entry_marks ∙ get_or-map (λ i. mark i) (entry_items t) j no_item 0 b in
              let u : Used s i = each_in (Used s) (entry_items t) (entries-used s lines t c sw en h) j no_item b in
              let p : label_by s coded (get_or en j 0) ≡ label_place t i.chars = ap (label_by s coded) e ∙ coded-place (mark i) ∙ label-placed s lines t c sw en h i u in
              let m : label_place t i.chars < length t.labels =
              ahead-below (λ l. bytes_equal i.chars l.name) t.labels (each_in (λ i. T (any (λ l. bytes_equal i.chars l.name) t.labels)) (entry_items t) declared j no_item b) in
              omega (arith, p, m, h.sound.labels_few);
        }
