-- The program of an accepted text is well formed.
use Rattle.std.specs.Prelude.{◌≡◌, refl, Bool, not, ◌&&◌, leb, nat_abs}
use Rattle.std.proofs.Common.{sym, leb→le, drop-cons}
use Rattle.std.proofs.Math.Path.{subst}
use Rattle.std.proofs.Math.Bool.{true, false, cond}
use Rattle.std.specs.Bool.{beq}
use mathlib.Core.List.{List, [], ◌∷◌, ◌++◌, map}
use Prim.Native.Nat.{ℕ, zero, suc, pred, ◌≤◌, ◌<◌}
use Prim.Native.String.{String}
use native.Mathlib.Omega.{arith}
use Rattle.std.proofs.Math.Dec.{T, ltb, lt→ltb, le→leb}
use Rattle.std.proofs.Math.ListN.{length, get_or, drop, length-map}
use Rattle.std.proofs.lemmas.List.{get_or-map}
use Rattle.std.proofs.Math.Facts.{T_not-not}
use Rattle.layout.specs.Below.Lists.{total, all, any, filled, keep, each, bytes_equal}
use Rattle.layout.specs.Below.ListLaws.{Passed, parts}
use Rattle.layout.specs.Below.Limits as limit
use Rattle.layout.specs.Below.Instructions.{operation, is_end}
use Rattle.layout.specs.Below.Program.{Instr, Program, no_instr}
use Rattle.layout.specs.Below.LanguageValues.{in_range}
use Rattle.layout.specs.Below.WellFormed.{good_text, good_instr, good_label, good_switch, program_tests, good_program}
use Rattle.layout.specs.Bounds.{Each}
use Rattle.layout.proofs.CellLaws.{each_left, each_right}
use Rattle.macros.specs.Below.ArgumentForms.{form_in, Argument, of_form}
use Rattle.macros.specs.Below.Ending.{last_place, absent, end_faults, given_as, used_labels, undeclared_labels, undeclared_switches, last_questions}
use Rattle.macros.specs.Below.Items.{Item, is, places, statements_from}
use Rattle.macros.specs.Below.Items.Sort.{word}
use Rattle.macros.specs.Below.SyntaxLoad.{Loaded, label_place, instr_of, program_of, unless_refused, load_from, Lined}
use Rattle.macros.specs.Below.SyntaxLoad.Loaded.{accepted}
use Rattle.macros.specs.Below.Questions.{questions}
use Rattle.macros.specs.Below.Tables.{Written, Choice, Tables, Draft, blank, contents, draft_after}
use Rattle.macros.specs.Below.SyntaxVerdict.{Verdict, first_no}
use Rattle.macros.specs.Below.SyntaxVerdict.Verdict.{refuse}
use Rattle.macros.specs.Load.{loaded, load_in}
use Rattle.macros.proofs.LoadLaws.{prepared-lined}
use Rattle.macros.specs.Prepared.{Prepared, prepared}
use Rattle.macros.specs.Prepared.Prepared.{unfit, ready}
use Rattle.acceptance.proofs.RowLaws.{append-none, map-none, cond-none, keep-none, each_none, each_map, each_both, each_all, each-mapped, each-unmapped, each-unkeep, each-each, Answered, answered}
use Rattle.acceptance.proofs.ReaderLaws.{statements-sound}
use Rattle.acceptance.proofs.FreshLaws.{different-left}
use Rattle.acceptance.specs.Switches.{switch_of}
use Rattle.acceptance.specs.Drafts.{SoundItem, SoundWritten, SoundChoice, SoundDraft, Declared}
use Rattle.acceptance.proofs.ArgumentLaws.{by_names}
use Rattle.acceptance.proofs.StatementLaws.{same_bytes-sym}
use Rattle.acceptance.proofs.DraftLaws.{blank-sound, draft-sound}
use Rattle.acceptance.proofs.ProgramLaws.{instr-good, entries-count, switch-good, label-good}

-- The end of the text: 25, 12 and 13

used : (t : Tables) (fs : String) (q : Item → Bool) → Each (λ i. T (q i)) (given_as fs t)
    → Each (λ w. Each (λ a. T (form_in fs a.form) → T (q a.item)) w.args) t.code
used t fs q h =
    each_map _ _
    (λ w e. each-unkeep (λ a. T (q a.item)) (λ a. form_in fs a.form) w.args (each-unmapped (λ i. T (q i)) (λ a. a.item) (keep (λ a. form_in fs a.form) w.args) e))
    t.code
    (each-each (λ i. T (q i)) (λ w. of_form fs w.args) t.code h)

none-missing : (q : Item → Bool) (js : List Item) → places (keep (λ i. not (q i)) js) ≡ [] → Each (λ i. T (q i)) js
none-missing q js h = each_map _ _ (λ i e. T_not-not (q i) e) js (keep-none (λ i. not (q i)) js (map-none (λ i. i.at) (keep (λ i. not (q i)) js) h))

abbrev is_label : Tables → Item → Bool
is_label t i = any (λ l. bytes_equal i.chars l.name) t.labels

abbrev is_switch : Tables → Bool → Item → Bool
is_switch t goes_by_name i = any (λ c. bytes_equal i.chars c.name && beq goes_by_name c.goes_by_name) t.switches

module _ (t : Tables) (labels-there : undeclared_labels t ≡ []) (named-there : undeclared_switches true t ≡ []) (indexed-there : undeclared_switches false t ≡ []) where
  labels-used : Each (λ i. T (is_label t i)) (used_labels t)
  unfolding undeclared_labels
  labels-used = none-missing (is_label t) (used_labels t) labels-there

  switches-used : (b : Bool) → undeclared_switches b t ≡ [] → Each (λ i. T (is_switch t b i)) (given_as (cond b "w" "x") t)
  unfolding undeclared_switches
  switches-used b h = none-missing (is_switch t b) (given_as (cond b "w" "x") t) h

  all-declared : Each (λ w. Each (Declared t) w.args) t.code
  all-declared =
      let l = used t "l" (is_label t) (each_left (λ i. T (is_label t i)) (given_as "l" t) (each (λ c. keep (is word) c.list) t.switches) labels-used) in
      let w = used t "w" (is_switch t true) (switches-used true named-there) in
      let x = used t "x" (is_switch t false) (switches-used false indexed-there) in
      each_map _ _
      (λ i e. each_map _ _ (λ a u. record { label_there = u.0; switch_there = by a u.1.0 u.1.1 }) i.args (each_both _ _ i.args e.0 (each_both _ _ i.args e.1.0 e.1.1)))
      t.code
      (each_both _ _ t.code l (each_both _ _ t.code w x))
    where
      by : (a : Argument) → (T (form_in "w" a.form) → T (is_switch t true a.item)) → (T (form_in "x" a.form) → T (is_switch t false a.item))
          → (b : Bool) → T (form_in (cond b "w" "x") a.form) → T (is_switch t b a.item)
      by a f g true = f
      by a f g false = g

  entries-declared : Each (λ c. Each (λ i. T (is_label t i)) (keep (is word) c.list)) t.switches
  entries-declared =
      each-each (λ i. T (is_label t i)) (λ c. keep (is word) c.list) t.switches
      (each_right (λ i. T (is_label t i)) (given_as "l" t) (each (λ c. keep (is word) c.list) t.switches) labels-used)

module _ (ls : List ℕ) (t : Tables) where
  abbrev ends : Written → Bool
  ends w = is_end (operation w.op).flow

  no-written : Written
  no-written = record { op = no_instr.op; at = 0; args = [] }

  last_ends : 0 < length t.code → each (λ w. cond (ends w) [] (w.at ∷ [])) (drop (pred (length t.code)) t.code) ≡ []
      → T (is_end (operation (get_or (map (instr_of ls t) t.code) (pred (length (map (instr_of ls t) t.code))) no_instr).op).flow)
  unfolding instr_of
  last_ends some h =
      let k = pred (length t.code) in
      let inside : k < length t.code = before (length t.code) some in
      let w = get_or t.code k no-written in
      let ended : T (ends w) =
      cond-none (ends w) w.at []
      (each_none (λ w. cond (ends w) [] (w.at ∷ [])) (w ∷ drop (suc k) t.code)
      (subst (λ (ws : List Written). each (λ w. cond (ends w) [] (w.at ∷ [])) ws ≡ []) (drop-cons t.code k no-written inside) h)).0 in
      subst (λ (j : ℕ). T (is_end (operation (get_or (map (instr_of ls t) t.code) (pred j) no_instr).op).flow)) (sym (length-map t.code (instr_of ls t)))
      (subst (λ (i : Instr). T (is_end (operation i.op).flow)) (sym (get_or-map (instr_of ls t) t.code k no-written no_instr inside)) ended)
    where
      before : (m : ℕ) → 0 < m → pred m < m
      before zero h = h
      before (suc m) h = omega arith

filled-some : {X : Type 0} (xs : List X) → T (filled xs) → 0 < length xs
filled-some [] h = absurd h
filled-some (x ∷ xs) h = omega arith

-- 25
record Ended (d : Draft) : Type 0 where
  some : 0 < length d.tables.code
  last : each (λ w. cond (is_end (operation w.op).flow) [] (w.at ∷ [])) (drop (pred (length d.tables.code)) d.tables.code) ≡ []

ended : (at : ℕ) (d : Draft) → end_faults at d ≡ [] → Ended d
unfolding end_faults
ended at d h =
    let code = d.tables.code in
    let c₂ = d.closing.faults ++ cond d.closing.after_KONS d.closing.early (at ∷ []) ++ absent d.closing.after_KONP at in
    let c₃ = absent (filled code) at in
    let c₄ = each (λ w. cond (is_end (operation w.op).flow) [] (w.at ∷ [])) (drop (pred (length code)) code) in
    let h₄ = append-none (c₂ ++ c₃) c₄ (append-none (c₂ ++ c₃ ++ c₄) (places d.waiting) h).0 in
    record {
      some = filled-some code (cond-none (filled code) at [] (append-none c₂ c₃ h₄.0).1);
      last = h₄.1;
    }

-- The program of a draft that passes all questions
module _ (ls : List ℕ) (lined : Lined ls) (n last : ℕ) (d : Draft) (h : SoundDraft n d) (a : Answered (last_questions last d)) where
  abbrev tables : Tables
  tables = d.tables

  abbrev program : Program
  program = program_of ls tables

  record Declarations : Type 0 where
    at_end : Ended d
    code-declared : Each (λ w. Each (Declared tables) w.args) tables.code
    switches-declared : Each (λ c. Each (λ i. T (is_label tables i)) (keep (is word) c.list)) tables.switches

  declarations : Declarations
  unfolding last_questions
  declarations =
      let k = append-none (undeclared_switches true tables) (undeclared_switches false tables) a.1.1.1.0 in
      record {
        at_end = ended last d a.1.0;
        code-declared = all-declared tables a.1.1.0 k.0 k.1;
        switches-declared = entries-declared tables a.1.1.0 k.0 k.1;
      }

  instructions-good : T (all (good_instr program) (map (instr_of ls tables) tables.code))
  instructions-good =
      let u = different-left bytes_equal same_bytes-sym (by_names tables.switches) (contents d.waiting) h.own_different in
      each_all (good_instr program) (map (instr_of ls tables) tables.code)
      (each-mapped (λ i. T (good_instr program i)) (instr_of ls tables) tables.code
      (each_map _ _ (λ w e. instr-good ls tables lined u n w e.0 e.1) tables.code
      (each_both (SoundWritten n tables.texts tables.numbers) (λ w. Each (Declared tables) w.args) tables.code h.tables.code declarations.code-declared)))

  switches-good : T (all (good_switch program) (map (switch_of (label_place tables)) tables.switches))
  switches-good =
      each_all (good_switch program) (map (switch_of (label_place tables)) tables.switches)
      (each-mapped (λ w. T (good_switch program w)) (switch_of (label_place tables)) tables.switches
      (each_map _ _ (λ c e. switch-good ls tables n c e.0 e.1) tables.switches
      (each_both (SoundChoice n tables.texts) (λ c. Each (λ i. T (is_label tables i)) (keep (is word) c.list)) tables.switches h.tables.switches
      declarations.switches-declared)))

  entries-total : (cs : List Choice) → total (λ w. length w.entries) (map (switch_of (label_place tables)) cs) ≡ total (λ c. length (keep (is word) c.list)) cs
  entries-total [] = refl
  entries-total (c ∷ cs) = omega (arith, entries-count (label_place tables) c.list, entries-total cs)

  program_good : T (good_program program)
  unfolding good_program program_of
  program_good =
      let t = h.tables in
      let code = map (instr_of ls tables) tables.code in
      let switches = map (switch_of (label_place tables)) tables.switches in
      let counted = length-map tables.code (instr_of ls tables) in
      let lists : Passed (drop 7 (program_tests program)) = (
        instructions-good,
        (
          each_all (good_label program) tables.labels (each_map _ _ (label-good ls tables) tables.labels t.labels),
          (
            switches-good,
            (
              each_all (λ w. ltb 1 (length w) && good_text w) tables.texts t.texts,
              (
                each_all (λ z. ltb limit.small (nat_abs z) && in_range z) tables.numbers t.numbers,
                (t.texts_different, (t.numbers_different, (last_ends ls tables declarations.at_end.some declarations.at_end.last, tt))),
              ),
            ),
          ),
        ),
      ) in
      parts (program_tests program) (
        lt→ltb 0 (length code) (omega (arith, counted, declarations.at_end.some)),
        (
          le→leb (length code) limit.instructions (omega (arith, counted, t.code_few)),
          (
            le→leb (length tables.labels) limit.labels t.labels_few,
            (
              le→leb (length switches) limit.switches (omega (arith, length-map tables.switches (switch_of (label_place tables)), t.switches_few)),
              (
                le→leb (total (λ w. length w.entries) switches) limit.entries (omega (arith, entries-total tables.switches, t.entries_few)),
                (
                  le→leb (length tables.texts) limit.texts t.texts_few,
                  (le→leb (length tables.numbers) limit.numbers t.numbers_few, lists),
                ),
              ),
            ),
          ),
        ),
      )

-- Load

pub passed_on : (ls : List ℕ) (v : Verdict) (r : Loaded) (p : Program) → unless_refused ls v r ≡ accepted p → (v ≡ Verdict.yes) × (r ≡ accepted p)
unfolding unless_refused
passed_on ls Verdict.yes r p h = (refl, h)
passed_on ls (refuse number at) r p h = absurd (let z : ◌≡◌ {A = ℕ} 0 1 = cc in omega arith)

load-good : (ls : List ℕ) → Lined ls → (n last : ℕ) (d : Draft) → SoundDraft n d → (xs : List (List Item)) → Each (Each (SoundItem n)) xs
    → (p : Program) → load_from ls last d xs ≡ accepted p → T (good_program p)
unfolding load_from
load-good ls lined n last d h [] k p e =
    let r = passed_on ls (first_no (last_questions last d)) (accepted (program_of ls d.tables)) p e in
    let q : program_of ls d.tables ≡ p = inside r.1 in
    subst (λ (p : Program). T (good_program p)) q (program_good ls lined n last d h (answered (last_questions last d) r.0))
  where
    inside : {p q : Program} → accepted p ≡ accepted q → p ≡ q
    inside e = cc
load-good ls lined n last d h (x ∷ xs) k p e =
    let r = passed_on ls (first_no (questions d x)) (load_from ls last (draft_after d x) xs) p e in
    load-good ls lined n last (draft_after d x) (draft-sound n d x h k.0 (answered (questions d x) r.0)) xs k.1 p r.1

-- The program of an accepted text is well formed
pub accepted-good : (cells : ℕ) (s : List ℕ) (p : Program) → load_in cells s ≡ accepted p → T (good_program p)
unfolding load_in loaded
accepted-good cells s p e = go (leb limit.table cells) (leb (length s) limit.text) refl e
  where
    made : (x : Prepared) → prepared s ≡ x → length s ≤ limit.text → loaded x ≡ accepted p → T (good_program p)
    made (unfit number line) f short e = absurd (let z : ◌≡◌ {A = ℕ} 0 1 = cc in omega arith)
    made (ready w ls) f short e =
        load-good ls (prepared-lined s w ls short f) (length w) (last_place w) blank (blank-sound (length w)) (statements_from 0 w) (statements-sound w) p e

    go : (a b : Bool) → leb (length s) limit.text ≡ b → cond (a && b) (loaded (prepared s)) (Loaded.refused 40 0) ≡ accepted p → T (good_program p)
    go true true f e = made (prepared s) refl (leb→le (length s) limit.text (subst T (sym f) tt)) e
    go true false f e = absurd (let z : ◌≡◌ {A = ℕ} 0 1 = cc in omega arith)
    go false b f e = absurd (let z : ◌≡◌ {A = ℕ} 0 1 = cc in omega arith)
