-- The instructions, switches and labels of a sound draft, where what they use is declared, are well formed.
use Rattle.std.specs.Prelude.{◌≡◌, Bool, cond, not, ◌&&◌, ◌||◌, leb, length}
use Rattle.std.proofs.Math.Path.{refl, subst}
use Rattle.std.proofs.Common.{ap, sym, arith, lt→ltb, le→leb}
use Rattle.std.proofs.Math.Bool.{true, false}
use mathlib.Core.List.{List, [], ◌∷◌, ◌++◌, map}
use Prim.Native.Nat.{ℕ, suc, ◌≤◌}
use Rattle.std.proofs.Math.Dec.{T, ltb}
use Rattle.std.proofs.Math.ListN.{get_or}
use Rattle.std.proofs.lemmas.List.{length-map}
use Rattle.lists.specs.SearchLaws.{ahead-below}
use Rattle.lists.specs.BoolLaws.{T-second}
use Rattle.layout.specs.Below.Lists.{all, any, filled, if_any, keep, bytes_equal, among}
use Rattle.layout.specs.Below.Quoted.{bytes}
use Rattle.layout.specs.Below.ListLaws.{T-left, T-right, T-both}
use Rattle.layout.specs.Below.Limits as limit
use Rattle.layout.specs.Below.Instructions.{Forms, operation}
use Rattle.layout.specs.Below.Program.{Arg, identifier, Instr, Label, Entry, Program}
use Rattle.layout.specs.Below.WellFormed.{good_text, different, form, ranged, listed, good_instr, good_label, good_entry, good_switch}
use Rattle.layout.specs.Bounds.{Each}
use Rattle.macros.specs.Below.ArgumentForms.{Argument, alternatives}
use Rattle.macros.specs.Below.Items.{Sort, same_sort, Item, is, line_at}
use Rattle.macros.specs.Below.Items.Sort.{separator, word, colon, end, text, wrong}
use Rattle.macros.specs.Below.SyntaxLoad.{label_place, arg_of, instr_of, program_of, Lined}
use Rattle.macros.specs.Below.Statements.{entry_faults, list_faults, entries_in}
use Rattle.macros.specs.Below.Tables.{Written, Choice, Tables}
use Rattle.acceptance.proofs.RowLaws.{append-none, cond-none, each_map, each_both, each-unkeep, each-every, any-mapped, any-more}
use Rattle.acceptance.specs.Reading.{fits}
use Rattle.acceptance.specs.Switches.{switch_of}
use Rattle.acceptance.specs.Drafts.{FineItem, in_texts, SoundArgument, SoundWritten, SoundChoice, SoundLabel, Declared}
use Rattle.acceptance.proofs.ArgumentLaws.{by_names, argument-right}

-- Instructions

-- three forms stand in a list of forms
abbrev shape : ℕ → ℕ → ℕ → Forms → Bool
shape x y z f = among x (bytes f.0) && (among y (bytes f.1) && (among z (bytes f.2) && true))

module _ (ls : List ℕ) (t : Tables) where
  abbrev p : Program
  p = program_of ls t

  abbrev Right : Argument → Type 0
  Right a = (form p (arg_of t a) ≡ a.form) × T (ranged p (arg_of t a))

  record Placed (i : Instr) : Type 0 where
    in-forms : T (listed p i)
    first_ranged : T (ranged p i.first)
    second_ranged : T (ranged p i.second)
    third_ranged : T (ranged p i.third)

  listed_by : (i : Instr) → T (any (shape (form p i.first) (form p i.second) (form p i.third)) (operation i.op).forms) → T (listed p i)
  unfolding listed
  listed_by i h =
      any-more (shape x y z) (λ f. among x (bytes f.0) && among y (bytes f.1) && among z (bytes f.2)) (operation i.op).forms
      (each-every _ (λ f k.
      let a = among x (bytes f.0) in
      let b = among y (bytes f.1) in
      let c = among z (bytes f.2) in
      let r = T-right a (b && (c && true)) k in
      T-both (a && b) c (T-both a b (T-left a (b && (c && true)) k) (T-left b (c && true) r)) (T-left c true (T-right b (c && true) r))) (operation i.op).forms) h
    where
      x : ℕ
      x = form p i.first

      y : ℕ
      y = form p i.second

      z : ℕ
      z = form p i.third

  placed : (w : Written) → length w.args ≤ 3 → Each Right w.args → T (any (fits w.args) (alternatives w.op)) → Placed (instr_of ls t w)
  unfolding instr_of
  placed w few r f = go w.args few r (any-mapped (fits w.args) _ (operation w.op).forms f)
    where
      made : List Argument → Instr
      made xs =
          let args = map (arg_of t) xs in
          record { op = w.op; line = line_at ls w.at; first = get_or args 0 Arg.nothing; second = get_or args 1 Arg.nothing; third = get_or args 2 Arg.nothing }

      go : (xs : List Argument) → length xs ≤ 3 → Each Right xs → T (any (λ f. fits xs (bytes f.0 ∷ bytes f.1 ∷ bytes f.2 ∷ [])) (operation w.op).forms)
          → Placed (made xs)
      go [] n r f = record { in-forms = listed_by (made []) f; first_ranged = tt; second_ranged = tt; third_ranged = tt }
      go (a ∷ []) n r f =
          record {
            in-forms = listed_by (made (a ∷ [])) (rw r.0.0 f);
            first_ranged = r.0.1;
            second_ranged = tt;
            third_ranged = tt;
          }
      go (a ∷ b ∷ []) n r f =
          record {
            in-forms = listed_by (made (a ∷ b ∷ [])) (rw (r.0.0, r.1.0.0) f);
            first_ranged = r.0.1;
            second_ranged = r.1.0.1;
            third_ranged = tt;
          }
      go (a ∷ b ∷ c ∷ []) n r f =
          record {
            in-forms = listed_by (made (a ∷ b ∷ c ∷ [])) (rw (r.0.0, r.1.0.0, r.1.1.0.0) f);
            first_ranged = r.0.1;
            second_ranged = r.1.0.1;
            third_ranged = r.1.1.0.1;
          }
      go (a ∷ b ∷ c ∷ e ∷ xs) n r f = absurd (omega arith)

  line_is : (w : Written) → (instr_of ls t w).line ≡ line_at ls w.at
  unfolding instr_of
  line_is w = refl

  pub instr-good : Lined ls → T (different bytes_equal (by_names t.switches)) → (n : ℕ) (w : Written) → SoundWritten n t.texts t.numbers w
      → Each (Declared t) w.args → T (good_instr p (instr_of ls t w))
  unfolding good_instr
  instr-good lined u n w h d =
      let i = instr_of ls t w in
      let k =
      placed w h.few
      (each_map _ _ (λ a e. argument-right ls t n u a e.0 e.1) w.args
      (each_both (SoundArgument n t.texts t.numbers) (Declared t) w.args h.each_argument d))
      h.fit in
      let b = ranged p i.first in
      let c = ranged p i.second in
      let e = ranged p i.third in
      let l = line_is w in
      T-both (listed p i && b && c && e && ltb 0 i.line) (leb i.line limit.text)
      (T-both (listed p i && b && c && e) (ltb 0 i.line)
      (T-both (listed p i && b && c) e (T-both (listed p i && b) c (T-both (listed p i) b k.in-forms k.first_ranged) k.second_ranged) k.third_ranged)
      (lt→ltb 0 i.line (omega (arith, l, lined.least w.at))))
      (le→leb i.line limit.text (omega (arith, l, lined.most w.at)))

-- Switches

text-apart : (k : Sort) → T (same_sort text k) → same_sort word k ≡ false
text-apart separator h = absurd h
text-apart word h = absurd h
text-apart colon h = absurd h
text-apart end h = absurd h
text-apart text h = refl
text-apart wrong h = absurd h

-- a text in a list without faults stands in a switch by name, after an entry
text-there : (goes_by_name before after : Bool) (i : Item) → entry_faults goes_by_name before after i ≡ [] → T (is text i) → T (goes_by_name && before)
unfolding entry_faults
text-there goes_by_name before after i h k = go (is text i) (rw (text-apart i.sort k) at h) k
  where
    go : (b : Bool) → cond (b && goes_by_name && before) [] (i.at ∷ []) ≡ [] → T b → T (goes_by_name && before)
    go true h k = cond-none (goes_by_name && before) i.at [] h
    go false h k = absurd k

-- what an entry's word or text needs
record Entered (t : Tables) (i : Item) : Type 0 where
  text-good : T (is text i) → T (good_text i.chars)
  text-held : T (is text i) → T (in_texts t.texts i.chars)
  label-held : T (is word i) → T (any (λ l. bytes_equal i.chars l.name) t.labels)

pub entries-count : (place : List ℕ → ℕ) (js : List Item) → length (entries_in place js) ≡ length (keep (is word) js)
unfolding entries_in
entries-count place [] = refl
entries-count place (i ∷ js) = go (is word i) (entries-count place js)
  where
    go : (b : Bool) → length (entries_in place js) ≡ length (keep (is word) js)
        → length (cond b (record { label = place i.chars; text = if_any [] (λ j. cond (is text j) j.chars []) js } ∷ []) [] ++ entries_in place js) ≡ length (cond b (i ∷ keep (is word) js) (keep (is word) js))
    go true h = ap suc h
    go false h = h

entries-there : (goes_by_name : Bool) (place : List ℕ → ℕ) (js : List Item) → T (filled js) → list_faults goes_by_name false js ≡ [] → T (filled (entries_in place js))
unfolding list_faults entry_faults entries_in
entries-there goes_by_name place [] h k = absurd h
entries-there goes_by_name place (i ∷ js) h k =
    go (is word i) (is text i) _ (append-none (entry_faults goes_by_name false (if_any false (is text) js) i) (list_faults goes_by_name (filled i.colon) js) k).0
  where
    go : (a b c : Bool) → cond (a && identifier i.chars) (cond (goes_by_name && c) [] i.colon) (cond (b && goes_by_name && false) [] (i.at ∷ [])) ≡ []
        → T (filled (cond a (record { label = place i.chars; text = if_any [] (λ j. cond (is text j) j.chars []) js } ∷ []) [] ++ entries_in place js))
    go true b c h = tt
    go false true c h = absurd (never goes_by_name h)
      where
        never : (b : Bool) → cond (b && false) [] (i.at ∷ []) ≡ [] → ⊥
        never true h = let z : ◌≡◌ {A = ℕ} 0 1 = cc in omega arith
        never false h = let z : ◌≡◌ {A = ℕ} 0 1 = cc in omega arith
    go false false c h = absurd (let z : ◌≡◌ {A = ℕ} 0 1 = cc in omega arith)

module _ (ls : List ℕ) (t : Tables) (goes_by_name : Bool) where
  abbrev entry_of : Item → List Item → Entry
  entry_of i js = record { label = label_place t i.chars; text = if_any [] (λ j. cond (is text j) j.chars []) js }

  entry-text-good : (before : Bool) (js : List Item) → list_faults goes_by_name before js ≡ [] → Each (Entered t) js
      → let w = if_any [] (λ j. cond (is text j) j.chars []) js in T (not (filled w) || (goes_by_name && good_text w && in_texts t.texts w))
  unfolding list_faults
  entry-text-good before [] h k = tt
  entry-text-good before (j ∷ js) h k =
      go (is text j) refl (append-none (entry_faults goes_by_name before (if_any false (is text) js) j) (list_faults goes_by_name (filled j.colon) js) h).0
    where
      go : (b : Bool) → is text j ≡ b → entry_faults goes_by_name before (if_any false (is text) js) j ≡ []
          → T (not (filled (cond b j.chars [])) || (goes_by_name && good_text (cond b j.chars []) && in_texts t.texts (cond b j.chars [])))
      go true e f =
          let there : T (is text j) = subst T (sym e) tt in
          let w = j.chars in
          T-second (not (filled w)) (goes_by_name && good_text w && in_texts t.texts w)
          (T-both (goes_by_name && good_text w) (in_texts t.texts w)
          (T-both goes_by_name (good_text w) (T-left goes_by_name before (text-there goes_by_name before (if_any false (is text) js) j f there)) (k.0.text-good there)) (k.0.text-held there))
      go false e f = tt

  entries-good : (before : Bool) (js : List Item) → list_faults goes_by_name before js ≡ [] → Each (Entered t) js
      → T (all (good_entry (program_of ls t) goes_by_name) (entries_in (label_place t) js))
  unfolding list_faults entries_in program_of
  entries-good before [] h k = tt
  entries-good before (i ∷ js) h k =
      go (is word i) k.0.label-held (entries-good (filled i.colon) js rest k.1)
    where
      rest : list_faults goes_by_name (filled i.colon) js ≡ []
      rest = (append-none (entry_faults goes_by_name before (if_any false (is text) js) i) (list_faults goes_by_name (filled i.colon) js) h).1

      go : (b : Bool) → (T b → T (any (λ l. bytes_equal i.chars l.name) t.labels)) → T (all (good_entry (program_of ls t) goes_by_name) (entries_in (label_place t) js))
          → T (all (good_entry (program_of ls t) goes_by_name) (cond b (entry_of i js ∷ []) [] ++ entries_in (label_place t) js))
      go true f r =
          T-both (good_entry (program_of ls t) goes_by_name (entry_of i js)) (all (good_entry (program_of ls t) goes_by_name) (entries_in (label_place t) js))
          (T-both (ltb (label_place t i.chars) (length t.labels)) _
          (lt→ltb (label_place t i.chars) (length t.labels) (ahead-below (λ l. bytes_equal i.chars l.name) t.labels (f tt)))
          (entry-text-good (filled i.colon) js rest k.1)) r
      go false f r = r

pub switch-good : (ls : List ℕ) (t : Tables) (n : ℕ) (c : Choice) → SoundChoice n t.texts c
    → Each (λ i. T (any (λ l. bytes_equal i.chars l.name) t.labels)) (keep (is word) c.list)
    → T (good_switch (program_of ls t) (switch_of (label_place t) c))
unfolding good_switch
switch-good ls t n c h d =
    let entered : Each (Entered t) c.list =
    each_map _ _ (λ i e. record { text-good = e.0.good; text-held = e.1.0; label-held = e.1.1 }) c.list
    (each_both (FineItem n) _ c.list h.fine
    (each_both (λ i. T (is text i) → T (in_texts t.texts i.chars)) (λ i. T (is word i) → T (any (λ l. bytes_equal i.chars l.name) t.labels)) c.list h.kept
    (each-unkeep _ (is word) c.list d))) in
    T-both (filled (entries_in (label_place t) c.list)) (all (good_entry (program_of ls t) c.goes_by_name) (entries_in (label_place t) c.list))
    (entries-there c.goes_by_name (label_place t) c.list h.some h.faultless)
    (entries-good ls t c.goes_by_name false c.list h.faultless entered)

-- Labels

pub label-good : (ls : List ℕ) (t : Tables) (l : Label) → SoundLabel (length t.code) l → T (good_label (program_of ls t) l)
unfolding good_label program_of
label-good ls t l h =
    let b = identifier l.name in
    let c = leb (length l.name) limit.item in
    T-both (b && c) (ltb l.target (length (map (instr_of ls t) t.code))) (T-both b c h.name (le→leb (length l.name) limit.item h.short))
    (lt→ltb l.target (length (map (instr_of ls t) t.code)) (omega (arith, length-map t.code (instr_of ls t), h.target)))
