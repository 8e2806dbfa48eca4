-- A draft after a statement without fault: its section and its last instruction; and after an empty one.
use Rattle.std.specs.Prelude.{◌≡◌, Bool, ◌&&◌, T, length, drop}
use Rattle.std.proofs.Math.Path.{refl, sym, ap}
use Rattle.std.proofs.Common.{◌∙◌, subst, arith, length-append, drop_at}
use Rattle.std.proofs.Math.Bool.{true, false, cond, not}
use Rattle.std.proofs.lemmas.Bool.{false≢true}
use mathlib.Core.List.{List, [], ◌∷◌, ◌++◌, append-nil}
use Prim.Native.Nat.{ℕ, pred, ◌≤◌, ◌<◌}
use borrow.Author.Tests.{not-true}
use lib.Ieee.Bits.{is_false, is_true}
use Rattle.acceptance.proofs.ArgumentLaws.{word-apart}
use Rattle.acceptance.proofs.StatementLaws.{each-behind}
use Rattle.headings.specs.Below.HeadLaws.{some-number}
use Rattle.declaring.specs.Below.CountLaws.{above, number-kept, this-instruction, has-operator}
use Rattle.acceptance.proofs.RowLaws.{Answered, append-none}
use Rattle.progress.specs.Closing.{unended}
use Rattle.declaring.specs.SpeltLaws.{statement-spelt}
use Rattle.declaring.specs.TabledLaws.{operated}
use Rattle.headings.specs.Below.DraftsMarks.{mark, mark_of, word_by, Marked}
use Rattle.headings.specs.Below.Tabled.{Spelt}
use Rattle.forms.specs.Forms.{ends}
use Rattle.forms.specs.ReadingLaws.{ends-listed}
use Rattle.headings.specs.Below.Heads.{own_item, own_in, instr_of, instr_by, head_keyword, Headed}
use Rattle.headings.specs.Headings.{FirstIn, from_first, mark_first, Rests}
use Rattle.headings.specs.HeadingLaws.{rest-follows}
use Rattle.headings.specs.declared.Rest.{Rest}
use Rattle.headings.specs.Below.Head.{Head}
use Rattle.language.specs.Instructions.{operation, number_of, is_end}
use Rattle.language.specs.Operators.{op_by}
use Rattle.language.specs.declared.Operator.{Operator}
use Rattle.language.specs.Limits as limit
use Rattle.language.specs.Program.{Op, identifier}
use Rattle.layout.proofs.ArgumentLaws.{operator-range}
use Rattle.layout.specs.Bounds.{Each}
use Rattle.layout.proofs.CellLaws.{each-drop}
use Rattle.lexer.specs.declared.Token.{Token}
use Rattle.lexer.specs.Tokens.{item_of}
use Rattle.lists.specs.Lists.{filled, head_or, if_any, each, bytes_equal}
use Rattle.lists.specs.Quoted.{bytes}
use Rattle.lists.specs.ListLaws.{T-left, T-right}
use Rattle.progress.specs.Progress.{SectionKept, EditionKept}
use Rattle.statements.specs.StatementAt.{statement_at, fault_of}
use Rattle.statements.specs.Faults.{Fault, Verdict}
use Rattle.std.specs.Prelude.{Option, None, Some}
use Rattle.std.specs.Option.{is_none}
use Rattle.syntax.specs.Items.{Item, is}
use Rattle.syntax.specs.Items.Sort.{word, colon}
use Rattle.syntax.specs.Questions.{first_faults, questions}
use Rattle.syntax.specs.Statements as Spec
use Rattle.syntax.specs.Statements.{same_keyword, by_keyword, keyword_of, own, is_operator, front, behind, operator_at, keyword_in, chooses_english, rest, one_name}
use Rattle.syntax.specs.Tables.{Written, Tables, Draft, is_first, all_labels, contents, with_instr, with_switch, draft_after}
use Rattle.syntax.specs.Verdict.{lowest}
use Rattle.words.specs.Keywords.{keyword_by, told, is_own}
use Rattle.words.specs.WordLaws.{keyword-item}
use Rattle.words.proofs.KeywordLaws.{chooses-section}
use Rattle.progress.specs.Advancing.{SectionTold, EndedTold}

-- ---- the last instruction

unended-last : (code : List Written) (w : Written) → unended (code ++ (w ∷ [])) ≡ each (λ i. cond (is_end (operation i.op).flow) [] (i.at ∷ [])) (w ∷ [])
unended-last code w =
    let n : length code ≡ pred (length (code ++ (w ∷ []))) = omega (arith, length-append code (w ∷ [])) in
    ap (λ (ws : List Written). each (λ i. cond (is_end (operation i.op).flow) [] (i.at ∷ [])) ws) (drop_at code (w ∷ []) (pred (length (code ++ (w ∷ [])))) n)

module _ (t : Tables) (ls x : List Item) where
  abbrev tables_by : Spec.Keyword → Tables
  tables_by k = by_keyword (with_instr t ls x) (with_switch t ls x) t k

  -- no instruction: the last one is that of before
  no_instr : (k : Spec.Keyword) → instr_of (told k) ≡ 0 → (tables_by k).code ≡ t.code
  unfolding by_keyword with_switch
  no_instr Spec.Keyword.none e = refl
  no_instr Spec.Keyword.unknown e = refl
  no_instr Spec.Keyword.SEKCJA e = refl
  no_instr Spec.Keyword.KONS e = refl
  no_instr Spec.Keyword.KONP e = refl
  no_instr (Spec.Keyword.switch goes_by_name) e = refl
  no_instr (Spec.Keyword.instr op) e = absurd (omega (arith, (operator-range op).0, number-kept op, e))

  -- an instruction is the last one then
  an-instr : (op : Op) {m at : ℕ} → operator_at x ≡ at → (operation op).number ≡ m → fault_of (unended (with_instr t ls x op).code) ≡ cond (ends m) None (Some at)
  unfolding with_instr lowest
  an-instr op {m} {at} p e = ap fault_of (unended-last t.code _) ∙ go (is_end (operation op).flow) (sym (ends-listed op) ∙ ap ends e)
    where
      go : (b : Bool) → b ≡ ends m → fault_of (cond b [] (operator_at x ∷ []) ++ []) ≡ cond (ends m) None (Some at)
      go true q = ap (λ (c : Bool). cond c None (Some at)) q
      go false q = ap Some p ∙ ap (λ (c : Bool). cond c None (Some at)) q

module _ {s : List ℕ} {n : ℕ} {h : Head} (g : Headed s n h) {m : ℕ} (number : m ≡ instr_of (head_keyword h)) where
  abbrev x : List Item
  x = statement_at s n

  number_is : instr_of (told (keyword_in x)) ≡ m
  number_is = sym (number ∙ ap instr_of g.keyword)

  pub ended-before : m ≡ 0 → (ended : Fault) → EndedTold s n ended ended
  unfolding draft_after
  ended-before z ended d e = ap (λ (ws : List Written). fault_of (unended ws)) (no_instr d.tables (all_labels d x) x (keyword_in x) (number_is ∙ z)) ∙ e

  module _ (z : m ≡ 0 → ⊥) (ended : Fault) where
    last-here : (d : Draft) → fault_of (unended (draft_after d x).tables.code) ≡ cond (ends m) None (Some h.op.at)
    unfolding draft_after by_keyword
    last-here d =
        let i = this-instruction g number z in
        ap (λ (k : Spec.Keyword). fault_of (unended (tables_by d.tables (all_labels d x) x k).code)) i.is
        ∙ an-instr d.tables (all_labels d x) x i.op (operated g (has-operator g number z)).place_is i.has

    pub ended-then : (b : Bool) → ends m ≡ b → EndedTold s n ended (cond b None (Some h.op.at))
    ended-then b q d e = last-here d ∙ ap (λ (c : Bool). cond c None (Some h.op.at)) q

pub ended-numbered : {s : List ℕ} {n : ℕ} {h : Head} → Headed s n h → {o : Operator} → Some o ≡ instr_by (head_keyword h) → {m : ℕ} → m ≡ number_of (op_by o) → (ended : Fault) (b : Bool) → ends m ≡ b
    → EndedTold s n ended (cond b None (Some h.op.at))
ended-numbered {s} {n} {h} g {o} e f = ended-then g (f ∙ some-number (head_keyword h) e) (above o f)

-- ---- the section's name

sekcja-word : (i : Item) → T (same_keyword Spec.Keyword.SEKCJA (keyword_of i)) → T (is word i)
unfolding keyword_of
sekcja-word i h = go (is word i) _ h
  where
    go : (b : Bool) (k : Spec.Keyword) → T (same_keyword Spec.Keyword.SEKCJA (cond b k Spec.Keyword.unknown)) → T b
    go true k h = tt
    go false k h = h

-- a name follows
name-first : (at : ℕ) (js : List Item) → one_name identifier at js ≡ [] → (i : Item) × ((ks : List Item) × ((js ≡ i ∷ ks) × T (is word i && identifier i.chars)))
unfolding one_name
name-first at [] h = absurd (let z : ◌≡◌ {A = ℕ} 0 1 = cc in omega arith)
name-first at (i ∷ ks) h = (i, (ks, (refl, go (is word i && identifier i.chars) (append-none (cond (is word i && identifier i.chars) i.colon (i.at ∷ [])) _ h).0)))
  where
    go : (b : Bool) → cond b i.colon (i.at ∷ []) ≡ [] → T b
    go true e = tt
    go false e = absurd (let z : ◌≡◌ {A = ℕ} 0 1 = cc in omega arith)

-- "SEKCJA and one name, unlabelled"
section-name : (x : List Item) → first_faults x ≡ [] → T (filled (behind x)) → (i : Item) × ((ks : List Item) × ((rest x ≡ i ∷ ks) × T (is word i && identifier i.chars)))
unfolding first_faults behind
section-name [] h f = absurd f
section-name (i ∷ js) h f = go (filled i.colon) refl (same_keyword Spec.Keyword.SEKCJA (keyword_of i)) refl h
  where
    go : (a : Bool) → filled i.colon ≡ a → (b : Bool) → same_keyword Spec.Keyword.SEKCJA (keyword_of i) ≡ b
        → cond (not a && b) (one_name identifier i.at js) (i.at ∷ []) ≡ []
        → (j : Item) × ((ks : List Item) × ((drop 1 (cond (is_operator i) (i ∷ js) (behind js)) ≡ j ∷ ks) × T (is word j && identifier j.chars)))
    go true e b q h = absurd (let z : ◌≡◌ {A = ℕ} 0 1 = cc in omega arith)
    go false e false q h = absurd (let z : ◌≡◌ {A = ℕ} 0 1 = cc in omega arith)
    go false e true q h = rw (is_false (is colon i) (word-apart i (sekcja-word i (subst T (sym q) tt))).1, e) (name-first i.at js h)

-- its characters, and so its mark, are not none
name-filled : (w : List ℕ) → T (identifier w) → (filled w ≡ true) × (0 < length w)
name-filled [] h = absurd h
name-filled (b ∷ w) h = (refl, omega arith)

filled-behind : (x : List Item) → T (filled (drop 1 x)) → T (filled x)
filled-behind [] h = h
filled-behind (i ∷ js) h = tt

module _ (s : List ℕ) (n : ℕ) where
  abbrev y : List Item
  y = statement_at s n

  pub section-before : {section : ℕ} → SectionTold s n (Some section) (Some section)
  unfolding draft_after
  section-before {section} d k a =
      let e : cond (is_first d) (head_or [] (contents (rest y))) d.section ≡ d.section =
      ap (λ (b : Bool). cond b (head_or [] (contents (rest y))) d.section) k.first_is in
      record { first_is = ap (λ (w : List ℕ). not (filled w)) e ∙ k.first_is; there = k.there; is = k.is ∙ sym e }

  module _ {h : Head} {w : Verdict} {r : Rest} (g : Headed s n h) (o : Rests s h.op w r) (inside : n ≤ length s)
      (short : Each (λ i. length i.chars ≤ limit.item) y) where
    rest_by : (f : Option Token) → r.first ≡ f → rest y ≡ from_first s f
    rest_by f e = rest-follows g ∙ sym o.items ∙ ap (from_first s) e

    -- of the first statement: the name is the first item behind the operator
    pub section-first : SectionTold s n None (mark_first r.first)
    unfolding draft_after questions
    section-first d k a = go r.first refl o.stands
      where
        name-is : (js : List Item) → rest y ≡ js → (draft_after d y).section ≡ head_or [] (contents js)
        name-is js q = ap (λ (b : Bool). cond b (head_or [] (contents (rest y))) d.section) k.first_is ∙ ap (λ (ks : List Item). head_or [] (contents ks)) q

        go : (f : Option Token) → r.first ≡ f → FirstIn s f → SectionKept s (draft_after d y) (mark_first f)
        go None e t = let v = name-is [] (rest_by None e) in record { first_is = ap (λ (u : List ℕ). not (filled u)) v; there = tt; is = sym v }
        go (Some f) e stands =
            let b = rest_by (Some f) e in
            let faultless : first_faults y ≡ [] = sym (ap (λ (c : Bool). cond c (first_faults y) []) k.first_is) ∙ a.1.1.1.0 in
            let (i, (ks, (q, l))) = section-name y faultless (filled-behind (behind y) (rw b tt)) in
            let v = name-is (i ∷ ks) q in
            let j : i ≡ item_of s f = cc in
            let m : mark_of f.at f.len ≡ mark i = ap (λ (c : ℕ). mark_of f.at c) (sym stands.count) ∙ ap mark (sym j) in
            let p : Spelt s i = (subst (Each (Spelt s)) q (each-drop (Spelt s) 1 (behind y) (each-behind (Spelt s) y (statement-spelt s n inside short)))).0 in
            let c = name-filled i.chars (T-right (is word i) (identifier i.chars) l) in
            let u = T-left (is word i) (identifier i.chars) l in
            record {
              first_is = ap (λ (t : List ℕ). not (filled t)) v ∙ ap not c.0;
              there = subst (Marked s) (sym m) (p.is_there u);
              is = ap (word_by s) m ∙ p.spells u ∙ sym v;
            }

-- ---- the edition

-- "SEKCJA and one name, unlabelled": SECTION is the English edition's own word, and a name follows it
section-edition : (x : List Item) → first_faults x ≡ [] → (chooses_english x ≡ own_in true x) × (filled (head_or [] (contents (rest x))) ≡ false → chooses_english x ≡ false)
unfolding first_faults behind chooses_english
section-edition [] h = (refl, λ e. refl)
section-edition (i ∷ js) h = go (filled i.colon) refl (same_keyword Spec.Keyword.SEKCJA (keyword_of i)) refl h
  where
    Chosen : List Item → Type 0
    Chosen ys =
        (if_any false (λ i. bytes_equal i.chars (bytes "SECTION")) ys ≡ if_any false (own_item true) ys)
        × (filled (head_or [] (contents (drop 1 ys))) ≡ false → if_any false (λ i. bytes_equal i.chars (bytes "SECTION")) ys ≡ false)

    go : (a : Bool) → filled i.colon ≡ a → (b : Bool) → same_keyword Spec.Keyword.SEKCJA (keyword_of i) ≡ b
        → cond (not a && b) (one_name identifier i.at js) (i.at ∷ []) ≡ [] → Chosen (cond (is_operator i) (i ∷ js) (behind js))
    go true e b q h = absurd (let z : ◌≡◌ {A = ℕ} 0 1 = cc in omega arith)
    go false e false q h = absurd (let z : ◌≡◌ {A = ℕ} 0 1 = cc in omega arith)
    go false e true q h =
        let w : T (is word i) = sekcja-word i (subst T (sym q) tt) in
        let (j, (ks, (p, l))) = name-first i.at js h in
        let k : keyword_of i ≡ keyword_by i.chars = keyword-item i ∙ ap (λ b. cond b (keyword_by i.chars) Spec.Keyword.unknown) (is_true (is word i) w) in
        let c : bytes_equal i.chars (bytes "SECTION") ≡ own true i.chars = chooses-section i.chars (subst T (sym (sym (ap (same_keyword Spec.Keyword.SEKCJA) k) ∙ q)) tt) in
        let f = (name-filled j.chars (T-right (is word j) (identifier j.chars) l)).0 in
        rw (is_false (is colon i) (word-apart i w).1, e, is_true (is word i) w, p) (c, λ z. absurd (false≢true (sym z ∙ f)))

module _ {s : List ℕ} {n : ℕ} {h : Head} (g : Headed s n h) where
  abbrev items : List Item
  items = statement_at s n

  pub edition-after : {section : Option ℕ} {english : Bool} (d : Draft) → SectionKept s d section → EditionKept d english → Answered (questions d items)
      → EditionKept (draft_after d items) (cond (is_none section) (is_own true h.known) english)
  unfolding draft_after questions
  edition-after {section} {english} d k e a = go (is_none section) k.first_is
    where
      name : List Item → List ℕ
      name ys = head_or [] (contents (rest ys))

      go : (b : Bool) → is_first d ≡ b → EditionKept (draft_after d items) (cond b (is_own true h.known) english)
      go true q =
          let v = section-edition items (sym (ap (λ (c : Bool). cond c (first_faults items) []) q) ∙ a.1.1.1.0) in
          let chosen : (draft_after d items).english ≡ chooses_english items = ap (λ (c : Bool). cond c (chooses_english items) d.english) q in
          record {
            is = chosen ∙ v.0 ∙ sym (g.owned true);
            unchosen = λ z. chosen ∙ v.1 (not-true (filled (name items)) (sym (ap (λ (c : Bool). not (filled (cond c (name items) d.section))) q) ∙ z));
          }
      go false q =
          let kept : (draft_after d items).english ≡ d.english = ap (λ (c : Bool). cond c (chooses_english items) d.english) q in
          record {
            is = kept ∙ e.is;
            unchosen = λ z. absurd (false≢true (sym q ∙ sym (ap (λ (c : Bool). not (filled (cond c (name items) d.section))) q) ∙ z));
          }

-- ---- an empty statement

pub empty-draft : (d : Draft) {english : Bool} → EditionKept d english → draft_after d [] ≡ d
unfolding draft_after by_keyword keyword_in chooses_english front behind
empty-draft d e = rw (name d.section, edition (is_first d) refl, append-nil d.names, append-nil d.waiting) refl
  where
    edition : (b : Bool) → is_first d ≡ b → cond b false d.english ≡ d.english
    edition true q = sym (e.unchosen q)
    edition false q = refl

    name : (w : List ℕ) → cond (not (filled w)) [] w ≡ w
    name [] = refl
    name (b ∷ w) = refl
