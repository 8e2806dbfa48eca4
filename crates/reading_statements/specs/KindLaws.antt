-- A statement by its kind: an instruction, a switch, or neither. Its questions 01 and 02, and what its readers tell of all its items.
use Rattle.std.specs.Prelude.{◌≡◌, refl, Bool, true, false, cond, List, [], ◌∷◌, ◌++◌, ℕ, ◌<◌, eqb, length, take, drop}
use Rattle.std.proofs.Common.{sym, ap, ◌∙◌, true≢false, arith, eqb-true, eq-eqb}
use Rattle.declaring_switches.specs.Below.Arguments.{ReadsArguments}
use Rattle.declaring_switches.specs.Below.CountLaws.{this-instruction, not-counted, counted}
use Rattle.declaring_switches.specs.Below.ArgumentsTypeArguments.{Arguments}
use Rattle.statements.specs.CheckLaws.{worse-clear, worse_assoc, worst-append}
use Rattle.statements.specs.Checks.{item_verdict, worst}
use Rattle.statements.specs.Faults.{Verdict, decided, then, worse}
use Rattle.statements.specs.Groups.{argument_questions}
use Rattle.progress.specs.Below.HeadingLaws.{rest-follows, first-in_front, first-wrong}
use Rattle.progress.specs.Below.Headings.{is_kons, is_konp, follows}
use Rattle.heads.specs.HeadLaws.{no-keyword}
use Rattle.heads.specs.Heads.{EndedBy, by_kind, head_keyword, instr_of, is_switch, is_by_name, opens, Headed}
use Rattle.heads.specs.declared.Head.{Head}
use Rattle.statements.proofs.Ends.{still-within, ends-then}
use Rattle.statements.specs.StatementAt.{statement_at, stops, fault_of}
use Rattle.statements.specs.StatementLaws.{goes}
use Rattle.heads.specs.HeadLaws.{ended-on}
use Rattle.statements.specs.Faults.{Fault}
use Rattle.std.specs.Prelude.{Option, None, Some}
use Rattle.declaring_switches.specs.Below.SwitchLaws.{choice, of-instr, of-switch, of-neither}
use Rattle.declaring_switches.specs.Below.SwitchListsSwitches.{switch_after, argument_question}
use Rattle.syntax.specs.Items.{Item}
use Rattle.syntax.specs.Questions.{first_faults, count_faults}
use Rattle.syntax.specs.Statements as Spec
use Rattle.syntax.specs.Statements.{is_operator, front, behind, operator, keyword_in}
use Rattle.syntax.specs.Verdict.{first_no}
use Rattle.syntax.specs.Verdict.Verdict.{yes}
use Rattle.words.specs.Keywords.{told}
use Rattle.words.specs.declared.Keyword.{Keyword}
use Rattle.reading_statements.specs.QuestionLaws.{two-questions}

-- ---- all items

front-behind : (x : List Item) → x ≡ front x ++ behind x
unfolding front behind
front-behind [] = refl
front-behind (i ∷ js) = go (is_operator i) (front-behind js)
  where
    go : (b : Bool) → js ≡ front js ++ behind js → i ∷ js ≡ cond b [] (i ∷ front js) ++ cond b (i ∷ js) (behind js)
    go true e = refl
    go false e = ap (λ (ys : List Item). i ∷ ys) e

first_rest : (ys : List Item) → worst ys ≡ worse (worst (take 1 ys)) (worst (drop 1 ys))
unfolding worst
first_rest [] = refl
first_rest (y ∷ ys) = ap (λ v. worse v (worst ys)) (sym (worse-clear (item_verdict y)))

module _ {s : List ℕ} {n : ℕ} {h : Head} (g : Headed s n h) where
  abbrev x : List Item
  x = statement_at s n

  pub worst-whole : {w : Verdict} → w ≡ worse h.worst (worst (follows s h.op)) → w ≡ worst x
  worst-whole {w} e =
      let a : worst x ≡ worse (worst (front x)) (worst (behind x)) = ap worst (front-behind x) ∙ worst-append (front x) (behind x) in
      let c : h.worst ≡ worse (worst (front x)) (worst (operator x)) = g.worst_is ∙ worst-append (front x) (operator x) in
      e
      ∙ ap (λ v. worse v (worst (follows s h.op))) c
      ∙ worse_assoc (worst (front x)) (worst (operator x)) (worst (follows s h.op))
      ∙ ap (λ js. worse (worst (front x)) (worse (worst (operator x)) (worst js))) (sym (rest-follows g))
      ∙ ap (worse (worst (front x))) (sym (first_rest (behind x)))
      ∙ sym a

  pub ends-behind : stops h.op.sort ≡ false → {r : Option ℕ} → EndedBy s h.op.next r → EndedBy s n r
  ends-behind z e = ended-on (λ k b. ends-then (still-within g.within g.token z)) e

-- ---- an instruction or a switch

abbrev pub acts : Option Keyword → Bool
acts k = by_kind false false false false (λ goes_by_name. true) (λ o. true) k

pub acts-alone : (k : Option Keyword) → acts k ≡ true → (opens k ≡ false) × ((is_konp k ≡ false) × (is_kons k ≡ false))
acts-alone None e = absurd (true≢false (sym e))
acts-alone (Some Keyword.Sekcja) e = absurd (true≢false (sym e))
acts-alone (Some Keyword.Kons) e = absurd (true≢false (sym e))
acts-alone (Some Keyword.Konp) e = absurd (true≢false (sym e))
acts-alone (Some (Keyword.Switch goes_by_name)) e = (refl, (refl, refl))
acts-alone (Some (Keyword.Instr o)) e = (refl, (refl, refl))

module _ {s : List ℕ} {n : ℕ} {h : Head} (g : Headed s n h) (a : acts (head_keyword h) ≡ true) where
  pub there : stops h.op.sort ≡ false
  there = go (stops h.op.sort) refl
    where
      go : (b : Bool) → stops h.op.sort ≡ b → b ≡ false
      go true z = absurd (true≢false (sym a ∙ ap acts (no-keyword g z)))
      go false z = refl

  pub inside : n < length s
  inside = omega (arith, g.from, g.stands.some (goes h.op.sort there).0, g.stands.behind, g.stands.most)

  pub whole : {w : Verdict} → w ≡ worse h.worst (worst (statement_at s h.op.next)) → w ≡ worst (statement_at s n)
  whole e = worst-whole g (e ∙ ap (λ (b : Bool). worse h.worst (worst (cond b [] (statement_at s h.op.next)))) (sym there))

  -- 00: it is no SEKCJA
  pub zero-here : Some h.first ≡ fault_of (first_faults (statement_at s n))
  zero-here = go (eqb h.first h.op.at) refl
    where
      go : (b : Bool) → eqb h.first h.op.at ≡ b → Some h.first ≡ fault_of (first_faults (statement_at s n))
      go true e = let q = eqb-true h.first h.op.at e in ap Some q ∙ first-wrong g q there (acts-alone (head_keyword h) a).0
      go false e = first-in_front g (λ q. true≢false (sym (eq-eqb h.first h.op.at q) ∙ e))

-- ---- 01 and 02

two-asked : (x : List Item) {over fault : Fault} → over ≡ fault_of (count_faults x) → fault ≡ fault_of (argument_question x) → first_no (argument_questions x) ≡ then (decided 1 over) (decided 2 fault)
unfolding argument_question
two-asked x e f = rw (e, f) (two-questions 1 2 (count_faults x) (argument_question x))

module _ {s : List ℕ} {n : ℕ} {h : Head} (g : Headed s n h) where
  abbrev y : List Item
  y = statement_at s n

  module _ {m : ℕ} (e : m ≡ instr_of (head_keyword h)) (z : m ≡ 0 → ⊥) where
    pub instr-acts : acts (head_keyword h) ≡ true
    instr-acts = ap acts (g.keyword ∙ ap told (this-instruction g e z).is)

    pub instr-asked : {w : Verdict} {a : Arguments} → ReadsArguments s h.op m w a → first_no (argument_questions y) ≡ then (decided 1 a.over) (decided 2 a.fault)
    instr-asked r =
        let i = this-instruction g e z in
        two-asked y (r.counted i.op i.has ∙ sym (ap fault_of (counted g e z))) (of-instr g e z r.judged)

  module _ (e : is_switch (head_keyword h) ≡ true) {b : Bool} (f : b ≡ is_by_name (head_keyword h)) where
    pub chooses : keyword_in y ≡ Spec.Keyword.switch b
    chooses = choice (keyword_in y) (sym (ap is_switch g.keyword) ∙ e) ∙ ap Spec.Keyword.switch (sym (f ∙ ap is_by_name g.keyword))

    pub switch-acts : acts (head_keyword h) ≡ true
    switch-acts = ap acts (g.keyword ∙ ap told chooses)

    pub switch-asked : {fault : Fault} → fault ≡ fault_of (switch_after s h.op b) → first_no (argument_questions y) ≡ decided 2 fault
    switch-asked q = two-asked y (sym (not-counted g refl (ap instr_of (g.keyword ∙ ap told chooses)))) (q ∙ ap fault_of (sym (of-switch g e f)))

  pub neither-asked : instr_of (head_keyword h) ≡ 0 → is_switch (head_keyword h) ≡ false → first_no (argument_questions y) ≡ yes
  neither-asked e f = two-asked y (sym (not-counted g refl e)) (sym (of-neither g refl e f))
