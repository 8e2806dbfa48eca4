-- Question 02 by what the operator is.
use Rattle.std.specs.Prelude.{◌≡◌, refl, Bool, true, false, ℕ}
use Rattle.std.proofs.Math.Path.{ap, sym}
use Rattle.std.proofs.Common.{◌∙◌, true≢false, arith}
use mathlib.Core.List.{List, []}
use Rattle.heads.specs.declared.Head.{Head}
use Rattle.heads.specs.Heads.{is_switch, is_by_name, instr_of, head_keyword, Headed}
use Rattle.heads.specs.HeadLaws.{no-keyword, operator-here, rest-here}
use Rattle.arguments.specs.Arguments.{InstrFault}
use Rattle.arguments.specs.ArgumentLaws.{instr-is}
use Rattle.arguments.specs.CountLaws.{numbered, number-kept, this-instruction, has-operator}
use Rattle.language.specs.Program.{Op}
use Rattle.statements.specs.Faults.{Fault}
use Rattle.std.specs.Prelude.{None}
use Rattle.statements.specs.StatementAt.{statement_at, stops, fault_of}
use Rattle.syntax.specs.Items.{Item}
use Rattle.syntax.specs.Questions.{instr_faults, switch_faults}
use Rattle.syntax.specs.Statements.{by_keyword, keyword_in}
use Rattle.syntax.specs.Statements as Spec
use Rattle.words.specs.Keywords.{told}
use Rattle.switch_lists.specs.Switches.{switch_after, argument_question}

pub choice : (k : Spec.Keyword) → is_switch (told k) ≡ true → k ≡ Spec.Keyword.switch (is_by_name (told k))
choice Spec.Keyword.none e = absurd (true≢false (sym e))
choice Spec.Keyword.unknown e = absurd (true≢false (sym e))
choice Spec.Keyword.SEKCJA e = absurd (true≢false (sym e))
choice Spec.Keyword.KONS e = absurd (true≢false (sym e))
choice Spec.Keyword.KONP e = absurd (true≢false (sym e))
choice (Spec.Keyword.switch goes_by_name) e = refl
choice (Spec.Keyword.instr op) e = absurd (true≢false (sym e))

pub other : {X : Type 0} (f : Op → X) (g : Bool → X) (z : X) (k : Spec.Keyword) → instr_of (told k) ≡ 0 → is_switch (told k) ≡ false → by_keyword f g z k ≡ z
unfolding by_keyword
other f g z Spec.Keyword.none e h = refl
other f g z Spec.Keyword.unknown e h = refl
other f g z Spec.Keyword.SEKCJA e h = refl
other f g z Spec.Keyword.KONS e h = refl
other f g z Spec.Keyword.KONP e h = refl
other f g z (Spec.Keyword.switch goes_by_name) e h = absurd (true≢false h)
other f g z (Spec.Keyword.instr o) e h = absurd (omega (arith, numbered o, e, number-kept o))

module _ {s : List ℕ} {n : ℕ} {h : Head} (g : Headed s n h) where
  abbrev x : List Item
  x = statement_at s n

  pub of-instr : {m : ℕ} → m ≡ instr_of (head_keyword h) → (m ≡ 0 → ⊥) → {r : Fault} → InstrFault s h.op m r → r ≡ fault_of (argument_question x)
  unfolding argument_question by_keyword
  of-instr {m} e z {r} f =
      let i = this-instruction g e z in
      f i.op i.has
      ∙ ap fault_of (sym (instr-is g (has-operator g e z) i.op))
      ∙ sym (ap (λ k. fault_of (by_keyword (instr_faults x) (switch_faults x) [] k)) i.is)

  module _ (e : is_switch (head_keyword h) ≡ true) where
    switch-operator : stops h.op.sort ≡ false
    switch-operator =
        elim (stops h.op.sort) as (λ b. stops h.op.sort ≡ b → b ≡ false) [ true ↦ λ z. absurd (true≢false (sym e ∙ ap is_switch (no-keyword g z))) | false ↦ λ z. refl ] refl

    switch-is : (b : Bool) → switch_faults x b ≡ switch_after s h.op b
    unfolding switch_faults switch_after
    switch-is b = rw (rest-here g switch-operator, operator-here g switch-operator)

    pub of-switch : {b : Bool} → b ≡ is_by_name (head_keyword h) → argument_question x ≡ switch_after s h.op b
    unfolding argument_question by_keyword
    of-switch {b} f =
        let k : keyword_in x ≡ Spec.Keyword.switch b =
        choice (keyword_in x) (ap is_switch (sym g.keyword) ∙ e) ∙ ap Spec.Keyword.switch (ap is_by_name (sym g.keyword) ∙ sym f) in
        ap (by_keyword (instr_faults x) (switch_faults x) []) k ∙ switch-is b

  pub of-neither : {m : ℕ} → m ≡ instr_of (head_keyword h) → m ≡ 0 → is_switch (head_keyword h) ≡ false → fault_of (argument_question x) ≡ None
  unfolding argument_question
  of-neither e z f =
      ap fault_of (other (instr_faults x) (switch_faults x) [] (keyword_in x) (ap instr_of (sym g.keyword) ∙ sym e ∙ z) (ap is_switch (sym g.keyword) ∙ f))
