-- How many arguments an instruction has, and the instruction of a keyword.
use Rattle.std.specs.Prelude.{◌≡◌, refl, Bool, true, false, cond, not, List, [], ◌∷◌, ℕ, ◌<◌, ltb, drop}
use Rattle.std.proofs.Math.Path.{ap}
use Rattle.std.proofs.Common.{sym, ◌∙◌, arith, ltb→lt}
use lib.Dec.{eqb, eqb→eq}
use Rattle.forms.specs.SetLaws.{by-operator}
use Rattle.heads.specs.declared.Head.{Head}
use Rattle.heads.specs.Heads.{head_keyword, instr_of, Headed}
use Rattle.heads.specs.HeadLaws.{no-keyword, rest-here}
use Rattle.language.specs.Instructions.{operation, number_of}
use Rattle.language.specs.Operators.{op_by}
use Rattle.language.specs.declared.Operator.{Operator}
use Rattle.language.specs.Program.{Op}
use Rattle.lexer.specs.declared.Token.{Token}
use Rattle.lexer.specs.Tokens.{item_of, NextToken}
use Rattle.std.specs.Prelude.{None}
use Rattle.statements.specs.StatementAt.{statement_at, stops, fault_of}
use Rattle.statements.specs.StatementLaws.{at_item}
use Rattle.syntax.specs.ArgumentForms.{arguments_in, most}
use Rattle.syntax.specs.Items.{Item, is, places}
use Rattle.syntax.specs.Items.Sort.{colon}
use Rattle.syntax.specs.Questions.{count_faults}
use Rattle.syntax.specs.Statements.{by_keyword, keyword_in, rest}
use Rattle.syntax.specs.Statements as Spec
use Rattle.words.specs.Keywords.{told}
use Rattle.words.specs.Operators.{operator_in}

-- an item that is no colon
abbrev pub is_argument : Item → Bool
is_argument i = not (is colon i)

module _ {s : List ℕ} {n : ℕ} {t : Token} (k : NextToken s n t) (z : stops t.sort ≡ false) where
  pub arguments-on : arguments_in (statement_at s n) ≡ cond (is_argument (item_of s t)) (item_of s t ∷ arguments_in (statement_at s t.next)) (arguments_in (statement_at s t.next))
  arguments-on = ap arguments_in (at_item k z)

-- the instruction of a keyword, by its number
pub numbered : (o : Op) → 0 < (operation o).number
numbered o = ltb→lt 0 (operation o).number (by-operator (λ x. ltb 0 (operation x).number) tt o)

-- an operator of code has its number
pub number-kept : (o : Op) → number_of (op_by (operator_in o)) ≡ (operation o).number
number-kept o = eqb→eq _ _ (by-operator (λ x. eqb (number_of (op_by (operator_in x))) (operation x).number) tt o)

pub record Instruction (k : Spec.Keyword) (number : ℕ) : Type 0 where
  pub op : Op
  pub is : k ≡ Spec.Keyword.instr op
  pub has : (operation op).number ≡ number

pub instruction : (k : Spec.Keyword) {m : ℕ} → m ≡ instr_of (told k) → (m ≡ 0 → ⊥) → Instruction k m
instruction Spec.Keyword.none e z = absurd (z e)
instruction Spec.Keyword.unknown e z = absurd (z e)
instruction Spec.Keyword.SEKCJA e z = absurd (z e)
instruction Spec.Keyword.KONS e z = absurd (z e)
instruction Spec.Keyword.KONP e z = absurd (z e)
instruction (Spec.Keyword.switch goes_by_name) e z = absurd (z e)
instruction (Spec.Keyword.instr o) e z = record { op = o; is = refl; has = sym (e ∙ number-kept o) }

pub above : (o : Operator) {m : ℕ} → m ≡ number_of (op_by o) → m ≡ 0 → ⊥
above o e z = omega (arith, numbered (op_by o), e, z)

pub no-instruction : (f : Op → List ℕ) (k : Spec.Keyword) {m : ℕ} → m ≡ instr_of (told k) → m ≡ 0 → by_keyword f (λ goes_by_name. []) [] k ≡ []
unfolding by_keyword
no-instruction f Spec.Keyword.none e z = refl
no-instruction f Spec.Keyword.unknown e z = refl
no-instruction f Spec.Keyword.SEKCJA e z = refl
no-instruction f Spec.Keyword.KONS e z = refl
no-instruction f Spec.Keyword.KONP e z = refl
no-instruction f (Spec.Keyword.switch goes_by_name) e z = refl
no-instruction f (Spec.Keyword.instr o) e z = absurd (omega (arith, numbered o, e, z, number-kept o))

-- 01
module _ {s : List ℕ} {n : ℕ} {h : Head} (g : Headed s n h) {m : ℕ} (e : m ≡ instr_of (head_keyword h)) where
  pub not-counted : m ≡ 0 → fault_of (count_faults (statement_at s n)) ≡ None
  unfolding count_faults
  not-counted z = ap fault_of (no-instruction (λ op. places (drop (most op) (arguments_in (rest (statement_at s n))))) (keyword_in (statement_at s n)) (e ∙ ap instr_of g.keyword) z)

  module _ (z : m ≡ 0 → ⊥) where
    pub this-instruction : Instruction (keyword_in (statement_at s n)) m
    this-instruction = instruction (keyword_in (statement_at s n)) (e ∙ ap instr_of g.keyword) z

    pub has-operator : stops h.op.sort ≡ false
    has-operator =
        elim (stops h.op.sort) as (λ b. stops h.op.sort ≡ b → b ≡ false) [ true ↦ λ q. absurd (z (e ∙ ap instr_of (no-keyword g q))) | false ↦ λ q. refl ] refl

    pub counted : count_faults (statement_at s n) ≡ places (drop (most this-instruction.op) (arguments_in (statement_at s h.op.next)))
    unfolding count_faults by_keyword
    counted = rw (this-instruction.is, rest-here g has-operator)
