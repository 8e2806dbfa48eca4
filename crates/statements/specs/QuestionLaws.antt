-- A question by its number, so that two with one number are the same.
use Rattle.std.specs.Prelude.{◌≡◌, refl, cond, eqb, ℕ}
use Rattle.std.proofs.Common.{sym, ap, ◌∙◌}
use Rattle.statements.specs.declared.Question.{Question}
use Rattle.statements.specs.declared.Question.TheVariants as code
use Rattle.statements.specs.Questions.{question_number}

abbrev question_of : ℕ → Question
question_of n =
    cond (eqb n 0) code.Heading
    (cond (eqb n 1) code.Count
    (cond (eqb n 2) code.Argument
    (cond (eqb n 6) code.RepeatedLabel
    (cond (eqb n 8) code.SwitchLabels
    (cond (eqb n 10) code.Operator
    (cond (eqb n 11) code.Room
    (cond (eqb n 12) code.Label
    (cond (eqb n 13) code.Switch
    (cond (eqb n 14) code.Byte
    (cond (eqb n 15) code.Text
    (cond (eqb n 16) code.Length
    (cond (eqb n 25) code.End
    (cond (eqb n 40) code.Size
    (cond (eqb n 64) code.Macros
    (cond (eqb n 65) code.Call
    (cond (eqb n 66) code.Expansion
    (code.LabelName)))))))))))))))))

back : (q : Question) → question_of (question_number q) ≡ q
back code.Heading = refl
back code.Count = refl
back code.Argument = refl
back code.RepeatedLabel = refl
back code.SwitchLabels = refl
back code.Operator = refl
back code.Room = refl
back code.Label = refl
back code.Switch = refl
back code.Byte = refl
back code.Text = refl
back code.Length = refl
back code.End = refl
back code.Size = refl
back code.Macros = refl
back code.Call = refl
back code.Expansion = refl
back code.LabelName = refl

pub same-question : (q r : Question) → ◌≡◌ {A = ℕ} (question_number q) (question_number r) → q ≡ r
same-question q r e = sym (back q) ∙ ap question_of e ∙ back r
