-- Request 2.4: "A customer's switch holds PLUS:'+' and her expression holds the word PLUS", as a checked table.
use Rattle.std.specs.Prelude.{◌≡◌, refl, List, [], ◌∷◌, map}
use Rattle.language.specs.Letters.Letter.{A, B}
use Rattle.language.specs.Program.Arg.{nothing, letter, switch}
use Rattle.language.specs.Program.Op.{SKONA, WYNA, SZUKAJ}
use Rattle.machine.specs.Steps.{opened}
use Rattle.machine.specs.WellFormed.{started}
use Rattle.machine.specs.Notation.{w, start, E_is, H_minus, Example, result, on_to, jumps_to, example}

abbrev pub looked_up : List Example
looked_up =
    -- PLUS:'+' is met by its label's name, and by its text
    example SKONA (letter A 1) (switch 1) nothing (E_is 1 (w "PLUS" ∷ []) start) (jumps_to 6 [] start)
    ∷ example SKONA (letter A 1) (switch 1) nothing (E_is 1 (w "+" ∷ []) start) (jumps_to 6 [] start)
    ∷ example WYNA (letter B 1) (switch 1) nothing (E_is 1 (w "PLUS" ∷ []) start) (jumps_to 6 (1 ∷ []) (E_is 1 (w "PLUS" ∷ []) start))
    ∷ example SZUKAJ (letter A 1) (switch 1) nothing (E_is 1 (w "PLUS" ∷ []) start) (on_to start)
    -- and by no other word; IF, without a text, by its name alone
    ∷ example SZUKAJ (letter A 1) (switch 1) nothing (E_is 1 (w "PLU" ∷ []) start) (on_to (H_minus (E_is 1 (w "PLU" ∷ []) start)))
    ∷ example SKONA (letter A 1) (switch 1) nothing (E_is 1 (w "IF" ∷ []) start) (jumps_to 5 [] start)
    -- entries are tried in order: a name of the first, before a text of the second; a text of the first, before that of the third
    ∷ example SKONA (letter A 1) (switch 2) nothing (E_is 1 (w "PLUS" ∷ []) start) (jumps_to 6 [] start)
    ∷ example SKONA (letter A 1) (switch 2) nothing (E_is 1 (w "+" ∷ []) start) (jumps_to 6 [] start)
    ∷ []

pub customer-switch : map result looked_up ≡ map (λ x. x.gives) looked_up
unfolding opened started
customer-switch = refl
