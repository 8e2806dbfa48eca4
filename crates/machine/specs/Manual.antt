-- Examples of chapter 5 of the manual, one of each kind and some shortened, as a second checked table.
use Rattle.std.specs.Prelude.{◌≡◌, refl, List, [], ◌∷◌, map, pos}
use Rattle.language.specs.Below.Quoted.{bytes}
use Rattle.language.specs.Letters.Letter.{A, B, C, D, I, P, Q, T, Y}
use Rattle.language.specs.Program.Arg.{nothing, letter, label, switch, class}
use Rattle.language.specs.Program.Op.{PRZESLIJ, CZYTAJ, PISZ, KOPIUJ, UMIESC, SKRESL, WK, NS, RZ, SKOPL, WYMI, SKOIN, ZBIJ, SZUKAJ, OMIN}
use Rattle.machine.specs.Runs.{ran}
use Rattle.machine.specs.Runs.Answer.{pause}
use Rattle.machine.specs.Steps.{opened}
use Rattle.machine.specs.WellFormed.{started}
use Rattle.machine.specs.Notation.{w, n, rec, num, txt, start, E_is, P_is, last_is, H_minus, I1_at, Q1_is, does, Example, state, result, on_to, jumps_to, example}

abbrev pub worked : List Example
worked =
    -- 5.1.1: into the expression that it is taken from; the class R is not met
    example PRZESLIJ (letter A 3) (letter Y 3) (class (bytes "R"))
    (E_is 3 (w "ALFA" ∷ w " " ∷ []) start)
    (on_to (H_minus (E_is 3 (w " " ∷ w "ALFA" ∷ []) start)))
    -- 5.1.2: up to a digit, as one word at the end
    ∷ record {
      code = does CZYTAJ (letter I 1) (letter Y 3) (class (bytes "D")) ∷ [];
      inputs = bytes "X1=28;\n " ∷ [] ∷ [];
      before = E_is 3 (w "PQ" ∷ []) start;
      gives = on_to (I1_at 1 (E_is 3 (w "PQ" ∷ w "X" ∷ []) start));
    }
    -- 5.1.3: one word, which stays in its expression
    ∷ example PISZ (letter B 7) (letter Q 1) (num 1)
    (Q1_is "WYNIK " (E_is 7 (w "X1" ∷ w "=" ∷ w "13" ∷ []) start))
    (on_to (Q1_is "WYNIK X1" (E_is 7 (w "X1" ∷ w "=" ∷ w "13" ∷ []) start)))
    -- 5.1.4: both pointers go on; copies get the next addresses in the order taken
    ∷ example KOPIUJ (letter D 1) (letter D 3) (num 2)
    (last_is 7 (P_is 1 (rec 1 "A" ∷ []) (rec 2 "B" ∷ rec 3 "C" ∷ rec 4 "D" ∷ []) (P_is 3 (rec 5 "R" ∷ []) (rec 6 "S" ∷ rec 7 "T" ∷ []) start)))
    (on_to (last_is 9 (P_is 1 (rec 1 "A" ∷ rec 2 "B" ∷ rec 3 "C" ∷ []) (rec 4 "D" ∷ [])
    (P_is 3 (rec 5 "R" ∷ rec 8 "B" ∷ rec 9 "C" ∷ []) (rec 6 "S" ∷ rec 7 "T" ∷ []) start))))
    -- 5.2, 5.3: a record deleted and one written; its address is a new one
    ∷ record {
      code = does SKRESL (letter C 7) nothing nothing ∷ does UMIESC (txt "D") (letter C 7) nothing ∷ [];
      inputs = [] ∷ [] ∷ [];
      before = last_is 3 (P_is 7 (rec 1 "A" ∷ []) (rec 2 "B" ∷ rec 3 "C" ∷ []) start);
      gives = ran pause 2 (state 2 [] (last_is 4 (P_is 7 (rec 1 "A" ∷ []) (rec 4 "D" ∷ []) start)));
    }
    -- 5.4.1: 3 is greater than 2
    ∷ example WK (letter B 1) (num 2) nothing (E_is 1 (n (pos 3) ∷ []) start) (on_to (E_is 1 (n (pos 3) ∷ []) start))
    -- 5.4.2: B follows A
    ∷ example NS (letter B 1) (txt "A") nothing (E_is 1 (w "B" ∷ []) start) (on_to (E_is 1 (w "B" ∷ []) start))
    -- 5.4.3: the first component of the record after the pointer is one of E3
    ∷ example RZ (letter P 1) (letter T 3) nothing
    (E_is 3 (w "ROM" ∷ w "AB" ∷ []) (last_is 1 (P_is 1 [] (rec 1 "AB" ∷ []) start)))
    (on_to (E_is 3 (w "ROM" ∷ w "AB" ∷ []) (last_is 1 (P_is 1 [] (rec 1 "AB" ∷ []) start))))
    -- 5.5.2: a jump not taken leaves H plus, too
    ∷ example SKOPL (label 0) nothing nothing (H_minus start) (on_to start)
    -- 5.5.2: a call where H is minus
    ∷ example WYMI (label 0) nothing nothing (H_minus start) (jumps_to 4 (1 ∷ []) start)
    -- 5.5.3: the second label of LX
    ∷ example SKOIN (letter B 1) (switch 0) nothing (E_is 1 (n (pos 2) ∷ w "A" ∷ []) start) (jumps_to 5 [] (E_is 1 (n (pos 2) ∷ w "A" ∷ []) start))
    -- 5.7.3: no component is ;
    ∷ example ZBIJ (letter A 2) (txt ";") nothing
    (E_is 2 (w "ALFA" ∷ w "=" ∷ w "X" ∷ w "+" ∷ w "3" ∷ []) start) (on_to (H_minus (E_is 2 (w "ALFA=X+3" ∷ []) start)))
    -- 5.8.1: an entry's text is met, so A removes the word
    ∷ example SZUKAJ (letter A 3) (switch 1) nothing (E_is 3 (w "+" ∷ w "A" ∷ []) start) (on_to (E_is 3 (w "A" ∷ []) start))
    -- 5.8.2: up to the record that begins with ALFA
    ∷ example OMIN (letter P 1) (letter B 3) nothing
    (E_is 3 (w "ALFA" ∷ w "BETA" ∷ []) (last_is 3 (P_is 1 (rec 1 "A" ∷ []) (rec 2 "B" ∷ rec 3 "ALFA" ∷ []) start)))
    (on_to (E_is 3 (w "ALFA" ∷ w "BETA" ∷ []) (last_is 3 (P_is 1 (rec 1 "A" ∷ rec 2 "B" ∷ []) (rec 3 "ALFA" ∷ []) start))))
    ∷ []

pub manual : map result worked ≡ map (λ x. x.gives) worked
unfolding opened started
manual = refl
