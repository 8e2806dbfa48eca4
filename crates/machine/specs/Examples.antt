-- "Marked to be proved": the eleven examples of document 01, as one checked table.
use Rattle.std.specs.Prelude.{◌≡◌, refl, List, [], ◌∷◌, map, pos}
use Rattle.language.specs.Below.Characters.{rank}
use Rattle.language.specs.Letters.Letter.{A, B, C, P}
use Rattle.language.specs.Program.Arg.{nothing, letter}
use Rattle.language.specs.Program.Op.{PRZESLIJ, KOPIUJ, USTAW, SKRESL, RW, WK, DODAJ, DZIEL, SLOWO, LICZBA, ROZBIJ}
use Rattle.language.specs.Values.Component.{address}
use Rattle.machine.specs.Runs.{ran}
use Rattle.machine.specs.Runs.Answer.{stopped}
use Rattle.machine.specs.Steps.{opened}
use Rattle.machine.specs.WellFormed.{started}
use Rattle.machine.specs.Notation.{w, n, rec, neg, num, start, E_is, P_is, last_is, H_minus, does, Example, state, result, on_to, stops_with, example}

abbrev pub examples : List Example
examples =
    -- 1. E1: XA, 1, =, 18, number 3, `;`. E3: ALFA. PRZESLIJ A1,A3,2 leaves E3: 1, XA, ALFA and E1 from = on
    example PRZESLIJ (letter A 1) (letter A 3) (num 2)
    (E_is 1 (w "XA" ∷ w "1" ∷ w "=" ∷ w "18" ∷ n (pos 3) ∷ w ";" ∷ []) (E_is 3 (w "ALFA" ∷ []) start))
    (on_to (E_is 1 (w "=" ∷ w "18" ∷ n (pos 3) ∷ w ";" ∷ []) (E_is 3 (w "1" ∷ w "XA" ∷ w "ALFA" ∷ []) start)))
    -- 2. 9 and -11: DODAJ gives -2
    ∷ example DODAJ (letter A 1) (letter B 3) nothing
    (E_is 1 (n (pos 9) ∷ w "A" ∷ []) (E_is 3 (n (neg 11) ∷ w "B" ∷ []) start))
    (on_to (E_is 1 (n (neg 2) ∷ w "A" ∷ []) (E_is 3 (n (neg 11) ∷ w "B" ∷ []) start)))
    -- 3. DZIEL gives remainder 9, then quotient 0
    ∷ example DZIEL (letter A 1) (letter B 3) nothing
    (E_is 1 (n (pos 9) ∷ w "A" ∷ []) (E_is 3 (n (neg 11) ∷ w "B" ∷ []) start))
    (on_to (E_is 1 (n (pos 9) ∷ n (pos 0) ∷ w "A" ∷ []) (E_is 3 (n (neg 11) ∷ w "B" ∷ []) start)))
    -- 3. -7 by 2 gives -1, then -3
    ∷ example DZIEL (letter A 1) (num 2) nothing (E_is 1 (n (neg 7) ∷ []) start) (on_to (E_is 1 (n (neg 1) ∷ n (neg 3) ∷ []) start))
    -- 4. E1: AB=3, C. ROZBIJ A1,1 gives A, C: the rest of the word goes
    ∷ example ROZBIJ (letter A 1) (num 1) nothing (E_is 1 (w "AB=3" ∷ w "C" ∷ []) start) (on_to (E_is 1 (w "A" ∷ w "C" ∷ []) start))
    -- 5. LICZBA B5 on -07 gives number -7, then the word
    ∷ example LICZBA (letter B 5) nothing nothing (E_is 5 (w "-07" ∷ w "B" ∷ []) start) (on_to (E_is 5 (n (neg 7) ∷ w "-07" ∷ w "B" ∷ []) start))
    -- 6. P1: a, pointer, b, c, d. P3: r, pointer, s, t. KOPIUJ C1,C3,4 gives P1: a, pointer; P3: r, pointer, d, c, b, s, t; H minus
    ∷ example KOPIUJ (letter C 1) (letter C 3) (num 4)
    (last_is 7 (P_is 1 (rec 1 "A" ∷ []) (rec 2 "B" ∷ rec 3 "C" ∷ rec 4 "D" ∷ []) (P_is 3 (rec 5 "R" ∷ []) (rec 6 "S" ∷ rec 7 "T" ∷ []) start)))
    (on_to (H_minus (last_is 10 (P_is 1 (rec 1 "A" ∷ []) []
    (P_is 3 (rec 5 "R" ∷ []) (rec 10 "D" ∷ rec 9 "C" ∷ rec 8 "B" ∷ rec 6 "S" ∷ rec 7 "T" ∷ []) start)))))
    -- 7. WK B9,1 on empty E9: 52
    ∷ example WK (letter B 9) (num 1) nothing start (stops_with 52 start)
    -- 8. E8: 8, 3. RW A8,10: E8 unchanged, H minus
    ∷ example RW (letter A 8) (num 10) nothing
    (E_is 8 (n (pos 8) ∷ n (pos 3) ∷ []) start)
    (on_to (H_minus (E_is 8 (n (pos 8) ∷ n (pos 3) ∷ []) start)))
    -- 9. 8,388,607 DODAJ 1: 54
    ∷ example DODAJ (letter A 1) (num 1) nothing (E_is 1 (n (pos 8388607) ∷ []) start) (stops_with 54 (E_is 1 (n (pos 8388607) ∷ []) start))
    -- 10. USTAW to a deleted record: 58
    ∷ record {
      code = does SKRESL (letter C 1) (num 1) nothing ∷ does USTAW (letter B 1) (letter P 1) nothing ∷ [];
      inputs = [] ∷ [] ∷ [];
      before = E_is 1 (address 1 ∷ []) (last_is 1 (P_is 1 [] (rec 1 "A" ∷ []) start));
      gives = ran (stopped 58) 1 (state 1 [] (E_is 1 (address 1 ∷ []) (last_is 1 start)));
    }
    -- 10. To 0: the front
    ∷ example USTAW (letter B 1) (letter P 1) nothing
    (E_is 1 (address 0 ∷ []) (last_is 1 (P_is 1 (rec 1 "A" ∷ []) [] start)))
    (on_to (E_is 1 (address 0 ∷ []) (last_is 1 (P_is 1 [] (rec 1 "A" ∷ []) start))))
    -- 11. SLOWO on 0 gives the word 0
    ∷ example SLOWO (letter A 1) nothing nothing (E_is 1 (n (pos 0) ∷ []) start) (on_to (E_is 1 (w "0" ∷ []) start))
    ∷ []

pub marked : map result examples ≡ map (λ x. x.gives) examples
unfolding opened started
marked = refl

-- "A is 21, Z 46"; a 47, z 72; "SI and all later ranks move up by 26": SI 73, 0 is 74, LF 84, DEL 87
pub ranks : map rank (65 ∷ 90 ∷ 97 ∷ 122 ∷ 15 ∷ 48 ∷ 10 ∷ 127 ∷ []) ≡ 21 ∷ 46 ∷ 47 ∷ 72 ∷ 73 ∷ 74 ∷ 84 ∷ 87 ∷ []
ranks = refl
