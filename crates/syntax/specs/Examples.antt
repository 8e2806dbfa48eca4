-- Load of texts as they stand, computed at a few.
use Rattle.std.specs.Prelude.{◌≡◌, refl, true, [], ◌∷◌}
use Rattle.language.specs.Below.Quoted.{bytes}
use Rattle.language.specs.Letters.{Letter}
use Rattle.language.specs.Program.{Arg, Op}
use Rattle.syntax.specs.Load.{load_typed, opened}
use Rattle.syntax.specs.Load.Loaded.{refused, accepted}
use Rattle.syntax.specs.Sample.{sample_text, sample}

sample-loads : load_typed sample_text ≡ accepted sample
unfolding opened
sample-loads = refl

-- labels alone belong to the next statement, a switch may follow the last instruction, a class has each letter once, in order
switched : load_typed (bytes "SEKCJA S;A: B:\n\nSKONA A1,X;USUN I2,DLL;SKOCZ B\nX: NAZWA A,B:'*U-';KONS;KONP S")
    ≡ accepted (record {
      code =
          record { op = Op.SKONA; line = 3; first = Arg.letter Letter.A 1; second = Arg.switch 0; third = Arg.nothing }
          ∷ record { op = Op.USUN; line = 3; first = Arg.letter Letter.I 2; second = Arg.class (bytes "LD"); third = Arg.nothing }
          ∷ record { op = Op.SKOCZ; line = 3; first = Arg.label 1; second = Arg.nothing; third = Arg.nothing }
          ∷ [];
      labels = record { name = bytes "A"; target = 0 } ∷ record { name = bytes "B"; target = 0 } ∷ [];
      switches = record { goes_by_name = true; entries = record { label = 0; text = [] } ∷ record { label = 1; text = bytes "[-" } ∷ [] } ∷ [];
      texts = bytes "[-" ∷ [];
      numbers = [];
    })
unfolding opened
switched = refl

-- each question is asked of the whole statement before the next, and 14 comes before 15
late : load_typed (bytes "SEKCJA S\nUMIESC '{' /*\n*/ #\nSTOP\nKONS\nKONP S\n") ≡ refused 14 3
unfolding opened
late = refl

-- small letters stand in texts and comments alone, and no pair has one
small-label : load_typed (bytes "SEKCJA S\nx: STOP\nKONS\nKONP S\n") ≡ refused 14 2
unfolding opened
small-label = refl

small-pair : load_typed (bytes "SEKCJA S\nUMIESC 'a*l',A1\nSTOP\nKONS\nKONP S\n") ≡ refused 15 2
unfolding opened
small-pair = refl

-- the star of `/*` closes no comment
open-comment : load_typed (bytes "SEKCJA S\n/*/ STOP\nSTOP\nKONS\nKONP S\n") ≡ refused 14 2
unfolding opened
open-comment = refl

-- the lowest line counts
lowest-line : load_typed (bytes "SEKCJA S\nPRZESLIJ /*\n*/ 5\nSTOP\nKONS\nKONP S\n") ≡ refused 2 2
unfolding opened
lowest-line = refl

-- an absent statement's line is the last byte's
nothing-there : load_typed [] ≡ refused 0 1
unfolding opened
nothing-there = refl

no_end : load_typed (bytes "SEKCJA S\nSTOP\nKONP S\n\n\n") ≡ refused 25 5
unfolding opened
no_end = refl

-- 25 comes before 12, and 12 before 13, over the whole text
unended : load_typed (bytes "SEKCJA S\nSKOCZ Y\nKONP S\n") ≡ refused 25 3
unfolding opened
unended = refl

undeclared : load_typed (bytes "SEKCJA S\nSKONA A1,X\nSKOCZ Y\nKONS\nKONP S\n") ≡ refused 12 3
unfolding opened
undeclared = refl

-- the English edition: the same program; the other edition's own operators bring 10
english : load_typed (bytes "SECTION S\nSET 'AB',A1\nWRITE A1,Q1\nSTOP\nENDS\nKONP S\n") ≡ accepted sample
unfolding opened
english = refl

foreign : load_typed (bytes "SECTION S\nSTOP\nKONS\nKONP S") ≡ refused 10 3
unfolding opened
foreign = refl

-- no label is named as an operator of either edition; 06 of all labels of the statement comes before, 01 after
english-label : load_typed (bytes "SEKCJA S\nA: /*\n*/ GOTO: COFNIJ P1,P2\nSTOP\nKONS\nKONP S") ≡ refused 70 3
unfolding opened
english-label = refl

polish-label : load_typed (bytes "SECTION S\nNAZWA: STOP\nENDS\nKONP S") ≡ refused 70 2
unfolding opened
polish-label = refl

repeated-label : load_typed (bytes "SEKCJA S\nA:\nGOTO: /*\n*/ A: COFNIJ P1\nSTOP\nKONS\nKONP S") ≡ refused 6 4
unfolding opened
repeated-label = refl

-- the section may have such a name, and words that are no keywords may name labels
named-stop : load_typed (bytes "SECTION STOP\nSTART: SET 'AB',A1\nWRITE A1,Q1\nSTOP\nENDS\nKONP STOP\n")
    ≡ accepted (record { code = sample.code; labels = record { name = bytes "START"; target = 0 } ∷ []; switches = []; texts = sample.texts; numbers = [] })
unfolding opened
named-stop = refl
