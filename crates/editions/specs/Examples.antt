-- The converter, computed at a few texts.
use Rattle.std.specs.Prelude.{◌≡◌, refl, ◌++◌, replicate}
use Rattle.lists.specs.Quoted.{bytes}
use Rattle.syntax.specs.Load.{opened}
use Rattle.macros.specs.Load.{loaded, load_in}
use Rattle.macros.specs.Prepared.{prepared}
use Rattle.macros.specs.Prepared.{opened as opened-macros}
use Rattle.macros.specs.Marks.{has_macros}
use Rattle.calls.specs.Filling.Filling.{kept, fills}
use Rattle.editions.specs.Convert.{respell, splice, with_operators, respelled, convert_of}

-- labels, spaces and commas stay, also where a label begins as an operator
labels-stay : convert_of 99 (bytes "SEKCJA S\n,PISZ1:  SKOCZ , PISZ1;KONS;KONP S") ≡ fills 80 (bytes "SECTION S\n,PISZ1:  GOTO , PISZ1;ENDS;KONP S")
unfolding opened has_macros prepared loaded load_in respell splice with_operators respelled convert_of
labels-stay = refl

-- one that is spelled as an operator of either edition is 70 for load
operator-label : convert_of 99 (bytes "SEKCJA S\nWRITE: SKOCZ WRITE;KONS;KONP S") ≡ kept 67
unfolding opened has_macros prepared loaded load_in respell splice with_operators respelled convert_of
operator-label = refl

-- a word is a label if a colon follows, past comments too; names, texts and comments stay
texts-stay : convert_of 99 (bytes "SECTION NAME\nA /*:*/ : SET 'SET',A1 /* SET */;GOTO A\nENDS\nKONP NAME")
    ≡ fills 80 (bytes "SEKCJA NAME\nA /*:*/ : UMIESC 'SET',A1 /* SET */;SKOCZ A\nKONS\nKONP NAME")
unfolding opened has_macros prepared loaded load_in respell splice with_operators respelled convert_of
texts-stay = refl

-- a buffer of exactly the result's length, and one byte less
exact : convert_of 26 (bytes "SEKCJA S;STOP;KONS;KONP S") ≡ fills 80 (bytes "SECTION S;STOP;ENDS;KONP S")
unfolding opened has_macros prepared loaded load_in respell splice with_operators respelled convert_of
exact = refl

one_less : convert_of 25 (bytes "SEKCJA S;STOP;KONS;KONP S") ≡ kept 67
unfolding opened has_macros prepared loaded load_in respell splice with_operators respelled convert_of
one_less = refl

-- "has it no macro list": one that nobody calls is one too; a star and a bracket in a text and a comment are none
listed : convert_of 99 (bytes "SEKCJA S\n(M())\nSTOP\nKONS\nKONP S") ≡ kept 67
unfolding opened opened-macros has_macros prepared loaded load_in respell splice with_operators respelled convert_of
listed = refl

none-listed : convert_of 99 (bytes "SEKCJA S\nUMIESC '(*X)',A1 /*(*/;STOP;KONS;KONP S") ≡ fills 80 (bytes "SECTION S\nSET '(*X)',A1 /*(*/;STOP;ENDS;KONP S")
unfolding opened has_macros prepared loaded load_in respell splice with_operators respelled convert_of
none-listed = refl

-- a text that load refuses; a result of 32,769 bytes
refused-text : convert_of 99 (bytes "SECTION S;STOP;KONS;KONP S") ≡ kept 67
unfolding opened has_macros prepared loaded load_in respell splice with_operators respelled convert_of
refused-text = refl

too_long : convert_of 40000 (bytes "SEKCJA S;STOP;KONS;KONP S" ++ replicate 32743 32) ≡ kept 67
unfolding opened has_macros prepared loaded load_in respell splice with_operators respelled convert_of
too_long = refl

long_enough : convert_of 40000 (bytes "SEKCJA S;STOP;KONS;KONP S" ++ replicate 32742 32) ≡ fills 80 (bytes "SECTION S;STOP;ENDS;KONP S" ++ replicate 32742 32)
unfolding opened has_macros prepared loaded load_in respell splice with_operators respelled convert_of
long_enough = refl
