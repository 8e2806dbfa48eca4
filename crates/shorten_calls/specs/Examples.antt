-- Parts, computed.
use Rattle.std.specs.Prelude.{◌≡◌, refl, List, ℕ, length, replicate}
use Rattle.lists.specs.Quoted.{bytes}
use Rattle.language.specs.Limits as limit
use Rattle.macros.specs.Load.{loaded, load_in}
use Rattle.macros.specs.Marks.{has_macros}
use Rattle.macros.specs.Prepared.{prepared, opened as opened-macros}
use Rattle.syntax.specs.Load.{opened}
use Rattle.calls.specs.Filling.{Filling}
use Rattle.calls.specs.Filling.Filling.{kept, fills}
use Rattle.text_lines.specs.Lines.{lines}
use Rattle.shorten_calls.specs.Shortening.{number_of, round, rounds, part_lines, shorten_of}

-- with a table that is long enough and a buffer of the text's length
abbrev shortened : List ℕ → Filling
shortened s = shorten_of limit.table (length s) s

-- a last line without LF is a line as it stands
last-without-lf : shortened (bytes "SEKCJA S\nFOO") ≡ fills 10 (bytes "SEKCJA S\nFOO")
unfolding opened opened-macros has_macros prepared loaded load_in lines number_of round rounds part_lines shorten_of
last-without-lf = refl

first-fault : shortened (bytes "SEKCJA S\nSTOP\nA: STOP\nFOO\nA: STOP\nKONS\nKONP S\n") ≡ fills 10 (bytes "SEKCJA S\nFOO\n")
unfolding opened opened-macros has_macros prepared loaded load_in lines number_of round rounds part_lines shorten_of
first-fault = refl

twice-named : shortened (bytes "SEKCJA S\nA: STOP\nSTOP\nA: STOP\nKONS\nKONP S\n") ≡ fills 6 (bytes "SEKCJA S\nA: STOP\nA: STOP\n")
unfolding opened opened-macros has_macros prepared loaded load_in lines number_of round rounds part_lines shorten_of
twice-named = refl

-- the number alone stays: the line of the fault may be another
other-line : shortened (bytes "SEKCJA S\nCOFNIJ P1\nBAR\nSTOP\nFOO\n") ≡ fills 10 (bytes "SEKCJA S\nBAR\n")
unfolding opened opened-macros has_macros prepared loaded load_in lines number_of round rounds part_lines shorten_of
other-line = refl

-- STOP is kept by the first round, as COFNIJ P1 must not be the last instruction, and dropped by the second
three-rounds : shortened (bytes "SEKCJA S\nSKOCZ A\nCOFNIJ P1\nSTOP\nKONS\nKONP S\n") ≡ fills 12 (bytes "SEKCJA S\nSKOCZ A\nKONS\nKONP S\n")
unfolding opened opened-macros has_macros prepared loaded load_in lines number_of round rounds part_lines shorten_of
three-rounds = refl

-- load of no bytes gives 0
empty-part : shortened (bytes "FOO\n") ≡ fills 0 (bytes "")
unfolding opened opened-macros has_macros prepared loaded load_in lines number_of round rounds part_lines shorten_of
empty-part = refl

comment-kept : shortened (bytes "/*\n*/ FOO\nBAR\n") ≡ fills 0 (bytes "/*\n*/ FOO\n")
unfolding opened opened-macros has_macros prepared loaded load_in lines number_of round rounds part_lines shorten_of
comment-kept = refl

loads : shortened (bytes "SEKCJA S\nCOFNIJ P1\nSTOP\nKONS\nKONP S\n") ≡ fills 80 (bytes "SEKCJA S\nCOFNIJ P1\nSTOP\nKONS\nKONP S\n")
unfolding opened opened-macros has_macros prepared loaded load_in lines number_of round rounds part_lines shorten_of
loads = refl

-- a buffer of a byte too few; a table of a cell too few; a text of a byte too many
short-buffer : shorten_of limit.table 11 (bytes "SEKCJA S\nFOO") ≡ kept 40
unfolding opened opened-macros has_macros prepared loaded load_in lines number_of round rounds part_lines shorten_of
short-buffer = refl

short-table : shorten_of 8191 12 (bytes "SEKCJA S\nFOO") ≡ kept 40
unfolding opened opened-macros has_macros prepared loaded load_in lines number_of round rounds part_lines shorten_of
short-table = refl

long_text : shorten_of limit.table 40000 (replicate 32769 32) ≡ kept 40
unfolding opened shorten_of load_in
long_text = refl
