-- The letters by which the forms of arguments are listed.
use Rattle.std.specs.Prelude.{ℕ}
use Rattle.language.specs.Letters.{letter_code}
use Rattle.table.specs.Denote.{letter_of}
use Rattle.forms.specs.declared.Form.{Form}

abbrev pub letter : Form → ℕ
letter (Form.Letter l) = letter_code (letter_of l)
letter Form.Number = 110
letter Form.Class = 99
letter Form.Text = 116
letter Form.Label = 108
letter Form.Nazwa = 119
letter Form.Indeks = 120
