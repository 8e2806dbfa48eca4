-- What the functions that fill the rows ask and promise.
use Rattle.std.specs.Result.{MatchResult}
use Rattle.std.specs.Prelude.{Result, ◌≡◌, Bool, List, [], ◌++◌, ℕ, ◌+◌, ◌≤◌, ◌<◌, length, take, Ok}
use Rattle.language.specs.Limits as limit
use Rattle.lists.specs.Lists.{each}
use Rattle.macros.specs.Elements.{elements}
use Rattle.macros.specs.Macros.{macro_list_faults, section}
use Rattle.macros.specs.Marks.{marked, whole_questions}
use Rattle.macros.specs.Pieces.{is_stray, form_faults}
use Rattle.macros.specs.Prepared.{piece_faults, listed, section_of, bytes_out, places_out, macro_questions}
use Rattle.macro_calls.specs.Calls.{Told}
use Rattle.macro_code.specs.Code.{high, change_count, first_change, changes_in, body_in, macros_in}
use Rattle.macro_code.specs.Places as place
use Rattle.macro_section.specs.Below.Known.{Known}
use Rattle.macro_section.specs.Long.{Steady}
use Rattle.statements.specs.Faults.{verdict_of}
use Rattle.statements.specs.StatementAt.{fault_of}
use Rattle.syntax.specs.Items.{line_of}
use Rattle.statements.specs.Faults as told
use Rattle.syntax.specs.Verdict.{Verdict, first_no}
use Rattle.syntax.specs.Verdict.Verdict.{yes, refuse}
use Rattle.statements.specs.Questions.{question_number}
use Rattle.statements.specs.declared.Rejected.{Rejected}
use Rattle.macro_preparing.specs.declared.Reading.{Reading}

-- a text that 14 to 16 let pass, with its marked copy, and cells for the list and the section
pub record Readable (s m c : List ℕ) : Type 0 where
  pub copy : m ≡ marked s
  pub short : length s ≤ limit.text
  pub whole : first_no (whole_questions s) ≡ yes
  pub cells : length c ≡ place.cells

-- the first cells of the macros that were read
abbrev pub firsts_of : List ℕ → Reading → List ℕ
firsts_of f r = take r.listing.count f

pub record RowsRead (s c f quiet loose : List ℕ) (alone : List Bool) (r : Reading) : Type 0 where
  pub few : r.listing.count ≤ place.macros
  pub known : Known s c (firsts_of f r) (length (firsts_of f r)) quiet loose alone
  pub low : r.listing.section < place.half
  pub steady : Steady (high c (r.listing.section + place.span_cell)) (changes_in s c (first_change c r.listing.section) (change_count c r.listing.section))
  pub macros_are : macros_in s c (firsts_of f r) (length (firsts_of f r)) ≡ listed s
  pub section_is : body_in s c r.listing.section ≡ section_of s
  pub form_is : r.listing.fault ≡ fault_of (macro_list_faults (elements s) ++ form_faults (is_stray []) [] (section (elements s)))
  pub typed_is : Told (each (piece_faults (listed s)) (each (λ m. m.body) (listed s) ++ section_of s)) r.typed

-- the first question of the whole text or of its macros that is answered no
abbrev pub first_question : List ℕ → Verdict
first_question s = first_no (whole_questions s ++ macro_questions s)

-- the section is written out, with the place that each byte comes from
pub record Expanded (s : List ℕ) (n : ℕ) (o ps : List ℕ) : Type 0 where
  pub most : n ≤ limit.text
  pub yes_is : first_question s ≡ yes
  pub bytes_are : take n o ≡ bytes_out s
  pub places_are : take n ps ≡ places_out s

-- a verdict, with the line of its place
pub record Refused (s : List ℕ) (v : Verdict) (u : Rejected) : Type 0 where
  pub at : ℕ
  pub is : v ≡ refuse (question_number u.question) at
  pub line_is : u.line ≡ line_of s at

abbrev pub Answered : List ℕ → told.Verdict → Result Unit Rejected → Type 0
Answered s v r = MatchResult r (λ _. v ≡ Ok tt) (Refused s (verdict_of v))

abbrev pub Expands : List ℕ → Result ℕ Rejected → List ℕ → List ℕ → Type 0
Expands s r o ps = MatchResult r (λ n. Expanded s n o ps) (Refused s (first_question s))
