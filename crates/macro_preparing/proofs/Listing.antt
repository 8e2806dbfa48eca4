-- The list of macros and the section in rows.
use mathlib.Core.Path.{◌≡◌, sym, ap, ◌∙◌}
use mathlib.Core.Bool.{Bool}
use mathlib.Core.List.{List, [], ◌∷◌, ◌++◌}
use Prim.Native.Nat.{ℕ, ◌≤◌}
use native.Mathlib.Omega.{arith}
use lib.ListN.{length, get_or, take}
use lib.Seq.{length-take-le, get_or-take}
use Rattle.language.specs.Limits as limit
use Rattle.layout.proofs.CellLaws.{length-tab, get_d-tab}
use Rattle.macros.specs.Elements.{elements}
use Rattle.macros.specs.Macros.{Macro, section, list_change}
use Rattle.macros.specs.Marks.{whole_questions}
use Rattle.macros.proofs.OrderLaws.{Ordered, list-ordered}
use Rattle.macros.specs.Pieces.{Change, section_changes, pieces_from}
use Rattle.macros.proofs.PlaceLaws.{elements-ascend}
use Rattle.macros.specs.Prepared.{listed, section_of}
use Rattle.macros.proofs.ShortLaws.{name-short}
use Rattle.macro_calls.specs.Calls.{typed_in, Told}
use Rattle.macro_calls.specs.KeptLaws.{macros-kept}
use Rattle.macro_code.specs.declared.faults.Faults.{Faults}
use Rattle.macro_code.specs.Code.{macro_in, macros_in, body_in}
use Rattle.macro_code.specs.Known.{Heights, Singles}
use Rattle.macro_code.specs.Places as place
use Rattle.macro_section.specs.Below.Known.{ShortNames}
use Rattle.macro_reading.specs.Whole.{MacrosRead}
use Rattle.macro_reading.specs.declared.Listing.{Listing}
use Rattle.macro_section.specs.Long.{Steady}
use Rattle.syntax.specs.Verdict.{first_no}
use Rattle.syntax.specs.Verdict.Verdict.{yes}
use Rattle.macro_preparing.specs.Rows.{RowsRead}

-- changes in order
steady-of : (lo hi : ℕ) (cs : List Change) → Ordered lo hi cs → Steady lo cs
steady-of lo hi [] h = tt
steady-of lo hi (c ∷ cs) h = (h.0, h.2, steady-of c.stop hi cs h.5)

-- the macros in cells are those of a list
names_short : (s c f : List ℕ) (n : ℕ) → macros_in s c f n ≡ listed s → first_no (whole_questions s) ≡ yes → ShortNames s c f n
unfolding macros_in macro_in
names_short s c f n e w k l =
    let m : ℕ → Macro = λ j. macro_in s c (get_or f j 0) in
    let many : length (listed s) ≡ n = ap length (sym e) ∙ length-tab n m in
    let here : get_or (listed s) k (m k) ≡ m k = ap (λ (xs : List Macro). get_or xs k (m k)) (sym e) ∙ get_d-tab n m k (m k) l in
    rw here at (name-short s w k (m k) (omega (arith, many)))

module _ {s c f : List ℕ} {r : Listing} (y : MacrosRead s c f r) (l : place.macros ≤ length f) where
  abbrev own : List ℕ
  own = take r.count f

  own-size : length own ≡ r.count
  own-size = length-take-le r.count f (omega (arith, y.few))

  macros-now : macros_in s c own (length own) ≡ listed s
  macros-now = ap (macros_in s c own) own-size ∙ macros-kept (record { same = λ k h. get_or-take r.count f k 0 h }) s c ∙ y.macros_are

  section-now : body_in s c r.section ≡ section_of s
  unfolding body_in
  section-now = λ i. pieces_from s (y.cells.starts i) (y.cells.stops i) (y.cells.changes_are i)

  pub rows-read : {quiet loose : List ℕ} {alone : List Bool} {t : Faults} → length s ≤ limit.text → length c ≡ place.cells → first_no (whole_questions s) ≡ yes
      → Told (typed_in s c own (length own) r.section) t → Heights s c own (length own) quiet loose → Singles s c own (length own) alone
      → RowsRead s c f quiet loose alone (record { listing = r; typed = t })
  rows-read {quiet} {loose} {alone} {t} short size whole told heights singles =
      record {
        few = y.few;
        known = record {
          text = short;
          cells = omega (arith, size);
          few = omega (arith, own-size, y.few);
          names = names_short s c own (length own) macros-now whole;
          heights = heights;
          singles = singles;
        };
        low = y.low;
        steady = rw (y.cells.starts, y.cells.changes_are) (steady-of 0 (length s) (list_change (length s) (elements s) ++ section_changes (length s) (section (elements s))) (list-ordered (length s) (elements s) (elements-ascend s)));
        macros_are = macros-now;
        section_is = section-now;
        form_is = y.fault_is;
        typed_is = rw (macros-now, section-now) at told;
      }
