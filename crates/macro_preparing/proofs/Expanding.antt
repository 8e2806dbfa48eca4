-- The section written out, and the questions of a text with macros.
use mathlib.Core.Path.{◌≡◌, refl, sym, ap, ◌∙◌}
use mathlib.Core.Bool.{Bool, true, false, cond, or-false}
use mathlib.Core.List.{List, [], ◌∷◌, ◌++◌, map}
use Prim.Native.Nat.{ℕ, ◌+◌, ◌≤◌}
use native.Mathlib.Omega.{arith}
use lib.Dec.{ltb}
use lib.ListN.{length, take, drop}
use Rattle.std.proofs.Math.Seq.{take-append_seam}
use Rattle.std.proofs.lemmas.List.{length-map, length-take-le}
use borrow.Author.Tests.{le-ltb}
use Rattle.std.proofs.lemmas.Bool.{or_from}
use Rattle.language.specs.Limits as limit
use Rattle.lists.specs.Lists.{each}
use Rattle.macros.proofs.AcceptedLaws.{yes-at}
use Rattle.macros.specs.Expansion.{followed_by, piece_writes, walk, expand, levels}
use Rattle.macros.specs.Macros.{Macro}
use Rattle.macros.specs.Marks.{has_macros, whole_questions}
use Rattle.macros.specs.Pieces.{Piece}
use Rattle.macros.specs.Pieces.Piece.{kept, value, called}
use Rattle.std.specs.Prelude.{Ok, Err}
use Rattle.macros.specs.Prepared.Prepared.{ready, unfit}
use Rattle.macros.specs.Prepared.{writes, deep_places, listed, section_of, bytes_out, places_out, macro_questions, written_out, unless_unfit, prepared}
use Rattle.macros.proofs.ShapeLaws.{places-rise, prepared-shape}
use Rattle.macros.proofs.WrittenLaws.{written-at-once}
use Rattle.macro_code.specs.Places as place
use Rattle.macro_lines.specs.Lines.{Placed}
use Rattle.macro_section.specs.Origins.{none, Sectioned}
use Rattle.macro_section.specs.declared.WrittenOut.{WrittenOut}
use Rattle.macro_values.specs.Wrote.{is_over, size_of, Wrote}
use Rattle.statements.specs.FaultLaws.{first_no-both}
use Rattle.statements.specs.Faults.{lower, decided, verdict_of, then}
use Rattle.statements.specs.StatementAt.{fault_of}
use Rattle.statements.specs.Faults as told
use Rattle.syntax.specs.Items.{line_of}
use Rattle.syntax.specs.Verdict.{Verdict, first_no}
use Rattle.syntax.specs.Verdict.Verdict.{yes}
use Rattle.macro_preparing.specs.QuestionLaws.{asked}
use Rattle.macro_preparing.specs.Preparing.{made, Preparable, Prepares}
use Rattle.macro_preparing.specs.Rows.{firsts_of, first_question, RowsRead, Expanded, Refused}
use Rattle.statements.specs.Questions.{question_number}
use Rattle.statements.specs.declared.Rejected.{Rejected}
use Rattle.macro_preparing.specs.declared.Reading.{Reading}

-- ---- a call that is too deep

front-none : (xs ys : List ℕ) → xs ++ ys ≡ [] → xs ≡ []
front-none [] ys h = refl
front-none (x ∷ xs) ys h = let e : ◌≡◌ {A = ℕ} 0 1 = cc in absurd (omega arith)

back_none : (xs ys : List ℕ) → xs ++ ys ≡ [] → ys ≡ []
back_none [] ys h = h
back_none (x ∷ xs) ys h = let e : ◌≡◌ {A = ℕ} 0 1 = cc in absurd (omega arith)

module _ (ms : List Macro) where
  deep_alone : (p : Piece) → (writes ms p).deep ≡ (piece_writes ms (expand ms 15) [] p).deep
  unfolding writes expand walk followed_by
  deep_alone p = or-false (piece_writes ms (expand ms 15) [] p).deep

  piece-deep : (p : Piece) → deep_places ms p ≡ [] → (piece_writes ms (expand ms 15) [] p).deep ≡ false
  unfolding deep_places piece_writes
  piece-deep (kept place w) h = refl
  piece-deep (value k) h = refl
  piece-deep (called c) h = sym (deep_alone (called c)) ∙ go (writes ms (called c)).deep h
    where
      go : (b : Bool) → cond b (c.at ∷ []) [] ≡ [] → b ≡ false
      go true e = let z : ◌≡◌ {A = ℕ} 0 1 = cc in absurd (omega arith)
      go false e = refl

  not-deep : (ps : List Piece) → each (deep_places ms) ps ≡ [] → (expand ms levels [] ps).deep ≡ false
  unfolding expand walk followed_by
  not-deep [] h = refl
  not-deep (p ∷ ps) h =
      or_from (piece_writes ms (expand ms 15) [] p).deep (walk ms (expand ms 15) [] ps).deep
      (piece-deep p (front-none (deep_places ms p) (each (deep_places ms) ps) h)) (not-deep ps (back_none (deep_places ms p) (each (deep_places ms) ps) h))

-- ---- a text with macros

module _ (s : List ℕ) (h : has_macros s ≡ true) where
  pub prepared-with : prepared s ≡ unless_unfit s (first_question s) (written_out s)
  unfolding prepared
  prepared-with = rw h refl

  bytes_fit : length s ≤ limit.text → first_question s ≡ yes → length (bytes_out s) ≤ limit.text
  unfolding unless_unfit written_out
  bytes_fit l q =
      (prepared-shape s (bytes_out s) (map (line_of s) (places_out s)) l
      (prepared-with ∙ ap (λ (v : Verdict). unless_unfit s v (written_out s)) q)).short

-- ---- the section

-- 14 to 16 are asked before 64 to 66
either-asked : (s : List ℕ) → first_question s ≡ then (first_no (whole_questions s)) (first_no (macro_questions s))
either-asked s = first_no-both (whole_questions s) (macro_questions s)

pub whole_asked : {s : List ℕ} (v : told.Verdict) → verdict_of v ≡ first_no (whole_questions s) → {u : Rejected} → Refused s (verdict_of v) u → Refused s (first_question s) u
whole_asked {s} v w f =
    record { at = f.at; is = either-asked s ∙ ap (λ (q : Verdict). then q (first_no (macro_questions s))) (sym w ∙ f.is); line_is = f.line_is }

module _ {s c f quiet loose : List ℕ} {alone : List Bool} {r : Reading} (y : RowsRead s c f quiet loose alone r) {w : WrittenOut} {o p m : List ℕ}
    (z : Sectioned s c (firsts_of f r) (length (firsts_of f r)) r.listing.section w o p m) (room : length o ≡ limit.text) where
  wrote-there : Wrote (expand (listed s) levels [] (section_of s)) none w.state o p
  wrote-there = rw (y.macros_are, y.section_is) at z.wrote

  placed-there : is_over w.state ≡ false → take (size_of w.state) m ≡ places_out s
  unfolding places_out
  placed-there = rw (y.macros_are, y.section_is) at z.placed

  long-there : w.long ≡ fault_of (each (deep_places (listed s)) (section_of s) ++ drop limit.text (places_out s))
  unfolding places_out
  long-there = rw (y.macros_are, y.section_is, room) at z.long

  all_asked : (v : told.Verdict)
      → verdict_of v ≡ then (decided 64 (lower r.listing.fault (lower r.typed.unknown w.state.faults.unknown))) (then (decided 65 (lower r.typed.uneven w.state.faults.uneven)) (decided 66 w.long))
      → verdict_of v ≡ first_no (macro_questions s)
  all_asked v e = e ∙ asked s y.form_is y.typed_is wrote-there long-there

  none_deep : first_no (macro_questions s) ≡ yes → (expand (listed s) levels [] (section_of s)).deep ≡ false
  unfolding macro_questions
  none_deep q =
      not-deep (listed s) (section_of s)
      (front-none (each (deep_places (listed s)) (section_of s)) (drop limit.text (places_out s)) (yes-at (macro_questions s) q 2))

  module _ (macros : has_macros s ≡ true) (short : length s ≤ limit.text) (whole : first_no (whole_questions s) ≡ yes) where
    macros-asked : first_question s ≡ first_no (macro_questions s)
    macros-asked = either-asked s ∙ ap (λ (q : Verdict). then q (first_no (macro_questions s))) whole

    not-over : first_no (macro_questions s) ≡ yes → is_over w.state ≡ false
    not-over q =
        let l : length (expand (listed s) levels [] (section_of s)).bytes ≤ limit.text = rw (written-at-once s) at (bytes_fit s macros short (macros-asked ∙ q)) in
        wrote-there.over
        ∙ or_from (expand (listed s) levels [] (section_of s)).deep (ltb (length o) (0 + length (expand (listed s) levels [] (section_of s)).bytes))
        (none_deep q) (le-ltb (length o) (0 + length (expand (listed s) levels [] (section_of s)).bytes) (omega (arith, l, room)))

    module _ (v : told.Verdict) (e : verdict_of v ≡ then (decided 64 (lower r.listing.fault (lower r.typed.unknown w.state.faults.unknown))) (then (decided 65 (lower r.typed.uneven w.state.faults.uneven)) (decided 66 w.long))) where
      pub expands : v ≡ Ok tt → Expanded s (size_of w.state) p m
      expands q =
          let y : first_no (macro_questions s) ≡ yes = sym (all_asked v e) ∙ ap verdict_of q in
          record {
            most = omega (arith, wrote-there.most, room);
            yes_is = macros-asked ∙ y;
            bytes_are = (wrote-there.within (not-over y)).1 ∙ sym (written-at-once s);
            places_are = placed-there (not-over y);
          }

      pub expands-not : {u : Rejected} → Refused s (verdict_of v) u → Refused s (first_question s) u
      expands-not f = rw (all_asked v e ∙ sym macros-asked) at f

-- ---- the answers

module _ {s o ps : List ℕ} {n : ℕ} (x : Expanded s n o ps) where
  pub in_order : length s ≤ limit.text → Placed s (take n ps)
  in_order p = record { short = p; rising = rw x.places_are (places-rise s) }

  -- the lines of the places stand where these stood
  lines-there : {ls : List ℕ} → n ≤ length ps → ls ≡ map (line_of s) (take n ps) → take n (ls ++ drop n ps) ≡ ls
  lines-there {ls} h e =
      let size : length ls ≡ n = ap length e ∙ length-map (take n ps) (line_of s) ∙ length-take-le n ps h in
      ap (λ (k : ℕ). take k (ls ++ drop n ps)) (sym size) ∙ take-append_seam ls (drop n ps)

  pub written-ready : {ls : List ℕ} → n ≤ length ps → ls ≡ map (line_of s) (take n ps) → made (Ok n) o (ls ++ drop n ps) ≡ unless_unfit s (first_question s) (written_out s)
  unfolding unless_unfit written_out
  written-ready h l =
      (λ i. ready (x.bytes_are i) ((lines-there h l ∙ l ∙ ap (map (line_of s)) x.places_are) i))
      ∙ ap (λ (q : Verdict). unless_unfit s q (written_out s)) (sym x.yes_is)

pub written-unfit : {s : List ℕ} {v : Verdict} {u : Rejected} (o ls : List ℕ) → Refused s v u → made (Err u) o ls ≡ unless_unfit s v (written_out s)
unfolding unless_unfit
written-unfit {s} {v} {u} o ls f = ap (unfit (question_number u.question)) f.line_is ∙ ap (λ (q : Verdict). unless_unfit s q (written_out s)) (sym f.is)

module _ {s o ls c : List ℕ} (p : Preparable s o ls c) {m ms d : List ℕ} (l : length m ≡ limit.text) (k : length ms ≡ limit.text) (j : length d ≡ place.cells) where
  pub refuses : {u : Rejected} → Refused s (first_question s) u → Prepares s (Err u) m ms d
  refuses f = record { is = written-unfit m ms f ∙ sym (prepared-with s p.macros); fits = omega arith; size = l; lines_size = k; code_size = j }

  pub prepares : {n : ℕ} {ps ls : List ℕ} → Expanded s n m ps → n ≤ length ps → ls ≡ map (line_of s) (take n ps) → ms ≡ ls ++ drop n ps → Prepares s (Ok n) m ms d
  prepares {n} x h f e =
      record { is = ap (made (Ok n) m) e ∙ written-ready x h f ∙ sym (prepared-with s p.macros); fits = x.most; size = l; lines_size = k; code_size = j }
