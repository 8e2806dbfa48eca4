-- The shape of a text made ready: a line for each byte, at most 32,768 bytes, and lines that never fall and are lines of the given text.
use Rattle.std.specs.Prelude.{◌≡◌, refl, Bool, true, false, cond, List, [], ◌∷◌, ◌++◌, map, ℕ, zero, suc, ◌≤◌, length, get_or, drop}
use Rattle.std.proofs.Common.{sym, ap, ◌∙◌, append_assoc, append-nil, arith, length-append, length-drop}
use Rattle.std.proofs.lemmas.List.{length-map}
use Rattle.syntax.specs.Below.Limits as limit
use Rattle.syntax.specs.Below.Lists.{each}
use Rattle.syntax.specs.Items.{line_of, up_from, lines_of}
use Rattle.syntax.proofs.LineLaws.{length-lines, length_up}
use Rattle.syntax.specs.Verdict.{Question, ask, Verdict, lowest, decide, first_no}
use Rattle.syntax.specs.Verdict.Verdict.{yes, refuse}
use Rattle.macros.specs.Marks.{has_macros, whole_questions}
use Rattle.macros.specs.Elements.{elements}
use Rattle.macros.specs.Pieces.{Piece, is_stray, form_faults}
use Rattle.macros.specs.Pieces.Piece.{kept, value, called}
use Rattle.macros.specs.Macros.{Macro, macro_list_faults, section}
use Rattle.macros.specs.Expansion.{places_of, followed_by, piece_writes, walk, expand}
use Rattle.macros.specs.Prepared.{writes, origins, deep_places, all_faults, listed, section_of, bytes_out, places_out, macro_questions, written_out, unless_unfit, prepared}
use Rattle.macros.specs.Prepared.Prepared.{unfit, ready}
use Rattle.macros.proofs.LineLaws.{lines-rise}
use Rattle.macros.proofs.OrderLaws.{Rising, rising-from, up-rises, section-rises}

-- As many places as bytes

none-there : (k : ℕ) → get_or {A = List ℕ} [] k [] ≡ []
none-there zero = refl
none-there (suc k) = refl

pub kept-writes : (ms : List Macro) (place : ℕ) (w : List ℕ) → (writes ms (kept place w)).bytes ≡ w ++ []
unfolding writes expand walk piece_writes followed_by
kept-writes ms place w = refl

pub value-writes : (ms : List Macro) (k : ℕ) → (writes ms (value k)).bytes ≡ []
unfolding writes expand walk piece_writes followed_by
value-writes ms k = rw (none-there k)

origins-length : (ms : List Macro) (p : Piece) → length (origins ms p) ≡ length (writes ms p).bytes
unfolding origins
origins-length ms (kept place w) = rw (kept-writes ms place w) (length_up place w ∙ omega (arith, length-append w []))
origins-length ms (value k) = rw (value-writes ms k)
origins-length ms (called c) = length-map (writes ms (called c)).bytes (λ b. c.at)

all-origins : (ms : List Macro) (ps : List Piece) → length (each (origins ms) ps) ≡ length (each (λ p. (writes ms p).bytes) ps)
all-origins ms [] = refl
all-origins ms (p ∷ ps) =
    simp length-append (omega (arith, origins-length ms p, all-origins ms ps))

-- the last line
abbrev pub last_line : List ℕ → ℕ
last_line s = line_of s (length s)

map-rises : (s : List ℕ) (lo : ℕ) (ns : List ℕ) → Rising lo (length s) ns → Rising (line_of s lo) (suc (last_line s)) (map (line_of s) ns)
map-rises s lo [] h = tt
map-rises s lo (n ∷ ns) h =
    (lines-rise s lo n h.0, omega (arith, lines-rise s n (length s) (omega (arith, h.1))), map-rises s n ns h.2)

first-line : (s : List ℕ) → 1 ≤ line_of s 0
unfolding line_of
first-line s = omega arith

pub places-rise : (s : List ℕ) → Rising 0 (length s) (places_out s)
unfolding places_out
places-rise s = section-rises (listed s) s

-- The shape

pub record Shape (s w ls : List ℕ) : Type 0 where
  pub lengths : length ls ≡ length w
  pub short : length w ≤ limit.text
  pub rising : Rising 1 (suc (last_line s)) ls

-- what a yes says of the last question
no-yes : (number at : ℕ) → refuse number at ≡ yes → ⊥
no-yes number at h = let z : ◌≡◌ {A = ℕ} 0 1 = cc in omega arith

pub not-ready : (number line : ℕ) (w ls : List ℕ) → unfit number line ≡ ready w ls → ⊥
not-ready number line w ls h = let z : ◌≡◌ {A = ℕ} 0 1 = cc in omega arith

pub yes-behind : (number : ℕ) (faults : List ℕ) (v : Verdict) → decide number faults v ≡ yes → v ≡ yes
unfolding decide
yes-behind number [] v h = h
yes-behind number (p ∷ ps) v h = absurd (no-yes number (lowest p ps) h)

pub yes-none : (number : ℕ) (faults : List ℕ) (v : Verdict) → decide number faults v ≡ yes → faults ≡ []
unfolding decide
yes-none number [] v h = refl
yes-none number (p ∷ ps) v h = absurd (no-yes number (lowest p ps) h)

pub yes-last : (qs : List Question) (number : ℕ) (faults : List ℕ) → first_no (qs ++ (ask number faults ∷ [])) ≡ yes → faults ≡ []
unfolding first_no
yes-last [] number faults h = yes-none number faults yes h
yes-last (q ∷ qs) number faults h =
    yes-last qs number faults (yes-behind q.number q.faults (first_no (qs ++ (ask number faults ∷ []))) h)

-- 66: no byte past the limit
fits : (s : List ℕ) → first_no (whole_questions s ++ macro_questions s) ≡ yes → length (places_out s) ≤ limit.text
unfolding macro_questions
fits s h =
    let faults = all_faults (listed s) (section_of s) in
    let before = whole_questions s
    ++ (ask 64 (macro_list_faults (elements s) ++ form_faults (is_stray []) [] (section (elements s)) ++ places_of 64 faults) ∷ ask 65 (places_of 65 faults) ∷ []) in
    let none = yes-last before 66 (each (deep_places (listed s)) (section_of s) ++ drop limit.text (places_out s)) (rw append_assoc h) in
    omega (arith, simp (length-append, length-drop) at (ap length none))

as_long : (s : List ℕ) → length (places_out s) ≡ length (bytes_out s)
unfolding places_out bytes_out
as_long s = all-origins (listed s) (section_of s)

from_first : (s : List ℕ) (ns : List ℕ) → Rising 0 (length s) ns → Rising 1 (suc (last_line s)) (map (line_of s) ns)
from_first s ns h = rising-from (line_of s 0) 1 (suc (last_line s)) (map (line_of s) ns) (first-line s) (map-rises s 0 ns h)

plain-shape : (s : List ℕ) → length s ≤ limit.text → Shape s s (lines_of s)
unfolding lines_of
plain-shape s l =
    record {
      lengths = length-lines s;
      short = l;
      rising = from_first s (up_from 0 s) (rw append-nil at (up-rises 0 (length s) (length s) s [] (omega arith) (omega arith) tt));
    }

written-shape : (s : List ℕ) → first_no (whole_questions s ++ macro_questions s) ≡ yes → Shape s (bytes_out s) (map (line_of s) (places_out s))
written-shape s h =
    record {
      lengths = length-map (places_out s) (line_of s) ∙ as_long s;
      short = omega (arith, fits s h, as_long s);
      rising = from_first s (places_out s) (places-rise s);
    }

shape_of : (s w ls v ms : List ℕ) → Shape s v ms → ready v ms ≡ ready w ls → Shape s w ls
shape_of s w ls v ms h e =
    let a : v ≡ w = cc in
    let b : ms ≡ ls = cc in
    rw (a, b) at h

-- a text made ready has this shape
pub prepared-shape : (s w ls : List ℕ) → length s ≤ limit.text → prepared s ≡ ready w ls → Shape s w ls
unfolding prepared written_out unless_unfit
prepared-shape s w ls l h = go (has_macros s) h
  where
    judged : (v : Verdict) → first_no (whole_questions s ++ macro_questions s) ≡ v → unless_unfit s v (written_out s) ≡ ready w ls → Shape s w ls
    judged yes e k = shape_of s w ls (bytes_out s) (map (line_of s) (places_out s)) (written-shape s e) k
    judged (refuse number at) e k = absurd (not-ready number (line_of s at) w ls k)

    go : (b : Bool) → cond b (unless_unfit s (first_no (whole_questions s ++ macro_questions s)) (written_out s)) (ready s (lines_of s)) ≡ ready w ls → Shape s w ls
    go true k = judged (first_no (whole_questions s ++ macro_questions s)) refl k
    go false k = shape_of s w ls s (lines_of s) (plain-shape s l) k

-- what a text with macros is made
by-verdict : (s : List ℕ) (v : Verdict) (w ls : List ℕ) → unless_unfit s v (written_out s) ≡ ready w ls → (w ≡ bytes_out s) × (ls ≡ map (line_of s) (places_out s))
unfolding unless_unfit written_out
by-verdict s yes w ls e = (cc, cc)
by-verdict s (refuse number at) w ls e = absurd (not-ready number (line_of s at) w ls e)

pub written-by : (s w ls : List ℕ) → has_macros s ≡ true → prepared s ≡ ready w ls → (w ≡ bytes_out s) × (ls ≡ map (line_of s) (places_out s))
unfolding prepared
written-by s w ls h e =
    let v = first_no (whole_questions s ++ macro_questions s) in
    by-verdict s v w ls (sym (ap (λ (b : Bool). cond b (unless_unfit s v (written_out s)) (ready s (lines_of s))) h) ∙ e)

-- a text without macros is loaded as it stands
pub plain-same : (s : List ℕ) → has_macros s ≡ false → prepared s ≡ ready s (lines_of s)
unfolding prepared
plain-same s h = rw h
