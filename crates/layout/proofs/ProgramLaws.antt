-- A program that is well formed has a table: its parts are in range.
use Rattle.std.specs.Prelude.{◌≡◌, refl, Bool, true, false, not, ◌&&◌, ◌||◌, ℕ, ◌≤◌, ◌<◌, T, leb, length, ℤ}
use mathlib.Core.List.{List, [], ◌∷◌}
use Rattle.std.proofs.Common.{arith, leb→le, ltb→lt, length-append}
use Rattle.std.proofs.Math.Dec.{ltb}
use Rattle.std.proofs.Math.IntN.{nat_abs}
use Rattle.machine.specs.Below.Limits as limit
use Rattle.machine.specs.Below.ListLaws.{part, all_head, all_tail, T-left, T-right}
use Rattle.machine.specs.Below.Lists.{total, all, filled, each}
use Rattle.machine.proofs.Below.CharacterLaws.{known-byte}
use Rattle.machine.specs.Below.Characters.{known, is_capital, is_digit}
use Rattle.machine.specs.Below.Program.{identifier, Entry, Switch, Program}
use Rattle.machine.specs.Below.LanguageValues.{in_range}
use Rattle.machine.specs.Facts.{InstrFacts, LabelFacts, ProgramFacts}
use Rattle.machine.specs.WellFormed.{good_word, good_text, kept_text, good_instr, good_label, good_entry, good_switch, program_tests, good_program}
use Rattle.machine.proofs.WellFormedLaws.{open-instr, open-label, open-program}
use Rattle.layout.specs.Bounds.{Each, Below, TextOk, EntryOk, ProgramOk}
use Rattle.layout.proofs.CellLaws.{each_append, each_of}

-- ---- characters are bytes

pub known-below : (w : List ℕ) → T (all known w) → Below 256 w
known-below w h = each_of known (λ x. x < 256) (λ x t. omega (arith, known-byte x t)) w h

letter-below : (b : ℕ) → T (is_capital b) → b < 256
letter-below b h = omega (arith, leb→le b 90 (T-right (leb 65 b) (leb b 90) h))

alphanumeric-below : (b : ℕ) → T (is_capital b || is_digit b) → b < 256
alphanumeric-below b h = go (is_capital b) (letter-below b) h
  where
    go : (x : Bool) → (T x → b < 256) → T (x || is_digit b) → b < 256
    go true f t = f tt
    go false f t = omega (arith, leb→le b 57 (T-right (leb 48 b) (leb b 57) t))

pub identifier-below : (w : List ℕ) → T (identifier w) → Below 256 w
identifier-below [] h = tt
identifier-below (b ∷ w) h =
    let q : ℕ → Bool = λ x. is_capital x || is_digit x in
    (letter-below b (T-left (is_capital b) (all q w) h), each_of q (λ x. x < 256) alphanumeric-below w (T-right (is_capital b) (all q w) h))

-- ---- the parts of a program

pub length-each-total : {X Y : Type 0} (f : X → List Y) (xs : List X) → length (each f xs) ≡ total (λ x. length (f x)) xs
length-each-total f [] = refl
length-each-total f (x ∷ xs) = simp length-append (omega (arith, length-each-total f xs))

module _ (p : Program) where
  text-ok : (t : List ℕ) → T (ltb 1 (length t) && good_text t) → TextOk t
  text-ok t h =
      let g = T-right (ltb 1 (length t)) (good_text t) h in
      let w = T-left (good_word t) (leb (length t) limit.item) g in
      record {
        long = ltb→lt 1 (length t) (T-left (ltb 1 (length t)) (good_text t) h);
        most = leb→le (length t) limit.item (T-right (good_word t) (leb (length t) limit.item) g);
        below = known-below t (T-right (filled t) (all known t) w);
      }

  entry-ok : (goes_by_name : Bool) (e : Entry) → T (good_entry p goes_by_name e) → EntryOk p e
  entry-ok goes_by_name e h =
      let a : Bool = ltb e.label (length p.labels) in
      let n : Bool = not (filled e.text) in
      let b : Bool = n || (goes_by_name && good_text e.text && kept_text p e.text) in
      record { label_below = ltb→lt e.label (length p.labels) (T-left a b h); text_kept = go n goes_by_name (good_text e.text) (kept_text p e.text) (T-right a b h) }
    where
      go : (n x y z : Bool) → T (n || (x && y && z)) → T (n || (y && z))
      go true x y z t = tt
      go false true y z t = t
      go false false y z t = absurd t

  entries_ok-of : (ws : List Switch) → T (all (good_switch p) ws) → Each (EntryOk p) (each (λ w. w.entries) ws)
  unfolding good_switch
  entries_ok-of [] h = tt
  entries_ok-of (w ∷ ws) h =
      let es = T-right (filled w.entries) (all (good_entry p w.goes_by_name) w.entries) (all_head (good_switch p) w ws h) in
      each_append (EntryOk p) w.entries (each (λ w. w.entries) ws) (each_of (good_entry p w.goes_by_name) (EntryOk p) (entry-ok w.goes_by_name) w.entries es)
      (entries_ok-of ws (all_tail (good_switch p) w ws h))

  number_ok : (z : ℤ) → T (ltb limit.small (nat_abs z) && in_range z) → nat_abs z ≤ limit.size
  number_ok z h = leb→le (nat_abs z) limit.size (T-right (ltb limit.small (nat_abs z)) (in_range z) h)

  pub program-ok : T (good_program p) → ProgramOk p
  unfolding good_program
  program-ok h =
      let f : ProgramFacts p = open-program p h in
      record {
        facts = f;
        entries_most = omega (arith, length-each-total (λ w. w.entries) p.switches, f.entries_few);
        code_ok = each_of (good_instr p) (InstrFacts p) (open-instr p) p.code f.instructions;
        labels_ok = each_of (good_label p) (LabelFacts p) (open-label p) p.labels f.labels;
        entries_ok = entries_ok-of p.switches f.switches;
        texts_ok = each_of (λ t. ltb 1 (length t) && good_text t) TextOk text-ok p.texts (part (program_tests p) h 10);
        numbers_ok = each_of (λ z. ltb limit.small (nat_abs z) && in_range z) (λ z. nat_abs z ≤ limit.size) number_ok p.numbers (part (program_tests p) h 11);
      }
