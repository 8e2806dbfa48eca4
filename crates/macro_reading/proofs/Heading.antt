-- A header's elements, one by one.
use mathlib.Core.Path.{◌≡◌, refl, ap, sym, ◌∙◌}
use mathlib.Core.Bool.{Bool, true, false, cond, not, ◌||◌, or_assoc, false≢true}
use mathlib.Core.List.{List, [], ◌∷◌, ◌++◌, map, append_assoc}
use Rattle.std.specs.Prelude.{Option, Some, None}
use Rattle.std.specs.Option.{option_or}
use Rattle.std.specs.Bool.{then_some}
use Prim.Native.Nat.{ℕ, ◌+◌, ◌-◌, ◌≤◌, ◌<◌}
use native.Mathlib.Nat.{le_refl}
use native.Mathlib.Omega.{arith}
use lib.Dec.{eqb}
use lib.ListN.{length, set, take}
use lib.Seq.{get_or-set_same}
use borrow.Author.Tests.{ne_eqb}
use Rattle.layout.specs.Cells.{tab}
use Rattle.lexer.specs.Tokens.{part}
use Rattle.lists.specs.Lists.{filled, keep}
use Rattle.statements.specs.Faults.{Fault}
use Rattle.std.specs.Prelude.{None}
use Rattle.statements.specs.Faults.{lower}
use Rattle.statements.specs.FaultLaws.{fault-both}
use Rattle.statements.specs.StatementAt.{fault_of}
use Rattle.macros.specs.Elements as spec
use Rattle.macros.specs.Elements.{is_word, is_bracket, is_identifier, places_in, until, from}
use Rattle.macros.specs.Macros.{header_faults}
use Rattle.macro_code.specs.Code.{paired, bytes_at}
use Rattle.macro_changes.specs.Changing.{Kept}
use Rattle.macro_changes.proofs.Cells.{first_of, second-of, tab-cong, tab-last, kept-none, kept_set, kept_on, kept-agree, bytes-agree}
use Rattle.macro_changes.proofs.Giving.{lower-assoc, keep-first, one-fault, first_forward, stretch-on, rest-on}
use Rattle.macro_changes.proofs.Searching.{until-on, from-off}
use Rattle.macro_elements.specs.ElementAt.{argument_value, FirstBefore}
use Rattle.macro_elements.specs.declared.Element.{Element}
use Rattle.macro_reading.specs.Headers.{placed, word_cell, heading, words_in, first_word, any_there, Headable, Heading}

-- where a stretch is empty, what follows it begins there
pub whole-from : (p : spec.Element → Bool) (ts : List spec.Element) → until p ts ≡ [] → from p ts ≡ ts
whole-from p [] e = refl
whole-from p (t ∷ ts) e = go (p t) refl
  where
    go : (b : Bool) → p t ≡ b → from p (t ∷ ts) ≡ t ∷ ts
    go true h = from-off p t ts h
    go false h = absurd (false≢true (ap filled (sym e ∙ until-on p t ts h)))

-- words and their cells
keep_word : (t : spec.Element) (ts : List spec.Element) (b : Bool) → is_word t ≡ b → keep is_word (t ∷ ts) ≡ cond b (t ∷ keep is_word ts) (keep is_word ts)
keep_word t ts b e = ap (λ (z : Bool). cond z (t ∷ keep is_word ts) (keep is_word ts)) e

cell_apart : (q j k : ℕ) → j < k → word_cell q j < word_cell q k
cell_apart q j k h = go (eqb j 0) refl
  where
    o : eqb k 0 ≡ false
    o = ne_eqb k 0 (λ e. omega arith)

    go : (z : Bool) → eqb j 0 ≡ z → cond z q (q + 2 + j) < word_cell q k
    go true e = rw o (omega arith)
    go false e = rw o (omega arith)

cell-most : (q k : ℕ) → word_cell q k ≤ q + 2 + k
cell-most q k = go (eqb k 0)
  where
    go : (z : Bool) → cond z q (q + 2 + k) ≤ q + 2 + k
    go true = omega arith
    go false = le_refl (q + 2 + k)

pub cell-least : (q k : ℕ) → q ≤ word_cell q k
cell-least q k = go (eqb k 0)
  where
    go : (z : Bool) → q ≤ cond z q (q + 2 + k)
    go true = le_refl q
    go false = omega arith

one-first : (ts : List spec.Element) → take 1 (places_in (take 1 ts)) ≡ places_in (take 1 ts)
one-first [] = refl
one-first (t ∷ ts) = refl

module _ {s m c : List ℕ} {n q : ℕ} (p : Headable s m c n q) where
  pub heading-none : Heading s c c n q n 0 None false None
  unfolding tab
  heading-none =
      record { from = omega arith; most = p.lent.most; kept = kept-none c q; words_are = refl; first_is = one-first (keep is_word (heading s n)); some_is = refl; faults = refl; rest = refl }

  module _ {d : List ℕ} {i k : ℕ} {first : Option ℕ} {some : Bool} {f : Fault} (g : Heading s c d n q i k first some f) {t : Element} (e : FirstBefore is_bracket s i t) where
    abbrev v : spec.Element
    v = argument_value s t

    abbrev w : ℕ
    w = word_cell q k

    abbrev long : ℕ
    long = t.end - t.at

    pub header-forward : i < t.next
    header-forward = first_forward e.first

    pub header-room : w < length d
    header-room = omega (arith, cell-most q k, header-forward, e.first.held.most, g.from, g.most, p.room, g.kept.size)

    pub header-long : long < 65536
    header-long = let y = e.first.held in omega (arith, y.ends, y.small)

    abbrev written : List ℕ
    written = set d w (paired t.at long)

    written-kept : Kept d written w
    written-kept = kept_set d w (paired t.at long) w (le_refl w)

    bytes-there : bytes_at s written w ≡ part s t.at t.end
    unfolding bytes_at
    bytes-there = rw (get_or-set_same d w (paired t.at long) 0 header-room, first_of t.at long header-long, second-of t.at long header-long) refl

    same-words : tab k (λ j. bytes_at s written (word_cell q j)) ≡ tab k (λ j. bytes_at s d (word_cell q j))
    same-words = tab-cong k (λ j. bytes_at s written (word_cell q j)) (λ j. bytes_at s d (word_cell q j)) (λ j l. bytes-agree (kept-agree written-kept) s (word_cell q j) (omega arith) (cell_apart q j k l))

    on : heading s i ≡ v ∷ heading s t.next
    on = stretch-on e

    abbrev words_now : List (List ℕ)
    words_now = tab k (λ j. bytes_at s d (word_cell q j))

    more-words : (b : Bool) → is_word v ≡ b → tab (k + cond b 1 0) (λ j. bytes_at s written (word_cell q j)) ++ words_in (heading s t.next) ≡ words_now ++ words_in (v ∷ heading s t.next)
    more-words true y =
        ap (λ (ws : List (List ℕ)). ws ++ words_in (heading s t.next)) (tab-last k (λ j. bytes_at s written (word_cell q j)) ∙ (λ z. same-words z ++ (bytes-there z ∷ [])))
        ∙ append_assoc words_now (part s t.at t.end ∷ []) (words_in (heading s t.next))
        ∙ ap (λ (ts : List spec.Element). words_now ++ map (λ u. u.typed) ts) (sym (keep_word v (heading s t.next) true y))
    more-words false y =
        let o : k + 0 ≡ k = omega arith in
        ap (λ (j : ℕ). tab j (λ j. bytes_at s written (word_cell q j)) ++ words_in (heading s t.next)) o
        ∙ ap (λ (ws : List (List ℕ)). ws ++ words_in (heading s t.next)) same-words
        ∙ ap (λ (ts : List spec.Element). words_now ++ map (λ u. u.typed) ts) (sym (keep_word v (heading s t.next) false y))

    first-now : (b : Bool) → is_word v ≡ b → (o : Option ℕ)
        → take 1 (placed (option_or o (cond b (Some t.at) None)) ++ first_word (heading s t.next)) ≡ take 1 (placed o ++ first_word (v ∷ heading s t.next))
    first-now b y (Some p) = refl
    first-now true y None = ap (λ (ts : List spec.Element). take 1 (places_in (take 1 ts))) (sym (keep_word v (heading s t.next) true y))
    first-now false y None = ap (λ (ts : List spec.Element). take 1 (places_in (take 1 ts))) (sym (keep_word v (heading s t.next) false y))

    pub heading-on : (b : Bool) → b ≡ is_word v → {j : ℕ} → j ≡ k + cond b 1 0 → {a : Option ℕ} → a ≡ option_or first (cond b (Some t.at) None) → {i₁ : Bool} → i₁ ≡ is_identifier v → {l : Bool} → l ≡ eqb t.byte 10
        → Heading s c written n q t.next j a (some || not l) (lower f (then_some (not (i₁ || l)) t.at))
    heading-on b y {j} jj {a} aa {i₁} ii {l} ll =
        let ts = heading s t.next in
        record {
          from = rw jj (step b);
          most = e.first.held.most;
          kept = kept_on g.kept written-kept (cell-least q k);
          words_are = rw jj (more-words b (sym y)) ∙ ap (λ (us : List spec.Element). words_now ++ words_in us) (sym on) ∙ g.words_are;
          first_is = rw aa (first-now b (sym y) first) ∙ ap (λ (us : List spec.Element). take 1 (placed first ++ first_word us)) (sym on) ∙ g.first_is;
          some_is = or_assoc some (not l) (any_there ts) ∙ ap (λ (z : Bool). some || (not z || any_there ts)) ll ∙ ap (λ (us : List spec.Element). some || any_there us) (sym on) ∙ g.some_is;
          faults =
              ap (λ (y : Fault). lower (lower f y) (fault_of (header_faults ts))) (one-fault (not (i₁ || l)) t.at)
              ∙ lower-assoc f (fault_of (cond (not (i₁ || l)) (t.at ∷ []) [])) (fault_of (header_faults ts))
              ∙ ap (lower f)
              (sym (fault-both (cond (not (i₁ || l)) (t.at ∷ []) []) (header_faults ts))
              ∙ (λ z. fault_of (cond (not (ii z || ll z)) (t.at ∷ []) [] ++ header_faults ts))
              ∙ ap fault_of (sym (keep-first (λ u. not (is_identifier u || eqb u.byte 10)) v ts))
              ∙ ap (λ (us : List spec.Element). fault_of (header_faults us)) (sym on))
              ∙ g.faults;
          rest = sym (rest-on e) ∙ g.rest;
        }
      where
        step : (b : Bool) → n + (k + cond b 1 0) ≤ t.next
        step true = omega (arith, g.from, header-forward)
        step false = omega (arith, g.from, header-forward)
