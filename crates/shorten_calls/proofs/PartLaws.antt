-- The theorems on the part that a text brings.
use Rattle.std.specs.Prelude.{◌≡◌, ◌≢◌, Bool, ◌||◌, ℕ, ◌≤◌, ◌<◌, eqb, ltb, length}
use Rattle.std.proofs.Math.Path.{refl, ap}
use Rattle.std.proofs.Common.{sym, ◌∙◌, subst, arith, eq-eqb, ne_eqb, le-ltb}
use Rattle.std.proofs.Math.Bool.{true, false, cond}
use mathlib.Core.List.Sublistᴰ
use mathlib.Core.List.{List}
use Rattle.lists.specs.Lists.{joined}
use Rattle.calls.specs.Calls.{load_number}
use Rattle.macros.specs.Load.{load_in}
use Rattle.calls.specs.Filling.Filling.{kept, fills}
use Rattle.text_lines.specs.LineLaws.{joined-lines}
use Rattle.text_lines.specs.Lines.{lines}
use Rattle.shorten_calls.specs.Shortening.{number_of, rounds, part_lines, part, brings_40, shorten_of}
use Rattle.shorten_calls.specs.Parts.{InOrder, without}
use Rattle.shorten_calls.proofs.RoundLaws.{rounds-number, rounds-order, rounds-none}
use Rattle.shorten_calls.proofs.LineLaws.{lines-lined, some-lined, lines-back, lighter}

module _ (cells : ℕ) (s : List ℕ) where
  abbrev pub number : ℕ
  number = load_number (load_in cells s)

  pub number_is : number_of cells (lines s) ≡ number
  unfolding number_of
  number_is = ap (λ (t : List ℕ). load_number (load_in cells t)) (joined-lines s)

  abbrev dropped : List (List ℕ)
  dropped = rounds cells (length (lines s)) (number_of cells (lines s)) (lines s)

  -- the part of a text that loads, and of another
  part-80 : number ≡ 80 → part_lines cells s ≡ lines s
  unfolding part_lines
  part-80 h = go (eqb (number_of cells (lines s)) 80) (eq-eqb (number_of cells (lines s)) 80 (number_is ∙ h))
    where
      go : (b : Bool) → b ≡ true → elim b as (λ (b : Bool). List (List ℕ)) [ true ↦ lines s | false ↦ dropped ] ≡ lines s
      go true e = refl
      go false e = absurd (subst (λ (x : Bool). elim x as (λ (b : Bool). Type 0) [ true ↦ ⊥ | false ↦ Unit {0} ]) e tt)

  pub part-refused : number ≢ 80 → part_lines cells s ≡ dropped
  unfolding part_lines
  part-refused h = go (eqb (number_of cells (lines s)) 80) (ne_eqb (number_of cells (lines s)) 80 (λ z. h (sym number_is ∙ z)))
    where
      go : (b : Bool) → b ≡ false → elim b as (λ (b : Bool). List (List ℕ)) [ true ↦ lines s | false ↦ dropped ] ≡ dropped
      go false e = refl
      go true e = absurd (subst (λ (x : Bool). elim x as (λ (b : Bool). Type 0) [ true ↦ Unit {0} | false ↦ ⊥ ]) e tt)

  -- by the number: the lines themselves, or what the rounds leave
  by_number : (P : List (List ℕ) → Type 0) → P (lines s) → P dropped → P (part_lines cells s)
  unfolding part_lines
  by_number P a b = go (eqb (number_of cells (lines s)) 80)
    where
      go : (x : Bool) → P (elim x [ true ↦ lines s | false ↦ dropped ])
      go true = a
      go false = b

  -- "that load refuses with the same number"
  pub same_number : number_of cells (part_lines cells s) ≡ number_of cells (lines s)
  same_number =
      by_number (λ (ls : List (List ℕ)). number_of cells ls ≡ number_of cells (lines s)) refl
      (rounds-number cells (number_of cells (lines s)) (length (lines s)) (lines s) refl)

  pub part-number : load_number (load_in cells (part cells s)) ≡ number
  unfolding number_of
  part-number = same_number ∙ number_is

  -- "made of some of its lines, each with its LF, in order"
  pub in_order : InOrder (part_lines cells s) (lines s)
  in_order =
      by_number (λ (ls : List (List ℕ)). InOrder ls (lines s)) (Sublistᴰ.refl (lines s))
      (rounds-order cells (number_of cells (lines s)) (length (lines s)) (lines s))

  -- they are the lines of the part
  pub part-has : lines (part cells s) ≡ part_lines cells s
  part-has = lines-back (part_lines cells s) (some-lined (part_lines cells s) (lines s) in_order (lines-lined s))

  pub no_longer : length (part cells s) ≤ length s
  no_longer = subst (λ (t : List ℕ). length (part cells s) ≤ length t) (joined-lines s) (lighter in_order)

  -- "So no single remaining line can be dropped."
  pub least : number ≢ 80 → (i : ℕ) → i < length (part_lines cells s) → number_of cells (without i (part_lines cells s)) ≢ number_of cells (part_lines cells s)
  least h i k e =
      let z = part-refused h in
      rounds-none cells (number_of cells (lines s)) (length (lines s)) (lines s) (omega arith) i
      (subst (λ (ls : List (List ℕ)). i < length ls) z k)
      (ap (λ (ls : List (List ℕ)). number_of cells (without i ls)) (sym z) ∙ e ∙ same_number)

  -- "A text that loads is given back, with 80."
  pub loads-back : number ≡ 80 → part cells s ≡ s
  loads-back h = ap joined (part-80 h) ∙ joined-lines s

  module _ (room : ℕ) where
    given_by : (b : Bool) → brings_40 cells room s ≡ b → shorten_of cells room s ≡ cond b (kept 40) (fills number (part cells s))
    unfolding shorten_of
    given_by b e = ap (λ (x : Bool). cond x (kept 40) (fills number (part cells s))) e

    pub accepted-back : number ≡ 80 → length s ≤ room → shorten_of cells room s ≡ fills 80 s
    accepted-back h k = given_by false (short-false room (length s) k (eqb number 40) (ne_eqb number 40 (λ z. omega (arith, h, z)))) ∙ same (loads-back h)
      where
        short-false : (room n : ℕ) → n ≤ room → (b : Bool) → b ≡ false → (ltb room n || b) ≡ false
        short-false room n k b e = rw (le-ltb room n k, e) refl

        same : part cells s ≡ s → fills number (part cells s) ≡ fills 80 s
        same e = ap (λ (n : ℕ). fills n (part cells s)) h ∙ ap (fills 80) e
