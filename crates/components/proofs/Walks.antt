-- Walks over the components of a string: what is left of it is whole components.
use mathlib.Core.Path.{◌≡◌, refl, sym, ap, ◌∙◌}
use mathlib.Core.Bool.{cond, not}
use mathlib.Core.List.{List, [], ◌++◌}
use Prim.Native.Nat.{ℕ, zero, suc, ◌+◌, ◌≤◌, ◌<◌}
use native.Mathlib.Omega.{arith}
use lib.Dec.{eqb}
use lib.ListN.{length, take, drop, length-append, take-append-drop}
use lib.Seq.{length-take-le, take-append_seam, drop-append_seam}
use borrow.Author.Tests.{ne_eqb}
use Rattle.cells.specs.Cells.{Number}
use Rattle.cells.specs.Below.LanguageValues.{Component, chars, kind}
use Rattle.cells.specs.Below.LanguageValues.Component.{word, address}
use Rattle.cells.specs.Below.LayoutBounds.{Each, Ok, Encoded, WholeComponents}
use Rattle.cells.proofs.Below.LayoutCellLaws.{each_left, each_right}
use Rattle.cells.specs.Below.LayoutCells.{cell}
use Rattle.cells.specs.Below.Components.{component_bytes, components_bytes, component_size, component_in, components_in}
use Rattle.cells.proofs.Below.ComponentLaws.{next-component, component-some, one_of, components-none, components_bytes-append, components_bytes-one}
use Rattle.components.specs.Parts.{first_size, Front}

-- the first component, where n is what the code was told of its size
pub front : {l : List ℕ} → WholeComponents l → 0 < length l → {n : ℕ} → Number (component_size (cell l 0)) 257 n → Front l (take n l) (drop n l)
front {l} w h {n} q =
    let k = next-component w h in
    rw q.is record {
      one = record { is = k.first; its_ok = k.first_ok };
      cells = sym (take-append-drop (component_size (cell l 0)) l);
      is = k.is;
      rest = k.rest;
    }

pub front-size : {l : List ℕ} → WholeComponents l → 0 < length l → {n : ℕ} → Number (component_size (cell l 0)) 257 n → n ≤ length l
front-size w h q = omega (arith, (next-component w h).fits, q.is)

pub none_left : {l : List ℕ} → l ≡ [] → components_in l ≡ []
none_left {l} e = components-none l (ap length e)

-- what the first cell of a component tells: how many characters it has, and whether it is a word
first-tells : (x : Component) (l : List ℕ) → l ≡ component_bytes x → Ok x → (cell l 0 ≡ length (chars x)) × (eqb (kind x) 0 ≡ not (eqb (cell l 0) 0))
unfolding component_bytes
first-tells (word w) l e k = (rw e refl, rw (e, ne_eqb (length w) 0 (λ q. omega arith)) refl)
first-tells (Component.number z) l e k = (rw e refl, rw e refl)
first-tells (address n) l e k = (rw e refl, rw e refl)

module _ {l x r : List ℕ} (f : Front l x r) where
  pub front_one : component_in x ≡ component_in l
  front_one = one_of f.one

  pub chars-there : cell x 0 ≡ length (chars (component_in l))
  chars-there = (first-tells (component_in l) x f.one.is f.one.its_ok).0

  pub word_there : eqb (kind (component_in l)) 0 ≡ not (eqb (cell x 0) 0)
  word_there = (first-tells (component_in l) x f.one.is f.one.its_ok).1

  pub bytes_there : length (component_bytes (component_in l)) ≡ length x
  bytes_there = sym (ap length f.one.is)

  pub cells-long : length l ≡ length x + length r
  cells-long = ap length f.cells ∙ length-append x r

  pub front_some : 0 < length x
  front_some = omega (arith, component-some (component_in l), bytes_there)

-- the cells of the first k components, which are n, and of the others
pub record Cut (l : List ℕ) (xs : List Component) (k n : ℕ) : Type 0 where
  pub front : Encoded (take n l) (take k xs)
  pub rest : Encoded (drop n l) (drop k xs)

pub cut : {l : List ℕ} {xs : List Component} → Encoded l xs → (k n : ℕ) → n ≡ length (components_bytes (take k xs)) → Cut l xs k n
cut {l} {xs} h k n e =
    let a : List ℕ = components_bytes (take k xs) in
    let b : List ℕ = components_bytes (drop k xs) in
    let both : take k xs ++ drop k xs ≡ xs = take-append-drop k xs in
    let ok : Each Ok (take k xs ++ drop k xs) = rw both h.all_ok in
    let whole : l ≡ a ++ b = h.is ∙ ap components_bytes (sym both) ∙ components_bytes-append (take k xs) (drop k xs) in
    record {
      front = record { is = rw (whole, e) (take-append_seam a b); all_ok = each_left Ok (take k xs) (drop k xs) ok };
      rest = record { is = rw (whole, e) (drop-append_seam a b); all_ok = each_right Ok (take k xs) (drop k xs) ok };
    }

-- ---- the first of whole components

module _ {l : List ℕ} (w : WholeComponents l) where
  pub first_is : first_size l ≡ length (components_bytes (take 1 (components_in l)))
  unfolding components_bytes
  first_is = go (length l) refl
    where
      go : (n : ℕ) → length l ≡ n → cond (eqb n 0) 0 (component_size (cell l 0)) ≡ length (components_bytes (take 1 (components_in l)))
      go zero e = rw (components-none l e)
      go (suc n) e =
          let m = next-component w (omega arith) in
          let x : Component = component_in l in
          let long : length (component_bytes x) ≡ component_size (cell l 0) = sym (ap length m.first) ∙ length-take-le (component_size (cell l 0)) l m.fits in
          rw (ne_eqb (suc n) 0 (λ q. omega (arith, q)), m.is, components_bytes-one x) (sym long)
