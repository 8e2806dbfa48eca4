-- "A label or switch name spelled as an instruction, a declaration, SEKCJA, KONS or KONP of either edition is refused": no accepted text has one.
use Rattle.std.specs.Prelude.{◌≡◌, Bool, true, false, not, cond, ◌&&◌, List, [], ◌∷◌, ℕ, T, leb, length}
use Rattle.std.proofs.Common.{subst, arith}
use Rattle.layout.specs.Below.Limits as limit
use Rattle.layout.specs.Below.Program.{Program}
use Rattle.layout.specs.Bounds.{Each}
use Rattle.layout.specs.Below.Lists.{keep}
use Rattle.macros.specs.Load.{loaded, load_in}
use Rattle.macros.specs.Prepared.{Prepared, prepared}
use Rattle.macros.specs.Prepared.Prepared.{ready}
use Rattle.macros.specs.Below.Ending.{last_place}
use Rattle.macros.specs.Below.Items.{Item, statements_from}
use Rattle.macros.specs.Below.SyntaxLoad.{Loaded, load_from}
use Rattle.macros.specs.Below.SyntaxLoad.Loaded.{accepted}
use Rattle.macros.specs.Below.Questions.{questions}
use Rattle.macros.specs.Below.Statements.{reserved, labels_in}
use Rattle.macros.specs.Below.Tables.{Draft, blank, draft_after}
use Rattle.macros.specs.Below.SyntaxVerdict.{first_no}
use Rattle.acceptance.proofs.AcceptanceLaws.{passed_on}
use Rattle.acceptance.proofs.RowLaws.{map-none, keep-none, answered}

-- the labels of a statement, a switch's name among them, are no keywords
abbrev pub Free : List Item → Type 0
Free x = Each (λ l. T (not (reserved l.chars))) (labels_in x)

load-free : (ls : List ℕ) (last : ℕ) (d : Draft) (xs : List (List Item)) (p : Program) → load_from ls last d xs ≡ accepted p → Each Free xs
unfolding load_from questions
load-free ls last d [] p e = tt
load-free ls last d (x ∷ xs) p e =
    let r = passed_on ls (first_no (questions d x)) (load_from ls last (draft_after d x) xs) p e in
    let is-reserved : Item → Bool = λ l. reserved l.chars in (
      keep-none is-reserved (labels_in x) (map-none (λ l. l.at) (keep is-reserved (labels_in x)) (answered (questions d x) r.0).1.1.1.1.1.1.1.0),
      load-free ls last (draft_after d x) xs p r.1,
    )

-- w is the text itself, or what a text with macros is written out to
pub accepted-free : (cells : ℕ) (s : List ℕ) (p : Program) → load_in cells s ≡ accepted p → (w ls : List ℕ) → prepared s ≡ ready w ls → Each Free (statements_from 0 w)
unfolding load_in loaded
accepted-free cells s p e w ls f = go (leb limit.table cells && leb (length s) limit.text) e
  where
    go : (a : Bool) → cond a (loaded (prepared s)) (Loaded.refused 40 0) ≡ accepted p → Each Free (statements_from 0 w)
    go true e = load-free ls (last_place w) blank (statements_from 0 w) p (subst (λ (x : Prepared). loaded x ≡ accepted p) f e)
    go false e = absurd (let z : ◌≡◌ {A = ℕ} 0 1 = cc in omega arith)
