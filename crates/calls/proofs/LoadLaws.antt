-- Every answer of load is a listed number and a line; both are read back from the 64 bits.
use Rattle.std.specs.Prelude.{◌≡◌, ◌↔◌, ◌≢◌, Bool, cond, ◌&&◌, ℕ, suc, ◌/◌, ◌%◌, ◌≤◌, length}
use Rattle.std.proofs.Math.Path.{refl}
use Rattle.std.proofs.Common.{ap, sym, subst, arith, leb→le}
use Rattle.std.proofs.Math.Bool.{true, false}
use mathlib.Core.List.{List, [], ◌∷◌}
use Rattle.std.proofs.Math.Dec.{T, leb}
use Rattle.language.specs.Limits as limit
use Rattle.language.specs.Program.{Program}
use Rattle.lists.specs.Lists.{among}
use Rattle.lists.specs.ListLaws.{all_among}
use Rattle.macros.specs.Load.{loaded, load_in}
use Rattle.macros.proofs.LoadLaws.{prepared-lined, unfit_numbers, unfit-listed}
use Rattle.macros.specs.Prepared.{Prepared, prepared}
use Rattle.macros.specs.Prepared.Prepared.{unfit, ready}
use Rattle.macros.specs.Below.Ending.{last_place, last_questions}
use Rattle.macros.specs.Below.Items.{Item, statements_from}
use Rattle.macros.specs.Below.SyntaxLoad.{Loaded, load_from, unless_refused, program_of, Lined, text_loads}
use Rattle.macros.specs.Below.SyntaxLoad.Loaded.{refused, accepted}
use Rattle.macros.proofs.Below.SyntaxLoadLaws.{all_listed, refuse-listed}
use Rattle.macros.specs.Below.Questions.{questions}
use Rattle.macros.specs.Below.Tables.{Draft, blank, draft_after}
use Rattle.macros.specs.Below.SyntaxVerdict.{Question, Verdict, first_no}
use Rattle.macros.specs.Below.SyntaxVerdict.Verdict.{yes, refuse}
use Rattle.calls.specs.Calls.{load_number, load_line, load_answer}
use Rattle.calls.proofs.AnswerLaws.{packed-number, packed-value}

-- the numbers of a refused text: of the whole text, of its macros, of a statement, of the end
abbrev pub text_refusals : List ℕ
text_refusals = 14 ∷ 15 ∷ 16 ∷ 64 ∷ 65 ∷ 66 ∷ 0 ∷ 10 ∷ 8 ∷ 6 ∷ 70 ∷ 1 ∷ 2 ∷ 11 ∷ 25 ∷ 12 ∷ 13 ∷ []

-- and of the call; 80, of acceptance, is none of them
abbrev pub load_refusals : List ℕ
load_refusals = 40 ∷ text_refusals

abbrev pub load_numbers : List ℕ
load_numbers = 80 ∷ load_refusals

-- a refusal has one of these numbers and a line of the text, at most 32,769
abbrev pub Listed : List ℕ → Loaded → Type 0
Listed ns (refused number line) = T (among number ns) × (line ≤ suc limit.text)
Listed ns (accepted p) = Unit {0}

abbrev pub LoadListed : Loaded → Type 0
LoadListed x = Listed load_refusals x

-- ---- numbers

module _ (ls : List ℕ) (lined : Lined ls) where
  first-listed : (r : Loaded) → Listed text_refusals r → (qs : List Question) → T (all_listed text_refusals qs) → Listed text_refusals (unless_refused ls (first_no qs) r)
  unfolding unless_refused
  first-listed r k qs h = go (first_no qs) refl
    where
      go : (v : Verdict) → first_no qs ≡ v → Listed text_refusals (unless_refused ls v r)
      go yes e = k
      go (refuse number at) e = (refuse-listed text_refusals qs h number at e, omega (arith, lined.most at))

  from-listed : (last : ℕ) (d : Draft) (xs : List (List Item)) → Listed text_refusals (load_from ls last d xs)
  unfolding load_from questions last_questions
  from-listed last d [] = first-listed (accepted (program_of ls d.tables)) tt (last_questions last d) tt
  from-listed last d (x ∷ xs) = first-listed (load_from ls last (draft_after d x) xs) (from-listed last (draft_after d x) xs) (questions d x) tt

  -- a text whose bytes have these lines
  pub text-listed : (s : List ℕ) → Listed text_refusals (text_loads s ls)
  text-listed s = from-listed (last_place s) blank (statements_from 0 s)

-- a text with macros or without
pub loaded-listed : (s : List ℕ) → length s ≤ limit.text → Listed text_refusals (loaded (prepared s))
unfolding loaded
loaded-listed s short = go (prepared s) refl
  where
    go : (x : Prepared) → prepared s ≡ x → Listed text_refusals (loaded x)
    go (unfit number line) e =
        let h = unfit-listed s number line e in
        (all_among (λ n. among n text_refusals) unfit_numbers tt number h.0, omega (arith, h.1))
    go (ready w ls) e = text-listed ls (prepared-lined s w ls short e) w

-- ---- load

more-listed : (x : Loaded) → Listed text_refusals x → LoadListed x
more-listed (refused n l) h = (all_among (λ n. among n load_refusals) text_refusals tt n h.0, h.1)
more-listed (accepted p) h = tt

number_in : (x : Loaded) → LoadListed x → T (among (load_number x) load_numbers)
number_in (refused n l) h = all_among (λ n. among n load_numbers) load_refusals tt n h.0
number_in (accepted p) h = tt

line-in : (x : Loaded) → LoadListed x → load_line x ≤ suc limit.text
line-in (refused n l) h = h.1
line-in (accepted p) h = omega arith

accepted-by : (x : Loaded) → LoadListed x → load_number x ≡ 80 → (p : Program) × (x ≡ accepted p)
accepted-by (refused n l) h e = absurd (subst (λ (n : ℕ). T (among n load_refusals)) e h.0)
accepted-by (accepted p) h e = (p, refl)

-- 40 is of the call alone
pub listed-not_40 : (x : Loaded) → Listed text_refusals x → (number line : ℕ) → x ≡ refused number line → number ≢ 40
listed-not_40 x h number line e q = subst (λ (n : ℕ). T (among n text_refusals)) q (subst (Listed text_refusals) e h).0

-- and 80 of an accepted text
pub listed-accepted : (x : Loaded) → Listed text_refusals x → load_number x ≡ 80 → (p : Program) × (x ≡ accepted p)
listed-accepted x h e = accepted-by x (more-listed x h) e

module _ (cells : ℕ) (s : List ℕ) where
  pub load-within : LoadListed (load_in cells s)
  unfolding load_in
  load-within = go (leb limit.table cells) (leb (length s) limit.text) refl
    where
      go : (a b : Bool) → leb (length s) limit.text ≡ b → LoadListed (cond (a && b) (loaded (prepared s)) (refused 40 0))
      go true true e = more-listed (loaded (prepared s)) (loaded-listed s (leb→le (length s) limit.text (subst T (sym e) tt)))
      go true false e = (tt, omega arith)
      go false b e = (tt, omega arith)

  pub load-listed : T (among (load_number (load_in cells s)) load_numbers)
  load-listed = number_in (load_in cells s) load-within

  -- the number is 80 just when the text is accepted
  pub load-accepts : (load_number (load_in cells s) ≡ 80) ↔ ((p : Program) × (load_in cells s ≡ accepted p))
  load-accepts = (accepted-by (load_in cells s) load-within, λ h. ap load_number h.1)

  pub line-within : load_line (load_in cells s) ≤ suc limit.text
  line-within = line-in (load_in cells s) load-within

  -- a caller reads number and line back
  pub number-back : load_answer (load_in cells s) / 4294967296 ≡ load_number (load_in cells s)
  number-back = packed-number _ (load_line (load_in cells s)) (omega (arith, line-within))

  pub line-back : load_answer (load_in cells s) % 4294967296 ≡ load_line (load_in cells s)
  line-back = packed-value (load_number (load_in cells s)) _ (omega (arith, line-within))
