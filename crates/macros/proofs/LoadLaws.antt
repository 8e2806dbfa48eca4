-- A text with macros runs as its written_out text, with the given text's lines; one without loads as before.
use Rattle.std.specs.Prelude.{◌≡◌, Bool, true, false, cond, ◌&&◌, ◌||◌, List, [], ◌∷◌, ◌++◌, map, ℕ, zero, suc, ◌≤◌, ◌<◌, length, take, drop, T}
use Rattle.std.proofs.Math.Path.{refl, ap}
use Rattle.std.proofs.Common.{sym, ◌∙◌, arith}
use borrow.Author.Tests.{le-leb}
use Rattle.syntax.specs.Below.Limits as limit
use Rattle.syntax.specs.Below.Program.{Program}
use Rattle.syntax.specs.Below.Lists.{any, among, if_any, keep, head_or}
use Rattle.syntax.specs.Below.Quoted.{bytes}
use Rattle.syntax.specs.Ending.{last_place, last_questions}
use Rattle.syntax.specs.Items.{Item, is, Sort, same_sort, attach, named, parted, places, read, statements, statements_from, line_of, line_at, lines_of}
use Rattle.syntax.specs.Items.Mode.{outside}
use Rattle.syntax.specs.Items.Sort.{separator, word, colon, end, text, wrong}
use Rattle.syntax.proofs.LineLaws.{text-lined}
use Rattle.syntax.specs.Load.{Loaded, Lined, program_of, unless_refused, load_from, load_typed}
use Rattle.syntax.specs.Load.Loaded.{accepted}
use Rattle.syntax.proofs.LoadLaws.{refuse-listed}
use Rattle.syntax.proofs.SortLaws.{same-sort}
use Rattle.syntax.specs.Questions.{questions}
use Rattle.syntax.specs.Tables.{Draft, blank, draft_after}
use Rattle.syntax.specs.Verdict.{Verdict, first_no}
use Rattle.syntax.specs.Verdict.Verdict.{yes, refuse}
use Rattle.macros.proofs.AcceptedLaws.{written-plain}
use Rattle.macros.specs.Load.{loaded, load_in, Outcome, told, unless_no, outcome_from, outcome}
use Rattle.macros.specs.Load.Outcome.{accepts}
use Rattle.macros.specs.Marks.{byte_at, has_macros, whole_questions}
use Rattle.macros.specs.Prepared.{bytes_out, places_out, macro_questions, written_out, unless_unfit, prepared}
use Rattle.macros.specs.Prepared.Prepared.{unfit, ready}
use Rattle.macros.proofs.ShapeLaws.{not-ready, yes-none, places-rise, prepared-shape, written-by, plain-same}
use Rattle.macros.proofs.LineLaws.{line-least, line_low, line-high}
use Rattle.macros.proofs.OrderLaws.{Rising}

-- lines change nothing but lines
refusal-told : (ls : List ℕ) (v : Verdict) (r : Loaded) (o : Outcome) → r ≡ told ls o → unless_refused ls v r ≡ told ls (unless_no v o)
unfolding unless_refused unless_no told
refusal-told ls yes r o e = e
refusal-told ls (refuse number at) r o e = refl

pub outcome-told : (ls : List ℕ) (last : ℕ) (d : Draft) (xs : List (List Item)) → load_from ls last d xs ≡ told ls (outcome_from last d xs)
unfolding load_from outcome_from told
outcome-told ls last d [] = refusal-told ls (first_no (last_questions last d)) (accepted (program_of ls d.tables)) (accepts d.tables) refl
outcome-told ls last d (x ∷ xs) =
    refusal-told ls (first_no (questions d x)) (load_from ls last (draft_after d x) xs) (outcome_from last (draft_after d x) xs) (outcome-told ls last (draft_after d x) xs)

-- a long table and a short text
module _ (cells : ℕ) (s : List ℕ) (long : limit.table ≤ cells) (short : length s ≤ limit.text) where
  pub load-asked : load_in cells s ≡ loaded (prepared s)
  unfolding load_in
  load-asked = rw (le-leb limit.table cells long, le-leb (length s) limit.text short) refl

  -- a text without star and bracket loads as it stands
  pub plain-loads : has_macros s ≡ false → load_in cells s ≡ load_typed s
  unfolding loaded
  plain-loads h = load-asked ∙ ap loaded (plain-same s h)

-- "the written_out text is loaded as if typed": the same number and place of refusal, or the same tables; the lines are the given text's here, and the
-- written_out text's own there. "The steps run the written_out text"
pub record RunsWritten (cells : ℕ) (s w ls : List ℕ) : Type 0 where
  pub given : load_in cells s ≡ told ls (outcome w)
  pub typed : load_in cells w ≡ told (lines_of w) (outcome w)

pub runs-written : (cells : ℕ) (s w ls : List ℕ) → limit.table ≤ cells → length s ≤ limit.text → prepared s ≡ ready w ls → RunsWritten cells s w ls
unfolding loaded
runs-written cells s w ls long short e =
    record {
      given = load-asked cells s long short ∙ ap loaded e ∙ outcome-told ls (last_place w) blank (statements_from 0 w);
      typed = plain-loads cells w long (prepared-shape s w ls short e).short (written-plain s w ls e) ∙ outcome-told (lines_of w) (last_place w) blank (statements_from 0 w);
    }

-- the lines of a text made ready are lines of the given text
mapped-lined : (s : List ℕ) (lo : ℕ) (ns : List ℕ) → length s ≤ limit.text → Rising lo (length s) ns → (p : ℕ)
    → (0 < line_at (map (line_of s) ns) p) × (line_at (map (line_of s) ns) p ≤ limit.text)
mapped-lined s lo [] short h p = (omega arith, omega arith)
mapped-lined s lo (n ∷ ns) short h zero = (line-least s n, omega (arith, line_low s n, h.1, short))
mapped-lined s lo (n ∷ ns) short h (suc p) = mapped-lined s n ns short h.2 p

pub prepared-lined : (s w ls : List ℕ) → length s ≤ limit.text → prepared s ≡ ready w ls → Lined ls
prepared-lined s w ls short e = go (has_macros s) refl
  where
    go : (b : Bool) → has_macros s ≡ b → Lined ls
    go true h =
        let k = mapped-lined s 0 (places_out s) short (places-rise s) in
        let q = (written-by s w ls h e).1 in
        rw q (record { least = λ p. (k p).0; most = λ p. (k p).1 })
    go false h = let q : lines_of s ≡ ls = same_lines (sym (plain-same s h) ∙ e) in rw (sym q) (text-lined s short)
      where
        same_lines : {v : List ℕ} → ready v (lines_of s) ≡ ready w ls → lines_of s ≡ ls
        same_lines f = cc

-- a text that is not made ready is refused with the number of one of its questions, and with a line of it
abbrev pub unfit_numbers : List ℕ
unfit_numbers = 14 ∷ 15 ∷ 16 ∷ 64 ∷ 65 ∷ 66 ∷ []

pub unfit-listed : (s : List ℕ) (number line : ℕ) → prepared s ≡ unfit number line → T (among number unfit_numbers) × (line ≤ suc (length s))
unfolding prepared unless_unfit written_out whole_questions macro_questions
unfit-listed s number line e = go (has_macros s) e
  where
    judged : (v : Verdict) → first_no (whole_questions s ++ macro_questions s) ≡ v → unless_unfit s v (written_out s) ≡ unfit number line
        → T (among number unfit_numbers) × (line ≤ suc (length s))
    judged yes f k = absurd (not-ready number line (bytes_out s) (map (line_of s) (places_out s)) (sym k))
    judged (refuse n at) f k =
        let a : n ≡ number = cc in
        let b : line_of s at ≡ line = cc in
        rw (sym a, sym b) (refuse-listed unfit_numbers (whole_questions s ++ macro_questions s) tt n at f, line-high s at)

    go : (b : Bool) → cond b (unless_unfit s (first_no (whole_questions s ++ macro_questions s)) (written_out s)) (ready s (lines_of s)) ≡ unfit number line
        → T (among number unfit_numbers) × (line ≤ suc (length s))
    go true k = judged (first_no (whole_questions s ++ macro_questions s)) refl k
    go false k = absurd (not-ready number line s (lines_of s) (sym k))

-- A text that loads as it stands has no star and no bracket outside texts and comments: every statement is asked 14

none_kept : (js : List Item) → places (keep (is wrong) js) ≡ [] → any (is wrong) js ≡ false
none_kept [] h = refl
none_kept (i ∷ js) h = go (is wrong i) h (none_kept js)
  where
    go : (b : Bool) → places (cond b (i ∷ keep (is wrong) js) (keep (is wrong) js)) ≡ [] → (places (keep (is wrong) js) ≡ [] → any (is wrong) js ≡ false)
        → b || any (is wrong) js ≡ false
    go true e f = absurd (let z : ◌≡◌ {A = ℕ} 0 1 = cc in omega arith)
    go false e f = f e

abbrev wrong_in : List (List Item) → Bool
wrong_in xs = any (any (is wrong)) xs

-- a verdict before an acceptance is a yes
pub passed-verdict : (ls : List ℕ) (v : Verdict) (r : Loaded) (p : Program) → unless_refused ls v r ≡ accepted p → (v ≡ yes) × (r ≡ accepted p)
unfolding unless_refused
passed-verdict ls yes r p h = (refl, h)
passed-verdict ls (refuse number at) r p h = absurd (let z : ◌≡◌ {A = ℕ} 0 1 = cc in omega arith)

none-wrong : (ls : List ℕ) (last : ℕ) (d : Draft) (xs : List (List Item)) (p : Program) → load_from ls last d xs ≡ accepted p → wrong_in xs ≡ false
unfolding load_from questions first_no
none-wrong ls last d [] p e = refl
none-wrong ls last d (x ∷ xs) p e =
    let r = passed-verdict ls (first_no (questions d x)) (load_from ls last (draft_after d x) xs) p e in
    rw (none_kept x (yes-none 14 (places (keep (is wrong) x)) _ r.0), none-wrong ls last (draft_after d x) xs p r.1)

-- of all items together
ends-right : (i : Item) → is end i ≡ true → is wrong i ≡ false
ends-right i h = rw (same-sort end i.sort h) refl

parted-wrong : (i : Item) (x : List Item) (xs : List (List Item)) → wrong_in (parted i (x ∷ xs)) ≡ is wrong i || wrong_in (x ∷ xs)
unfolding parted
parted-wrong i x xs = go (is end i) refl
  where
    go : (b : Bool) → is end i ≡ b → wrong_in (cond b ([] ∷ (x ∷ xs)) ((i ∷ x) ∷ xs)) ≡ is wrong i || wrong_in (x ∷ xs)
    go true e = rw (ends-right i e) refl
    go false e = either (is wrong i)
      where
        either : (b : Bool) → (b || any (is wrong) x) || wrong_in xs ≡ b || (any (is wrong) x || wrong_in xs)
        either true = refl
        either false = refl

headed-parted : (i : Item) (xs : List (List Item)) → (y : List Item) × (ys : List (List Item)) × (parted i xs ≡ y ∷ ys)
unfolding parted
headed-parted i xs = go (is end i)
  where
    go : (b : Bool) → (y : List Item) × (ys : List (List Item)) × (cond b ([] ∷ xs) ((i ∷ head_or [] xs) ∷ drop 1 xs) ≡ y ∷ ys)
    go true = ([], xs, refl)
    go false = (i ∷ head_or [] xs, drop 1 xs, refl)

-- there is always a first statement
first-there : (js : List Item) → (y : List Item) × (ys : List (List Item)) × (statements js ≡ y ∷ ys)
unfolding statements
first-there [] = ([], [], refl)
first-there (i ∷ js) = headed-parted i (statements js)

statements-wrong : (js : List Item) → wrong_in (statements js) ≡ any (is wrong) js
unfolding statements
statements-wrong [] = refl
statements-wrong (i ∷ js) =
    let f = first-there js in
    ap (λ xs. wrong_in (parted i xs)) f.2 ∙ parted-wrong i f.0 f.1 ∙ ap (λ xs. is wrong i || wrong_in xs) (sym f.2) ∙ ap (λ (b : Bool). is wrong i || b) (statements-wrong js)

colon-right : (js : List Item) → if_any false (is colon) js ≡ true → any (is wrong) (drop 1 js) ≡ any (is wrong) js
colon-right [] h = refl
colon-right (i ∷ js) h = rw (same-sort colon i.sort h) refl

attach-wrong : (i : Item) (js : List Item) → any (is wrong) (attach i js) ≡ is wrong i || any (is wrong) js
unfolding attach
attach-wrong i js = go i.sort refl (if_any false (is colon) js) refl
  where
    go : (k : Sort) → i.sort ≡ k → (b : Bool) → if_any false (is colon) js ≡ b
        → any (is wrong) (cond (same_sort word k && b) (record { at = i.at; sort = word; chars = i.chars; good = i.good; colon = places (take 1 js) } ∷ drop 1 js) (i ∷ js))
        ≡ same_sort wrong k || any (is wrong) js
    go word e true f = colon-right js f
    go word e false f = rw e refl
    go separator e b f = rw e refl
    go colon e b f = rw e refl
    go end e b f = rw e refl
    go text e b f = rw e refl
    go wrong e b f = rw e refl

named-wrong : (js : List Item) → any (is wrong) (named js) ≡ any (is wrong) js
unfolding named
named-wrong [] = refl
named-wrong (i ∷ js) = attach-wrong i (named js) ∙ ap (λ (b : Bool). is wrong i || b) (named-wrong js)

any-less : {X : Type 0} (p q : X → Bool) (xs : List X) → any p xs ≡ false → any (λ x. p x && q x) xs ≡ false
any-less p q [] h = refl
any-less p q (x ∷ xs) h = go (p x) (q x) h (any-less p q xs)
  where
    go : (a b : Bool) → a || any p xs ≡ false → (any p xs ≡ false → any (λ y. p y && q y) xs ≡ false) → (a && b) || any (λ y. p y && q y) xs ≡ false
    go true b e f = absurd (let z : ◌≡◌ {A = ℕ} 0 1 = cc in omega arith)
    go false b e f = f e

pub accepted-plain : (s ls : List ℕ) (last : ℕ) (p : Program) → load_from ls last blank (statements_from 0 s) ≡ accepted p → has_macros s ≡ false
unfolding has_macros
accepted-plain s ls last p e =
    any-less (is wrong) (λ i. among (byte_at s i.at) (bytes "*()")) (read outside 0 s)
    (sym (named-wrong (read outside 0 s)) ∙ sym (statements-wrong (named (read outside 0 s))) ∙ none-wrong ls last blank (statements_from 0 s) p e)
