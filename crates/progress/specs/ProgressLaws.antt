-- A text of which nothing was read, and the places of a draft after one more statement.
use Rattle.std.specs.Option.{is_some, is_none}
use Rattle.std.proofs.lemmas.Bool.{false≢true}
use Rattle.std.specs.Prelude.{◌≡◌, refl, Bool, true, false, not, cond, Option, Some, List, [], ◌∷◌, ◌++◌, ℕ, ◌+◌, ◌≤◌, length, take}
use Rattle.std.proofs.Common.{sym, ap, ◌∙◌, arith, length-append, length-take}
use Rattle.std.proofs.lemmas.List.{length-map}
use Rattle.lists.specs.ListLaws.{keep-few}
use Rattle.acceptance.proofs.RowLaws.{each_map, each_keep}
use Rattle.acceptance.proofs.DraftLaws.{blank-sound}
use Rattle.acceptance.proofs.StatementLaws.{each-front}
use Rattle.layout.specs.Bounds.{Each}
use Rattle.layout.proofs.CellLaws.{each_append}
use Rattle.lists.specs.Lists.{filled}
use Rattle.std.specs.Prelude.{None}
use Rattle.syntax.specs.Items.{Item, is}
use Rattle.syntax.specs.Items.Sort.{word}
use Rattle.syntax.specs.Statements.{is_operator, front, labels_in, operator}
use Rattle.syntax.specs.Tables.{Draft, contents, draft_after}
use Rattle.words.specs.declared.Edition.{Edition}
use Rattle.headings.specs.Below.DraftsMarks.{word_by}
use Rattle.progress.specs.Progress.{NamesKept, Before, Begun}

-- whether there is no section yet
pub none-asked : (r : Bool) (section : Option ℕ) → is_some section ≡ not r → is_none section ≡ r
none-asked true None e = refl
none-asked true (Some m) e = absurd (false≢true (sym e))
none-asked false None e = absurd (false≢true e)
none-asked false (Some m) e = refl

-- ---- a text of which nothing was read

pub begun : Begun (record {
  section = None;
  edition = Edition.Polish;
  names = 0;
  waiting = 0;
  closing = record { kons = false; konp = false; early = None; fault = None };
  ended = None;
})
begun s lines ms c sw en tabled =
    record {
      sound = blank-sound (length s);
      tabled = tabled;
      tells = record {
        section = record { first_is = refl; there = tt; is = refl };
        edition = record { is = refl; unchosen = λ e. refl };
        names = record { count_is = refl; names_are = refl; marked = λ k h. absurd (omega (arith, h)); short = λ k h. absurd (omega (arith, h)) };
        waiting = record { few = omega arith; size = refl; marks = refl; spelt = tt };
        closing = record { kons_is = refl; konp_is = refl; early_is = refl; fault_is = refl };
        ended = refl;
      };
    }

-- ---- the labels of a draft

-- the marks of all of them have a place
pub labels-most : {s : List ℕ} {d : Draft} {count : ℕ} {ms : List ℕ} → NamesKept s d count ms → count ≤ length ms
labels-most {s} {count = count} {ms = ms} k =
    let e : length (take count ms) ≡ count = sym (length-map (take count ms) (word_by s)) ∙ ap length k.names_are ∙ k.count_is in
    omega (arith, length-take count ms, e)

-- ---- the places of a draft

front-few : (x : List Item) → length (front x) ≤ length x
unfolding front
front-few [] = omega arith
front-few (i ∷ x) = go (is_operator i) (front-few x)
  where
    go : (b : Bool) → length (front x) ≤ length x → length (cond b [] (i ∷ front x)) ≤ length (i ∷ x)
    go true h = omega arith
    go false h = omega (arith, h)

pub before-after : {n m : ℕ} {d : Draft} (x : List Item) → Before n d → n ≤ m → n + length x ≤ m → Each (λ i. i.at ≤ m) x → Before m (draft_after d x)
unfolding draft_after
before-after {n} {m} {d} x b h k low =
    let few : length (contents (labels_in x)) ≤ length x = simp length-map (omega (arith, keep-few (is word) (front x), front-few x)) in
    record {
      names_few = simp length-append (omega (arith, b.names_few, few, k));
      waiting_low = go (filled (operator x));
    }
  where
    waiting : Each (λ i. i.at ≤ m) (d.waiting ++ labels_in x)
    waiting =
        each_append (λ i. i.at ≤ m) d.waiting (labels_in x) (each_map (λ i. i.at ≤ n) (λ i. i.at ≤ m) (λ i e. omega (arith, e, h)) d.waiting b.waiting_low)
        (each_keep (λ i. i.at ≤ m) (is word) (front x) (each-front (λ i. i.at ≤ m) x low))

    go : (t : Bool) → Each (λ i. i.at ≤ m) (cond t [] (d.waiting ++ labels_in x))
    go true = tt
    go false = waiting
