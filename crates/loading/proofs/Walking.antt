-- From statement to statement: what was read, and what the rest of the text still loads to.
use mathlib.Core.Path.{◌≡◌, refl, sym, ap, ◌∙◌, subst}
use mathlib.Core.Bool.{Bool, true, false, cond, not}
use Rattle.std.specs.Bool.{then_some}
use Rattle.std.proofs.lemmas.Option.{none-some}
use mathlib.Core.List.{List, []}
use Prim.Native.Nat.{ℕ, ◌+◌, ◌-◌, ◌≤◌, ◌<◌}
use native.Mathlib.Omega.{arith}
use lib.ListN.{length, drop}
use Rattle.language.specs.Limits as limit
use Rattle.finishing.specs.Below.Progress.{Begun}
use Rattle.finishing.specs.Below.ProgressLaws.{before-after}
use Rattle.finishing.specs.Below.ProgressTypeProgress.{Progress}
use Rattle.reading_statements.specs.ReadingStatements.{Read, read_verdict, Standing, ReadsStatement}
use Rattle.statements.specs.declared.Refusal.{Refusal}
use Rattle.std.specs.Prelude.{Ok, Err, Option, None, Some}
use Rattle.statements.specs.StatementAt.{statements_at, statement_at}
use Rattle.syntax.specs.Ending.{last_place}
use Rattle.syntax.specs.Items.{Item}
use Rattle.syntax.specs.Load.{unless_refused, load_from, text_loads}
use Rattle.syntax.specs.Tables.{Draft, blank, draft_after}
use Rattle.loading.specs.Texts.{Unread, ReadTo, ReadsText}

not-read : (r : Refusal) (g : Progress) → ◌≡◌ {A = Read} (Err r) (Ok g) → ⊥
not-read r g e = let z : ◌≡◌ {A = ℕ} 0 1 = cc in omega arith

-- ---- the loop

-- the statements before n were read, and the text loads to what is left of it
pub record Going (s lines c₀ : List ℕ) (n : ℕ) (g : Progress) (ms c sw en : List ℕ) : Type 0 where
  pub draft : Draft
  pub standing : Standing s lines n draft g ms c sw en
  pub left : text_loads s lines ≡ load_from lines (last_place s) draft (statements_at s n)
  pub beyond : drop limit.table c ≡ drop limit.table c₀

pub going-none : {s lines ms c sw en : List ℕ} {g : Progress} → Unread s lines c sw en → Begun g → Going s lines c 0 g ms c sw en
going-none {s} {lines} {ms} {c} {sw} {en} h b =
    record {
      draft = blank;
      standing = record {
        short = h.short;
        inside = omega arith;
        lined = h.lined;
        drafted = b s lines ms c sw en h.tabled;
        before = record { names_few = omega arith; waiting_low = tt };
      };
      left = refl;
      beyond = refl;
    }

-- whether another statement begins, and where
last-by : (b : Bool) (m : ℕ) → None ≡ then_some (not b) m → b ≡ true
last-by true m e = refl
last-by false m e = absurd (none-some m e)

next-by : (b : Bool) (m : ℕ) {j : ℕ} → Some j ≡ then_some (not b) m → (b ≡ false) × (j ≡ m)
next-by true m e = absurd (none-some _ (sym e))
next-by false m e = (refl, cc)

-- the same where another statement begins, if one does; else all were read
abbrev pub Walks : List ℕ → List ℕ → List ℕ → Option ℕ → Progress → List ℕ → List ℕ → List ℕ → List ℕ → Type 0
Walks s lines c₀ None g ms c sw en = ReadsText s lines c₀ (Ok g) ms c sw en
Walks s lines c₀ (Some n) g ms c sw en = Going s lines c₀ n g ms c sw en

-- how much is left to read
abbrev pub left_of : ℕ → Option ℕ → ℕ
left_of size None = 0
left_of size (Some n) = 1 + (size - n)

module _ {s lines c₀ : List ℕ} {next : Option ℕ} {g : Progress} {ms c sw en : List ℕ} (u : Walks s lines c₀ next g ms c sw en) where
  pub going-at : {n : ℕ} → next ≡ Some n → Going s lines c₀ n g ms c sw en
  going-at e = subst (λ (x : Option ℕ). Walks s lines c₀ x g ms c sw en) e u

-- the statement at n is read
module _ {s lines c₀ : List ℕ} {n : ℕ} {g : Progress} {ms c sw en : List ℕ} (u : Going s lines c₀ n g ms c sw en) where
  module _ {r : Read} {next : Option ℕ} {ms' c' sw' en' : List ℕ} (k : ReadsStatement s lines n g ms c sw en r next ms' c' sw' en') where
    abbrev here : List Item
    here = statement_at s n

    abbrev rest_of : List (List Item)
    rest_of = cond k.ends.last [] (statements_at s k.ends.next)

    -- what the text loads to, by the verdict of this statement
    by-verdict : text_loads s lines ≡ unless_refused lines (read_verdict r) (load_from lines (last_place s) (draft_after u.draft here) rest_of)
    unfolding load_from
    by-verdict =
        u.left
        ∙ ap (load_from lines (last_place s) u.draft) k.ends.ended.is
        ∙ ap (λ v. unless_refused lines v (load_from lines (last_place s) (draft_after u.draft here) rest_of)) (sym (k.told u.draft u.standing))

    pub going-refused : (f : Refusal) → r ≡ Err f → ReadsText s lines c₀ (Err f) ms' c' sw' en'
    unfolding unless_refused
    going-refused f is =
        record {
          refused = λ g z. let e : r ≡ Err g = is ∙ z in by-verdict ∙ ap (λ x. unless_refused lines (read_verdict x) (load_from lines (last_place s) (draft_after u.draft here) rest_of)) e;
          read = λ q e. absurd (not-read f q e);
          beyond = k.beyond ∙ u.beyond;
        }

    next-beyond : {j : ℕ} → Some j ≡ next → (n < j) × (j ≤ length s)
    next-beyond t = let i = next-by k.ends.last k.ends.next (t ∙ k.ends.is) in (rw i.1 (k.ends.ended.more i.0), rw i.1 k.ends.ended.most)

    module _ (q : Progress) (e : r ≡ Ok q) where
      after_it : text_loads s lines ≡ load_from lines (last_place s) (draft_after u.draft here) rest_of
      unfolding unless_refused
      after_it = by-verdict ∙ ap (λ x. unless_refused lines (read_verdict x) (load_from lines (last_place s) (draft_after u.draft here) rest_of)) e

      going-last : None ≡ next → ReadsText s lines c₀ (Ok q) ms' c' sw' en'
      going-last t =
          record {
            refused = λ f z. absurd (not-read f q (sym z));
            read = λ q' z. subst (λ x. ReadTo s lines x ms' c' sw' en') (same z)
                (record {
                  draft = draft_after u.draft here;
                  drafted = k.after u.draft u.standing q e;
                  left = after_it ∙ ap (λ (b : Bool). load_from lines (last_place s) (draft_after u.draft here) (cond b [] (statements_at s k.ends.next))) (last-by k.ends.last k.ends.next (t ∙ k.ends.is));
                });
            beyond = k.beyond ∙ u.beyond;
          }
        where
          same : {a b : Progress} → ◌≡◌ {A = Read} (Ok a) (Ok b) → a ≡ b
          same e = cc

      going_next : {j : ℕ} → Some j ≡ next → Going s lines c₀ j q ms' c' sw' en'
      going_next {j} t =
          let i = next-by k.ends.last k.ends.next (t ∙ k.ends.is) in
          record {
            draft = draft_after u.draft here;
            standing = record {
              short = u.standing.short;
              inside = rw i.1 k.ends.ended.most;
              lined = u.standing.lined;
              drafted = k.after u.draft u.standing q e;
              before = before-after here u.standing.before (rw i.1 k.ends.ended.from) (rw i.1 k.ends.ended.count) (rw i.1 k.ends.ended.before);
            };
            left = after_it ∙ ap (λ (b : Bool). load_from lines (last_place s) (draft_after u.draft here) (cond b [] (statements_at s k.ends.next))) i.0 ∙ ap (λ (m : ℕ). load_from lines (last_place s) (draft_after u.draft here) (statements_at s m)) (sym i.1);
            beyond = k.beyond ∙ u.beyond;
          }

      pub walks-on : Walks s lines c₀ next q ms' c' sw' en'
      walks-on = go next refl
        where
          go : (x : Option ℕ) → x ≡ next → Walks s lines c₀ x q ms' c' sw' en'
          go None t = going-last t
          go (Some j) t = going_next t

    pub falls : {x : Option ℕ} → x ≡ Some n → left_of (length s) next < left_of (length s) x
    falls e = subst (λ (x : Option ℕ). left_of (length s) next < left_of (length s) x) (sym e) (go next refl)
      where
        go : (x : Option ℕ) → x ≡ next → left_of (length s) x < left_of (length s) (Some n)
        go None t = omega arith
        go (Some j) t = let e = next-beyond t in omega (arith, e.0, e.1)
