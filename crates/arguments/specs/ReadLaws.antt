-- One pass over the items after an instruction's operator: what is known of those before a place.
use Rattle.std.proofs.Math.Path.{◌≡◌, refl, ap}
use Rattle.std.proofs.Common.{sym, ◌∙◌, subst, add-one, eqb→eq, leb→le, length-append, eqb-true, le-ltb}
use Rattle.std.specs.Prelude.{Bool, ◌&&◌, ◌||◌, ℕ, zero, suc, ◌+◌, ◌-◌, ◌≤◌, ◌<◌, eqb, leb, ltb, drop}
use Rattle.std.proofs.Math.Bool.{true, false, cond, not}
use mathlib.Core.List.{List, [], ◌∷◌, ◌++◌, map, map-append, append_assoc, append-nil}
use Rattle.std.proofs.Math.Decide.{dec_lt}
use native.Mathlib.Omega.{arith}
use Rattle.std.proofs.Math.Dec.{T}
use Rattle.std.proofs.Math.ListN.{length, set}
use Rattle.std.proofs.lemmas.List.{length-map}
use Rattle.std.proofs.Math.Seq.{drop-append-add, drop-nil}
use Rattle.lists.specs.BoolLaws.{T-second}
use Rattle.statements.specs.Checks.{token_verdict}
use Rattle.forms.specs.declared.Live.{Live}
use Rattle.forms.specs.Forms.{listed, set_at, most_of, least_of}
use Rattle.forms.specs.Kinds.{item_kinds}
use Rattle.forms.specs.Reading.{Reads, lives_first, lives_second, lists_at, shared, taken, taken_at}
use Rattle.forms.specs.ReadingLaws.{argument-read, taken-reads, lists-first, set-listed, most-listed, least-listed}
use Rattle.forms.specs.KindLaws.{item-kind}
use Rattle.forms.specs.SetLaws.{by-operator, shared-some}
use Rattle.language.specs.Instructions.{operation}
use Rattle.language.specs.Program.{Op}
use Rattle.lexer.specs.declared.Token.{Token}
use Rattle.lexer.specs.Tokens.{item_of, Stands, NextToken}
use Rattle.lists.specs.Lists.{all, any}
use Rattle.lists.specs.ListLaws.{T-left, T-right, all_head, all_tail}
use Rattle.statements.specs.Faults.{Fault, Verdict, worse}
use Rattle.std.specs.Prelude.{Option, None, Some}
use Rattle.heads.specs.Heads.{following}
use Rattle.statements.specs.PlaceLaws.{statement-from}
use Rattle.statements.specs.Places.{InText}
use Rattle.statements.specs.StatementAt.{statement_at, stops, fault_of}
use Rattle.statements.specs.StatementLaws.{at-stop, at_item}
use Rattle.syntax.specs.ArgumentForms.{word_reads, reads, Argument, alternatives, arguments_in, arguments, read_by, most}
use Rattle.syntax.specs.Items.{Item, is, places}
use Rattle.syntax.specs.Items.Sort.{colon, text}
use Rattle.arguments.specs.declared.Arguments.{Arguments}
use Rattle.arguments.specs.declared.Value.{Value}
use Rattle.arguments.specs.Arguments.{read_from, argument_faults, instr_after, missing_or, Refusable, Refuses, ReadsArguments}
use Rattle.arguments.specs.ArgumentLaws.{items-read, turned, items-end, argument_listed, judged-so}
use Rattle.arguments.specs.CountLaws.{arguments-on}
use Rattle.arguments.specs.LeftLaws.{ReadsLeft, Passing, passing-first, passing-on, passed-worst, passed-end, worst-then, end-then}
use Rattle.arguments.specs.Valued.{no_values, nth, Stood, argument_of, FirstValue, Row, Ordered}

-- ---- an argument that is listed is not in excess

-- past the last argument that an operator takes, its lists have no form
abbrev none_at : ℕ → Op → Bool
none_at k o = all (eqb 45) (listed o 0 k) && all (eqb 45) (listed o 1 k)

abbrev none_past : ℕ → Op → Bool
none_past k o = ltb k (most o) || none_at k o

past : (k : ℕ) (o : Op) → T (none_past k o)
past zero o = by-operator (none_past 0) tt o
past (suc zero) o = by-operator (none_past 1) tt o
past (suc (suc zero)) o = by-operator (none_past 2) tt o
past (suc (suc (suc k))) o = T-second (ltb (suc (suc (suc k))) (most o)) (none_at (suc (suc (suc k))) o) (by-operator (none_at (suc (suc (suc k)))) tt o)

three-most : (o : Op) → most o ≤ 3
three-most o = leb→le (most o) 3 (by-operator (λ x. leb (most x) 3) tt o)

no-form : (i : Item) (fs : List ℕ) → T (all (eqb 45) fs) → any (reads i) fs ≡ false
unfolding reads word_reads
no-form i [] h = refl
no-form i (f ∷ fs) h =
    rw (← eqb→eq 45 f (all_head (eqb 45) f fs h), no-form i fs (all_tail (eqb 45) f fs h))
    (elim (is text i) as (λ b. (cond b false (word_reads i.chars 45) || false) ≡ false) [ true ↦ refl | false ↦ refl ])

module _ (o : Op) (live : Live) (place : ℕ) (i : Item) where
  none-shared : (lives : Bool) (n : ℕ) → T (all (eqb 45) (listed o n place)) → shared lives (item_kinds i) (set_at (operation o).number n place) ≡ 0
  unfolding shared item_kinds
  none-shared true n h =
      let k = item-kind i in
      rw (set-listed o n place) (eqb-true _ 0 (shared-some (reads i) k.0 k.1 o n place ∙ ap not (no-form i (listed o n place) h)))
  none-shared false n h = refl

  not-over : ((taken_at (operation o).number live place (item_kinds i)).form ≡ 45 → ⊥) → place < most o
  unfolding taken_at taken
  not-over f =
      elim (dec_lt place (most o)) as (λ d. place < most o) [
        | yes l ↦ l
        | no l ↦
            let none : T (none_at place o) = rw (le-ltb place (most o) (omega arith)) at (past place o) in
            absurd (f (rw (
              none-shared (lives_first live) 0 (T-left (all (eqb 45) (listed o 0 place)) (all (eqb 45) (listed o 1 place)) none),
              none-shared (lives_second live) 1 (T-right (all (eqb 45) (listed o 0 place)) (all (eqb 45) (listed o 1 place)) none),
            )))
      ]

-- ---- one value more

-- a row of three, by its values
three : (v : List Value) → length v ≡ 3 → v ≡ nth v 0 ∷ nth v 1 ∷ nth v 2 ∷ []
three [] l = absurd (omega arith)
three (x ∷ []) l = absurd (omega arith)
three (x ∷ y ∷ []) l = absurd (omega arith)
three (x ∷ y ∷ z ∷ []) l = refl
three (x ∷ y ∷ z ∷ t ∷ v) l = absurd (omega arith)

row_on : (s : List ℕ) (xs : List Argument) (v : List Value) (a : Argument) (x : Value) → Row s xs v → length xs < 3 → FirstValue s (a ∷ []) x → Row s (xs ++ (a ∷ [])) (set v (length xs) x)
row_on s [] v a x r l h = rw (three v r.size) (record { size = refl; first = h; second = r.second; third = r.third })
row_on s (b ∷ []) v a x r l h = rw (three v r.size) (record { size = refl; first = r.first; second = h; third = r.third })
row_on s (b ∷ c ∷ []) v a x r l h = rw (three v r.size) (record { size = refl; first = r.first; second = r.second; third = h })
row_on s (b ∷ c ∷ d ∷ xs) v a x r l h = absurd (omega arith)

-- of the arguments from n on, `place` stand before i, and these are their values
pub record Before (s : List ℕ) (n : ℕ) (o : Op) (i : ℕ) (live : Live) (place : ℕ) (v : List Value) : Type 0 where
  pub xs : List Argument
  pub count : length xs ≡ place
  pub read : arguments o (statement_at s n) ≡ xs ++ read_from o live place (statement_at s i)
  pub row : Row s xs v
  pub faults : fault_of (argument_faults o live place (statement_at s i)) ≡ fault_of (argument_faults o Live.Both 0 (statement_at s n))

-- place i is reached: the arguments before it are all listed and without a colon
pub record Gathering (s : List ℕ) (n number : ℕ) (begun : Verdict) (i : ℕ) (live : Live) (place : ℕ) (v : List Value) (w : Verdict) : Type 0 where
  pub passing : Passing s n begun i w
  pub few : place ≤ 3
  pub below : place ≤ most_of number
  pub plain : arguments_in (statement_at s i) ≡ statement_at s i → arguments_in (statement_at s n) ≡ statement_at s n
  pub orders : Ordered (statement_at s i) → Ordered (statement_at s n)
  pub before : (o : Op) → (operation o).number ≡ number → Before s n o i live place v

pub gathering-first : {s : List ℕ} {t : Token} {number : ℕ} {w : Verdict} → InText s t → {v : List Value} → v ≡ no_values → Gathering s t.next number w t.next Live.Both 0 v w
gathering-first {s} {t} {number} {w} g {v} e =
    record {
      passing = passing-first g.stands.most;
      few = omega arith;
      below = omega arith;
      plain = λ q. q;
      orders = λ q. q;
      before = λ o h. record {
        xs = [];
        count = refl;
        read = ap (λ alts. read_by alts (arguments_in (statement_at s t.next))) (lists-first o);
        row = rw e (record { size = refl; first = refl; second = refl; third = refl });
        faults = refl;
      };
    }

module _ {s : List ℕ} {n m i : ℕ} {begun : Verdict} {live : Live} {place : ℕ} {v : List Value} {low : Verdict} (l : Gathering s n m begun i live place v low) where
  module _ (o : Op) (h : (operation o).number ≡ m) where
    most-here : most_of m ≡ most o
    most-here = ap most_of (sym h) ∙ most-listed o

    abbrev own : List Item
    own = map (λ a. a.item) (l.before o h).xs

    abbrev left : List Item
    left = arguments_in (statement_at s i)

    own-count : length own ≡ place
    own-count = length-map (l.before o h).xs (λ a. a.item) ∙ (l.before o h).count

    inside : arguments_in (statement_at s n) ≡ own ++ left
    inside =
        sym (items-read (alternatives o) (arguments_in (statement_at s n))) ∙ ap (map (λ a. a.item)) (l.before o h).read
        ∙ map-append (λ a. a.item) (l.before o h).xs (read_from o live place (statement_at s i)) ∙ ap (◌++◌ own) (items-read (lists_at o live place) left)

    pub counted-on : length (arguments_in (statement_at s n)) ≡ place + length left
    counted-on = omega (arith, ap length inside, length-append own left, own-count)

    pub dropped-on : drop (most o) (arguments_in (statement_at s n)) ≡ drop (most_of m - place) left
    dropped-on =
        let q : most o ≡ length own + (most_of m - place) = omega (arith, most-here, l.below, own-count) in
        rw (inside, q) (drop-append-add own left (most_of m - place))

  module _ {t : Token} (k : NextToken s i t) (z : stops t.sort ≡ false) (c : is colon (item_of s t) ≡ false) {kinds : ℕ} {b : Reads} (e : b ≡ taken_at m live place kinds) (f : kinds ≡ item_kinds (item_of s t))
      (g : b.form ≡ 45 → ⊥) where
    by : (o : Op) → (operation o).number ≡ m → b ≡ taken_at (operation o).number live place (item_kinds (item_of s t))
    by o h = turned live place e f o h

    more : (o : Op) → (operation o).number ≡ m → place < most o
    more o h = not-over o live place (item_of s t) (λ d. g (ap (λ u. u.form) (by o h) ∙ d))

    pub placed : (o : Op) → (operation o).number ≡ m → place < 3
    placed o h = omega (arith, more o h, three-most o)

    -- its form is one that it reads as
    pub reads_so : (o : Op) → (operation o).number ≡ m → T (reads (item_of s t) b.form)
    reads_so o h = subst T (sym (taken-reads (item_of s t) o place live (sym (ap (λ x. x.form) (by o h))) g)) tt

    pub gathering-on : (o : Op) → (operation o).number ≡ m → t.colon ≡ None → {x : Value} → x.at ≡ t.at → Stood s (argument_of s t b.form) x.argument → {j : ℕ} → j ≡ place → {v' : List Value} → v' ≡ set v j x
        → {low' : Verdict} → low' ≡ worse low (token_verdict t) → Gathering s n m begun t.next b.live (place + 1) v' low'
    gathering-on o₁ h₁ y {x} at-is w {j} e₁ {v'} q u =
        record {
          passing = passing-on l.passing k z u;
          few = omega (arith, placed o₁ h₁);
          below = omega (arith, more o₁ h₁, most-here o₁ h₁);
          plain = λ d. l.plain (args ∙ ap (◌∷◌ (item_of s t)) d ∙ sym (at_item k z));
          orders = λ d. l.orders (rw (at_item k z) (statement-from s t.next t.at (omega (arith, k.stands.own, k.stands.behind)), d));
          before = next;
        }
      where
        args : arguments_in (statement_at s i) ≡ item_of s t ∷ arguments_in (statement_at s t.next)
        args = rw c at (arguments-on k z)

        next : (o : Op) → (operation o).number ≡ m → Before s n o t.next b.live (place + 1) v'
        next o h =
            let p = l.before o h in
            let a = argument_of s t b.form in
            let rest = statement_at s t.next in
            let one : read_from o live place (statement_at s i) ≡ a ∷ read_from o b.live (suc place) rest =
            ap (read_by (lists_at o live place)) args ∙ rw (argument-read (item_of s t) o place live (arguments_in rest), ← by o h) in
            record {
              xs = p.xs ++ (a ∷ []);
              count = length-append p.xs (a ∷ []) ∙ omega (arith, p.count);
              read = p.read ∙ rw (one, add-one place, append_assoc p.xs (a ∷ []));
              row = rw (q, e₁, ← p.count) (row_on s p.xs v a x p.row (omega (arith, p.count, placed o₁ h₁)) (at-is, w));
              faults = rw (add-one place, ← argument_listed o live place k z c b (by o h) g y) p.faults;
            }

-- ---- 02, by the count of arguments and what is at fault among them

judged-by : {s : List ℕ} {t : Token} {number : ℕ} → Stands s t → (o : Op) → (operation o).number ≡ number → {count : ℕ} → length (arguments_in (statement_at s t.next)) ≡ count
    → {f : Fault} → fault_of (argument_faults o Live.Both 0 (statement_at s t.next)) ≡ f → missing_or number t.at count f ≡ fault_of (instr_after s t o)
unfolding missing_or
judged-by g o h e q = rw (← e, ← h, least-listed o) (judged-so g o q)

pub refusing : {s : List ℕ} {at number place i p : ℕ} {w : Verdict} {before all count : ℕ} {over f : Fault} {low : Verdict} {next : Option ℕ} → before ≡ place → all ≡ most_of number
    → ReadsLeft s i (all - before) w over count low next → f ≡ missing_or number at (before + count) (Some p)
    → {v : List Value} → Refuses s at number place i p w (record { over = over; fault = f; values = v; worst = low; next = next })
refusing e q l fault_is =
    record {
      over_is = rw (← e, ← q) l.over_is;
      fault_is = rw (← e, ← l.count_is) fault_is;
      worst_is = l.worst_is;
      ends = l.ends;
    }

-- ---- the answers

module _ {s : List ℕ} {t : Token} {m : ℕ} {begun : Verdict} (g : InText s t) {i : ℕ} {live : Live} {place : ℕ} {v : List Value} {low : Verdict} (l : Gathering s t.next m begun i live place v low) where
  -- no item is left
  pub all_read : {u : Token} → NextToken s i u → stops u.sort ≡ true → {f : Fault} → f ≡ missing_or m t.at place None → {r : Option ℕ} → r ≡ following u
      → ReadsArguments s t m begun (record { over = None; fault = f; values = v; worst = low; next = r })
  unfolding read_by
  all_read {u} k z {f} e y =
      let none = at-stop k z in
      record {
        counted = λ o h. rw (dropped-on l o h, none, drop-nil {A = Item} (most_of m - place));
        judged = λ o h.
            e ∙ judged-by g.stands o h (counted-on l o h ∙ rw none (omega arith)) (sym (l.before o h).faults ∙ items-end o live place k z);
        values = λ q o h.
            let b = l.before o h in
            let done : arguments o (statement_at s t.next) ≡ b.xs = b.read ∙ rw none (append-nil b.xs) in
            record {
              few = omega (arith, ap length done, b.count, l.few);
              items = items-read (alternatives o) (arguments_in (statement_at s t.next)) ∙ l.plain (rw none);
              row = rw done b.row;
              ordered = l.orders (rw none tt);
            };
        worst_is = passed-worst l.passing k z;
        ends = passed-end l.passing k z y;
      }

  pub refusable : Refusable s m place i
  refusable = record { left = record { inside = l.passing.within.most; low = g.low }; below = l.below }

  -- place p is at fault
  pub refused : {p : ℕ} → ((o : Op) → (operation o).number ≡ m → fault_of (argument_faults o live place (statement_at s i)) ≡ Some p) → {r : Arguments} → Refuses s t.at m place i p low r
      → ReadsArguments s t m begun r
  unfolding missing_or
  refused {p} w {r} k =
      record {
        counted = λ o h. k.over_is ∙ ap (λ (js : List Item). fault_of (places js)) (sym (dropped-on l o h));
        judged = λ o h. k.fault_is ∙ judged-by g.stands o h (counted-on l o h) (sym (l.before o h).faults ∙ w o h);
        values = λ q. absurd (never (ltb (place + length (arguments_in (statement_at s i))) (least_of m)) (sym k.fault_is ∙ q));
        worst_is = worst-then l.passing k.worst_is;
        ends = end-then l.passing k.ends;
      }
    where
      never : (b : Bool) → cond b (Some t.at) (Some p) ≡ None → ⊥
      never true e = let y : ◌≡◌ {A = ℕ} 0 1 = cc in omega arith
      never false e = let y : ◌≡◌ {A = ℕ} 0 1 = cc in omega arith
