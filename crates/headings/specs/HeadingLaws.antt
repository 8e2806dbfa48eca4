-- What follows SEKCJA, KONS or KONP, item by item, and what of it is at fault.
use Rattle.std.specs.Prelude.{◌≡◌, Bool, cond, not, ◌&&◌, ◌||◌, ℕ, ◌+◌, ◌-◌, T, eqb, take, drop}
use Rattle.std.proofs.Math.Path.{refl, sym, ap}
use Rattle.std.proofs.Common.{◌∙◌, subst, true≢false, arith}
use Rattle.std.proofs.Math.Bool.{true, false}
use mathlib.Core.List.{List, [], ◌∷◌, ◌++◌}
use borrow.Author.Tests.{eq-eqb, ne_eqb, not-true, not-false}
use Rattle.acceptance.proofs.ArgumentLaws.{word-apart}
use Rattle.heads.specs.Below.DraftsMarks.{place_by, length_by, word_by}
use Rattle.statements.specs.Checks.{worst, token_verdict}
use Rattle.statements.specs.CheckLaws.{worst-stop, worst-item, worse-clear, worse_assoc}
use Rattle.statements.specs.Faults.{lower}
use Rattle.statements.specs.FaultLaws.{fault-both}
use Rattle.heads.specs.Heads.{following, opens, head_keyword, Headed}
use Rattle.heads.specs.HeadLaws.{ended-by, ended-on, lower-clear, lower-assoc, told-alike, told-opens, behind-by, no-keyword}
use Rattle.heads.specs.declared.Head.{Head}
use Rattle.language.specs.Program.{identifier}
use Rattle.lexer.specs.Tokens.{item_of, colon_of, NextToken}
use Rattle.lexer.specs.declared.Token.{Token}
use Rattle.lists.specs.Lists.{filled, if_any, bytes_equal}
use Rattle.statements.proofs.Ends.{Within, begins-within, still-within, ends-here, ends-then}
use Rattle.statements.specs.StatementAt.{statement_at, stops, fault_of}
use Rattle.statements.specs.StatementLaws.{at-stop, at_item}
use Rattle.statements.specs.Faults.{Fault, Verdict, worse}
use Rattle.std.specs.Prelude.{Option, None, Some}
use Rattle.std.specs.Option.{option_to_list}
use Rattle.syntax.specs.Items.{Item, is, places}
use Rattle.syntax.specs.Items.Sort.{word, colon}
use Rattle.syntax.specs.Questions.{first_faults}
use Rattle.syntax.specs.Statements.{same_keyword, keyword_of, is_operator, front, behind, operator_at, keyword_in, rest, one_name}
use Rattle.syntax.specs.Statements as Spec
use Rattle.syntax.specs.Statements.Keyword.{SEKCJA, KONS, KONP}
use Rattle.syntax.specs.Verdict.{lowest}
use Rattle.words.specs.Keywords.{told}
use Rattle.statements.specs.Places.{InText}
use Rattle.headings.specs.Headings.{is_kons, is_konp, Tails, follows, no_items, from_first, Rests, fault_first, name_fault, right_first, name_by, after_faults, AfterTold}
use Rattle.headings.specs.declared.Rest.{Rest}

-- ---- places at fault

pub fault-one : (p : ℕ) → Some p ≡ fault_of (p ∷ [])
unfolding lowest
fault-one p = refl

fault-colon : (c : Fault) → c ≡ fault_of (option_to_list c)
fault-colon None = refl
fault-colon (Some p) = fault-one p

first_place : (p : ℕ) (ps : List ℕ) → fault_of (p ∷ ps) ≡ lower (Some p) (fault_of ps)
first_place p ps = fault-both (p ∷ []) ps ∙ ap (λ (f : Fault). lower f (fault_of ps)) (sym (fault-one p))

-- ---- from token to token

-- place i is behind the item f of its statement; more and v tell the items between
pub record Reading (s : List ℕ) (f : Token) (w : Verdict) (more : Fault) (v : Verdict) (i : ℕ) : Type 0 where
  pub within : Within s f.next i
  pub more_is : lower more (fault_of (places (statement_at s i))) ≡ fault_of (places (statement_at s f.next))
  pub worst_is : worse v (worst (statement_at s i)) ≡ worse w (worst (statement_at s f.next))

pub reads_first : {s : List ℕ} {f : Token} {w : Verdict} → InText s f → Reading s f w None w f.next
reads_first h = record { within = begins-within h.stands.most; more_is = refl; worst_is = refl }

module _ {s : List ℕ} {f : Token} {w : Verdict} {more : Fault} {v : Verdict} {i : ℕ} {t : Token} (r : Reading s f w more v i) (k : NextToken s i t) where
  pub reads_end : stops t.sort ≡ true → {e : Option ℕ} → e ≡ following t → Tails s f w (record { first = Some f; more = more; worst = v; next = e })
  reads_end z q =
      record {
        first_is = refl;
        more_is = sym (lower-clear more) ∙ ap (λ (js : List Item). lower more (fault_of (places js))) (sym (at-stop k z)) ∙ r.more_is;
        worst_is = sym (worse-clear v) ∙ ap (worse v) (sym (worst-stop k z)) ∙ r.worst_is;
        ends = ended-by t (ends-here r.within k z) q;
      }

  pub reads_on : stops t.sort ≡ false → {more' : Fault} {v' : Verdict} → more' ≡ lower more (Some t.at) → v' ≡ worse v (token_verdict t) → Reading s f w more' v' t.next
  reads_on z {more'} {v'} e q =
      let js = statement_at s t.next in
      record {
        within = still-within r.within k z;
        more_is = ap (λ (g : Fault). lower g (fault_of (places js))) e
            ∙ lower-assoc more (Some t.at) (fault_of (places js))
            ∙ ap (lower more) (sym (first_place t.at (places js)) ∙ ap (λ (xs : List Item). fault_of (places xs)) (sym (at_item k z)))
            ∙ r.more_is;
        worst_is = ap (λ u. worse u (worst js)) q ∙ worse_assoc v (token_verdict t) (worst js) ∙ ap (worse v) (sym (worst-item k z)) ∙ r.worst_is;
      }

-- ---- what follows an operator

module _ {s : List ℕ} {t : Token} {w : Verdict} (h : InText s t) where
  pub rests-alone : stops t.sort ≡ true → Rests s t w (no_items t w)
  unfolding worst
  rests-alone z =
      record {
        stands = tt;
        low = tt;
        items = rw z refl;
        more_is = refl;
        worst_is = rw z (sym (worse-clear w));
        ends = λ n i w k. ended-by t (ends-here w k z) refl;
      }

  module _ (o : stops t.sort ≡ false) {f : Token} (k : NextToken s t.next f) where
    pub rests-empty : stops f.sort ≡ true → Rests s t w (no_items f w)
    rests-empty z =
        record {
          stands = tt;
          low = tt;
          items = rw o (sym (at-stop k z));
          more_is = refl;
          worst_is = rw o (sym (worse-clear w) ∙ ap (worse w) (sym (worst-stop k z)));
          ends = λ n i w u. ended-by f (ends-then (still-within w u o) (ends-here (begins-within h.stands.most) k z)) refl;
        }

    pub rests-some : stops f.sort ≡ false → {v : Verdict} → v ≡ worse w (token_verdict f) → {r : Rest} → Tails s f v r → Rests s t w r
    rests-some z {v} e {r} u =
        let js = statement_at s f.next in
        let a : r.worst ≡ worse w (worse (token_verdict f) (worst js)) = u.worst_is ∙ ap (λ u. worse u (worst js)) e ∙ worse_assoc w (token_verdict f) (worst js) in
        subst (λ (x : Option Token). Rests s t w (record { first = x; more = r.more; worst = r.worst; next = r.next })) (sym u.first_is)
        (record {
          stands = k.stands;
          low = omega (arith, h.low, k.stands.own, k.stands.behind, k.stands.most);
          items = rw o (sym (at_item k z));
          more_is = u.more_is;
          worst_is = rw o (a ∙ ap (worse w) (sym (worst-item k z)));
          ends = λ n i w y. ended-on (λ d b e. ends-then (still-within w y o) (ends-then (still-within (begins-within h.stands.most) k z) e)) u.ends;
        })

-- ---- one name

module _ {s : List ℕ} {t : Token} {w : Verdict} {r : Rest} (k : Rests s t w r) where
  pub name-told : (q : List ℕ → Bool) (at : ℕ) {right : Bool} → right ≡ right_first s q r.first → name_fault r at right ≡ fault_of (one_name q at (follows s t))
  unfolding one_name
  name-told q at {right} e = go r.first k.more_is e ∙ ap (λ (xs : List Item). fault_of (one_name q at xs)) k.items
    where
      by_name : (f : Token) (js : List Item) (b : Bool) → lower (cond b f.colon (Some f.at)) (fault_of (places js)) ≡ fault_of (cond b (colon_of f) (f.at ∷ []) ++ places js)
      by_name f js true = ap (λ (c : Fault). lower c (fault_of (places js))) (fault-colon f.colon) ∙ sym (fault-both (colon_of f) (places js))
      by_name f js false = sym (first_place f.at (places js))

      go : (f : Option Token) → r.more ≡ fault_of (places (drop 1 (from_first s f))) → right ≡ right_first s q f
          → fault_first f r.more at right ≡ fault_of (one_name q at (from_first s f))
      go None m e = fault-one at
      go (Some f) m e = rw (m, e) (by_name f (statement_at s f.next) (right_first s q (Some f)))

  pub follows_by : (f : Option Token) → r.first ≡ f → follows s t ≡ from_first s f
  follows_by f e = sym k.items ∙ ap (from_first s) e

  -- no item is right
  items-told : (f : Option Token) → r.first ≡ f → fault_of (places (from_first s f)) ≡ fault_of (places (follows s t))
  items-told f e = sym (ap (λ (xs : List Item). fault_of (places xs)) (follows_by f e))

  some_told : {f : Token} → r.first ≡ Some f → {e : Fault} → e ≡ lower (Some f.at) r.more → e ≡ fault_of (places (follows s t))
  some_told {f} q l =
      l
      ∙ ap (lower (Some f.at)) (k.more_is ∙ ap (λ (g : Option Token). fault_of (places (drop 1 (from_first s g)))) q)
      ∙ sym (first_place f.at (places (statement_at s f.next)))
      ∙ items-told (Some f) q

  none_told : r.first ≡ None → None ≡ fault_of (places (follows s t))
  none_told z = sym (ap (λ (xs : List Item). fault_of (places xs)) (follows_by None z))

-- ---- the first statement

-- nothing stands in front of the operator
pub front-none : (x : List Item) → filled (front x) ≡ false → behind x ≡ x
unfolding front behind
front-none [] e = refl
front-none (i ∷ js) e = go (is_operator i) e
  where
    go : (b : Bool) → filled (cond b [] (i ∷ front js)) ≡ false → cond b (i ∷ js) (behind js) ≡ i ∷ js
    go true f = refl
    go false f = absurd (true≢false f)

-- what is at fault in a first statement, by whether something stands in front of its operator
first_by : (i : Item) (js : List Item) (b : Bool) → filled (front (i ∷ js)) ≡ b
    → first_faults (i ∷ js) ≡ cond b (i.at ∷ []) (cond (same_keyword SEKCJA (keyword_of i)) (one_name identifier i.at js) (i.at ∷ []))
unfolding first_faults front keyword_of
first_by i js b e = go (is colon i) refl (filled i.colon) refl b e
  where
    go : (a : Bool) → is colon i ≡ a → (c : Bool) → filled i.colon ≡ c → (b : Bool) → filled (cond (not (a || c)) [] (i ∷ front js)) ≡ b
        → cond (not c && same_keyword SEKCJA (keyword_of i)) (one_name identifier i.at js) (i.at ∷ [])
        ≡ cond b (i.at ∷ []) (cond (same_keyword SEKCJA (keyword_of i)) (one_name identifier i.at js) (i.at ∷ []))
    go true p true q true e = refl
    go false p true q true e = refl
    go true p true q false e = absurd (true≢false e)
    go false p true q false e = absurd (true≢false e)
    go true p false q false e = absurd (true≢false e)
    go true p false q true e = no_word (is word i) refl
      where
        no_word : (t : Bool) → is word i ≡ t → cond (same_keyword SEKCJA (keyword_of i)) (one_name identifier i.at js) (i.at ∷ []) ≡ i.at ∷ []
        no_word true w = absurd (subst (λ (d : Bool). T (not d)) p (word-apart i (subst T (sym w) tt)).1)
        no_word false w = rw w refl
    go false p false q true e = absurd (true≢false (sym e))
    go false p false q false e = refl

-- a name from its mark's place to its end
pub name-part : (s : List ℕ) (m : ℕ) → take (place_by m + length_by m - place_by m) (drop (place_by m) s) ≡ word_by s m
unfolding word_by
name-part s m = let e : place_by m + length_by m - place_by m ≡ length_by m = omega arith in ap (λ (k : ℕ). take k (drop (place_by m) s)) e

-- ---- by the head

module _ {s : List ℕ} {n : ℕ} {h : Head} (g : Headed s n h) where
  abbrev x : List Item
  x = statement_at s n

  abbrev i : Item
  i = item_of s h.op

  abbrev behind_operator : List Item
  behind_operator = statement_at s h.op.next

  pub rest-follows : rest x ≡ follows s h.op
  rest-follows = ap (drop 1) g.operator ∙ go (stops h.op.sort)
    where
      go : (b : Bool) → drop 1 (cond b [] (i ∷ behind_operator)) ≡ cond b [] behind_operator
      go true = refl
      go false = refl

  pub kons-told : same_keyword KONS (keyword_in x) ≡ is_kons (head_keyword h)
  kons-told = sym (ap is_kons g.keyword ∙ told-alike (eqb 3) refl (keyword_in x))

  pub konp-told : same_keyword KONP (keyword_in x) ≡ is_konp (head_keyword h)
  konp-told = sym (ap is_konp g.keyword ∙ told-alike (eqb 4) refl (keyword_in x))

  -- KONP is an operator
  konp-place : is_konp (head_keyword h) ≡ true → operator_at x ≡ h.op.at
  konp-place e = go (stops h.op.sort) refl
    where
      go : (b : Bool) → stops h.op.sort ≡ b → operator_at x ≡ h.op.at
      go true z = absurd (true≢false (sym e ∙ ap is_konp (no-keyword g z)))
      go false z = ap (if_any 0 (λ j. j.at)) (behind-by g false z)

  -- nothing is asked of what follows any other operator
  pub after-other : (section : Option ℕ) → is_konp (head_keyword h) ≡ false → is_kons (head_keyword h) ≡ false → AfterTold s n section None
  after-other section a b = sym (rw (konp-told ∙ a, kons-told ∙ b) refl)

  module _ {w : Verdict} {r : Rest} (k : Rests s h.op w r) where
    pub after-konp : (section : Option ℕ) {right : Bool} {f : Fault} → is_konp (head_keyword h) ≡ true → right ≡ right_first s (bytes_equal (name_by s section)) r.first
        → f ≡ name_fault r h.op.at right → AfterTold s n section f
    after-konp section a e q =
        q
        ∙ name-told k (bytes_equal (name_by s section)) h.op.at e
        ∙ ap (λ (js : List Item). fault_of (one_name (bytes_equal (name_by s section)) h.op.at js)) (sym rest-follows)
        ∙ ap (λ (p : ℕ). fault_of (one_name (bytes_equal (name_by s section)) p (rest x))) (sym (konp-place a))
        ∙ sym (rw (konp-told ∙ a) refl)

    by-kons : (section : Option ℕ) → is_konp (head_keyword h) ≡ false → is_kons (head_keyword h) ≡ true → fault_of (places (follows s h.op)) ≡ fault_of (after_faults (name_by s section) x)
    by-kons section a b = ap (λ (js : List Item). fault_of (places js)) (sym rest-follows) ∙ sym (rw (konp-told ∙ a, kons-told ∙ b) refl)

    module _ (section : Option ℕ) (a : is_konp (head_keyword h) ≡ false) (b : is_kons (head_keyword h) ≡ true) where
      pub after-kons : {t : Token} → r.first ≡ Some t → {f : Fault} → f ≡ lower (Some t.at) r.more → AfterTold s n section f
      after-kons z q = some_told k z q ∙ by-kons section a b

      pub after_none : r.first ≡ None → AfterTold s n section None
      after_none z = none_told k z ∙ by-kons section a b

  -- ---- the first statement

  -- an item in front is at fault
  pub first-in_front : (h.first ≡ h.op.at → ⊥) → Some h.first ≡ fault_of (first_faults x)
  unfolding front
  first-in_front e = go x refl
    where
      some : filled (front x) ≡ true
      some = not-false _ (sym g.front_is ∙ ne_eqb h.first h.op.at e)

      go : (xs : List Item) → x ≡ xs → Some h.first ≡ fault_of (first_faults x)
      go [] q = absurd (true≢false (sym some ∙ ap (λ (ys : List Item). filled (front ys)) q))
      go (j ∷ js) q =
          let z : j.at ∷ [] ≡ h.first ∷ [] = sym (ap (λ (ys : List Item). take 1 (places ys)) q) ∙ g.first_is some in
          fault-one h.first
          ∙ sym (ap (λ (ys : List Item). fault_of (first_faults ys)) q ∙ ap fault_of (first_by j js true (sym (ap (λ (ys : List Item). filled (front ys)) q) ∙ some) ∙ z))

  module _ (e : h.first ≡ h.op.at) where
    no_front : filled (front x) ≡ false
    no_front = not-true _ (sym g.front_is ∙ eq-eqb h.first h.op.at e)

    pub first-empty : stops h.op.sort ≡ true → None ≡ fault_of (first_faults x)
    unfolding first_faults
    first-empty z = sym (ap (λ (ys : List Item). fault_of (first_faults ys)) (sym (front-none x no_front) ∙ behind-by g true z))

    module _ (z : stops h.op.sort ≡ false) where
      here : x ≡ i ∷ behind_operator
      here = sym (front-none x no_front) ∙ behind-by g false z

      keyword-here : same_keyword SEKCJA (keyword_of i) ≡ opens (head_keyword h)
      unfolding keyword_in
      keyword-here = sym (told-opens (keyword_of i)) ∙ ap opens (sym (g.keyword ∙ ap (λ (ys : List Item). told (if_any Spec.Keyword.none keyword_of ys)) (behind-by g false z)))

      by_keyword : (b : Bool) → opens (head_keyword h) ≡ b → first_faults x ≡ cond b (one_name identifier h.op.at behind_operator) (h.op.at ∷ [])
      by_keyword b o =
          ap first_faults here
          ∙ first_by i behind_operator false (sym (ap (λ (ys : List Item). filled (front ys)) here) ∙ no_front)
          ∙ ap (λ (c : Bool). cond c (one_name identifier h.op.at behind_operator) (h.op.at ∷ [])) (keyword-here ∙ o)

      pub first-wrong : opens (head_keyword h) ≡ false → Some h.op.at ≡ fault_of (first_faults x)
      first-wrong o = fault-one h.op.at ∙ sym (ap fault_of (by_keyword false o))

      pub first-named : opens (head_keyword h) ≡ true → {w : Verdict} {r : Rest} → Rests s h.op w r → {right : Bool} {f : Fault} → right ≡ right_first s identifier r.first
          → f ≡ name_fault r h.op.at right → f ≡ fault_of (first_faults x)
      first-named o k u q =
          q
          ∙ name-told k identifier h.op.at u
          ∙ ap (λ (b : Bool). fault_of (one_name identifier h.op.at (cond b [] behind_operator))) z
          ∙ sym (ap fault_of (by_keyword true o))
