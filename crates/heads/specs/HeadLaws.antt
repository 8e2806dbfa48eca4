-- The head of a statement item by item.
use Rattle.std.specs.Prelude.{◌≡◌, Bool, false, cond, not, ◌&&◌, ◌||◌, List, [], ◌∷◌, ℕ, ◌+◌, ◌≤◌, ◌<◌, eqb, length, take, drop}
use Rattle.std.proofs.Math.Path.{refl, ap}
use Rattle.std.proofs.Common.{sym, ◌∙◌, arith, true≢false}
use Rattle.std.proofs.Math.Bool.{true}
use Rattle.lists.specs.Lists.{filled, if_any}
use Rattle.lexer.specs.declared.Token.{Token}
use Rattle.lexer.specs.Tokens.{word_of, chars_of, item_of, Stands}
use Rattle.lexer.proofs.Finding.{word-chars, one_sort}
use Rattle.statements.specs.Faults.{lower}
use Rattle.statements.specs.LowerLaws as lowered
use Rattle.statements.specs.StatementAt.{statement_at, stops, fault_of, Ended}
use Rattle.std.specs.Bool.{then_some}
use Rattle.std.specs.Option.{is_some, is_none, option_to_list}
use Rattle.scanner.specs.Below.SyntaxVerdict.{lowest}
use Rattle.statements.specs.Faults.{Fault}
use Rattle.std.specs.Prelude.{Option, None, Some}
use Rattle.scanner.specs.Below.Items.{Item, is}
use Rattle.scanner.specs.Below.Items.Sort.{word}
use Rattle.scanner.specs.declared.Sort.{Sort}
use Rattle.scanner.specs.Below.Statements.{keyword_number, same_keyword, keyword_of, is_operator, front, behind, operator, keyword_in, rest}
use Rattle.scanner.specs.Below.Statements as Spec
use Rattle.words.specs.declared.Keyword.{Keyword}
use Rattle.words.specs.Keywords.{keyword_by, told, known}
use Rattle.words.specs.WordLaws.{keyword-item}
use Rattle.words.proofs.KeywordLaws.{never-none}
use Rattle.heads.specs.Heads.{following, EndedBy, known_item, operates, by_kind, opens, bars, instr_of, instr_by, head_keyword, Headed}
use Rattle.std.proofs.lemmas.Option.{none-some}
use Rattle.heads.specs.declared.Head.{Head}
use Rattle.language.specs.Instructions.{number_of}
use Rattle.language.specs.Operators.{op_by}
use Rattle.language.specs.declared.Operator.{Operator}

-- the lower of places at fault
pub lower-clear : (a : Fault) → lower a None ≡ a
lower-clear = lowered.lower-right

pub lower-assoc : (a b c : Fault) → lower (lower a b) c ≡ lower a (lower b c)
lower-assoc = lowered.lower-assoc

-- a place at fault where a test says so
pub place-if : (b : Bool) (at : ℕ) → then_some b at ≡ fault_of (cond b (at ∷ []) [])
unfolding lowest
place-if true at = refl
place-if false at = refl

pub place-unless : (b : Bool) (at : ℕ) → then_some (not b) at ≡ fault_of (cond b [] (at ∷ []))
unfolding lowest
place-unless true at = refl
place-unless false at = refl

-- where a statement ends
some-not_none : (k : Option Sort) → is_some k ≡ not (is_none k)
some-not_none None = refl
some-not_none (Some k) = refl

present : (k : Option Sort) → stops k ≡ false → is_some k ≡ true
present None z = absurd (true≢false z)
present (Some k) z = refl

pub token-ahead : {s : List ℕ} {t : Token} → Stands s t → stops t.sort ≡ false → t.at < t.next
token-ahead {t = t} w z = omega (arith, w.some (present t.sort z), w.behind)

pub ended-by : {s : List ℕ} {n : ℕ} (t : Token) → Ended s n t.next (is_none t.sort) → {r : Option ℕ} → r ≡ following t → EndedBy s n r
ended-by t e q = record { next = t.next; last = is_none t.sort; is = q ∙ ap (λ b. then_some b t.next) (some-not_none t.sort); ended = e }

pub ended-on : {s : List ℕ} {n i : ℕ} {r : Option ℕ} → ((k : ℕ) (b : Bool) → Ended s i k b → Ended s n k b) → EndedBy s i r → EndedBy s n r
ended-on f e = record { next = e.next; last = e.last; is = e.is; ended = f e.next e.last e.ended }

-- an instruction's number
pub some-number : (k : Option Keyword) {o : Operator} → Some o ≡ instr_by k → number_of (op_by o) ≡ instr_of k
some-number None e = absurd (none-some _ (sym e))
some-number (Some Keyword.Sekcja) e = absurd (none-some _ (sym e))
some-number (Some Keyword.Kons) e = absurd (none-some _ (sym e))
some-number (Some Keyword.Konp) e = absurd (none-some _ (sym e))
some-number (Some (Keyword.Switch b)) e = absurd (none-some _ (sym e))
some-number (Some (Keyword.Instr p)) {o} e = let q : o ≡ p = cc in ap (λ o. number_of (op_by o)) q

pub no-number : (k : Option Keyword) → None ≡ instr_by k → instr_of k ≡ 0
no-number None e = refl
no-number (Some Keyword.Sekcja) e = refl
no-number (Some Keyword.Kons) e = refl
no-number (Some Keyword.Konp) e = refl
no-number (Some (Keyword.Switch b)) e = refl
no-number (Some (Keyword.Instr o)) e = absurd (none-some _ e)

-- what is asked of a keyword's number: `told` tells nothing of none and of an unknown one, which are asked apart
pub told-asked : (q : ℕ → Bool) (k : Spec.Keyword)
    → cond (same_keyword Spec.Keyword.none k) (q 0) (by_kind (q 1) (q 2) (q 3) (q 4) (λ goes_by_name. q 5) (λ o. q 6) (told k)) ≡ q (keyword_number k)
told-asked q Spec.Keyword.none = refl
told-asked q Spec.Keyword.unknown = refl
told-asked q Spec.Keyword.SEKCJA = refl
told-asked q Spec.Keyword.KONS = refl
told-asked q Spec.Keyword.KONP = refl
told-asked q (Spec.Keyword.switch goes_by_name) = refl
told-asked q (Spec.Keyword.instr op) = refl

-- and where both are asked alike
pub told-alike : (q : ℕ → Bool) → q 1 ≡ q 0 → (k : Spec.Keyword) → by_kind (q 0) (q 2) (q 3) (q 4) (λ goes_by_name. q 5) (λ o. q 6) (told k) ≡ q (keyword_number k)
told-alike q e Spec.Keyword.none = refl
told-alike q e Spec.Keyword.unknown = sym e
told-alike q e Spec.Keyword.SEKCJA = refl
told-alike q e Spec.Keyword.KONS = refl
told-alike q e Spec.Keyword.KONP = refl
told-alike q e (Spec.Keyword.switch goes_by_name) = refl
told-alike q e (Spec.Keyword.instr op) = refl

pub told-opens : (k : Spec.Keyword) → opens (told k) ≡ same_keyword Spec.Keyword.SEKCJA k
told-opens k = told-alike (eqb 2) refl k

pub told-bars : (k : Spec.Keyword) → (not (same_keyword Spec.Keyword.none k) && bars (told k)) ≡ (same_keyword Spec.Keyword.unknown k || same_keyword Spec.Keyword.SEKCJA k)
told-bars Spec.Keyword.none = refl
told-bars Spec.Keyword.unknown = refl
told-bars Spec.Keyword.SEKCJA = refl
told-bars Spec.Keyword.KONS = refl
told-bars Spec.Keyword.KONP = refl
told-bars (Spec.Keyword.switch goes_by_name) = refl
told-bars (Spec.Keyword.instr op) = refl

-- an item has a keyword, if an unknown one
pub item-some : (i : Item) → same_keyword Spec.Keyword.none (keyword_of i) ≡ false
item-some i = ap (same_keyword Spec.Keyword.none) (keyword-item i) ∙ go (is word i)
  where
    go : (b : Bool) → same_keyword Spec.Keyword.none (cond b (keyword_by i.chars) Spec.Keyword.unknown) ≡ false
    go true = never-none i.chars
    go false = refl

pub item-bars : (i : Item) → bars (told (keyword_of i)) ≡ (same_keyword Spec.Keyword.unknown (keyword_of i) || same_keyword Spec.Keyword.SEKCJA (keyword_of i))
item-bars i = ap (λ b. not b && bars (told (keyword_of i))) (sym (item-some i)) ∙ told-bars (keyword_of i)

-- a token that is a word, and any other
module _ (s : List ℕ) (t : Token) where
  module _ (w : is word (item_of s t) ≡ true) where
    pub chars-word : chars_of s t ≡ word_of s t
    chars-word = word-chars s t (one_sort (Some Sort.Word) t.sort w)

    pub word-passes : (f : List ℕ → Bool) → (is word (item_of s t) && f (chars_of s t)) ≡ f (word_of s t)
    word-passes f = ap (λ b. b && f (chars_of s t)) w ∙ ap f chars-word

    pub word-keyword : keyword_of (item_of s t) ≡ keyword_by (word_of s t)
    word-keyword = keyword-item (item_of s t) ∙ ap (λ b. cond b (keyword_by (chars_of s t)) Spec.Keyword.unknown) w ∙ ap keyword_by chars-word

    pub word-known : known (word_of s t) ≡ known_item (item_of s t)
    word-known = sym (rw (w, chars-word) refl)

  module _ (w : is word (item_of s t) ≡ false) where
    pub other-fails : (f : List ℕ → Bool) → (is word (item_of s t) && f (chars_of s t)) ≡ false
    other-fails f = ap (λ b. b && f (chars_of s t)) w

    pub other-keyword : keyword_of (item_of s t) ≡ Spec.Keyword.unknown
    other-keyword = keyword-item (item_of s t) ∙ ap (λ b. cond b (keyword_by (chars_of s t)) Spec.Keyword.unknown) w

    pub other-known : None ≡ known_item (item_of s t)
    other-known = sym (rw w refl)

-- an item in front of the operator, and the operator
module _ (i : Item) (js : List Item) where
  pub front_goes : is_operator i ≡ false → front (i ∷ js) ≡ i ∷ front js
  unfolding front
  front_goes e = rw e refl

  pub behind-goes : is_operator i ≡ false → behind (i ∷ js) ≡ behind js
  unfolding behind
  behind-goes e = rw e refl

  pub front_ends : is_operator i ≡ true → front (i ∷ js) ≡ []
  unfolding front
  front_ends e = rw e refl

  pub behind-here : is_operator i ≡ true → behind (i ∷ js) ≡ i ∷ js
  unfolding behind
  behind-here e = rw e refl

pub filled-option : (c : Option ℕ) → filled (option_to_list c) ≡ is_some c
filled-option None = refl
filled-option (Some c) = refl

pub operator_is : (s : List ℕ) (t : Token) → is_operator (item_of s t) ≡ operates t
operator_is s t = rw (filled-option t.colon) refl

pub one_at_most : (b : Bool) {r : ℕ} → r ≡ cond b 1 0 → r ≤ 1
one_at_most true e = omega arith
one_at_most false e = omega arith

pub one_more : (b : Bool) (i : Item) (js : List Item) → length (cond b (i ∷ js) js) ≡ cond b 1 0 + length js
one_more true i js = omega arith
one_more false i js = omega arith

-- a head without an operator has no keyword; the operator, and the items after it
module _ {s : List ℕ} {n : ℕ} {h : Head} (g : Headed s n h) where
  abbrev x : List Item
  x = statement_at s n

  pub behind-by : (b : Bool) → stops h.op.sort ≡ b → behind x ≡ cond b [] (item_of s h.op ∷ statement_at s h.op.next)
  behind-by b z = g.operator ∙ ap (λ c. cond c [] (item_of s h.op ∷ statement_at s h.op.next)) z

  pub no-keyword : stops h.op.sort ≡ true → head_keyword h ≡ None
  unfolding keyword_in
  no-keyword z = g.keyword ∙ ap (λ js. told (if_any Spec.Keyword.none keyword_of js)) (behind-by true z)

  pub no_operator : stops h.op.sort ≡ true → operator x ≡ []
  no_operator z = ap (take 1) (behind-by true z)

  module _ (z : stops h.op.sort ≡ false) where
    pub operator-here : operator x ≡ item_of s h.op ∷ []
    operator-here = ap (take 1) (behind-by false z)

    pub rest-here : rest x ≡ statement_at s h.op.next
    rest-here = ap (drop 1) (behind-by false z)

  -- the operator is none of a statement after the first; without one there is none to bar
  pub head-bars : (not (stops h.op.sort) && bars (head_keyword h)) ≡ (same_keyword Spec.Keyword.unknown (keyword_in x) || same_keyword Spec.Keyword.SEKCJA (keyword_in x))
  unfolding keyword_in
  head-bars = go (stops h.op.sort) refl
    where
      barred : List Item → Bool
      barred js = same_keyword Spec.Keyword.unknown (if_any Spec.Keyword.none keyword_of js) || same_keyword Spec.Keyword.SEKCJA (if_any Spec.Keyword.none keyword_of js)

      go : (b : Bool) → stops h.op.sort ≡ b → (not b && bars (head_keyword h)) ≡ barred (behind x)
      go true z = sym (ap barred (behind-by true z))
      go false z =
          ap bars (g.keyword ∙ ap (λ js. told (if_any Spec.Keyword.none keyword_of js)) (behind-by false z))
          ∙ item-bars (item_of s h.op) ∙ sym (ap barred (behind-by false z))
