-- The value of an argument, form by form.
use Rattle.std.specs.Prelude.{◌≡◌, true, false, ◌&&◌, ℕ, ◌+◌, ◌*◌, ◌^◌, ◌≤◌, ◌<◌, eqb, is_some, length, drop, nat_abs}
use Rattle.std.proofs.Math.Path.{refl, sym, ap}
use Rattle.std.proofs.Common.{Bool, cond, ◌∙◌, true≢false, arith, leb→le}
use Rattle.std.proofs.Math.Bool.{and-false}
use mathlib.Core.List.{List, []}
use Rattle.std.proofs.Math.Dec.{T}
use borrow.Author.Tests.{eqb-false}
use lib.Ieee.Bits.{is_true}
use Rattle.heads.proofs.Below.AcceptanceArgumentLaws.{first_is, number-form}
use Rattle.heads.proofs.Below.ReadingLaws.{Other, by_form, other-reads, text-reads, as-word}
use Rattle.heads.specs.Below.Drafting.{draft_arg}
use Rattle.forms.specs.KindLaws.{indexed-name, indexed-class, class-name, name-number}
use Rattle.forms.proofs.Readings.{class-kind, letter-kind, name-kind, number-kind, no_kind}
use Rattle.language.specs.Letters.{Letter, letter_code, use_of, indices}
use Rattle.language.specs.Letters.Letter.{A}
use Rattle.language.specs.Limits as limit
use Rattle.language.specs.Program.{Arg, classes, identifier}
use Rattle.language.specs.Values.{numeral, value_of, in_range, amount}
use Rattle.layout.specs.Cells.{code}
use Rattle.layout.specs.Table.{letter_place, class_mask}
use Rattle.lexer.specs.declared.Token.{Token}
use Rattle.lexer.specs.Tokens.{chars_of, word_of, item_of}
use Rattle.lexer.proofs.Finding.{one_sort, is_spelled, word-chars, text-token-chars, no-chars}
use Rattle.lists.specs.Lists.{head_or}
use Rattle.lists.specs.ListLaws.{T-left, T-right}
use Rattle.syntax.specs.ArgumentForms.{word_reads, reads, is_index, is_indexed, letter_of}
use Rattle.syntax.specs.Items.{Item, is, same_sort}
use Rattle.syntax.specs.Items.Sort.{word, text}
use Rattle.syntax.proofs.LetterLaws.{letter_of-code}
use Rattle.table.specs.Denote as denote
use Rattle.words.specs.Words.{is_class, class_of, numeral_of, indexed_of}
use Rattle.table.specs.declared.Letter.{Letter as Named}
use Rattle.statements.specs.Places.{InText}
use Rattle.arguments.specs.Valued.{is_text, is_number, quoted_of, NamesText, Spells, Drafted, Stood, argument_of, argument_value, LetterValue, OwnValue, WordKind, ItemKind}
use Rattle.arguments.specs.declared.Kind.{Kind}
use Rattle.arguments.specs.declared.ReadArgument.{ReadArgument}
use Rattle.arguments.specs.declared.ReadArgument.TheVariants.{Nothing, Indexed, Label, Switch, Class, Number}
use Rattle.forms.specs.declared.Forms.{Forms}
use Rattle.scanner.specs.Sorts.{sort_in}
use Rattle.scanner.specs.declared.Sort.{Sort}
use Rattle.std.specs.Prelude.{Option, None, Some}

-- ---- words

module _ (w : List ℕ) where
  abbrev by_first : Letter
  by_first = letter_of (head_or 0 w)

  abbrev lettered_by : Letter → ℕ → Option (Letter × ℕ)
  lettered_by l n = Some (l, n)

  abbrev letter_in : Option (Letter × ℕ) → Letter
  letter_in None = A
  letter_in (Some x) = x.0

  abbrev index_in : Option (Letter × ℕ) → ℕ
  index_in None = 0
  index_in (Some x) = x.1

  number-code : T (numeral w && in_range (value_of w)) → numeral_of w ≡ Some (code (value_of w))
  unfolding numeral_of
  number-code h = rw (is_true (numeral w && in_range (value_of w)) h)

  class-told : {m : ℕ} → Some m ≡ class_of w → (is_class w ≡ true) × (m ≡ class_mask (classes w))
  unfolding class_of
  class-told {m} q = go (is_class w) refl q
    where
      go : (t : Bool) → is_class w ≡ t → Some m ≡ cond t (Some (class_mask (classes w))) None → (is_class w ≡ true) × (m ≡ class_mask (classes w))
      go true c e = (c, cc)
      go false c e = absurd (let y : ◌≡◌ {A = ℕ} 0 1 = cc in omega arith)

  class-none : None ≡ class_of w → is_class w ≡ false
  unfolding class_of
  class-none q = go (is_class w) refl q
    where
      go : (t : Bool) → is_class w ≡ t → None ≡ cond t (Some (class_mask (classes w))) None → is_class w ≡ false
      go true c e = absurd (let y : ◌≡◌ {A = ℕ} 0 1 = cc in omega arith)
      go false c e = c

  letter_is : T (is_indexed w by_first) → indexed_of w ≡ lettered_by by_first (amount 0 (drop 1 w))
  unfolding indexed_of
  letter_is h = rw (is_true (is_indexed w by_first) h)

  -- the own value of a word, by what it is
  abbrev bits : ℕ → Forms
  bits n = record { bits = n }

  module _ (e : identifier w ≡ true) where
    own_name : {x : ReadArgument} → (T (is_class w) → x ≡ Class (class_mask (classes w))) → (T (is_indexed w by_first) → LetterValue w x) → OwnValue w x
    own_name f g =
        record { number = λ h. absurd (rw (name-number w (rw e tt)) at (T-left (numeral w) (in_range (value_of w)) h)); class = f; letter = g }

    pub class-read : {m : ℕ} → Some m ≡ class_of w → WordKind w (record { set = bits 237568; own = Class m })
    class-read q =
        let c = class-told q in
        record { set_is = class-kind w e c.0; own_is = own_name (λ h. ap Class c.1) (λ h. absurd (indexed-class by_first w h (rw c.0 tt))) }

    module _ (n : None ≡ class_of w) where
      c : is_class w ≡ false
      c = class-none n

      pub name-read : None ≡ indexed_of w → WordKind w (record { set = bits 229376; own = Nothing })
      name-read q =
          record {
            set_is = name-kind w e c q;
            own_is = own_name (λ h. absurd (rw c at h)) (λ h. absurd (let f = letter_is h in let y : ◌≡◌ {A = ℕ} 0 1 = cc in omega arith));
          }

      pub letter-read : {l : Named} {n a : ℕ} {f : Forms} → n < 256 → lettered_by (denote.letter_of l) n ≡ indexed_of w → f.bits ≡ 229376 + 2 ^ letter_place (denote.letter_of l)
          → a ≡ n → WordKind w (record { set = f; own = Indexed l a })
      letter-read {l} {n} {a} low q i u =
          record {
            set_is = i ∙ letter-kind w e c q;
            own_is = own_name (λ h. absurd (rw c at h)) (λ h.
                let f = letter_is h in
                let same : lettered_by (denote.letter_of l) n ≡ lettered_by by_first (amount 0 (drop 1 w)) = q ∙ f in
                let m : n ≡ amount 0 (drop 1 w) = ap index_in same in
                record { letter = l; index = a; is = refl; letter_is = ap letter_in same; index_is = u ∙ m; small = omega (arith, u, low) });
          }

  module _ (e : identifier w ≡ false) where
    own-other : {x : ReadArgument} → (T (numeral w && in_range (value_of w)) → x ≡ Number (code (value_of w))) → OwnValue w x
    own-other f = record { number = f; class = λ h. absurd (rw e at (class-name w h)); letter = λ h. absurd (rw e at (indexed-name by_first w h)) }

    pub number_read : {v : ℕ} → Some v ≡ numeral_of w → WordKind w (record { set = bits 4096; own = Number v })
    number_read q = record { set_is = number-kind w e q; own_is = own-other (λ h. let f = number-code h in cc) }

    pub nothing_read : None ≡ numeral_of w → WordKind w (record { set = bits 0; own = Nothing })
    nothing_read q = record { set_is = no_kind w e q; own_is = own-other (λ h. let f = number-code h in cc) }

-- ---- an argument

-- no form is read from no characters
empty-reads : (f : ℕ) → T (word_reads [] f) → ⊥
unfolding word_reads is_index
empty-reads =
    by_form (λ f. T (word_reads [] f) → ⊥) (λ h. h) (λ h. h) (λ h. h) (λ h. h) (λ h. h) (λ h. h)
    (λ f o h. let r = other-reads [] f o h in T-right (eqb 0 (letter_code r.by)) (is_index (indices (use_of r.by).var) []) r.indexed)

module _ {s : List ℕ} {t : Token} (a : InText s t) where
  -- the mark of a token fits a number
  pub mark-low : (t.at ≤ 32768) × (t.len ≤ 32768)
  mark-low = (omega (arith, a.stands.own, a.stands.behind, a.stands.most, a.low), omega (arith, a.stands.own, a.stands.behind, a.stands.most, a.low))

  abbrev w : List ℕ
  w = chars_of s t

  abbrev i : Item
  i = item_of s t

  abbrev v : List ℕ
  v = word_of s t

  pub names-text : t.sort ≡ Some Sort.Text → NamesText s (quoted_of t) w
  names-text e =
      let some : t.at < t.end = a.stands.some (ap is_some e) in
      record {
        between = record { order = omega (arith, some); most = omega (arith, a.stands.behind, a.stands.most) };
        is = sym (text-token-chars s t e);
      }

  -- what does not read as a text is a word
  module _ (f : ℕ) (e : eqb f 116 ≡ false) (r : T (reads i f)) where
    no-text-here : is text i ≡ false
    no-text-here = text-reads i f r ∙ e

    spelled_here : is_spelled t.sort ≡ false → ⊥
    spelled_here q = let none : w ≡ [] = no-chars s t q in empty-reads f (rw none at (as-word i f e r))

    word_by : (k : Option Sort) → t.sort ≡ k → t.sort ≡ Some Sort.Word
    word_by None q = absurd (spelled_here (ap is_spelled q))
    word_by (Some Sort.Word) q = q
    word_by (Some Sort.Colon) q = absurd (spelled_here (ap is_spelled q))
    word_by (Some Sort.End) q = absurd (spelled_here (ap is_spelled q))
    word_by (Some Sort.Text) q = absurd (true≢false (sym (ap (λ k. same_sort text (sort_in k)) q) ∙ no-text-here))
    word_by (Some Sort.Wrong) q = absurd (spelled_here (ap is_spelled q))

    is_word : t.sort ≡ Some Sort.Word
    is_word = word_by t.sort refl

    word-here : is word i ≡ true
    word-here = ap (λ k. same_sort word (sort_in k)) is_word

    chars-here : w ≡ v
    chars-here = word-chars s t is_word

    word-there : T (word_reads v f)
    word-there = rw chars-here at (as-word i f e r)

    plain : (f ≡ 110 → ⊥) → (x : ReadArgument) → is_text x ≡ false → is_number x ≡ false → Spells s w x → (length w ≤ limit.item → Drafted w x (draft_arg (argument_of s t f))) → Stood s (argument_of s t f) x
    plain n x p q k d =
        let none : (is word i && numeral w) ≡ false =
        elim (numeral w) as (λ b. numeral w ≡ b → (is word i && b) ≡ false) [
          | true ↦ λ y. absurd (n (number-form w (rw y tt) f (as-word i f e r)))
          | false ↦ λ y. and-false (is word i)
        ] refl in
        record { entered = record { text_is = no-text-here ∙ sym p; number_is = none ∙ sym q; spelt = k }; drafted = d }

  -- ---- form by form
  module _ {k : Kind} (g : ItemKind s t k) where
    abbrev ValueAs : ℕ → Type 0
    ValueAs f = T (reads i f) → Stood s (argument_of s t f) (argument_value t f k.own)

    text-stood : ValueAs 116
    unfolding draft_arg
    text-stood r =
        let e : t.sort ≡ Some Sort.Text = one_sort (Some Sort.Text) t.sort (text-reads i 116 r) in
        rw (g.text_is (text-reads i 116 r)) (record {
          entered = record { text_is = text-reads i 116 r; number_is = ap (λ k. same_sort word (sort_in k) && numeral w) e; spelt = names-text e };
          drafted = λ h. refl;
        })

    number-stood : ValueAs 110
    unfolding draft_arg word_reads
    number-stood r =
        let h : T (numeral v && in_range (value_of v)) = word-there 110 refl r in
        let chars = chars-here 110 refl r in
        rw ((g.word_is (word-here 110 refl r)).number h) (record {
          entered = record {
            text_is = no-text-here 110 refl r;
            number_is = ap (λ k. same_sort word (sort_in k) && numeral w) (is_word 110 refl r) ∙ ap numeral chars ∙ is_true (numeral v) (T-left (numeral v) (in_range (value_of v)) h);
            spelt = record {
              is = ap (λ (u : List ℕ). code (value_of u)) (sym chars);
              small = rw chars (leb→le (nat_abs (value_of v)) limit.size (T-right (numeral v) (in_range (value_of v)) h));
            };
          };
          drafted = λ h. refl;
        })

    class-stood : ValueAs 99
    unfolding draft_arg word_reads is_class
    class-stood r =
        let h : T (is_class v) = word-there 99 refl r in
        rw ((g.word_is (word-here 99 refl r)).class h)
        (plain 99 refl r (λ q. omega (arith, q)) (Class (class_mask (classes v))) refl refl tt (λ l. (refl, ap (λ (u : List ℕ). class_mask (classes u)) (sym (chars-here 99 refl r)))))

    -- a mark is the place 64-fold and the length
    mark-is : t.at * 64 + t.len ≡ t.at * 64 + length w
    mark-is = omega (arith, a.stands.count)

    mark-short : length w ≤ limit.item → t.at * 64 + t.len ≤ 2097212
    mark-short h = omega (arith, a.stands.own, a.stands.behind, a.stands.most, a.low, h, a.stands.count)

    label-stood : ValueAs 108
    unfolding draft_arg
    label-stood r = plain 108 refl r (λ q. omega (arith, q)) (Label (t.at * 64 + t.len)) refl refl tt (λ h. (ap Arg.label (sym mark-is), mark-short h))

    named-stood : ValueAs 119
    unfolding draft_arg
    named-stood r = plain 119 refl r (λ q. omega (arith, q)) (Switch (t.at * 64 + t.len)) refl refl tt (λ h. (ap Arg.switch (sym mark-is), mark-short h))

    indexed-stood : ValueAs 120
    unfolding draft_arg
    indexed-stood r = plain 120 refl r (λ q. omega (arith, q)) (Switch (t.at * 64 + t.len)) refl refl tt (λ h. (ap Arg.switch (sym mark-is), mark-short h))

    letter-stood : (f : ℕ) → Other f → ValueAs f
    unfolding draft_arg
    letter-stood f o r =
        let l = other-reads v f o (word-there f o.no_t r) in
        let e : letter_of (head_or 0 v) ≡ l.by = ap letter_of (first_is v f l) ∙ letter_of-code l.by in
        let u = (g.word_is (word-here f o.no_t r)).letter (rw e l.indexed) in
        let chars = chars-here f o.no_t r in
        rw (o.no_l, o.no_w, o.no_x, u.is)
        (plain f o.no_t r (λ q. eqb-false f 110 o.no_n q) (Indexed u.letter u.index) refl refl tt
        (λ h. (rw (o.no_t, o.no_n, o.no_c, o.no_l, o.no_w, o.no_x, chars, u.letter_is, u.index_is), u.small)))

    pub value-stood : {form : ℕ} → T (reads i form) → {x : ReadArgument} → x ≡ argument_value t form k.own → Stood s (argument_of s t form) x
    value-stood {form} r q = rw q (by_form ValueAs text-stood number-stood class-stood label-stood named-stood indexed-stood letter-stood form r)
