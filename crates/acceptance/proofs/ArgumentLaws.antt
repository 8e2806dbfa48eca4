-- The argument that load makes of a read item has its form and is in range.
use Rattle.std.specs.Prelude.{◌≡◌, Bool, not, ◌&&◌, ◌||◌, List, [], ◌∷◌, map, ℕ, suc, ◌+◌, ◌*◌, ◌-◌, ◌≤◌, ◌<◌, leb, ltb, eqb, length, get_or, drop}
use Rattle.std.proofs.Math.Path.{refl, ap, sym, subst}
use Rattle.std.proofs.Common.{◌∙◌, arith, eqb→eq, leb→le, ltb→lt, eqb-true}
use Rattle.std.proofs.Math.Bool.{true, false, cond}
use Rattle.std.specs.Bool.{beq}
use Rattle.std.proofs.Math.Dec.{T, lt→ltb, eqb_refl}
use Rattle.std.proofs.lemmas.List.{length-map}
use Rattle.lists.specs.SearchLaws.{ahead-below}
use Rattle.lists.specs.BoolLaws.{T-first, T-second}
use Rattle.layout.specs.Below.Lists.{all, any, ahead, filled, head_or, bytes_equal, among}
use Rattle.layout.specs.Below.Quoted.{bytes}
use Rattle.layout.specs.Below.ListLaws.{T-left, T-right, T-both, all_among, all_head, same_bytes-eq}
use Rattle.layout.specs.Below.ListsTableLaws.{beq-eq}
use Rattle.layout.specs.Below.Characters.{is_capital, is_digit}
use Rattle.layout.specs.Below.Letters.{Letter, letter_code, indices, use_of}
use Rattle.layout.specs.Below.Program.{Arg, identifier, classes, no_switch}
use Rattle.layout.specs.Below.LanguageValues.{amount, unsigned, numeral, value_of, in_range}
use Rattle.layout.specs.Below.WellFormed.{good_text, form, ranged, different}
use Rattle.macros.specs.Below.ArgumentForms.{is_index, letter_of, word_reads, reads, Argument}
use Rattle.macros.specs.Below.Items.{Sort, same_sort, Item, is}
use Rattle.macros.specs.Below.Items.Sort.{separator, word, colon, end, text, wrong}
use Rattle.macros.proofs.Below.LetterLaws.{letter_of-code, every-letter}
use Rattle.macros.specs.Below.SyntaxLoad.{arg_of, program_of, switch_place, label_place}
use Rattle.macros.specs.Below.Tables.{Choice, Tables, number_in}
use Rattle.acceptance.specs.Drafts.{in_texts, in_numbers, SoundArgument, Declared}
use Rattle.acceptance.specs.Switches.{switch_of}
use Rattle.acceptance.proofs.ReadingLaws.{Other, by_form, Lettered, other-reads, text-reads, as-word, numeral-word}

-- a word is no text and no colon
sort-apart : (k : Sort) → T (same_sort word k) → (same_sort text k ≡ false) × T (not (same_sort colon k))
sort-apart separator h = absurd h
sort-apart word h = (refl, tt)
sort-apart colon h = absurd h
sort-apart end h = absurd h
sort-apart text h = absurd h
sort-apart wrong h = absurd h

pub word-apart : (i : Item) → T (is word i) → (is text i ≡ false) × T (not (is colon i))
word-apart i h = sort-apart i.sort h

-- The first byte tells a number from anything else

numeral-first : (w : List ℕ) → T (numeral w) → head_or 0 w < 58
numeral-first [] h = absurd h
numeral-first (x ∷ xs) h = go (eqb x 43) (eqb x 45) refl refl h
  where
    go : (a b : Bool) → eqb x 43 ≡ a → eqb x 45 ≡ b → T (cond (a || b) (unsigned xs) (unsigned (x ∷ xs))) → x < 58
    go true b e f t = let q = eqb-true x 43 e in omega arith
    go false true e f t = let q = eqb-true x 45 f in omega arith
    go false false e f t = omega (arith, leb→le x 57 (T-right (leb 48 x) (leb x 57) (T-left (is_digit x) (all is_digit xs) t)))

class-first : (w : List ℕ) → T (filled w && all (λ b. among b (bytes "LDBR")) w) → 64 < head_or 0 w
class-first [] h = absurd h
class-first (x ∷ xs) h = ltb→lt 64 x (all_among (λ b. ltb 64 b) (bytes "LDBR") tt x (all_head (λ b. among b (bytes "LDBR")) x xs h))

identifier-first : (w : List ℕ) → T (identifier w) → 64 < head_or 0 w
identifier-first [] h = absurd h
identifier-first (x ∷ xs) h = omega (arith, leb→le 65 x (T-left (leb 65 x) (leb x 90) (T-left (is_capital x) (all (λ y. is_capital y || is_digit y) xs) h)))

code-least : (l : Letter) → 64 < letter_code l
code-least l = ltb→lt 64 (letter_code l) (every-letter (λ m. ltb 64 (letter_code m)) tt l)

pub first_is : (w : List ℕ) (f : ℕ) (r : Lettered w f) → head_or 0 w ≡ letter_code r.by
first_is w f r =
    eqb→eq (head_or 0 w) (letter_code r.by) (T-left (eqb (head_or 0 w) (letter_code r.by)) (is_index (indices (use_of r.by).var) (drop 1 w)) r.indexed)

-- a word that is a number reads only as a number
pub number-form : (w : List ℕ) → T (numeral w) → (f : ℕ) → T (word_reads w f) → f ≡ 110
unfolding word_reads
number-form w h =
    by_form (λ f. T (word_reads w f) → f ≡ 110)
    (λ k. absurd k)
    (λ k. refl)
    (λ k. absurd (apart-first (class-first w k)))
    (λ k. absurd (apart-first (identifier-first w k)))
    (λ k. absurd (apart-first (identifier-first w k)))
    (λ k. absurd (apart-first (identifier-first w k)))
    (λ f o k. let r = other-reads w f o k in absurd (apart-first (omega (arith, first_is w f r, code-least r.by))))
  where
    apart-first : 64 < head_or 0 w → ⊥
    apart-first k = omega (arith, numeral-first w h)

number-reads : (w : List ℕ) → T (numeral w) → (f : ℕ) → T (word_reads w f) → T (in_range (value_of w))
unfolding word_reads
number-reads w h f k = T-right (numeral w) (in_range (value_of w)) (subst (λ (g : ℕ). T (word_reads w g)) (number-form w h f k) k)

-- an item that reads as some form
pub record ReadableItem (i : Item) : Type 0 where
  pub form_of : ℕ
  pub as_form : T (reads i form_of)

pub number-range : (i : Item) → T (is word i) → T (numeral i.chars) → ReadableItem i → T (in_range (number_in i))
number-range i h k r =
    number-reads i.chars k r.form_of (as-word i r.form_of (sym (text-reads i r.form_of r.as_form) ∙ (word-apart i h).0) r.as_form)

-- Indices and classes

amount-most : (n : ℕ) (w : List ℕ) → n ≤ amount n w
amount-most n [] = omega arith
amount-most n (x ∷ w) = omega (arith, amount-most (n * 10 + (x - 48)) w)

index-ranged : (most : ℕ) (w : List ℕ) → T (is_index most w) → T (ltb 0 (amount 0 w) && leb (amount 0 w) most)
unfolding is_index
index-ranged most [] h = absurd h
index-ranged most (x ∷ w) h =
    let a = unsigned (x ∷ w) in
    let b = ltb 48 x in
    let c = leb (amount 0 (x ∷ w)) most in
    let digit : 48 < x = ltb→lt 48 x (T-right a b (T-left (a && b) c h)) in
    T-both (ltb 0 (amount 0 (x ∷ w))) c (lt→ltb 0 (amount 0 (x ∷ w)) (omega (arith, amount-most (0 * 10 + (x - 48)) w))) (T-right (a && b) c h)

-- the classes of a word of class letters, from which of the four stand in it
abbrev classes_by : Bool → Bool → Bool → Bool → List ℕ
classes_by a b c d =
    let r : List ℕ = cond d (82 ∷ []) [] in
    let q : List ℕ = cond c (66 ∷ r) r in
    let p : List ℕ = cond b (68 ∷ q) q in
    cond a (76 ∷ p) p

classes-again : (a b c d : Bool) → T (a || (b || (c || d))) → T (filled (classes_by a b c d) && bytes_equal (classes_by a b c d) (classes (classes_by a b c d)))
classes-again true true true true h = tt
classes-again true true true false h = tt
classes-again true true false true h = tt
classes-again true true false false h = tt
classes-again true false true true h = tt
classes-again true false true false h = tt
classes-again true false false true h = tt
classes-again true false false false h = tt
classes-again false true true true h = tt
classes-again false true true false h = tt
classes-again false true false true h = tt
classes-again false true false false h = tt
classes-again false false true true h = tt
classes-again false false true false h = tt
classes-again false false false true h = tt
classes-again false false false false h = absurd h

one_of : (x : ℕ) (xs : List ℕ) → T (among x (bytes "LDBR")) → T (among 76 (x ∷ xs) || (among 68 (x ∷ xs) || (among 66 (x ∷ xs) || among 82 (x ∷ xs))))
one_of x xs h = go (eqb x 76) (eqb x 68) (eqb x 66) (eqb x 82) refl refl refl refl h
  where
    a : Bool
    a = among 76 (x ∷ xs)

    b : Bool
    b = among 68 (x ∷ xs)

    c : Bool
    c = among 66 (x ∷ xs)

    d : Bool
    d = among 82 (x ∷ xs)

    there : (k : ℕ) → eqb x k ≡ true → T (among k (x ∷ xs))
    there k e = T-first (eqb k x) (among k xs) (subst (λ (y : ℕ). T (eqb k y)) (sym (eqb-true x k e)) (eqb_refl k))

    go : (p q r s : Bool) → eqb x 76 ≡ p → eqb x 68 ≡ q → eqb x 66 ≡ r → eqb x 82 ≡ s → T (p || (q || (r || (s || false)))) → T (a || (b || (c || d)))
    go true q r s e₁ e₂ e₃ e₄ h = T-first a (b || (c || d)) (there 76 e₁)
    go false true r s e₁ e₂ e₃ e₄ h = T-second a (b || (c || d)) (T-first b (c || d) (there 68 e₂))
    go false false true s e₁ e₂ e₃ e₄ h = T-second a (b || (c || d)) (T-second b (c || d) (T-first c d (there 66 e₃)))
    go false false false true e₁ e₂ e₃ e₄ h = T-second a (b || (c || d)) (T-second b (c || d) (T-second c d (there 82 e₄)))
    go false false false false e₁ e₂ e₃ e₄ h = absurd h

class-ranged : (w : List ℕ) → T (filled w && all (λ b. among b (bytes "LDBR")) w) → T (filled (classes w) && bytes_equal (classes w) (classes (classes w)))
class-ranged [] h = absurd h
class-ranged (x ∷ xs) h =
    classes-again (among 76 (x ∷ xs)) (among 68 (x ∷ xs)) (among 66 (x ∷ xs)) (among 82 (x ∷ xs))
    (one_of x xs (all_head (λ b. among b (bytes "LDBR")) x xs h))

-- Switches: names are different, so the first of a name is of the type that its instruction needs

abbrev pub by_names : List Choice → List (List ℕ)
by_names cs = map (λ c. c.name) cs

named_none : (w : List ℕ) (b : Bool) (cs : List Choice) → T (not (any (bytes_equal w) (by_names cs))) → T (any (λ c. bytes_equal w c.name && beq b c.goes_by_name) cs)
    → ⊥
named_none w b [] h k = k
named_none w b (c ∷ cs) h k = go (bytes_equal w c.name) h k (named_none w b cs)
  where
    go : (t : Bool) → T (not (t || any (bytes_equal w) (by_names cs))) → T ((t && beq b c.goes_by_name) || any (λ c. bytes_equal w c.name && beq b c.goes_by_name) cs)
        → (T (not (any (bytes_equal w) (by_names cs))) → T (any (λ c. bytes_equal w c.name && beq b c.goes_by_name) cs) → ⊥) → ⊥
    go true h k r = h
    go false h k r = r h k

switch-type : (place : List ℕ → ℕ) (w : List ℕ) (b : Bool) (cs : List Choice) → T (different bytes_equal (by_names cs))
    → T (any (λ c. bytes_equal w c.name && beq b c.goes_by_name) cs)
    → ((get_or (map (switch_of place) cs) (ahead (λ c. bytes_equal w c.name) cs) no_switch).goes_by_name ≡ b) × T (any (λ c. bytes_equal w c.name) cs)
switch-type place w b [] h k = absurd k
switch-type place w b (c ∷ cs) h k =
    go (bytes_equal w c.name) refl (beq b c.goes_by_name) refl k
    (switch-type place w b cs (T-right (not (any (bytes_equal c.name) (by_names cs))) (different bytes_equal (by_names cs)) h))
  where
    go : (t : Bool) → bytes_equal w c.name ≡ t → (u : Bool) → beq b c.goes_by_name ≡ u → T ((t && u) || any (λ c. bytes_equal w c.name && beq b c.goes_by_name) cs)
        → (T (any (λ c. bytes_equal w c.name && beq b c.goes_by_name) cs) → ((get_or (map (switch_of place) cs) (ahead (λ c. bytes_equal w c.name) cs) no_switch).goes_by_name ≡ b) × T (any (λ c. bytes_equal w c.name) cs))
        → ((get_or (map (switch_of place) (c ∷ cs)) (elim t [ true ↦ 0 | false ↦ suc (ahead (λ c. bytes_equal w c.name) cs) ]) no_switch).goes_by_name ≡ b) × T (t || any (λ c. bytes_equal w c.name) cs)
    go true e true f k r = (sym (beq-eq b c.goes_by_name (subst T (sym f) tt)), tt)
    go true e false f k r =
        let q = same_bytes-eq w c.name (subst T (sym e) tt) in
        absurd
        (named_none w b cs
        (subst (λ (v : List ℕ). T (not (any (bytes_equal v) (by_names cs)))) (sym q) (T-left (not (any (bytes_equal c.name) (by_names cs))) (different bytes_equal (by_names cs)) h)) k)
    go false e u f k r = r k

-- The argument that load makes

module _ (ls : List ℕ) (t : Tables) (n : ℕ) (i : Item) where
  abbrev made : ℕ → Arg
  made f = arg_of t (record { item = i; form = f })

  abbrev right : ℕ → Type 0
  right f = (form (program_of ls t) (made f) ≡ f) × T (ranged (program_of ls t) (made f))

  made-text : SoundArgument n t.texts t.numbers (record { item = i; form = 116 }) → right 116
  unfolding arg_of program_of reads
  made-text a =
      let k : T (is text i) = subst T (sym (text-reads i 116 a.as_form)) tt in
      (refl, T-both (good_text i.chars) (in_texts t.texts i.chars) (a.fine.good k) (a.kept.text_kept k))

  made-number : SoundArgument n t.texts t.numbers (record { item = i; form = 110 }) → right 110
  unfolding arg_of program_of word_reads
  made-number a =
      let w = i.chars in
      let r = as-word i 110 refl a.as_form in
      let k : T (numeral w) = T-left (numeral w) (in_range (value_of w)) r in (
        refl,
        T-both (in_range (value_of w)) (in_numbers t.numbers (value_of w)) (T-right (numeral w) (in_range (value_of w)) r)
            (a.kept.number_kept (numeral-word i a.fine.sound.plain a.as_form k) k),
      )

  made-class : SoundArgument n t.texts t.numbers (record { item = i; form = 99 }) → right 99
  unfolding arg_of program_of word_reads
  made-class a = (refl, class-ranged i.chars (as-word i 99 refl a.as_form))

  made-label : Declared t (record { item = i; form = 108 }) → right 108
  unfolding arg_of program_of
  made-label d =
      (refl, lt→ltb (label_place t i.chars) (length t.labels) (ahead-below (λ l. bytes_equal i.chars l.name) t.labels (d.label_there tt)))

  made-switch : (b : Bool) → T (different bytes_equal (by_names t.switches)) → Declared t (record { item = i; form = cond b 119 120 }) → right (cond b 119 120)
  unfolding arg_of program_of
  made-switch b u d = go b (found b d)
    where
      found : (b : Bool) → Declared t (record { item = i; form = cond b 119 120 })
          → ((get_or (map (switch_of (label_place t)) t.switches) (switch_place t i.chars) no_switch).goes_by_name ≡ b) × T (any (λ c. bytes_equal i.chars c.name) t.switches)
      found true d = switch-type (label_place t) i.chars true t.switches u (d.switch_there true tt)
      found false d = switch-type (label_place t) i.chars false t.switches u (d.switch_there false tt)

      in_list : T (any (λ c. bytes_equal i.chars c.name) t.switches)
          → T (ltb (switch_place t i.chars) (length (map (switch_of (label_place t)) t.switches)))
      in_list k =
          lt→ltb (switch_place t i.chars) (length (map (switch_of (label_place t)) t.switches))
          (omega (arith, length-map t.switches (switch_of (label_place t)), ahead-below (λ c. bytes_equal i.chars c.name) t.switches k))

      go : (b : Bool)
          → ((get_or (map (switch_of (label_place t)) t.switches) (switch_place t i.chars) no_switch).goes_by_name ≡ b) × T (any (λ c. bytes_equal i.chars c.name) t.switches)
          → right (cond b 119 120)
      go true k = (ap (λ (c : Bool). cond c 119 120) k.0, in_list k.1)
      go false k = (ap (λ (c : Bool). cond c 119 120) k.0, in_list k.1)

  made-letter : (f : ℕ) → Other f → SoundArgument n t.texts t.numbers (record { item = i; form = f }) → right f
  unfolding arg_of
  made-letter f o a =
      let w = i.chars in
      let r = other-reads w f o (as-word i f o.no_t a.as_form) in
      let l : letter_of (head_or 0 w) ≡ r.by = ap letter_of (first_is w f r) ∙ letter_of-code r.by in
      rw (o.no_t, o.no_n, o.no_c, o.no_l, o.no_w, o.no_x, l) (
        sym r.form_is,
        index-ranged (indices (use_of r.by).var) (drop 1 w)
            (T-right (eqb (head_or 0 w) (letter_code r.by)) (is_index (indices (use_of r.by).var) (drop 1 w)) r.indexed),
      )

  made-right : T (different bytes_equal (by_names t.switches)) → (f : ℕ) → SoundArgument n t.texts t.numbers (record { item = i; form = f })
      → Declared t (record { item = i; form = f }) → right f
  made-right u =
      by_form (λ f. SoundArgument n t.texts t.numbers (record { item = i; form = f }) → Declared t (record { item = i; form = f }) → right f)
      (λ a d. made-text a) (λ a d. made-number a) (λ a d. made-class a) (λ a d. made-label d) (λ a d. made-switch true u d) (λ a d. made-switch false u d)
      (λ f o a d. made-letter f o a)

pub argument-right : (ls : List ℕ) (t : Tables) (n : ℕ) → T (different bytes_equal (by_names t.switches)) → (a : Argument) → SoundArgument n t.texts t.numbers a
    → Declared t a
    → (form (program_of ls t) (arg_of t a) ≡ a.form) × T (ranged (program_of ls t) (arg_of t a))
argument-right ls t n u a h d = made-right ls t n a.item u a.form h d
