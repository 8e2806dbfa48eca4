-- What is still to be written, from item to item: the bytes up to the item and behind it stay, and an operator is put in another word.
use Rattle.std.specs.Prelude.{◌≡◌, Bool, ◌&&◌, ◌||◌, ℕ, ◌+◌, ◌-◌, ◌≤◌, length, take, drop}
use Rattle.std.proofs.Math.Path.{refl, ap}
use Rattle.std.proofs.Common.{sym, subst, ◌∙◌, true≢false, arith, length-take, length-drop, take-append-drop, drop-drop, take-add}
use Rattle.std.proofs.Math.Bool.{true, false, not}
use Rattle.std.proofs.lemmas.Bool.{false≢true}
use mathlib.Core.List.{List, [], ◌∷◌, ◌++◌, append_assoc}
use Rattle.syntax.specs.Items.{Item, Sort, same_sort, is, read, named}
use Rattle.syntax.specs.Items.Sort.{separator, word, colon, end, text, wrong}
use Rattle.syntax.specs.Items.Mode.{outside}
use Rattle.syntax.specs.Statements.{is_operator}
use Rattle.editions.specs.Convert.{splice, with_operators}
use Rattle.editions.proofs.LateLaws.{Later, later}
use Rattle.editions.specs.Passing.{remaining, is_awaited, awaited_after, between}
use Rattle.editions.proofs.ReadingLaws.{operators-same}
use Rattle.editions.specs.Rewriting.{operators_in}
use Rattle.editions.proofs.SpliceLaws.{skip_all}

-- the items from place n on: a line here and in `macro_marks`, since the lowest crate that both name is syntax, which would pass it on to all above
abbrev items : List ℕ → ℕ → List Item
items s n = named (read outside n (drop n s))

-- bytes that stay, at once
pub between-joined : (s : List ℕ) (from n m : ℕ) → from ≤ n → n ≤ m → between s from n ++ between s n m ≡ between s from m
between-joined s from n m h k =
    let e : from + (n - from) ≡ n = omega arith in
    let f : n - from + (m - n) ≡ m - from = omega arith in
    ap (λ r. between s from n ++ take (m - n) r) (ap (λ j. drop j s) (sym e) ∙ sym (drop-drop (n - from) from s))
    ∙ sym (take-add (n - from) (m - n) (drop from s))
    ∙ ap (λ j. take j (drop from s)) f

pub between-last : (s : List ℕ) (from n : ℕ) → from ≤ n → between s from n ++ drop n s ≡ drop from s
between-last s from n h =
    let e : from + (n - from) ≡ n = omega arith in
    ap (λ r. between s from n ++ r) (ap (λ j. drop j s) (sym e) ∙ sym (drop-drop (n - from) from s)) ∙ take-append-drop (n - from) (drop from s)

module _ (turn : List ℕ → List ℕ) (s : List ℕ) where
  -- at first all is still to be written
  pub remaining-all : remaining turn true s 0 ≡ with_operators turn s
  unfolding remaining with_operators
  remaining-all = ap (splice turn 0 s) (sym (operators-same (items s 0)))

  -- where no item follows, the rest stays
  pub remaining-last : (awaited : Bool) (n : ℕ) → items s n ≡ [] → remaining turn awaited s n ≡ drop n s
  unfolding remaining operators_in splice
  remaining-last awaited n e = ap (λ js. splice turn n (drop n s) (operators_in awaited js)) e

  -- bytes before the first operator stay
  copied : (n m : ℕ) (os : List Item) → n ≤ m → m ≤ length s → Later m os → splice turn n (drop n s) os ≡ between s n m ++ splice turn m (drop m s) os
  copied n m os low high h =
      let l : length (between s n m) ≡ m - n = omega (arith, length-take (m - n) (drop n s), length-drop n s) in
      let e : n + length (between s n m) ≡ m = omega (arith, l) in
      let f : n + (m - n) ≡ m = omega arith in
      let d : drop (m - n) (drop n s) ≡ drop m s = drop-drop (m - n) n s ∙ ap (λ k. drop k s) f in
      ap (λ r. splice turn n r os) (sym (take-append-drop (m - n) (drop n s)) ∙ ap (λ r. between s n m ++ r) d)
      ∙ skip_all turn n (between s n m) (drop m s) os (subst (λ k. Later k os) (sym e) h)
      ∙ ap (λ k. between s n m ++ splice turn k (drop m s) os) e

  -- an item, after which the others follow from place m on
  module _ (awaited : Bool) (n m : ℕ) (i : Item) (e : items s n ≡ i ∷ items s m) (high : m ≤ length s) where
    after : Later m (operators_in (awaited_after awaited i) (items s m))
    after = later (awaited_after awaited i) outside m (drop m s) tt

    -- all bytes stay where it is no operator, or none that is still to come, or no word
    pub item-stays : is_awaited awaited i ≡ false → n ≤ m → remaining turn awaited s n ≡ between s n m ++ remaining turn (awaited_after awaited i) s m
    unfolding remaining operators_in
    item-stays h low =
        ap (λ js. splice turn n (drop n s) (operators_in awaited js)) e ∙ ap (splice turn n (drop n s)) (others awaited (is end i) (is_operator i) (is word i) refl refl refl h)
        ∙ copied n m (operators_in (awaited_after awaited i) (items s m)) low high after
      where
        others : (p a o w : Bool) → is end i ≡ a → is_operator i ≡ o → is word i ≡ w → (p && o && w) ≡ false
            → operators_in p (i ∷ items s m) ≡ operators_in (a || (p && not o)) (items s m)
        others p true o w x y z h = rw x refl
        others true false true true x y z h = absurd (true≢false h)
        others true false true false x y z h = rw (x, y, z) refl
        others true false false w x y z h = rw (x, y) refl
        others false false o w x y z h = rw x refl

    -- the operator: the bytes up to it, the other word, and the bytes behind it
    pub operator-turned : is_awaited awaited i ≡ true → n ≤ i.at → i.at + length i.chars ≤ m
        → remaining turn awaited s n ≡ between s n i.at ++ turn i.chars ++ between s (i.at + length i.chars) m ++ remaining turn false s m
    unfolding remaining operators_in splice
    operator-turned h low own =
        ap (λ js. splice turn n (drop n s) (operators_in awaited js)) e
        ∙ ap (splice turn n (drop n s)) (first awaited (is_operator i) i.sort refl refl h)
        ∙ put
      where
        os : List Item
        os = operators_in false (items s m)

        past : ℕ
        past = i.at + length i.chars

        first : (p o : Bool) (k : Sort) → is_operator i ≡ o → i.sort ≡ k → (p && o && same_sort word k) ≡ true → operators_in p (i ∷ items s m) ≡ i ∷ os
        first true true word x y h = rw (x, y) refl
        first true true separator x y h = absurd (false≢true h)
        first true true colon x y h = absurd (false≢true h)
        first true true end x y h = absurd (false≢true h)
        first true true text x y h = absurd (false≢true h)
        first true true wrong x y h = absurd (false≢true h)
        first true false k x y h = absurd (false≢true h)
        first false o k x y h = absurd (false≢true h)

        put : splice turn n (drop n s) (i ∷ os) ≡ between s n i.at ++ turn i.chars ++ between s past m ++ splice turn m (drop m s) os
        put =
            let f : n + (past - n) ≡ past = omega (arith, low) in
            let d : drop (past - n) (drop n s) ≡ drop past s = drop-drop (past - n) n s ∙ ap (λ k. drop k s) f in
            ap (λ r. between s n i.at ++ turn i.chars ++ splice turn past r os) d
            ∙ ap (λ r. between s n i.at ++ turn i.chars ++ r) (copied past m os own high (later false outside m (drop m s) tt))
            ∙ sym (append_assoc (between s n i.at ++ turn i.chars) (between s past m) (splice turn m (drop m s) os))
