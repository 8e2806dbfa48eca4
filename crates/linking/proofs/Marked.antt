-- The names that a text uses, as marks in the draft of its program. SKONA, WYNA and SZUKAJ take a switch by name, SKOIN and WYIN one by index.
use mathlib.Core.Path.{◌≡◌, refl, sym, ap, ◌∙◌, subst}
use mathlib.Core.Bool.{Bool, true, false, cond, not, ◌&&◌, ◌||◌, beq}
use mathlib.Core.List.{List, [], ◌∷◌, ◌++◌, map, map-append, append-nil}
use Prim.Native.Nat.{ℕ, ◌+◌, ◌*◌, ◌/◌, ◌≤◌, ◌<◌}
use Prim.Native.String.{String}
use native.Mathlib.Omega.{arith}
use lib.Dec.{T, eqb}
use lib.ListN.{length, get_or, drop}
use lib.IntN.{ℤ}
use borrow.Author.Tests.{eqb-true}
use Rattle.acceptance.specs.Drafts.{SoundArgument, SoundWritten}
use Rattle.acceptance.proofs.RowLaws.{each-every, each_map}
use Rattle.drafts.specs.Drafting.{draft_arg, draft_instr}
use Rattle.drafts.specs.DraftingLaws.{place-back}
use Rattle.drafts.specs.Marks.{mark, place_by, word_by}
use Rattle.drafts.specs.Tabled.{Spelt}
use Rattle.language.specs.Instructions.{operation, operator_of}
use Rattle.language.specs.Letters.{Letter}
use Rattle.language.specs.Program.{Arg, Instr, Program, identifier, classes, Op}
use Rattle.language.specs.Program.Arg.{nothing, letter, label, switch, class, text}
use Rattle.language.specs.Values.{amount, value_of}
use Rattle.layout.specs.Bounds.{Each}
use Rattle.layout.specs.Table.{arg_cell}
use Rattle.lists.specs.Lists.{among, each, keep, filled, head_or, all, any}
use Rattle.lists.specs.Quoted.{bytes}
use Rattle.linking.proofs.Uses.{kind_of, cell-kind, of-kind}
use Rattle.linking.specs.Lookup.{marks_in, instr_marks, instr_uses, names_number}
use Rattle.syntax.specs.ArgumentForms.{form_in, word_reads, reads, Argument, of_form, letter_of, alternatives}
use Rattle.syntax.specs.Items.{Item, is}
use Rattle.syntax.specs.Items.Sort.{word, text as quoted}
use Rattle.syntax.specs.Tables.{Written}
use Rattle.acceptance.specs.Reading.{fits}
use Rattle.layout.proofs.ArgumentLaws.{operator-back, operator-below}
use Rattle.lists.specs.ListLaws.{T-left, T-right, all_among}
use Rattle.lists.specs.TableLaws.{below}

-- a form fits an operator of a type
abbrev ok : Bool → ℕ → Bool
ok b f = (not (form_in "w" f) || b) && (not (form_in "x" f) || not b)

abbrev right : Op → Bool
right o = all (λ a. all (λ fs. all (ok (names_number (operation o).number)) fs) a) (alternatives o)

op-right : (o : Op) → T (right o)
op-right o = subst (λ (x : Op). T (right x)) (operator-back o) (below (λ n. right (operator_of n)) 64 tt (operation o).number (operator-below o))

module _ (q : ℕ → Bool) where
  fit-right : (xs : List Argument) (a : List (List ℕ)) → T (fits xs a) → T (all (λ fs. all q fs) a) → Each (λ x. T (q x.form)) xs
  fit-right [] a h k = tt
  fit-right (x ∷ xs) [] h k = absurd h
  fit-right (x ∷ xs) (fs ∷ a) h k = (
    all_among q fs (T-left (all q fs) (all (λ fs. all q fs) a) k) x.form (T-left (among x.form fs) (fits xs a) h),
    fit-right xs a (T-right (among x.form fs) (fits xs a) h) (T-right (all q fs) (all (λ fs. all q fs) a) k),
  )

  any-right : (xs : List Argument) (bs : List (List (List ℕ))) → T (any (fits xs) bs) → T (all (λ a. all (λ fs. all q fs) a) bs) → Each (λ x. T (q x.form)) xs
  any-right xs [] h k = absurd h
  any-right xs (a ∷ bs) h k = go (fits xs a) refl h (λ u. any-right xs bs u (T-right (all (λ fs. all q fs) a) (all (λ a. all (λ fs. all q fs) a) bs) k))
    where
      go : (b : Bool) → fits xs a ≡ b → T (b || any (fits xs) bs) → (T (any (fits xs) bs) → Each (λ x. T (q x.form)) xs) → Each (λ x. T (q x.form)) xs
      go true e u f = fit-right xs a (subst T (sym e) tt) (T-left (all (λ fs. all q fs) a) (all (λ a. all (λ fs. all q fs) a) bs) k)
      go false e u f = f u

ok-forms : (b x y named : Bool) → T ((not (x || false) || b) && (not (y || false) || not b)) → cond named (x || false) (y || false) ≡ (beq named b && (x || (y || false)))
ok-forms true x true named h = absurd (T-right (not (x || false) || true) false h)
ok-forms true x false true h = refl
ok-forms true x false false h = refl
ok-forms false true y named h = absurd h
ok-forms false false y true h = refl
ok-forms false false y false h = refl

form-by : (named : Bool) (f : ℕ) → form_in (cond named "w" "x") f ≡ cond named (eqb f 119 || false) (eqb f 120 || false)
form-by true f = refl
form-by false f = refl

-- an argument is a switch of a type where the operator takes that type
pub switch-forms : (o : Op) (xs : List Argument) → T (any (fits xs) (alternatives o)) → (named : Bool)
    → Each (λ x. form_in (cond named "w" "x") x.form ≡ (beq named (names_number (operation o).number) && form_in "wx" x.form)) xs
switch-forms o xs h named =
    let b : Bool = names_number (operation o).number in
    each_map (λ x. T (ok b x.form)) _ (λ x e. form-by named x.form ∙ ok-forms b (eqb x.form 119) (eqb x.form 120) named e) xs (any-right (ok b) xs (alternatives o) h (op-right o))

-- ---- the mark of an argument

of-its-kind : (kind m : ℕ) → kind < 8 → marks_in kind (kind + 8 * m) ≡ m ∷ []
of-its-kind kind m h = of-kind kind (kind + 8 * m) (omega (arith, h)) ∙ ap (λ (k : ℕ). k ∷ []) (let z : (kind + 8 * m) / 8 ≡ m = omega (arith, h) in z)

of-another : (p : Program) (kind : ℕ) (a : Arg) → eqb (kind_of a) kind ≡ false → marks_in kind (arg_cell p a) ≡ []
of-another p kind a e = ap (λ (k : ℕ). cond (eqb k kind) (arg_cell p a / 8 ∷ []) []) (cell-kind p a) ∙ ap (λ (b : Bool). cond b (arg_cell p a / 8 ∷ []) []) e

-- the cases of an argument, as load tells them apart
abbrev pub by_form : Bool → Bool → Bool → Bool → Bool → List ℕ → ℤ → List ℕ → Arg → Arg → Letter → ℕ → Arg
by_form bt bn bc bl bw w z cs l x y n = cond bt (text w) (cond bn (Arg.number z) (cond bc (class cs) (cond bl l (cond bw x (letter y n)))))

other-kinds : (bt bn bc bl bw : Bool) (w : List ℕ) (z : ℤ) (cs : List ℕ) (m k : ℕ) (y : Letter) (n : ℕ)
    → let a : Arg = by_form bt bn bc bl bw w z cs (label m) (switch k) y n in (bl ≡ false → eqb (kind_of a) 2 ≡ false) × (bw ≡ false → eqb (kind_of a) 3 ≡ false)
other-kinds true bn bc bl bw w z cs m k y n = (λ e. refl, λ e. refl)
other-kinds false true bc bl bw w z cs m k y n = (λ e. refl, λ e. refl)
other-kinds false false true bl bw w z cs m k y n = (λ e. refl, λ e. refl)
other-kinds false false false true bw w z cs m k y n = (λ e. e, λ e. refl)
other-kinds false false false false true w z cs m k y n = (λ e. refl, λ e. e)
other-kinds false false false false false w z cs m k y n = (λ e. refl, λ e. refl)

-- one of some forms
some-form : (P : ℕ → Type 0) (fs : List ℕ) → Each P fs → (f : ℕ) → T (among f fs) → P f
some-form P [] e f h = absurd h
some-form P (x ∷ fs) e f h = go (eqb f x) refl h (some-form P fs e.1 f)
  where
    go : (b : Bool) → eqb f x ≡ b → T (b || among f fs) → (T (among f fs) → P f) → P f
    go true q h r = subst P (sym (eqb-true f x q)) e.0
    go false q h r = r h

abbrev draft_by : ℕ → Item → Arg
draft_by f i =
    by_form (form_in "t" f) (form_in "n" f) (form_in "c" f) (form_in "l" f) (form_in "wx" f) i.chars (value_of i.chars) (classes i.chars) (label (mark i)) (switch (mark i))
    (letter_of (head_or 0 i.chars)) (amount 0 (drop 1 i.chars))

module _ (p : Program) (f : ℕ) (i : Item) where
  others : (form_in "l" f ≡ false → eqb (kind_of (draft_by f i)) 2 ≡ false) × (form_in "wx" f ≡ false → eqb (kind_of (draft_by f i)) 3 ≡ false)
  others =
      other-kinds (form_in "t" f) (form_in "n" f) (form_in "c" f) (form_in "l" f) (form_in "wx" f) i.chars (value_of i.chars) (classes i.chars) (mark i) (mark i)
      (letter_of (head_or 0 i.chars)) (amount 0 (drop 1 i.chars))

  marks-by : (kind : ℕ) → kind < 8 → (b : Bool) → (T b → arg_cell p (draft_by f i) ≡ kind + 8 * mark i) → (b ≡ false → eqb (kind_of (draft_by f i)) kind ≡ false)
      → marks_in kind (arg_cell p (draft_by f i)) ≡ cond b (mark i ∷ []) []
  marks-by kind l true c o = ap (marks_in kind) (c tt) ∙ of-its-kind kind (mark i) l
  marks-by kind l false c o = of-another p kind (draft_by f i) (o refl)

  labels_by : marks_in 2 (arg_cell p (draft_by f i)) ≡ cond (form_in "l" f) (mark i ∷ []) []
  labels_by = marks-by 2 (omega arith) (form_in "l" f) (some-form (λ (g : ℕ). arg_cell p (draft_by g i) ≡ 2 + 8 * mark i) (bytes "l") (refl, tt) f) others.0

  switches-by : marks_in 3 (arg_cell p (draft_by f i)) ≡ cond (form_in "wx" f) (mark i ∷ []) []
  switches-by = marks-by 3 (omega arith) (form_in "wx" f) (some-form (λ (g : ℕ). arg_cell p (draft_by g i) ≡ 3 + 8 * mark i) (bytes "wx") (refl, (refl, tt)) f) others.1

-- ---- the marks of an instruction

-- the mark of an argument of some forms
abbrev one : String → Argument → List ℕ
one fs a = cond (form_in fs a.form) (mark a.item ∷ []) []

marked-cons : (fs : String) (a : Argument) (bs : List Argument) → map (λ i. mark i) (of_form fs (a ∷ bs)) ≡ one fs a ++ map (λ i. mark i) (of_form fs bs)
marked-cons fs a bs = go (form_in fs a.form)
  where
    go : (b : Bool) → map (λ i. mark i) (map (λ a. a.item) (cond b (a ∷ keep (λ a. form_in fs a.form) bs) (keep (λ a. form_in fs a.form) bs)))
        ≡ cond b (mark a.item ∷ []) [] ++ map (λ i. mark i) (of_form fs bs)
    go true = refl
    go false = refl

-- the three cells of an instruction, where each argument's marks are those of its forms
three : (p : Program) (kind : ℕ) (fs : String) → marks_in kind 0 ≡ [] → (bs : List Argument) → length bs ≤ 3
    → Each (λ a. marks_in kind (arg_cell p (draft_arg a)) ≡ one fs a) bs
    → marks_in kind (arg_cell p (get_or (map draft_arg bs) 0 nothing)) ++ (marks_in kind (arg_cell p (get_or (map draft_arg bs) 1 nothing)) ++ marks_in kind (arg_cell p (get_or (map draft_arg bs) 2 nothing)))
    ≡ map (λ i. mark i) (of_form fs bs)
three p kind fs z [] l e = λ j. z j ++ (z j ++ z j)
three p kind fs z (a ∷ []) l e = (λ j. e.0 j ++ (z j ++ z j)) ∙ sym (marked-cons fs a [])
three p kind fs z (a ∷ b ∷ []) l e = (λ j. e.0 j ++ (e.1.0 j ++ z j)) ∙ sym (marked-cons fs a (b ∷ []) ∙ ap (λ (x : List ℕ). one fs a ++ x) (marked-cons fs b []))
three p kind fs z (a ∷ b ∷ c ∷ []) l e =
    (λ j. e.0 j ++ (e.1.0 j ++ e.1.1.0 j))
    ∙ sym (marked-cons fs a (b ∷ c ∷ []) ∙ ap (λ (x : List ℕ). one fs a ++ x) (marked-cons fs b (c ∷ []) ∙ ap (λ (x : List ℕ). one fs b ++ x) (marked-cons fs c [] ∙ append-nil (one fs c))))
three p kind fs z (a ∷ b ∷ c ∷ d ∷ bs) l e = absurd (omega (arith, l))

module _ (lines : List ℕ) (n : ℕ) (p : Program) (texts : List (List ℕ)) (numbers : List ℤ) (w : Written) (h : SoundWritten n texts numbers w) where
  pub label-uses : (named : Bool) → instr_uses 2 named p (draft_instr lines w) ≡ map (λ i. mark i) (of_form "l" w.args)
  unfolding instr_uses draft_instr draft_arg
  label-uses named = three p 2 "l" refl w.args h.few (each-every _ (λ a. labels_by p a.form a.item) w.args)

  -- where the operator takes the type, all switches are of it; where not, none is
  typed : (n named : Bool) → Each (λ x. form_in (cond named "w" "x") x.form ≡ (beq named n && form_in "wx" x.form)) w.args
      → cond (beq named n) (instr_marks 3 p (draft_instr lines w)) [] ≡ map (λ i. mark i) (of_form (cond named "w" "x") w.args)
  unfolding draft_instr draft_arg
  typed n named e = go (beq named n) e
    where
      none_of : (bs : List Argument) → Each (λ x. form_in (cond named "w" "x") x.form ≡ false) bs → [] ≡ map (λ i. mark i) (of_form (cond named "w" "x") bs)
      none_of [] u = refl
      none_of (b ∷ bs) u =
          none_of bs u.1
          ∙ sym (marked-cons (cond named "w" "x") b bs ∙ ap (λ (x : Bool). cond x (mark b.item ∷ []) [] ++ map (λ i. mark i) (of_form (cond named "w" "x") bs)) u.0)

      go : (q : Bool) → Each (λ x. form_in (cond named "w" "x") x.form ≡ (q && form_in "wx" x.form)) w.args
          → cond q (instr_marks 3 p (draft_instr lines w)) [] ≡ map (λ i. mark i) (of_form (cond named "w" "x") w.args)
      go true u =
          three p 3 (cond named "w" "x") refl w.args h.few
          (each_map _ _ (λ a e. switches-by p a.form a.item ∙ ap (λ (x : Bool). cond x (mark a.item ∷ []) []) (sym e)) w.args u)
      go false u = none_of w.args u

  pub switch-uses : (named : Bool) → instr_uses 3 named p (draft_instr lines w) ≡ map (λ i. mark i) (of_form (cond named "w" "x") w.args)
  unfolding instr_uses draft_instr
  switch-uses named = typed (names_number (operation w.op).number) named (switch-forms w.op w.args h.fit named)

-- ---- the marks of a text

pub all-uses : (lines : List ℕ) (u : Instr → List ℕ) (fs : String) (ws : List Written) → Each (λ w. u (draft_instr lines w) ≡ map (λ i. mark i) (of_form fs w.args)) ws
    → each u (map (draft_instr lines) ws) ≡ map (λ i. mark i) (each (λ w. of_form fs w.args) ws)
all-uses lines u fs [] e = refl
all-uses lines u fs (w ∷ ws) e = (λ j. e.0 j ++ all-uses lines u fs ws e.1 j) ∙ sym (map-append (λ i. mark i) (of_form fs w.args) (each (λ w. of_form fs w.args) ws))

-- ---- names that are used

-- the mark of an item gives its characters and its place
pub record Used (s : List ℕ) (i : Item) : Type 0 where
  pub spells : word_by s (mark i) ≡ i.chars
  pub place : place_by (mark i) ≡ i.at

named-word : (i : Item) → T (identifier i.chars) → is quoted i ≡ false → T (is word i || is quoted i || not (filled i.chars)) → T (is word i)
named-word i h e k = go (is word i) (is quoted i) i.chars e h k
  where
    go : (a b : Bool) (v : List ℕ) → b ≡ false → T (identifier v) → T (a || b || not (filled v)) → T a
    go true b v e h k = tt
    go false true v e h k = absurd (subst T e tt)
    go false false [] e h k = absurd h
    go false false (x ∷ v) e h k = k

-- an item that reads as a name is a word
as-name : (i : Item) (t n : Bool) → T (cond (is quoted i) t n) → t ≡ false → T n × (is quoted i ≡ false)
as-name i t n h e = go (is quoted i) h
  where
    go : (b : Bool) → T (cond b t n) → T n × (b ≡ false)
    go true h = absurd (subst T e h)
    go false h = (h, refl)

reads-name : (i : Item) (f : ℕ) → T (form_in "lwx" f) → T (reads i f) → T (identifier i.chars) × (is quoted i ≡ false)
unfolding reads word_reads
reads-name i f k h =
    let one : T (cond (is quoted i) false (identifier i.chars)) → T (identifier i.chars) × (is quoted i ≡ false) = λ u. as-name i false (identifier i.chars) u refl in
    some-form (λ (g : ℕ). T (reads i g) → T (identifier i.chars) × (is quoted i ≡ false)) (bytes "lwx") (one, (one, (one, tt))) f k h

pub used-word : (s : List ℕ) (i : Item) → Spelt s i → T (is word i) → length i.chars ≤ 60 → Used s i
used-word s i h w l = record { spells = h.spells w; place = place-back i.at (length i.chars) (omega arith) }

pub used-argument : (s : List ℕ) (texts : List (List ℕ)) (numbers : List ℤ) (a : Argument) → SoundArgument (length s) texts numbers a → Spelt s a.item → T (form_in "lwx" a.form) → Used s a.item
used-argument s texts numbers a h u k =
    let r = reads-name a.item a.form k h.as_form in
    used-word s a.item u (named-word a.item r.0 r.1 h.fine.sound.plain) h.fine.short
