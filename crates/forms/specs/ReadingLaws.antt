-- The arguments of an instruction, read one by one as `take_argument` does, are those of the specification.
use Rattle.std.specs.Prelude.{◌≡◌, cond, ◌&&◌, ℕ, zero, suc, pred, ◌≤◌, ◌<◌, leb, ltb, length, get_or, drop}
use Rattle.std.proofs.Math.Path.{refl, ap, sym, subst}
use Rattle.std.proofs.Common.{◌∙◌, add-one, arith, eqb→eq, leb→le, ltb→lt, drop-drop}
use Rattle.std.proofs.Math.Bool.{Bool, true, false, not}
use mathlib.Core.List.{List, [], ◌∷◌, map, map-id}
use Rattle.std.specs.Int.Bits.{bit_and}
use Rattle.std.proofs.Math.Dec.{eqb}
use Rattle.std.proofs.lemmas.List.{length-map}
use Rattle.std.proofs.Math.Seq.{drop-nil}
use Rattle.language.specs.Instructions.{operation, operators, is_call, is_end}
use Rattle.language.specs.Program.{Op}
use Rattle.words.proofs.Below.LayoutArgumentLaws.{operator-back}
use Rattle.lists.specs.Lists.{any, ahead, filled, head_or, if_any, keep}
use Rattle.words.specs.Below.ArgumentForms.{reads, Argument, alternatives, accepting, read_by, most, least}
use Rattle.words.specs.Below.Items.{Item}
use Rattle.forms.specs.Forms.{set_of, by_number, listed, set_at, most_of, least_of, calls, ends, only}
use Rattle.forms.specs.Kinds.{item_kinds}
use Rattle.forms.specs.KindLaws.{item-kind}
use Rattle.forms.specs.Reading.{Reads, lives_first, lives_second, chosen, lists_at, shared, taken, taken_at}
use Rattle.forms.specs.SetLaws.{by-operator, shared-form, shared-some}
use Rattle.forms.specs.declared.Live.{Live}

-- an operator by its number
first-kept : {X Y : Type 0} (z : Y) (f : X → Y) (p : X → Bool) (d : X) (xs : List X) → ahead p xs < length xs → if_any z f (keep p xs) ≡ f (get_or xs (ahead p xs) d)
first-kept z f p d [] h = absurd (omega arith)
first-kept z f p d (x ∷ xs) h = go (p x) h (first-kept z f p d xs)
  where
    go : (t : Bool) → elim t [ true ↦ 0 | false ↦ suc (ahead p xs) ] < suc (length xs) → (ahead p xs < length xs → if_any z f (keep p xs) ≡ f (get_or xs (ahead p xs) d))
        → if_any z f (cond t (x ∷ keep p xs) (keep p xs)) ≡ f (get_or (x ∷ xs) (elim t [ true ↦ 0 | false ↦ suc (ahead p xs) ]) d)
    go true h k = refl
    go false h k = k (omega arith)

abbrev place_of : Op → ℕ
place_of o = ahead (λ x. eqb (operation o).number (operation x).number) operators

placed : (o : Op) → place_of o ≡ pred (operation o).number
placed o = eqb→eq (place_of o) (pred (operation o).number) (by-operator (λ x. eqb (place_of x) (pred (operation x).number)) tt o)

within : (o : Op) → place_of o < 41
within o = ltb→lt (place_of o) 41 (by-operator (λ x. ltb (place_of x) 41) tt o)

pub numbered : {X : Type 0} (z : X) (f : Op → X) (o : Op) → by_number z f (operation o).number ≡ f o
numbered z f o =
    first-kept z f (λ x. eqb (operation o).number (operation x).number) Op.STOP operators (within o)
    ∙ ap f (ap (λ (k : ℕ). get_or operators k Op.STOP) (placed o) ∙ operator-back o)

pub set-listed : (o : Op) (list place : ℕ) → set_at (operation o).number list place ≡ set_of (listed o list place)
unfolding set_at
set-listed o list place = numbered 0 (λ x. set_of (listed x list place)) o

pub most-listed : (o : Op) → most_of (operation o).number ≡ most o
unfolding most_of
most-listed o = numbered 0 most o

pub least-listed : (o : Op) → least_of (operation o).number ≡ least o
unfolding least_of
least-listed o = numbered 0 least o

pub calls-listed : (o : Op) → calls (operation o).number ≡ is_call (operation o).flow
unfolding calls
calls-listed o = numbered false (λ x. is_call (operation x).flow) o

pub ends-listed : (o : Op) → ends (operation o).number ≡ is_end (operation o).flow
unfolding ends
ends-listed o = numbered false (λ x. is_end (operation x).flow) o

-- One argument. Of the lists `ys`, two at most, those live that take it, or all where none does
module _ (p : ℕ → Bool) where
  abbrev takes : List (List ℕ) → Bool
  takes a = any p (head_or [] a)

  abbrev form_in : List (List ℕ) → ℕ
  form_in a = head_or 45 (keep p (head_or [] a))

  abbrev left : List (List (List ℕ)) → List (List (List ℕ))
  left ys = cond (filled (keep takes ys)) (keep takes ys) ys

  abbrev form_of : List (List (List ℕ)) → ℕ
  form_of ys = form_in (head_or [] (keep takes ys))

  -- what is taken where the first list takes it by a, and the second by b
  abbrev by_tests : Live → Bool → Bool → ℕ → ℕ → Reads
  by_tests live a b f g =
      cond a
      (cond b (record { form = f; live = Live.Both }) (record { form = f; live = Live.First }))
      (cond b (record { form = g; live = Live.Second }) (record { form = 45; live = live }))

  record Step (ys : List (List (List ℕ))) (live : Live) (t : Reads) : Type 0 where
    form : form_of (chosen live ys) ≡ t.form
    lists : left (chosen live ys) ≡ chosen t.live ys

  two : (x y : List (List ℕ)) (live : Live) (a b : Bool) → takes x ≡ a → takes y ≡ b
      → Step (x ∷ y ∷ []) live (by_tests live (lives_first live && a) (lives_second live && b) (form_in x) (form_in y))
  two x y Live.First true b e f = record { form = rw e; lists = rw e }
  two x y Live.First false b e f = record { form = rw e; lists = rw e }
  two x y Live.Second a true e f = record { form = rw f; lists = rw f }
  two x y Live.Second a false e f = record { form = rw f; lists = rw f }
  two x y Live.Both true true e f = record { form = rw e; lists = rw (e, f) }
  two x y Live.Both true false e f = record { form = rw e; lists = rw (e, f) }
  two x y Live.Both false true e f = record { form = rw (e, f); lists = rw (e, f) }
  two x y Live.Both false false e f = record { form = rw (e, f); lists = rw (e, f) }

  one : (x : List (List ℕ)) (live : Live) (a : Bool) → takes x ≡ a → Step (x ∷ []) live (by_tests live (lives_first live && a) (lives_second live && false) (form_in x) 45)
  one x Live.First true e = record { form = rw e; lists = rw e }
  one x Live.First false e = record { form = rw e; lists = rw e }
  one x Live.Second a e = record { form = refl; lists = refl }
  one x Live.Both true e = record { form = rw e; lists = rw e }
  one x Live.Both false e = record { form = rw e; lists = rw e }

  none : (live : Live) → Step [] live (by_tests live (lives_first live && false) (lives_second live && false) 45 45)
  none Live.First = record { form = refl; lists = refl }
  none Live.Second = record { form = refl; lists = refl }
  none Live.Both = record { form = refl; lists = refl }

  stepped : (ys : List (List (List ℕ))) → length ys ≤ 2 → (live : Live)
      → Step ys live (by_tests live (lives_first live && takes (get_or ys 0 [])) (lives_second live && takes (get_or ys 1 [])) (form_in (get_or ys 0 [])) (form_in (get_or ys 1 [])))
  stepped [] h live = none live
  stepped (x ∷ []) h live = one x live (takes x) refl
  stepped (x ∷ y ∷ []) h live = two x y live (takes x) (takes y) refl refl
  stepped (x ∷ y ∷ z ∷ ys) h live = absurd (omega arith)

-- the same by the sets of forms
taken-by-tests : (p : ℕ → Bool) (live : Live) (a b f g : ℕ) (t u : Bool) → eqb a 0 ≡ not t → eqb b 0 ≡ not u → (t ≡ true → only a ≡ f) → (u ≡ true → only b ≡ g)
    → taken live a b ≡ by_tests p live t u f g
unfolding taken
taken-by-tests p live a b f g true true x y k l = rw (x, y, k refl)
taken-by-tests p live a b f g true false x y k l = rw (x, y, k refl)
taken-by-tests p live a b f g false true x y k l = rw (x, y, l refl)
taken-by-tests p live a b f g false false x y k l = rw (x, y)

head-drop : (k : ℕ) (x : List (List ℕ)) → head_or [] (drop k x) ≡ get_or x k []
head-drop zero [] = refl
head-drop zero (a ∷ x) = refl
head-drop (suc k) [] = refl
head-drop (suc k) (a ∷ x) = head-drop k x

get_d-drops : (k : ℕ) (xs : List (List (List ℕ))) (n : ℕ) → get_or (map (drop k) xs) n [] ≡ drop k (get_or xs n [])
get_d-drops k [] n = sym (drop-nil k)
get_d-drops k (x ∷ xs) zero = refl
get_d-drops k (x ∷ xs) (suc n) = get_d-drops k xs n

chosen-map : (k : ℕ) (live : Live) (xs : List (List (List ℕ))) → map (drop k) (chosen live xs) ≡ chosen live (map (drop k) xs)
chosen-map k Live.First [] = refl
chosen-map k Live.First (x ∷ xs) = refl
chosen-map k Live.Second [] = refl
chosen-map k Live.Second (x ∷ xs) = refl
chosen-map k Live.Both xs = refl

drop-again : (k : ℕ) (xs : List (List (List ℕ))) → map (drop 1) (map (drop k) xs) ≡ map (drop (suc k)) xs
drop-again k [] = refl
drop-again k (x ∷ xs) =
    let e : drop 1 (drop k x) ≡ drop (suc k) x = drop-drop 1 k x ∙ ap (λ (n : ℕ). drop n x) (add-one k) in
    rw (e, drop-again k xs)

kept-reads : (p : ℕ → Bool) (fs : List ℕ) {f : ℕ} → head_or 45 (keep p fs) ≡ f → (f ≡ 45 → ⊥) → p f ≡ true
kept-reads p [] e n = absurd (n (sym e))
kept-reads p (g ∷ fs) {f} e n = go (p g) refl e (λ h. kept-reads p fs h n)
  where
    go : (t : Bool) → p g ≡ t → head_or 45 (cond t (g ∷ keep p fs) (keep p fs)) ≡ f → (head_or 45 (keep p fs) ≡ f → p f ≡ true) → p f ≡ true
    go true h e k = rw (sym e) h
    go false h e k = k e

pub two-lists : (o : Op) → length (alternatives o) ≤ 2
two-lists o = leb→le (length (alternatives o)) 2 (by-operator (λ x. leb (length (alternatives x)) 2) tt o)

module _ (i : Item) (o : Op) (place : ℕ) where
  abbrev p : ℕ → Bool
  p = reads i

  abbrev ys : List (List (List ℕ))
  ys = map (drop place) (alternatives o)

  here : (n : ℕ) → head_or [] (get_or ys n []) ≡ listed o n place
  here n = ap (head_or []) (get_d-drops place (alternatives o) n) ∙ head-drop place (get_or (alternatives o) n [])

  -- what the item shares with list n
  abbrev in_list : Bool → ℕ → ℕ
  in_list lives n = shared lives (item_kinds i) (set_at (operation o).number n place)

  tested : (lives : Bool) (n : ℕ) → eqb (in_list lives n) 0 ≡ not (lives && takes p (get_or ys n []))
  unfolding shared item_kinds
  tested true n =
      let k = item-kind i in
      ap (λ (s : ℕ). eqb (bit_and (item_kinds i) s) 0) (set-listed o n place)
      ∙ shared-some p k.0 k.1 o n place
      ∙ ap (λ (fs : List ℕ). not (any p fs)) (sym (here n))
  tested false n = refl

  formed : (lives : Bool) (n : ℕ) → (lives && takes p (get_or ys n [])) ≡ true → only (in_list lives n) ≡ form_in p (get_or ys n [])
  unfolding shared item_kinds
  formed true n e =
      let k = item-kind i in
      ap (λ (s : ℕ). only (bit_and (item_kinds i) s)) (set-listed o n place)
      ∙ shared-form p k.0 k.1 o n place
      ∙ ap (λ (fs : List ℕ). head_or 45 (keep p fs)) (sym (here n))
  formed false n e = cc

  module _ (live : Live) where
    abbrev t : Reads
    t = taken_at (operation o).number live place (item_kinds i)

    step : Step p ys live t
    unfolding taken_at
    step =
        let a : Bool = lives_first live && takes p (get_or ys 0 []) in
        let b : Bool = lives_second live && takes p (get_or ys 1 []) in
        subst (Step p ys live)
        (sym (taken-by-tests p live (in_list (lives_first live) 0) (in_list (lives_second live) 1) (form_in p (get_or ys 0 [])) (form_in p (get_or ys 1 [])) a b (tested (lives_first live) 0) (tested (lives_second live) 1) (formed (lives_first live) 0) (formed (lives_second live) 1)))
        (stepped p ys (rw (length-map (alternatives o) (drop place)) (two-lists o)) live)

    abbrev read_as : ℕ → Argument
    read_as f = record { item = i; form = f }

    -- the argument's form, and the lists for the arguments after it
    pub argument-read : (js : List Item) → read_by (lists_at o live place) (i ∷ js) ≡ read_as t.form ∷ read_by (lists_at o t.live (suc place)) js
    unfolding read_by accepting
    argument-read js =
        ap (λ (xs : List (List (List ℕ))). read_by xs (i ∷ js)) (chosen-map place live (alternatives o))
        ∙ ap (λ (f : ℕ). read_as f ∷ read_by (map (drop 1) (left p (chosen live ys))) js) step.form
        ∙ ap (λ (xs : List (List (List ℕ))). read_as t.form ∷ read_by xs js)
        (ap (map (drop 1)) (step.lists ∙ sym (chosen-map place t.live (alternatives o))) ∙ drop-again place (chosen t.live (alternatives o)))

    -- a form that is found is one that the item reads as
    pub taken-reads : {f : ℕ} → t.form ≡ f → (f ≡ 45 → ⊥) → reads i f ≡ true
    taken-reads e n = kept-reads p (head_or [] (head_or [] (keep (takes p) (chosen live ys)))) (step.form ∙ e) n

-- at first all lists live
pub lists-first : (o : Op) → alternatives o ≡ lists_at o Live.Both 0
lists-first o = sym (map-id (alternatives o))
