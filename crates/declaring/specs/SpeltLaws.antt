-- The words of a text are its bytes at their places, and only a word takes a colon.
use Rattle.std.specs.Prelude.{◌≡◌, not, ◌&&◌, ◌||◌, T, eqb}
use Rattle.std.proofs.Math.Path.{refl, sym, ap}
use Rattle.std.proofs.Common.{◌∙◌, arith, take-append-drop, length-take-le, take_at, drop_at}
use Rattle.std.proofs.Math.Bool.{Bool, true, false, cond}
use mathlib.Core.List.{List, [], ◌∷◌, ◌++◌, append_assoc}
use Prim.Native.Nat.{ℕ, ◌+◌, ◌≤◌}
use Rattle.std.proofs.Math.ListN.{length, get_or, take, drop, length-append}
use Rattle.names.proofs.Below.RowLaws.{each_map, each_both}
use Rattle.names.specs.Below.DraftingLaws.{place-back, length_back}
use Rattle.names.specs.Below.DraftsMarks.{mark, place_by, word_by}
use Rattle.names.specs.Below.Tabled.{Spelt}
use Rattle.language.specs.Limits as limit
use Rattle.layout.specs.Bounds.{Each}
use Rattle.layout.proofs.CellLaws.{each_append, each-drop}
use Rattle.lists.specs.Lists.{filled, head_or, if_any}
use Rattle.lists.specs.ListLaws.{T-left}
use Rattle.statements.specs.StatementAt.{statement_at}
use Rattle.syntax.specs.Items.{Sort, sort_of, same_sort, Item, is, places, a_word, a_text, a_mark, ends_text, takes_next, char_of, allows, Mode, opens, begins, itself, mode_after, items_at, left_over, read, attach, named, parted, statements}
use Rattle.syntax.specs.Items.Sort.{separator, word, colon, end, text, wrong}
use Rattle.syntax.specs.Items.Stage.{first-star, inside, last-slash}
use Rattle.syntax.specs.Items.Mode.{outside, in_word, in_comment, in_text}

abbrev pub plain : Item → Bool
plain i = is word i || not (filled i.colon)

module _ (s : List ℕ) where
  -- the bytes of a word stand at its place
  pub record StandsAt (i : Item) : Type 0 where
    pub within : i.at + length i.chars ≤ length s
    pub is : take (length i.chars) (drop i.at s) ≡ i.chars

  abbrev AsWritten : Item → Type 0
  AsWritten i = (T (is word i) → StandsAt i) × T (plain i)

  -- what the reader has of a word: its bytes are the last of those before it
  abbrev Begun : List ℕ → Mode → Type 0
  Begun before outside = Unit {0}
  Begun before (in_word at w) = (front : List ℕ) × ((before ≡ front ++ w) × (length front ≡ at))
  Begun before (in_comment at k) = Unit {0}
  Begun before (in_text at star cs good) = Unit {0}

  itself-written : (k : Sort) (n b next : ℕ) → Each AsWritten (itself k n b next)
  unfolding itself
  itself-written separator n b next = tt
  itself-written word n b next = tt
  itself-written colon n b next = (((λ h. absurd h), tt), tt)
  itself-written end n b next = (((λ h. absurd h), tt), tt)
  itself-written text n b next = tt
  itself-written wrong n b next = elim (opens b next) as (λ t. Each AsWritten (cond t [] (a_mark wrong n ∷ []))) [ true ↦ tt | false ↦ (((λ h. absurd h), tt), tt) ]

  -- a word that ends is as it is written
  word_written : (before r w : List ℕ) (at : ℕ) → s ≡ before ++ r → Begun before (in_word at w) → StandsAt (a_word at w)
  word_written before r w at e (front, (f, g)) =
      let h : s ≡ front ++ (w ++ r) = e ∙ ap (λ (v : List ℕ). v ++ r) f ∙ append_assoc front w r in
      record {
        within = omega (arith, ap length h, length-append front (w ++ r), length-append w r, g);
        is = ap (λ (v : List ℕ). take (length w) (drop at v)) h ∙ ap (take (length w)) (drop_at front (w ++ r) at g) ∙ take_at w r (length w) refl;
      }

  module _ (before r : List ℕ) (b n next : ℕ) (e : s ≡ before ++ (b ∷ r)) (f : length before ≡ n) where
    abbrev then : List ℕ
    then = before ++ (b ∷ [])

    begins-begun : (k : Sort) → Begun then (begins k n b next)
    unfolding begins
    begins-begun separator = tt
    begins-begun word = (before, (refl, f))
    begins-begun colon = tt
    begins-begun end = tt
    begins-begun text = tt
    begins-begun wrong = elim (opens b next) as (λ t. Begun then (cond t (in_comment n first-star) outside)) [ true ↦ tt | false ↦ tt ]

    step-written : (m : Mode) → Begun before m → Each AsWritten (items_at m n b next) × Begun then (mode_after m n b next)
    unfolding items_at mode_after
    step-written outside h = (itself-written (sort_of b) n b next, begins-begun (sort_of b))
    step-written (in_word at w) (front, (g, k)) =
        elim (same_sort word (sort_of b)) as (λ t. Each AsWritten (cond t [] (a_word at w ∷ itself (sort_of b) n b next)) × Begun then (cond t (in_word at (w ++ (b ∷ []))) (begins (sort_of b) n b next))) [
          | true ↦ (tt, (front, (ap (λ (v : List ℕ). v ++ (b ∷ [])) g ∙ append_assoc front w (b ∷ []), k)))
          | false ↦ ((((λ h. word_written before (b ∷ r) w at e (front, (g, k))), tt), itself-written (sort_of b) n b next), begins-begun (sort_of b))
        ]
    step-written (in_comment at first-star) h = (tt, tt)
    step-written (in_comment at inside) h = (tt, tt)
    step-written (in_comment at last-slash) h = (tt, tt)
    step-written (in_text at star cs good) h = go (ends_text star b) (eqb b 39)
      where
        go : (t u : Bool) → Each AsWritten (cond t (a_text at cs (good && u) ∷ cond u [] (a_mark end n ∷ [])) []) × Begun then (cond t outside (in_text at (takes_next star b) (cs ++ char_of star b) (good && allows star b)))
        go true true = ((((λ h. absurd h), tt), tt), tt)
        go true false = ((((λ h. absurd h), tt), (((λ h. absurd h), tt), tt)), tt)
        go false u = (tt, tt)

  left-written : (m : Mode) (before : List ℕ) → s ≡ before ++ [] → Begun before m → Each AsWritten (left_over m)
  unfolding left_over
  left-written outside before e h = tt
  left-written (in_word at w) before e h = (((λ k. word_written before [] w at e h), tt), tt)
  left-written (in_comment at k) before e h = (((λ k. absurd k), tt), tt)
  left-written (in_text at star cs good) before e h = (((λ k. absurd k), tt), tt)

  read-written : (m : Mode) (n : ℕ) (before r : List ℕ) → s ≡ before ++ r → length before ≡ n → Begun before m → Each AsWritten (read m n r)
  unfolding read
  read-written m n before [] e f h = left-written m before e h
  read-written m n before (b ∷ r) e f h =
      let next : ℕ = get_or r 0 0 in
      let q = step-written before r b n next e f m h in
      let l : length (before ++ (b ∷ [])) ≡ n + 1 = omega (arith, length-append before (b ∷ []), f) in
      each_append AsWritten (items_at m n b next) (read (mode_after m n b next) (n + 1) r) q.0
      (read-written (mode_after m n b next) (n + 1) (before ++ (b ∷ [])) r (e ∙ sym (append_assoc before (b ∷ []) r)) l q.1)

  attach-written : (i : Item) (js : List Item) → AsWritten i → Each AsWritten js → Each AsWritten (attach i js)
  unfolding attach
  attach-written i js h k =
      let c : Bool = is word i && if_any false (is colon) js in
      elim c as (λ b. c ≡ b → Each AsWritten (cond b (record { at = i.at; sort = word; chars = i.chars; good = i.good; colon = places (take 1 js) } ∷ drop 1 js) (i ∷ js))) [
        | true ↦ λ e.
            let w = h.0 (T-left (is word i) (if_any false (is colon) js) (rw e tt)) in
            (((λ q. record { within = w.within; is = w.is }), tt), each-drop AsWritten 1 js k)
        | false ↦ λ e. (h, k)
      ] refl

  named-written : (js : List Item) → Each AsWritten js → Each AsWritten (named js)
  unfolding named
  named-written [] h = tt
  named-written (i ∷ js) h = attach-written i (named js) h.0 (named-written js h.1)

  first-written : (js : List Item) → Each AsWritten js → Each AsWritten (head_or [] (statements js))
  unfolding statements parted
  first-written [] h = tt
  first-written (i ∷ js) h =
      elim (is end i) as (λ t. Each AsWritten (head_or [] (cond t ([] ∷ statements js) ((i ∷ head_or [] (statements js)) ∷ drop 1 (statements js))))) [
        | true ↦ tt
        | false ↦ (h.0, first-written js h.1)
      ]

  -- the items of a statement
  statement-written : (n : ℕ) → n ≤ length s → Each AsWritten (statement_at s n)
  unfolding statement_at
  statement-written n h =
      first-written (named (read outside n (drop n s)))
      (named-written (read outside n (drop n s))
      (read-written outside n (take n s) (drop n s) (sym (take-append-drop n s)) (length-take-le n s h) tt))

  pub statement-plain : (n : ℕ) → n ≤ length s → Each (λ i. T (plain i)) (statement_at s n)
  statement-plain n h = each_map AsWritten _ (λ i e. e.1) (statement_at s n) (statement-written n h)

  spelt-item : (i : Item) → AsWritten i → length i.chars ≤ limit.item → Spelt s i
  unfolding word_by
  spelt-item i (h, p) l =
      let a = place-back i.at (length i.chars) (omega arith) in
      let b = length_back i.at (length i.chars) (omega arith) in
      record {
        is_there = λ q. omega (arith, a, b, (h q).within);
        spells = λ q. ap (λ (m : ℕ). take m (drop (place_by (mark i)) s)) b ∙ ap (λ (m : ℕ). take (length i.chars) (drop m s)) a ∙ (h q).is;
      }

  -- "Each length within 60?": then its marks name its words
  pub statement-spelt : (n : ℕ) → n ≤ length s → Each (λ i. length i.chars ≤ limit.item) (statement_at s n) → Each (Spelt s) (statement_at s n)
  statement-spelt n h k =
      each_map _ _ (λ i e. spelt-item i e.0 e.1) (statement_at s n) (each_both AsWritten (λ i. length i.chars ≤ limit.item) (statement_at s n) (statement-written n h) k)
