-- The text is copied, and then each joining apostrophe becomes a star, from item to item.
use mathlib.Core.Path.{◌≡◌, refl, ap, sym, subst, ◌∙◌}
use mathlib.Core.Bool.{Bool, true, false, cond, ◌&&◌, and-false, false≢true}
use mathlib.Core.List.{List, [], ◌∷◌, ◌++◌, append_assoc}
use Prim.Native.Nat.{ℕ, ◌+◌, ◌≤◌, ◌<◌}
use Rattle.std.specs.Prelude.{Option, Some, None, is_some}
use native.Mathlib.Omega.{arith}
use lib.Dec.{eqb}
use lib.ListN.{length, drop, set, length-append, length-drop, length-set}
use lib.Seq.{set_at}
use Rattle.std.proofs.lemmas.Bool.{and_parts}
use Rattle.language.specs.Program.{identifier}
use Rattle.lexer.specs.declared.Token.{Token}
use Rattle.lexer.specs.Tokens.{item_of, chars_of, TokenAt}
use Rattle.lexer.proofs.Finding.{one_sort}
use Rattle.scanner.specs.declared.Sort.{Sort}
use Rattle.scanner.specs.Sorts.{sort_in}
use Rattle.macros.specs.Marks.{byte_at, Part, item_passed, parameters_in, marked_from, marked}
use Rattle.macros.specs.Marks.Part.{before, in_body}
use Rattle.syntax.specs.Items.{is, same_sort}
use Rattle.syntax.specs.Items.Sort.{word}
use Rattle.syntax.specs.Items.Mode.{outside}
use Rattle.syntax.specs.Scan.{word_length}
use Rattle.macro_marks.specs.declared.ListPart.{ListPart}
use Rattle.macro_marks.specs.declared.ListPart.TheVariants.{Before, First, AtList, After, Header, Body}
use Rattle.macro_marks.specs.Parts.{part_behind, parameters, parameters_of, word_from, word_joins, joined, JoinableIn}
use Rattle.macro_marks.proofs.Leading.{reader}
use Rattle.macro_marks.proofs.Behind.{none-leads, passes_on}
use Rattle.macro_marks.proofs.Joining.{Joined, joined-on}
use Rattle.macro_marks.proofs.Parting.{Known, known-within, known-parameters, known_on}

-- ---- the stars

regroup : (d b a y : List ℕ) (x : ℕ) → d ++ (b ++ (x ∷ (a ++ y))) ≡ (d ++ (b ++ (x ∷ a))) ++ y
regroup d b a y x = sym (append_assoc d (b ++ (x ∷ a)) y ∙ ap (λ (w : List ℕ). d ++ w) (append_assoc b (x ∷ a) y))

starred : (d b r : List ℕ) (x y n : ℕ) → n ≡ length d + length b → set (d ++ (b ++ (x ∷ r))) n y ≡ d ++ (b ++ (y ∷ r))
starred d b r x y n h =
    rw (sym (append_assoc d b (x ∷ r))) (set_at (d ++ b) x r y n (simp length-append (omega arith)) ∙ append_assoc d b (y ∷ r))

-- before place n the stars stand
pub record Marking (s m : List ℕ) (c : ListPart) (n : ℕ) : Type 0 where
  pub most : n ≤ length s
  pub same : length m ≡ length s
  where-in : Part
  known : Known s n c where-in
  done : List ℕ
  size : n ≡ length done
  holds : m ≡ done ++ drop n s
  is : marked s ≡ done ++ marked_from (reader outside where-in false) n (drop n s)

pub marking-first : {s m : List ℕ} → m ≡ s → Marking s m Before 0
marking-first {s} {m} h = record { most = omega arith; same = ap length h; where-in = before; known = refl; done = []; size = refl; holds = h; is = refl }

nothing-joins : (s w : List ℕ) (e : ℕ) (b : Bool) → (b && word_joins s w [] e) ≡ false
nothing-joins s w e b = rw (and-false (eqb (byte_at s e) 39 && identifier w && identifier (word_from s (e + 1))), and-false b) refl

word-stays : (h : ℕ) (k : Option Sort) (b e : ℕ) → same_sort word (sort_in k) ≡ true → part_behind (Body h) k b e ≡ Body h
word-stays h k b e q = rw (one_sort (Some Sort.Word) k q) refl

module _ {s m : List ℕ} {c : ListPart} {n : ℕ} {t : Token} (u : Marking s m c n) (k : TokenAt s n t) where
  pub joinable : JoinableIn s c t
  joinable = record { stands = k.stands; within = known-within s n c u.where-in u.known }

  pub all-marked : t.sort ≡ None → m ≡ marked s
  unfolding marked_from
  all-marked z =
      let g = none-leads k u.most u.where-in z in
      let p : m ≡ u.done ++ (g.2.bytes ++ []) = u.holds ∙ ap (λ (w : List ℕ). u.done ++ w) (g.2.is ∙ rw g.1 refl) in
      let q : marked s ≡ u.done ++ (g.2.bytes ++ []) = u.is ∙ ap (λ (w : List ℕ). u.done ++ w) (g.2.gives ∙ rw g.1 refl) in
      p ∙ sym q

  module _ (z : is_some t.sort ≡ true) where
    abbrev test : ListPart → Bool
    test d = same_sort word (sort_in t.sort) && word_joins s (chars_of s t) (parameters_of s d) t.next

    abbrev far : ℕ
    far = t.next + 1 + word_length (drop (t.next + 1) s)

    -- behind an item to which nothing is joined
    over : test c ≡ false → Marking s m (part_behind c t.sort (byte_at s t.at) t.next) t.next
    over e =
        let p = known-parameters s n c u.where-in u.known in
        let f : (is word (item_of s t) && word_joins s (chars_of s t) (parameters_in u.where-in) t.next) ≡ false = rw (sym p) e in
        let g = passes_on k u.most u.where-in z f in
        record {
          most = k.stands.most;
          same = u.same;
          where-in = item_passed u.where-in (byte_at s t.at) (item_of s t);
          known = known_on k z c u.where-in u.known;
          done = u.done ++ g.bytes;
          size = simp length-append (omega (arith, u.size, g.size));
          holds = u.holds ∙ ap (λ (w : List ℕ). u.done ++ w) g.is ∙ sym (append_assoc u.done g.bytes (drop t.next s));
          is = u.is ∙ ap (λ (w : List ℕ). u.done ++ w) g.gives
              ∙ sym (append_assoc u.done g.bytes (marked_from (reader outside (item_passed u.where-in (byte_at s t.at) (item_of s t)) false) t.next (drop t.next s)));
        }

    -- behind a parameter that is joined to a word
    across : (h : ℕ) → u.where-in ≡ in_body (parameters s h) → h ≤ length s → Joined s (in_body (parameters s h)) n t.next far → (t.next < length m) × Marking s (set m t.next 42) (Body h) far
    across h p l j =
        let ps = parameters s h in
        let d = u.done in
        let size : length (drop n s) ≡ length j.before + (1 + (length j.after + length (drop far s))) = ap length j.is ∙ simp length-append (omega arith) in
        let long : length s ≡ n + length (drop n s) = rw (length-drop n s) (omega (arith, u.most)) in
        let m-is : m ≡ d ++ (j.before ++ (39 ∷ (j.after ++ drop far s))) = u.holds ∙ ap (λ (w : List ℕ). d ++ w) j.is in (
          omega (arith, size, long, j.at, u.same),
          record {
            most = omega (arith, size, long, j.at, j.size);
            same = length-set m t.next 42 ∙ u.same;
            where-in = in_body ps;
            known = (refl, l);
            done = d ++ (j.before ++ (42 ∷ j.after));
            size = simp length-append (omega (arith, u.size, j.at, j.size));
            holds =
                ap (λ (w : List ℕ). set w t.next 42) m-is ∙ starred d j.before (j.after ++ drop far s) 39 42 t.next (omega (arith, u.size, j.at))
                ∙ regroup d j.before j.after (drop far s) 42;
            is =
                u.is ∙ ap (λ (q : Part). d ++ marked_from (reader outside q false) n (drop n s)) p ∙ ap (λ (w : List ℕ). d ++ w) j.gives
                ∙ regroup d j.before j.after (marked_from (reader outside (in_body ps) false) far (drop far s)) 42;
          },
        )

    abbrev Crossed : Type 0
    Crossed = (t.next < length m) × Marking s (set m t.next 42) (part_behind c t.sort (byte_at s t.at) t.next) far

    -- only in a body
    crossed : (d : ListPart) → d ≡ c → test d ≡ true → Known s n d u.where-in → Crossed
    crossed Before q e h = absurd (false≢true (sym (nothing-joins s (chars_of s t) t.next (same_sort word (sort_in t.sort))) ∙ e))
    crossed First q e h = absurd (false≢true (sym (nothing-joins s (chars_of s t) t.next (same_sort word (sort_in t.sort))) ∙ e))
    crossed AtList q e h = absurd (false≢true (sym (nothing-joins s (chars_of s t) t.next (same_sort word (sort_in t.sort))) ∙ e))
    crossed After q e h = absurd (false≢true (sym (nothing-joins s (chars_of s t) t.next (same_sort word (sort_in t.sort))) ∙ e))
    crossed (Header y) q e h = absurd (false≢true (sym (nothing-joins s (chars_of s t) t.next (same_sort word (sort_in t.sort))) ∙ e))
    crossed (Body y) q e h =
        let parts = and_parts (same_sort word (sort_in t.sort)) (word_joins s (chars_of s t) (parameters s y) t.next) e in
        let j = joined-on s (parameters s y) k u.most z parts.0 parts.1 in
        let a = across y h.0 h.1 j in
        let same-part : Body y ≡ part_behind c t.sort (byte_at s t.at) t.next =
        sym (word-stays y t.sort (byte_at s t.at) t.next parts.0) ∙ ap (λ (x : ListPart). part_behind x t.sort (byte_at s t.at) t.next) q in
        (a.0, subst (λ (x : ListPart). Marking s (set m t.next 42) x far) same-part a.1)

    -- what the turn does: by what is joined
    abbrev pub Turn : Option ℕ → Type 0
    Turn (Some f) = (t.next < length m) × Marking s (set m t.next 42) (part_behind c t.sort (byte_at s t.at) t.next) f
    Turn None = Marking s m (part_behind c t.sort (byte_at s t.at) t.next) t.next

    turn_by : (b : Bool) → test c ≡ b → Turn (cond b (Some far) None)
    turn_by true e = crossed c refl e u.known
    turn_by false e = over e

    turn : {o : Option ℕ} → o ≡ joined s (parameters_of s c) t → Turn o
    turn {o} e = subst Turn (sym e) (turn_by (test c) refl)

    module _ {o : Option ℕ} (e : o ≡ joined s (parameters_of s c) t) where
      module _ {b : ℕ} (d : b ≡ byte_at s t.at) {c' : ListPart} (h : c' ≡ part_behind c t.sort b t.next) where
        same-part : c' ≡ part_behind c t.sort (byte_at s t.at) t.next
        same-part = h ∙ ap (λ (x : ℕ). part_behind c t.sort x t.next) d

        pub marking-joined : {f : ℕ} → o ≡ Some f → Marking s (set m t.next 42) c' f
        marking-joined {f} g = rw same-part (subst Turn g (turn e)).1

        pub marking-on : o ≡ None → Marking s m c' t.next
        marking-on g = rw same-part (subst Turn g (turn e))
