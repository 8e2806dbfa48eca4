-- Every instruction keeps what a step keeps, once its questions are answered yes.
use Rattle.std.specs.Prelude.{◌≡◌, refl, Bool, cond, ℕ, T, take, ℤ, pos}
use Rattle.std.proofs.Math.Bool.{true}
use mathlib.Core.List.{List, [], ◌∷◌, map}
use Rattle.std.proofs.Common.{arith}
use Rattle.language.specs.Below.Lists.{all, total, filled, if_any, joined, among}
use Rattle.language.specs.Below.ListLaws.{T-left}
use Rattle.language.specs.Letters.{Var}
use Rattle.language.specs.Letters.Var.{expression, input, output, file}
use Rattle.language.specs.Program.{Arg, Op, Entry, Program}
use Rattle.language.specs.Program.Arg.{nothing}
use Rattle.language.specs.Program.Op.{PRZESLIJ, CZYTAJ, PISZ, KOPIUJ, WSTAW, POBIERZ, SCHOWAJ, USTAW, ZAMIEN, UMIESC, USUN, SKRESL, RW, WK, MN, PP, NS, RZ, SKOCZ, WYKONAJ, SKOMI, SKOPL, WYMI, WYPL, SKONA, SKOIN, WYNA, WYIN, WROC, DODAJ, ODEJMIJ, MNOZ, DZIEL, SLOWO, LICZBA, ZBIJ, ROZBIJ, SZUKAJ, OMIN, COFNIJ, STOP}
use Rattle.language.specs.Values.{Component, Record, Store, Inputs, chars, value, value_of, in_range}
use Rattle.machine.specs.Arguments.{use_by, expr, file_of, unread, first, side, Asks, taken, on_chars, reach}
use Rattle.machine.specs.Changes.{with_exprs, put_expr, minus, into, front, stored, past, used}
use Rattle.machine.specs.Effects.{Go, moved, a_word, jump_if, relation, equality, ordered, named, by_name, by_index, computed, changed, set_to, exchanged, row}
use Rattle.machine.specs.Effects.Go.{jump, call}
use Rattle.machine.specs.Steps.{numbers}
use Rattle.machine.specs.WellFormed.{ranged, strange, parts_faults, record_faults}
use Rattle.machine.specs.Keeps.{Clean, Faultless, Sound, Keeps}
use Rattle.machine.proofs.KeepLaws.{keeps-refl, keeps-trans, keeps-cond}
use Rattle.machine.proofs.ChangeLaws.{with_plus-keeps, minus-keeps, minus_unless-keeps, printed-keeps, clean-expr, put_expr-keeps, into-keeps, front-keeps, stored-keeps, pointed-keeps, exchange-keeps, past-keeps, past-last, used-keeps, used-last}
use Rattle.machine.proofs.CleanLaws.{first-known, joined-known, take-known, clean-take, clean-chars, clean-number, clean-numbers, clean-decimal, copied-faults, alone-faults, reach-enough, clean_after, unread-known, clean-side, clean-last}

module _ (ins : Inputs) (p : Program) (s : Store) where
  clean-a-word : (w : List ℕ) → total strange w ≡ 0 → Clean s.last (a_word p ins s w)
  clean-a-word [] h = refl
  clean-a-word (x ∷ w) h = omega arith

  module _ (i : total (total strange) ins ≡ 0) (h : Faultless ins s) where
    -- a move: the sequence is passed, then written
    moved_keeps : (a c : Arg) (write : ℕ → Store → Store)
        → ((k : ℕ) (t : Store) → t.last ≡ s.last → Faultless ins t → Keeps ins t (write k t)) → Keeps ins s (moved p ins s a c write)
    unfolding moved
    moved_keeps a c write hw =
        let r = reach ins s (use_by a).var a c in
        let k = past-keeps ins a r.0 s h (reach-enough ins (use_by a).var s a c) in
        keeps-trans ins (keeps-trans ins k (hw r.0 (past a r.0 s) (past-last a r.0 s) (k.no_faults h))) (minus_unless-keeps ins r.1 _)

    relation-keeps : (qs : Asks) (b : Bool) (a : Arg) → Keeps ins s (relation p ins s qs b a).1
    unfolding relation
    relation-keeps qs b a = keeps-cond ins b (used-keeps ins a s h) (minus-keeps ins s)

    front-used-keeps : (a : Arg) (xs : List Component) → Clean s.last xs → Keeps ins s (front a xs (used a s))
    front-used-keeps a xs c =
        let k = used-keeps ins a s h in
        keeps-trans ins k (front-keeps ins a xs (used a s) (k.no_faults h) (rw used-last c))

    by_name-keeps : (to : ℕ → Go) (missed : Store) (a b : Arg) → Keeps ins s missed → Keeps ins s (by_name p ins s to missed a b).1
    unfolding by_name
    by_name-keeps to missed a b m = go (named p ins s a b)
      where
        go : (es : List Entry) → Keeps ins s (if_any missed (λ e. used a s) es)
        go [] = m
        go (e ∷ es) = used-keeps ins a s h

    computed-keeps : (o : Op) (a b : Arg) (f : ℤ → ℤ → List ℤ) → T ((computed p ins s o a b f).0 54) → Keeps ins s (computed p ins s o a b f).1
    unfolding computed
    computed-keeps o a b f g =
        let zs = f (value (first (side ins s a))) (value (first (side ins s b))) in
        front-used-keeps a _ (clean-numbers s.last zs (T-left (all in_range zs) true g))

    set-to-keeps : (v : Var) (a b : Arg) → T (ranged p a) → Keeps ins s (set_to p ins s v a b)
    unfolding set_to
    set-to-keeps expression a b g = into-keeps ins b _ s h (clean-side ins p i s h a g)
    set-to-keeps input a b g = keeps-refl ins s
    set-to-keeps output a b g = printed-keeps ins b _ s (first-known s.last (side ins s a) (clean-side ins p i s h a g))
    set-to-keeps file a b g = stored-keeps ins b _ s (alone-faults s.last (side ins s a) (clean-side ins p i s h a g))

    exchanged-keeps : (v : Var) (a b : Arg) → Keeps ins s (exchanged p ins s v a b)
    unfolding exchanged put_expr with_exprs
    exchanged-keeps expression a b =
        let k = put_expr-keeps ins a (expr s b) s (clean-expr ins s b h) in
        keeps-trans ins k (put_expr-keeps ins b (expr s a) (put_expr a (expr s b) s) (clean-expr ins s a h))
    exchanged-keeps input a b = keeps-refl ins s
    exchanged-keeps output a b = keeps-refl ins s
    exchanged-keeps file a b = exchange-keeps ins a b s

    -- what was read of s is written into a later t with the same last address
    read-into : (b : Arg) (xs : List Component) → Clean s.last xs → (t : Store) → t.last ≡ s.last → Faultless ins t → Keeps ins t (into b xs t)
    read-into b xs c t e k = into-keeps ins b xs t k (rw e c)

    read-front : (b : Arg) (xs : List Component) → Clean s.last xs → (t : Store) → t.last ≡ s.last → Faultless ins t → Keeps ins t (front b xs t)
    read-front b xs c t e k = front-keeps ins b xs t k (rw e c)

    read-stored : (b : Arg) (xs : List (List Component)) → total (parts_faults s.last) xs ≡ 0 → (t : Store) → t.last ≡ s.last
        → Faultless ins t → Keeps ins t (stored b xs t)
    read-stored b xs c t e k = stored-keeps ins b xs t (rw e c)

    wstaw-keeps : (a b : Arg) (xs : List Component) → Clean s.last xs
        → Keeps ins s (cond (filled xs) (moved p ins s a nothing (λ k. stored b (xs ∷ []))) (minus s))
    wstaw-keeps a b [] e = minus-keeps ins s
    wstaw-keeps a b (x ∷ xs) e = moved_keeps a nothing _ (λ k. read-stored b ((x ∷ xs) ∷ []) (omega arith))

    pobierz-keeps : (a b : Arg) (rs : List Record) → total (record_faults s.last) rs ≡ 0
        → Keeps ins s (if_any (minus s) (λ r. moved p ins s a (Arg.number (pos 1)) (λ k. into b r.parts)) rs)
    pobierz-keeps a b [] e = minus-keeps ins s
    pobierz-keeps a b (r ∷ rs) e = moved_keeps a (Arg.number (pos 1)) _ (λ k. read-into b r.parts (omega arith))

  module _ (i : total (total strange) ins ≡ 0) (sound : Sound ins s) (a b c : Arg) (ga : T (ranged p a)) where
    abbrev h : Faultless ins s
    h = sound.no_faults

    abbrev clean_parts : (a : Arg) (k : ℕ) → Clean s.last (take k (expr s a))
    clean_parts a k = clean-take s.last k (expr s a) (clean-expr ins s a h)

    abbrev words_known : (a : Arg) (k : ℕ) → total strange (joined (map chars (take k (expr s a)))) ≡ 0
    words_known a k = joined-known s.last (take k (expr s a)) (clean_parts a k)

    pub row_keeps : (o : Op) → ((n : ℕ) → T (among n numbers) → T ((row p ins s a b c o).0 n)) → Keeps ins s (row p ins s a b c o).1
    unfolding row equality ordered changed jump_if by_index
    row_keeps PRZESLIJ y = moved_keeps i h a c _ (λ k. read-into i h b _ (clean_parts a k))
    row_keeps CZYTAJ y =
        let w = unread ins s a in
        moved_keeps i h a c _ (λ k. read-into i h b _ (clean-a-word (take k w) (take-known k w (unread-known ins s a i))))
    row_keeps PISZ y = moved_keeps i h a c _ (λ k t e g. printed-keeps ins b _ t (words_known a k))
    row_keeps KOPIUJ y = moved_keeps i h a c _ (λ k. read-stored i h b _ (copied-faults s.last k (file_of s a).after (clean_after ins s a h)))
    row_keeps WSTAW y = wstaw-keeps i h a b (expr s a) (clean-expr ins s a h)
    row_keeps POBIERZ y = pobierz-keeps i h a b (file_of s a).after (clean_after ins s a h)
    row_keeps SCHOWAJ y = into-keeps ins b _ s h (clean-last ins s a sound)
    row_keeps USTAW y = keeps-trans ins (used-keeps ins a s h) (pointed-keeps ins b _ (used a s))
    row_keeps ZAMIEN y = exchanged-keeps i h (use_by a).var a b
    row_keeps UMIESC y = set-to-keeps i h (use_by b).var a b ga
    row_keeps USUN y = moved_keeps i h a b _ (λ k t e g. keeps-refl ins t)
    row_keeps SKRESL y = moved_keeps i h a b _ (λ k t e g. keeps-refl ins t)
    row_keeps RW y = relation-keeps i h _ _ a
    row_keeps WK y = relation-keeps i h _ _ a
    row_keeps MN y = relation-keeps i h _ _ a
    row_keeps PP y = relation-keeps i h _ _ a
    row_keeps NS y = relation-keeps i h _ _ a
    row_keeps RZ y = relation-keeps i h _ _ a
    row_keeps SKOCZ y = keeps-refl ins s
    row_keeps WYKONAJ y = keeps-refl ins s
    row_keeps SKOMI y = with_plus-keeps ins _ s
    row_keeps SKOPL y = with_plus-keeps ins _ s
    row_keeps WYMI y = with_plus-keeps ins _ s
    row_keeps WYPL y = with_plus-keeps ins _ s
    row_keeps SKONA y = by_name-keeps i h jump s a b (keeps-refl ins s)
    row_keeps SKOIN y = used-keeps ins a s h
    row_keeps WYNA y = by_name-keeps i h call (minus s) a b (minus-keeps ins s)
    row_keeps WYIN y = used-keeps ins a s h
    row_keeps WROC y = keeps-refl ins s
    row_keeps DODAJ y = computed-keeps i h DODAJ a b _ (y 54 tt)
    row_keeps ODEJMIJ y = computed-keeps i h ODEJMIJ a b _ (y 54 tt)
    row_keeps MNOZ y = computed-keeps i h MNOZ a b _ (y 54 tt)
    row_keeps DZIEL y = computed-keeps i h DZIEL a b _ (y 54 tt)
    row_keeps SLOWO y = front-used-keeps i h a _ (clean-decimal s.last (value (first (side ins s a))))
    row_keeps LICZBA y = front-used-keeps i h a _ (clean-number s.last (value_of (chars (first (side ins s a)))) (y 54 tt))
    row_keeps ZBIJ y = moved_keeps i h a b _ (λ k. read-front i h a _ (clean-a-word (joined (map chars (take k (expr s a)))) (words_known a k)))
    row_keeps ROZBIJ y =
        let w = chars (first (side ins s a)) in
        let k = (taken (on_chars ins s b) w).0 in
        let w-known = first-known s.last (side ins s a) (clean-side ins p i s h a ga) in
        keeps-trans ins (front-used-keeps i h a _ (clean-chars s.last (take k w) (take-known k w w-known))) (minus_unless-keeps ins _ _)
    row_keeps SZUKAJ y = relation-keeps i h _ _ a
    row_keeps OMIN y = moved_keeps i h a b _ (λ k t e g. keeps-refl ins t)
    row_keeps COFNIJ y = pointed-keeps ins a 0 s
    row_keeps STOP y = keeps-refl ins s
