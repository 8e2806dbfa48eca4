-- The part is given, and the whole call.
use mathlib.Core.Path.{◌≡◌, refl, ap, sym, ◌∙◌, subst}
use mathlib.Core.Logic.{◌≢◌}
use mathlib.Core.Bool.{Bool, true, false, cond, ◌&&◌, ◌||◌, or-true, true≢false}
use mathlib.Core.List.{List, ◌++◌}
use Prim.Native.Nat.{ℕ, ◌+◌, ◌≤◌, ◌<◌}
use native.Mathlib.Omega.{arith}
use native.Mathlib.Nat.{zero-add}
use lib.Dec.{eqb, ltb, leb}
use lib.ListN.{length, take, drop, replicate, length-append, length-take, length-drop, length-replicate}
use lib.Seq.{length-take-le, take_at, drop_at}
use borrow.Author.Tests.{eq-eqb, ne_eqb, le-ltb, lt-ltb, leb-true}
use Rattle.cells.specs.Cells.{pasted}
use Rattle.language.specs.Limits as limit
use Rattle.layout.specs.Table.{table_cells}
use Rattle.lists.specs.Lists.{joined}
use Rattle.calls.specs.Calls.{load_number, table_after}
use Rattle.calls.specs.Filling.{Filling, filling_number, filled_in, filled_of}
use Rattle.calls.specs.Filling.Filling.{kept, fills}
use Rattle.calls.proofs.LoadLaws.{load-accepts}
use Rattle.statements.specs.declared.Rejected.{Rejected}
use Rattle.macro_loading.specs.Below.Told as answer
use Rattle.macro_loading.specs.Below.Told.{numbered, told, loaded_number}
use Rattle.macro_loading.specs.Below.ToldLaws.{number-told}
use Rattle.statements.specs.Questions.{question_number}
use Rattle.std.proofs.Common.{eqb-true}
use Rattle.shortening.proofs.Cutting.{by-number}
use Rattle.calls.specs.declared.Question.TheVariants as code
use Rattle.macro_loading.specs.Loading.{Loads}
use Rattle.macros.specs.Load.{loaded, load_in, load_of}
use Rattle.macros.specs.Prepared.{prepared}
use Rattle.syntax.specs.Load.{Loaded}
use Rattle.syntax.specs.Load.Loaded.{refused, accepted}
use Rattle.shorten_calls.proofs.CellLaws.{loads-same, part_same}
use Rattle.shorten_calls.proofs.LineLaws.{lighter}
use Rattle.shorten_calls.proofs.PartLaws.{part-number, part-refused, number_is, loads-back}
use Rattle.shorten_calls.proofs.RoundLaws.{rounds-order}
use Rattle.shorten_calls.specs.Shortening.{rounds, part, brings_40, shorten_of, table_shortened}
use Rattle.text_lines.specs.LineLaws.{joined-lines}
use Rattle.text_lines.specs.Lines.{lines}
use Rattle.std.specs.Prelude.{Ok, Err, is_ok}
use Rattle.shortening.specs.Trying.{refused_with, Finished, Givable, Given, RefusedText, Answer, Shortens, Tryable}
use Rattle.shortening.specs.declared.Shortened.{Shortened}

-- ---- load: what 40 is of, and what the table is afterwards

-- "Table long enough, text short enough? 40"
record Asked (cells : ℕ) (s : List ℕ) : Type 0 where
  pub long : limit.table ≤ cells
  pub short : length s ≤ limit.text

asked : (cells : ℕ) (s : List ℕ) → load_number (load_in cells s) ≢ 40 → Asked cells s
unfolding load_in
asked cells s = go (leb limit.table cells) (leb (length s) limit.text) refl refl
  where
    go : (a b : Bool) → leb limit.table cells ≡ a → leb (length s) limit.text ≡ b → load_number (cond (a && b) (loaded (prepared s)) (refused 40 0)) ≢ 40 → Asked cells s
    go true true e f h = record { long = leb-true limit.table cells e; short = leb-true (length s) limit.text f }
    go true false e f h = absurd (h refl)
    go false b e f h = absurd (h refl)

-- "After 40 the table stays"
stays-40 : (x : Loaded) (c : List ℕ) → load_number x ≡ 40 → table_after x c ≡ c
unfolding table_after
stays-40 (refused n l) c h = ap (λ (b : Bool). cond b c (replicate limit.table 0 ++ drop limit.table c)) (eq-eqb n 40 h)
stays-40 (accepted p) c h = absurd (omega (arith, h))

zeros-after : (n : ℕ) (c : List ℕ) → n ≢ 40 → cond (eqb n 40) c (replicate limit.table 0 ++ drop limit.table c) ≡ replicate limit.table 0 ++ drop limit.table c
zeros-after n c h = ap (λ (b : Bool). cond b c (replicate limit.table 0 ++ drop limit.table c)) (ne_eqb n 40 h)

-- a refusal leaves the cells beyond
beyond-stays : (x : Loaded) (c : List ℕ) → load_number x ≢ 40 → load_number x ≢ 80 → drop limit.table (table_after x c) ≡ drop limit.table c
unfolding table_after
beyond-stays (refused n l) c h k =
    ap (drop limit.table) (zeros-after n c h) ∙ drop_at (replicate limit.table 0) (drop limit.table c) limit.table (length-replicate {A = ℕ} limit.table 0)
beyond-stays (accepted p) c h k = absurd (k refl)

-- what load leaves depends on the cells beyond alone
beyond-only : (x : Loaded) (c d : List ℕ) → load_number x ≢ 40 → drop limit.table d ≡ drop limit.table c → table_after x d ≡ table_after x c
unfolding table_after
beyond-only (refused n l) c d h e = zeros-after n d h ∙ ap (λ (x : List ℕ). replicate limit.table 0 ++ x) e ∙ sym (zeros-after n c h)
beyond-only (accepted p) c d h e = ap (λ (x : List ℕ). table_cells p ++ x) e

-- a row whose first bytes were copied
pub front-copied : {m s : List ℕ} (b : List ℕ) → m ≡ s → m ++ drop (length s) b ≡ pasted b 0 s
front-copied {m} {s} b e = let z : length s ≡ 0 + length s = omega arith in λ i. e i ++ drop (z i) b

-- ---- a part that is given

pub given : {p c c' b b' : List ℕ} {l : answer.Loaded} {r : Shortened} → Loads p c l c' → b' ≡ pasted b 0 p → r.loaded ≡ l → r.count ≡ length p → Given p c b r c' b'
given {p} {c} {c'} {b} {b'} {l} {r} h w e f =
    record { loaded_is = ap numbered e ∙ h.is; count_is = f; table_is = h.cells_are; cells_are = w ∙ ap (λ (n : ℕ). p ++ drop n b) (zero-add (length p)) }

-- on a table whose first cells are others
given-same : {p c d c' b b' : List ℕ} {r : Shortened} → length d ≡ length c → drop limit.table d ≡ drop limit.table c → load_number (load_in (length c) p) ≢ 40
    → Given p d b r c' b' → Given p c b r c' b'
given-same {p} {c} {d} same e h g =
    record {
      loaded_is = g.loaded_is ∙ ap (λ (n : ℕ). told (load_in n p)) same;
      count_is = g.count_is;
      table_is = g.table_is ∙ ap (λ (n : ℕ). table_after (load_in n p) d) same ∙ beyond-only (load_in (length c) p) c d h e;
      cells_are = g.cells_are;
    }

-- ---- the call

module _ (s c b : List ℕ) where
  abbrev number : ℕ
  number = load_number (load_in (length c) s)

  abbrev refused-40 : Answer
  refused-40 = Err code.Size

  short-40 : brings_40 (length c) (length b) s ≡ true → Shortens s c b refused-40 c b
  unfolding shorten_of table_shortened filled_in
  short-40 e =
      let f : shorten_of (length c) (length b) s ≡ kept 40 = ap (λ (t : Bool). cond t (kept 40) (fills number (part (length c) s))) e in
      record {
        result_is = ap filled_of (sym f);
        number_is = ap filling_number (sym f);
        cells_are = ap (λ (t : Filling). filled_in t b) (sym f);
        table_is = ap (λ (t : Bool). cond t c (table_after (load_in (length c) (part (length c) s)) c)) (sym e);
      }

  -- "one shorter than the text also brings 40"
  pub buffer-40 : length b < length s → Shortens s c b refused-40 c b
  buffer-40 h = short-40 (ap (λ (t : Bool). t || eqb number 40) (lt-ltb (length b) (length s) h))

  module _ (not_40 : number ≢ 40) where
    pub text-short : length s ≤ limit.text
    text-short = (asked (length c) s not_40).short

    none-40 : length s ≤ length b → brings_40 (length c) (length b) s ≡ false
    none-40 room = ap (λ (t : Bool). t || eqb number 40) (le-ltb (length b) (length s) room) ∙ ne_eqb number 40 not_40

    part-given : length s ≤ length b → {p c' b' : List ℕ} {r : Shortened} → p ≡ part (length c) s → Given p c b r c' b' → Shortens s c b (Ok r) c' b'
    unfolding shorten_of table_shortened filled_in
    part-given room {p} e g =
        let f : shorten_of (length c) (length b) s ≡ fills number (part (length c) s) = ap (λ (t : Bool). cond t (kept 40) (fills number (part (length c) s))) (none-40 room) in
        record {
          result_is = ap Ok (g.count_is ∙ ap length e) ∙ ap filled_of (sym f);
          number_is = number-told _ (load_in (length c) p) g.loaded_is ∙ ap (λ (t : List ℕ). load_number (load_in (length c) t)) e
              ∙ part-number (length c) s ∙ ap filling_number (sym f);
          cells_are = g.cells_are ∙ ap (λ (t : List ℕ). t ++ drop (length t) b) e ∙ ap (λ (t : Filling). filled_in t b) (sym f);
          table_is = g.table_is ∙ ap (λ (t : List ℕ). table_after (load_in (length c) t) c) e
              ∙ ap (λ (t : Bool). cond t c (table_after (load_in (length c) (part (length c) s)) c)) (sym (none-40 room));
        }

  module _ {l : answer.Loaded} {d : List ℕ} (k : Loads s c l d) where
    number-of : loaded_number l ≡ number
    number-of = number-told l (load_in (length c) s) k.is

    pub load-40 : refused_with 40 l ≡ true → Shortens s c b refused-40 d b
    load-40 h =
        let e : number ≡ 40 = sym number-of ∙ eqb-true (loaded_number l) 40 (sym (by-number l (λ z. omega (arith, z))) ∙ h) in
        subst (λ (t : List ℕ). Shortens s c b refused-40 t b) (sym (k.cells_are ∙ stays-40 (load_in (length c) s) c e))
        (short-40 (ap (λ (t : Bool). ltb (length b) (length s) || t) (eq-eqb number 40 e) ∙ or-true (ltb (length b) (length s))))

    module _ (q : l ≡ Ok tt) where
      number-80 : number ≡ 80
      number-80 = sym number-of ∙ ap loaded_number q

      pub accepted-not_40 : number ≢ 40
      accepted-not_40 z = absurd (omega (arith, number-80, z))

      -- "A text that loads is given back"
      pub given_back : length s ≤ length b → {b' : List ℕ} {r : Shortened} → b' ≡ pasted b 0 s → r.loaded ≡ Ok tt → r.count ≡ length s → Shortens s c b (Ok r) d b'
      given_back room w x y = part-given accepted-not_40 room (sym (loads-back (length c) s number-80)) (given k w (x ∙ sym q) y)

    module _ {f : Rejected} (q : l ≡ Err f) where
      number-f : question_number f.question ≡ number
      number-f = sym (ap loaded_number q) ∙ number-of

      not_80 : number ≢ 80
      not_80 z =
          let a = (load-accepts (length c) s).0 z in
          true≢false (ap is_ok (sym (ap told a.1) ∙ sym k.is ∙ ap numbered q))

      module _ (no-size : refused_with 40 l ≡ false) (room : length s ≤ length b) (same : length d ≡ length c) where
        not_40 : question_number f.question ≢ 40
        not_40 z = true≢false (sym (eq-eqb (question_number f.question) 40 z) ∙ sym (ap (refused_with 40) q) ∙ no-size)

        refused-not_40 : number ≢ 40
        refused-not_40 z = not_40 (number-f ∙ z)

        pub refused-text : RefusedText s (question_number f.question) (length d) (length b)
        refused-text = record {
          number_is = number-f ∙ ap (λ (n : ℕ). load_number (load_in n s)) (sym same);
          not_40 = not_40;
          not_80 = λ z. not_80 (sym number-f ∙ z);
          room = room;
        }

        pub refused-given : {r : Shortened} {c' b' : List ℕ} → Given (part (length d) s) d b r c' b' → Shortens s c b (Ok r) c' b'
        refused-given {r} {c'} {b'} g =
            part-given refused-not_40 room refl
            (given-same same (ap (drop limit.table) k.cells_are ∙ beyond-stays (load_in (length c) s) c refused-not_40 not_80)
            (λ z. refused-not_40 (sym (part-number (length c) s) ∙ z)) (subst (λ (n : ℕ). Given (part n s) d b r c' b') same g))

-- ---- the refused text

-- what the rounds leave is no longer than the text
finished-small : {p e : List ℕ} {number r : ℕ} → Finished p number e r → r ≤ length p
finished-small {p} {e} {number} {r} f =
    omega (arith, f.size, lighter (rounds-order limit.table number (length (lines p)) (lines p)), ap length (joined-lines p))

-- a row of zeros as long as a text may be
abbrev zeros : List ℕ
zeros = replicate limit.text 0

-- with the text in front
module _ (s : List ℕ) {d : List ℕ} (w : d ≡ pasted zeros 0 s) where
  text_first : take (length s) d ≡ s
  text_first = ap (take (length s)) w ∙ take_at s (drop (0 + length s) zeros) (length s) refl

  size_small : {number : ℕ} {e : List ℕ} {r : ℕ} → Finished (take (length s) d) number e r → r ≤ length s
  size_small f = omega (arith, finished-small f, ap length text_first)

module _ {s : List ℕ} (c : List ℕ) {number out : ℕ} (h : RefusedText s number (length c) out) where
  not_40-of : load_number (load_in (length c) s) ≢ 40
  not_40-of z = h.not_40 (h.number_is ∙ z)

  pub table-long : limit.table ≤ length c
  table-long = (asked (length c) s not_40-of).long

  pub first-cells : length (take limit.table c) ≡ limit.table
  first-cells = length-take-le limit.table c table-long

  fits-text : length s ≤ limit.text
  fits-text = (asked (length c) s not_40-of).short

  pub fits-row : 0 + length s ≤ length zeros
  fits-row = subst (λ (n : ℕ). 0 + length s ≤ n) (sym (length-replicate {A = ℕ} limit.text 0)) (omega (arith, fits-text))

  pub tryable : Tryable number (length (take limit.table c))
  tryable = record { refused = h.not_80; long = first-cells }

  -- the text's bytes of the row
  pub text-in : (d : List ℕ) → length d ≡ length zeros → length s ≤ length d
  text-in d same = omega (arith, same, fits-row)

  module _ {d : List ℕ} (same : length d ≡ length zeros) where
    pub within-row : d ≡ pasted zeros 0 s → {e : List ℕ} {r : ℕ} → Finished (take (length s) d) number e r → length e ≡ length d → r ≤ length e
    within-row w f k = omega (arith, size_small s w f, k, same, fits-row)

  module _ {d : List ℕ} (w : d ≡ pasted zeros 0 s) {e : List ℕ} {r : ℕ} (f : Finished (take (length s) d) number e r) where
    pub givable : Givable (take r e) out
    givable =
        let small : r ≤ length s = size_small s w f in
        record { short = omega (arith, length-take r e, small, fits-text); room = omega (arith, length-take r e, small, h.room) }

    -- what the rounds leave is the part
    is-part : take r e ≡ part (length c) s
    is-part =
        let same : number ≡ load_number (load_of s) = h.number_is ∙ ap load_number (loads-same (length c) table-long s) in
        f.is ∙ ap (λ (u : List ℕ). joined (rounds limit.table (length (lines u)) number (lines u))) (text_first s w)
        ∙ ap (λ (k : ℕ). joined (rounds limit.table (length (lines s)) k (lines s))) (same ∙ sym (number_is limit.table s))
        ∙ ap joined (sym (part-refused limit.table s (λ z. h.not_80 (same ∙ z)))) ∙ sym (part_same (length c) table-long s)

    -- the trials changed the first cells of the table
    pub part-written : {b : List ℕ} (t : List ℕ) → length t ≡ length (take limit.table c) → {q : Shortened} {c' b' : List ℕ}
        → Given (take r e) (t ++ drop limit.table c) b q c' b' → Given (part (length c) s) c b q c' b'
    part-written {b} t a {q} {c'} {b'} g =
        let long : length t ≡ limit.table = a ∙ first-cells in
        let same : length (t ++ drop limit.table c) ≡ length c = length-append t (drop limit.table c) ∙ omega (arith, long, length-drop limit.table c, table-long) in
        given-same same (drop_at t (drop limit.table c) limit.table long) (λ z. not_40-of (sym (part-number (length c) s) ∙ z))
        (subst (λ (u : List ℕ). Given u (t ++ drop limit.table c) b q c' b') is-part g)
