-- What the converter promises: there and back gives the same bytes, and both texts load to the same program, lines included.
use Rattle.std.specs.Prelude.{◌≡◌, Bool, true, false, not, ◌&&◌, ℕ, ◌≤◌, length}
use Rattle.std.proofs.Math.Path.{refl, ap, sym}
use Rattle.std.proofs.Common.{subst, ◌∙◌, arith}
use Rattle.std.proofs.Math.Bool.{cond}
use Rattle.std.proofs.lemmas.Bool.{false≢true}
use mathlib.Core.List.{List, map}
use Rattle.std.proofs.Math.Dec.{leb}
use borrow.Author.Tests.{le-leb}
use Rattle.language.specs.Limits as limit
use Rattle.language.specs.Program.{Program}
use Rattle.syntax.specs.Ending.{last_place}
use Rattle.syntax.specs.Items.{Item, read, named, statements, statements_from, lines_of}
use Rattle.syntax.specs.Items.Mode.{outside}
use Rattle.syntax.specs.Load.{Loaded, load_typed}
use Rattle.syntax.specs.Load.Loaded.{refused, accepted}
use Rattle.syntax.specs.Tables.{Draft, blank}
use Rattle.macros.specs.Load.{loaded, load_in, load_of}
use Rattle.macros.proofs.LoadLaws.{accepted-plain}
use Rattle.macros.specs.Marks.{has_macros}
use Rattle.macros.specs.Prepared.{prepared}
use Rattle.macros.proofs.ShapeLaws.{plain-same}
use Rattle.calls.specs.Filling.Filling.{kept, fills}
use Rattle.editions.proofs.AcceptLaws.{accepted-passes, passes-accepted, passes-anywhere, moved-program}
use Rattle.editions.proofs.BackLaws.{words_left, rewritten-twice}
use Rattle.editions.specs.Convert.{respell, with_operators, respelled, loads, convert_of}
use Rattle.editions.specs.Moving.{moved, moved_tables, Passes, final, program_by}
use Rattle.editions.proofs.MovingLaws.{moves, moves-back, moved-final}
use Rattle.editions.proofs.PairLaws.{respell-back}
use Rattle.editions.proofs.ReadingLaws.{lines_by, Lines, its-lines, read-lines, moved_named, moved-statements, turned-statements}
use Rattle.editions.specs.Rewriting.{reading, next_line, rewritten}
use Rattle.editions.specs.Rewriting.Way.{out}
use Rattle.editions.proofs.RewritingLaws.{rewritten-reads}
use Rattle.editions.proofs.SpliceLaws.{pass-is}
use Rattle.editions.specs.Turning.{turned, turned_items}
use Rattle.editions.proofs.TurningLaws.{turned-passes, turned-final}

-- The text in the other edition as a pass
respelled-pass : (s : List ℕ) → respelled s ≡ rewritten respell true out s
unfolding respelled
respelled-pass s = pass-is respell s

-- With other words for the operators of the text in the other edition
pub replaced : (turn : List ℕ → List ℕ) (s : List ℕ) → with_operators turn (respelled s) ≡ with_operators (λ w. turn (respell w)) s
replaced turn s =
    pass-is turn (respelled s) ∙ ap (rewritten turn true out) (respelled-pass s) ∙ rewritten-twice turn s ∙ sym (pass-is (λ w. turn (respell w)) s)

-- "leaving labels, texts and comments": with any one word for all operators both texts are the same bytes, so all other bytes are
pub kept_bytes : (v s : List ℕ) → with_operators (λ w. v) (respelled s) ≡ with_operators (λ w. v) s
kept_bytes v s = replaced (λ w. v) s

-- Of a text s and its text t in the other edition, with functions f and g that tell their lines
module _ (s : List ℕ) (f g : ℕ → ℕ) (u : Lines f s) (v : Lines g (respelled s)) where
  abbrev t : List ℕ
  t = respelled s

  -- "keyword by keyword": the items of t are those of s on the same lines, but for the operators, which are respelled
  pub same-items : map (moved g) (named (read outside 0 t)) ≡ turned_items true (map (moved f) (named (read outside 0 s)))
  same-items =
      sym (moved_named g (read outside 0 t))
      ∙ ap named (read-lines g t v)
      ∙ ap (λ r. named (reading next_line outside 1 r)) (respelled-pass s)
      ∙ rewritten-reads 1 s
      ∙ ap (λ js. turned_items true (named js)) (sym (read-lines f s u))
      ∙ ap (turned_items true) (moved_named f (read outside 0 s))

  -- and so are its statements
  pub same-statements : map (map (moved g)) (statements_from 0 t) ≡ map turned (map (map (moved f)) (statements_from 0 s))
  same-statements =
      sym (moved-statements g (named (read outside 0 t)))
      ∙ ap statements same-items
      ∙ turned-statements (map (moved f) (named (read outside 0 s)))
      ∙ ap (map turned) (moved-statements f (named (read outside 0 s)))

  -- where s passes t passes too
  pub same-passes : (m n : ℕ) → Passes m blank (statements_from 0 s) → Passes n blank (statements_from 0 t)
  same-passes m n h =
      moves-back g n blank (statements_from 0 t)
      (passes-anywhere (f m) (g n) blank (map (map (moved g)) (statements_from 0 t))
      (subst (λ (xs : List (List Item)). Passes (f m) blank xs) (sym same-statements)
      (turned-passes (f m) blank (map (map (moved f)) (statements_from 0 s)) (moves f m blank (statements_from 0 s) h))))

  same_tables : (m : ℕ) → Passes m blank (statements_from 0 s) → moved_tables g (final blank (statements_from 0 t)).tables ≡ moved_tables f (final blank (statements_from 0 s)).tables
  same_tables m h =
      ap (λ (d : Draft). d.tables)
      (sym (moved-final g blank (statements_from 0 t))
      ∙ ap (final blank) same-statements
      ∙ turned-final (f m) blank (map (map (moved f)) (statements_from 0 s)) (moves f m blank (statements_from 0 s) h))
      ∙ ap (λ (d : Draft). d.tables) (moved-final f blank (statements_from 0 s))

  -- and its program is the same, lines included
  pub same-made : (m : ℕ) → Passes m blank (statements_from 0 s) → program_by g (final blank (statements_from 0 t)).tables ≡ program_by f (final blank (statements_from 0 s)).tables
  same-made m h =
      sym (moved-program g (final blank (statements_from 0 t)).tables) ∙ ap (program_by (λ n. n)) (same_tables m h) ∙ moved-program f (final blank (statements_from 0 s)).tables

-- "Where both ways are taken, there and back gives the same bytes", of any text at all
pub respelled-back : (s : List ℕ) → respelled (respelled s) ≡ s
unfolding respelled
respelled-back s = replaced respell s ∙ pass-is (λ w. respell (respell w)) s ∙ words_left (λ w. respell (respell w)) respell-back true out s

-- an accepted text is accepted in the other edition too, as the same program
same-loaded : (s : List ℕ) (p : Program) → load_typed s ≡ accepted p → load_typed (respelled s) ≡ accepted p
same-loaded s p h =
    let t = respelled s in
    let taken = accepted-passes (lines_of s) (last_place s) blank (statements_from 0 s) p h in
    passes-accepted (lines_of t) (last_place t) blank (statements_from 0 t) (same-passes s (lines_by s) (lines_by t) (its-lines s) (its-lines t) (last_place s) (last_place t) taken.0)
    ∙ ap accepted (same-made s (lines_by s) (lines_by t) (its-lines s) (its-lines t) (last_place s) taken.0 ∙ taken.1)

-- what a filled buffer says
record Converted (s t : List ℕ) : Type 0 where
  is : t ≡ respelled s
  takes : loads (load_of s) ≡ true
  plain : has_macros s ≡ false
  short : leb (length (respelled s)) limit.text ≡ true

converted : (n : ℕ) (s t : List ℕ) → convert_of n s ≡ fills 80 t → Converted s t
unfolding convert_of
converted n s t h = go (loads (load_of s)) (has_macros s) (leb (length (respelled s)) n) (leb (length (respelled s)) limit.text) refl refl refl h
  where
    go : (a m b c : Bool) → loads (load_of s) ≡ a → has_macros s ≡ m → leb (length (respelled s)) limit.text ≡ c
        → cond (a && not m && b && c) (fills 80 (respelled s)) (kept 67) ≡ fills 80 t → Converted s t
    go true false true true e f g h = record { is = cc; takes = e; plain = f; short = g }
    go true false true false e f g h = let z : ◌≡◌ {A = ℕ} 0 1 = cc in absurd (omega arith)
    go true false false c e f g h = let z : ◌≡◌ {A = ℕ} 0 1 = cc in absurd (omega arith)
    go true true b c e f g h = let z : ◌≡◌ {A = ℕ} 0 1 = cc in absurd (omega arith)
    go false m b c e f g h = let z : ◌≡◌ {A = ℕ} 0 1 = cc in absurd (omega arith)

pub there_and_back : (n m : ℕ) (s t u : List ℕ) → convert_of n s ≡ fills 80 t → convert_of m t ≡ fills 80 u → u ≡ s
there_and_back n m s t u h k = (converted m t u k).is ∙ ap respelled (converted n s t h).is ∙ respelled-back s

-- What a text that is taken loads to
as-typed : (s : List ℕ) → has_macros s ≡ false → loaded (prepared s) ≡ load_typed s
unfolding loaded
as-typed s h = ap loaded (plain-same s h)

record Taken (s : List ℕ) : Type 0 where
  short : leb (length s) limit.text ≡ true
  program : Program
  typed : load_typed s ≡ accepted program

taken : (s : List ℕ) → loads (load_of s) ≡ true → has_macros s ≡ false → Taken s
unfolding load_in
taken s h plain = go (leb (length s) limit.text) refl (loaded (prepared s)) refl h
  where
    go : (b : Bool) → leb (length s) limit.text ≡ b → (l : Loaded) → loaded (prepared s) ≡ l → loads (cond b l (refused 40 0)) ≡ true → Taken s
    go true e (accepted p) f g = record { short = e; program = p; typed = sym (as-typed s plain) ∙ f }
    go true e (refused number line) f g = absurd (false≢true g)
    go false e l f g = absurd (false≢true g)

module _ (n : ℕ) (s t : List ℕ) (h : convert_of n s ≡ fills 80 t) where
  k : Converted s t
  k = converted n s t h

  q : Taken s
  q = taken s k.takes k.plain

  -- the other text has no macros either
  pub plain-kept : has_macros t ≡ false
  plain-kept = ap has_macros k.is ∙ accepted-plain (respelled s) (lines_of (respelled s)) (last_place (respelled s)) q.program (same-loaded s q.program q.typed)

  -- "Both texts load to tables that run alike on all inputs, with the same lines": to the same program, whatever the table's length
  pub same_program : (c : ℕ) → load_in c t ≡ load_in c s
  unfolding load_in
  same_program c =
      ap (λ b. cond (leb limit.table c && b) (loaded (prepared t)) (refused 40 0)) (ap (λ (u : List ℕ). leb (length u) limit.text) k.is ∙ k.short ∙ sym q.short)
      ∙ ap (λ l. cond (leb limit.table c && leb (length s) limit.text) l (refused 40 0))
      (as-typed t plain-kept ∙ ap load_typed k.is ∙ same-loaded s q.program q.typed ∙ sym q.typed ∙ sym (as-typed s k.plain))

  -- and the way back is taken wherever the first text fits the buffer
  pub taken_back : (m : ℕ) → length s ≤ m → convert_of m t ≡ fills 80 s
  unfolding convert_of
  taken_back m fits =
      let same : respelled t ≡ s = ap respelled k.is ∙ respelled-back s in
      rw (same_program limit.table, k.takes, plain-kept, same, le-leb (length s) m fits, q.short) refl
