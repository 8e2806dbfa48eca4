-- What load answers and leaves: of a text as it stands, and of one with macros.
use mathlib.Core.Path.{◌≡◌, refl, sym, ap, ◌∙◌, subst}
use mathlib.Core.Logic.{◌≢◌}
use mathlib.Core.Bool.{Bool, true, false, cond, ◌||◌, true≢false}
use lib.Dec.{ltb}
use mathlib.Core.List.{List, ◌++◌}
use Prim.Native.Nat.{ℕ, ◌≤◌, ◌<◌}
use native.Mathlib.Omega.{arith}
use borrow.Author.Tests.{ne_eqb, le-leb, lt-leb, ltb-true, ltb-false}
use lib.ListN.{length, take, drop, replicate, length-append, length-replicate, take-append-drop}
use lib.Seq.{take-append_seam, drop-append_seam}
use Rattle.calls.specs.Calls.{table_after}
use Rattle.calls.proofs.LoadLaws.{text_refusals, Listed, text-listed, loaded-listed, listed-not_40}
use Rattle.language.specs.Limits as limit
use Rattle.language.specs.Program.{Program}
use Rattle.layout.specs.Table.{table_cells}
use Rattle.loading.specs.Texts.{Lent, Leaves, Fit}
use Rattle.loading.specs.Told.{Loaded, told}
use Rattle.loading.specs.ToldLaws.{numbered-ok}
use Rattle.macro_preparing.specs.Preparing.{made, Prepares}
use Rattle.statements.specs.Questions.{question_number}
use Rattle.statements.specs.declared.Question.TheVariants as code
use Rattle.statements.specs.declared.Rejected.{Rejected}
use Rattle.std.specs.Prelude.{Result, Ok, Err, is_ok}
use Rattle.macros.specs.Load.{loaded, load_in}
use Rattle.macros.proofs.LoadLaws.{load-asked, plain-loads, prepared-lined, accepted-plain}
use Rattle.macros.specs.Marks.{has_macros}
use Rattle.macros.specs.Prepared.{prepared}
use Rattle.macros.specs.Prepared.Prepared.{unfit, ready}
use Rattle.macros.proofs.ShapeLaws.{prepared-shape}
use Rattle.syntax.specs.Ending.{last_place}
use Rattle.syntax.specs.Items.{lines_of}
use Rattle.syntax.proofs.LineLaws.{text-lined}
use Rattle.syntax.specs.Load as spec
use Rattle.syntax.specs.Load.{text_loads, load_typed}
use Rattle.syntax.specs.Load.Loaded.{refused, accepted}
use Rattle.macro_loading.specs.Loading.{Loads, Rewritable}

-- ---- the cells of a table

zeros-taken : (n : ℕ) (l : List ℕ) → take n (replicate n 0 ++ l) ≡ replicate n 0
zeros-taken n l = subst (λ (k : ℕ). take k (replicate n 0 ++ l) ≡ replicate n 0) (length-replicate n 0) (take-append_seam (replicate n 0) l)

zeros-dropped : (n : ℕ) (l : List ℕ) → drop n (replicate n 0 ++ l) ≡ l
zeros-dropped n l = subst (λ (k : ℕ). drop k (replicate n 0 ++ l) ≡ l) (length-replicate n 0) (drop-append_seam (replicate n 0) l)

-- after a refusal that is not of the call
zeros-after : (number line : ℕ) → number ≢ 40 → (c : List ℕ) → table_after (refused number line) c ≡ replicate limit.table 0 ++ drop limit.table c
unfolding table_after
zeros-after number line no-40 c = ap (λ (b : Bool). cond b c (replicate limit.table 0 ++ drop limit.table c)) (ne_eqb number 40 no-40)

refused-zeros : (x : spec.Loaded) → Listed text_refusals x → is_ok (told x) ≡ false → (c : List ℕ) → table_after x c ≡ replicate limit.table 0 ++ drop limit.table c
refused-zeros (refused n l) h q c = zeros-after n l (listed-not_40 (refused n l) h n l refl) c
refused-zeros (accepted p) h q c = absurd (true≢false q)

told-accepted : (x : spec.Loaded) → is_ok (told x) ≡ true → (p : Program) × (x ≡ accepted p)
told-accepted (refused n l) h = absurd (true≢false (sym h))
told-accepted (accepted p) h = (p, refl)

-- what load leaves depends on the cells beyond a table alone
beyond-only : (x : spec.Loaded) → Listed text_refusals x → (c d : List ℕ) → drop limit.table d ≡ drop limit.table c → table_after x d ≡ table_after x c
unfolding table_after
beyond-only (refused n l) h c d e =
    let no-40 = listed-not_40 (refused n l) h n l refl in
    zeros-after n l no-40 d ∙ ap (λ (x : List ℕ). replicate limit.table 0 ++ x) e ∙ sym (zeros-after n l no-40 c)
beyond-only (accepted p) h c d e = ap (λ (x : List ℕ). table_cells p ++ x) e

-- ---- question 40

module _ (s c : List ℕ) where
  -- "Table long enough, text short enough? 40"; "After 40 the table stays"
  abbrev unasked : Loaded
  unasked = Err (record { question = code.Size; line = 0 })

  no-load : load_in (length c) s ≡ refused 40 0 → Loads s c unasked c
  unfolding table_after
  no-load e =
      record {
        is = sym (ap told e);
        cells_are = sym (ap (λ t. table_after t c) e);
      }

  pub short-table : length c < limit.table → Loads s c unasked c
  unfolding load_in
  short-table l = no-load (rw (lt-leb limit.table (length c) l) refl)

  pub long_text : limit.table ≤ length c → limit.text < length s → Loads s c unasked c
  unfolding load_in
  long_text l m = no-load (rw (le-leb limit.table (length c) l, lt-leb (length s) limit.text m) refl)

  -- one of them, or neither
  pub not-fit : (ltb (length c) limit.table || ltb limit.text (length s)) ≡ true → Loads s c unasked c
  not-fit h = go (ltb (length c) limit.table) refl h
    where
      go : (b : Bool) → ltb (length c) limit.table ≡ b → (b || ltb limit.text (length s)) ≡ true → Loads s c unasked c
      go true e z = short-table (ltb-true (length c) limit.table e)
      go false e z = long_text (ltb-false (length c) limit.table e) (ltb-true limit.text (length s) z)

  pub fit_both : (ltb (length c) limit.table || ltb limit.text (length s)) ≡ false → Fit s c
  fit_both h = go (ltb (length c) limit.table) refl h
    where
      go : (b : Bool) → ltb (length c) limit.table ≡ b → (b || ltb limit.text (length s)) ≡ false → Fit s c
      go true e z = absurd (true≢false z)
      go false e z = record { short = ltb-false limit.text (length s) z; long = ltb-false (length c) limit.table e }

-- ---- a text as it stands, and then with macros

module _ {s c : List ℕ} (f : Fit s c) where
  answers : {x : spec.Loaded} → load_in (length c) s ≡ x → {r : Loaded} {d : List ℕ} → Leaves x c r d → Loads s c r d
  answers e k =
      record {
        is = k.is ∙ sym (ap told e);
        cells_are = k.cells_are ∙ sym (ap (λ t. table_after t c) e);
      }

  typed-listed : Listed text_refusals (load_typed s)
  typed-listed = text-listed (lines_of s) (text-lined s f.short) s

  module _ {r : Loaded} {d : List ℕ} (k : Leaves (load_typed s) c r d) where
    -- no star and no bracket
    pub loads-plain : has_macros s ≡ false → Loads s c r d
    loads-plain h = answers (plain-loads (length c) s f.long f.short h) k

    -- and there is none in a text that is accepted as it stands
    pub loads-accepted : is_ok r ≡ true → Loads s c r d
    loads-accepted h =
        let a = told-accepted (load_typed s) (ap is_ok (sym k.is) ∙ numbered-ok r ∙ h) in
        loads-plain (accepted-plain s (lines_of s) (last_place s) a.0 a.1)

    module _ (not_ok : is_ok r ≡ false) where
      zeros-left : d ≡ replicate limit.table 0 ++ drop limit.table c
      zeros-left = k.cells_are ∙ refused-zeros (load_typed s) typed-listed (ap is_ok (sym k.is) ∙ numbered-ok r ∙ not_ok) c

      beyond-left : drop limit.table d ≡ drop limit.table c
      beyond-left = ap (drop limit.table) zeros-left ∙ zeros-dropped limit.table (drop limit.table c)

      pub rewritable : has_macros s ≡ true → Rewritable s d
      rewritable h =
          record {
            macros = h;
            fit = record { short = f.short; long = rw zeros-left (simp (length-append, length-replicate) (omega arith)) };
            zeros = ap (take limit.table) zeros-left ∙ zeros-taken limit.table (drop limit.table c);
          }

      pub loads-written : {r' : Loaded} {d' : List ℕ} → Leaves (loaded (prepared s)) d r' d' → Loads s c r' d'
      loads-written w =
          answers (load-asked (length c) s f.long f.short)
          (record {
            is = w.is;
            cells_are = w.cells_are ∙ beyond-only (loaded (prepared s)) (loaded-listed s f.short) c d beyond-left;
          })

-- ---- a text with macros

module _ {s c : List ℕ} (h : Rewritable s c) {p : Result ℕ Rejected} {o ls ms : List ℕ} (k : Prepares s p o ls ms) where
  -- not made ready: the table is zeros already
  pub unfit-leaves : (u : Rejected) → p ≡ Err u → Leaves (loaded (prepared s)) c (Err u) c
  unfolding loaded
  unfit-leaves u e =
      let q : prepared s ≡ unfit (question_number u.question) u.line = sym k.is ∙ ap (λ t. made t o ls) e in
      let a : loaded (prepared s) ≡ refused (question_number u.question) u.line = ap loaded q in
      record {
        is = sym (ap told a);
        cells_are =
            sym (take-append-drop limit.table c)
            ∙ ap (λ (x : List ℕ). x ++ drop limit.table c) h.zeros
            ∙ sym (ap (λ t. table_after t c) a ∙ zeros-after (question_number u.question) u.line (listed-not_40 (loaded (prepared s)) (loaded-listed s h.fit.short) (question_number u.question) u.line a) c);
      }

  module _ (n : ℕ) (e : p ≡ Ok n) where
    made-ready : prepared s ≡ ready (take n o) (take n ls)
    made-ready = sym k.is ∙ ap (λ t. made t o ls) e

    pub lent : Lent (take n o) (take n ls) c
    lent = record { short = (prepared-shape s (take n o) (take n ls) h.fit.short made-ready).short; lined = prepared-lined s (take n o) (take n ls) h.fit.short made-ready; long = h.fit.long }

    pub ready-leaves : {r : Loaded} {d : List ℕ} → Leaves (text_loads (take n o) (take n ls)) c r d → Leaves (loaded (prepared s)) c r d
    unfolding loaded
    ready-leaves {r} {d} w = subst (λ x. Leaves (loaded x) c r d) (sym made-ready) w
