-- Frames are well framed where the state laid out from them is well formed and is written as their text; and what the reader answers, question by
-- question.
use Rattle.std.specs.Prelude.{Result, Ok, Err}
use mathlib.Core.Path.{◌≡◌, refl, sym, ap, ◌∙◌, subst}
use mathlib.Core.Bool.{Bool, true, false, cond}
use mathlib.Core.List.{List, [], ◌∷◌, ◌++◌}
use Prim.Native.Nat.{ℕ, ◌+◌, ◌≤◌, ◌<◌}
use native.Mathlib.Omega.{arith}
use lib.Dec.{T, le→leb}
use lib.ListN.{length, drop, replicate, length-replicate}
use lib.Seq.{take_all}
use borrow.Author.Tests.{le-leb, lt-leb}
use Rattle.lists.specs.BoolLaws.{same_test}
use Rattle.calls.specs.Filling.{Taken, taken_number, taken_with}
use Rattle.cells.specs.Cells.{pasted}
use Rattle.calls.specs.Questions.{question_number, numbered}
use Rattle.calls.specs.declared.Question.{Question}
use Rattle.calls.specs.declared.Question.TheVariants as code
use Rattle.check_calls.specs.Asked.{told_by, first_no}
use Rattle.check_calls.specs.AskedLaws.{both_yes, some}
use Rattle.check_memory.proofs.Steps.{passed}
use Rattle.check_state.specs.Asked.{Asked}
use Rattle.language.specs.Limits as limit
use Rattle.language.specs.Program.{Program}
use Rattle.language.specs.Values.{State, Inputs}
use Rattle.layout.proofs.FineLaws.{good-fine}
use Rattle.layout.specs.Memory.{state_cells, state_of, good_memory, written}
use Rattle.layout.proofs.MemoryLaws.{memory-facts}
use Rattle.layout.specs.Table.{program_of, good_table}
use Rattle.layout.proofs.TableLaws.{table-facts}
use Rattle.lists.specs.ListLaws.{same_bytes-eq, same_bytes-refl}
use Rattle.lists.specs.Lists.{bytes_equal}
use Rattle.machine.specs.WellFormed.{good_program, good_inputs, good_state}
use Rattle.state_contents.specs.Contents.{Laid}
use Rattle.state_frames.specs.Frames.{sound_text, frames_in}
use Rattle.state_frames.specs.Keeping.{Reading, read_refused, read_accepted, read_of, Restores}
use Rattle.state_frames.proofs.KeepingLaws.{ReadYes, read-good, read-text, saved-framed, saved-back}
use Rattle.state_frames.proofs.LengthLaws.{saved-most}
use Rattle.state_frames.specs.MemoryFrames.{SavedAs, Saveable}
use Rattle.state_frames.specs.Saved.{saved, restored, well_framed}
use Rattle.state_saving.specs.Saving.{longest}
use Rattle.state_restoring.specs.Restoring.{Totalled, Restorable, Restored}
use Rattle.state_restoring.proofs.Totals.{failed, memory-good, cells-back}

-- ---- question 69

module _ {c i j t m : List ℕ} (h : Restorable c i j t m) where
  abbrev p : Program
  p = program_of c

  abbrev ins : Inputs
  ins = i ∷ j ∷ []

  abbrev s : State
  s = restored (frames_in t)

  abbrev framed : Bool
  framed = well_framed p ins (frames_in t)

  gp : T (good_program p)
  gp = (table-facts c h.asked.table).good

  gi : T (good_inputs ins)
  gi = h.asked.inputs

  long : length m ≡ limit.state
  long = ap length h.zeros ∙ length-replicate {A = ℕ} limit.state 0

  -- what well-framed frames say
  module _ (f : T framed) where
    yes-to-all : ReadYes c ins t m
    yes-to-all = record { table_good = h.asked.table; inputs_good = gi; long = le→leb limit.state (length m) (omega (arith, long)); sound = h.sound; framed = f }

    state_good : T (good_state p ins s)
    state_good = read-good c ins t m yes-to-all

    text_is : t ≡ saved s
    text_is = read-text c ins t m yes-to-all

    text-most : length t ≤ longest
    text-most = omega (arith, ap length text_is, saved-most s (good-fine p ins s gp gi state_good))

    saved-as : SavedAs t s
    saved-as = record { program = p; inputs = ins; good = gp; right = gi; state = state_good; text = text_is }

  never : (T framed → ⊥) → false ≡ framed
  never k = same_test false framed (λ z. absurd z) k

  pub too_long : longest < length t → Restored c i j t false m
  too_long k = record { long = long; answer = never (λ f. omega (arith, text-most f)); cells = λ z. absurd (subst T (sym z) tt) }

  -- the memory x laid out from the frames, and y with its totals
  module _ {x y : List ℕ} (l : Laid t x) (q : Totalled x y) where
    made : T framed → y ≡ state_cells s
    made f = q.cells p ins s gp gi (state_good f) (l.cells s (saved-as f))

    abbrev u : State
    u = state_of y

    module _ {r : Bool} (e : r ≡ good_memory p ins y) where
      pub not-state : r ≡ false → Restored c i j t false y
      not-state k = record {
        long = q.long;
        answer = never (λ f. failed e k (subst (λ n. T (good_memory p ins n)) (sym (made f)) (memory-good p i j s gp gi (state_good f))));
        cells = λ z. absurd (subst T (sym z) tt);
      }

      module _ (k : r ≡ true) where
        good : T (good_memory p ins y)
        good = passed e k

        pub saveable : Saveable y
        saveable = record { program = p; inputs = ins; good = gp; right = gi; memory = good }

        u-good : T (good_state p ins u)
        u-good = (memory-facts p ins y good).good

        to : T (bytes_equal (saved u) t) → T framed
        to a = subst (λ n. T (well_framed p ins (frames_in n))) (same_bytes-eq (saved u) t a) (saved-framed p ins u gp gi u-good)

        from : T framed → T (bytes_equal (saved u) t)
        from f =
            let v : u ≡ s = ap state_of (made f) ∙ cells-back p i j s gp gi (state_good f) in
            let w : saved u ≡ t = ap saved v ∙ sym (text_is f) in
            subst (λ n. T (bytes_equal n t)) (sym w) (same_bytes-refl t)

        cells_are : T (bytes_equal (saved u) t) → y ≡ state_cells s
        cells_are a =
            let v : s ≡ u = ap (λ n. restored (frames_in n)) (sym (same_bytes-eq (saved u) t a)) ∙ saved-back p ins u gp gi u-good in
            sym (ap state_cells v ∙ (memory-facts p ins y good).cells ∙ take_all limit.state y (omega (arith, q.long)))

        pub compared : {b : Bool} → b ≡ bytes_equal (saved u) t → Restored c i j t b y
        compared a = record { long = q.long; answer = a ∙ same_test (bytes_equal (saved u) t) framed to from; cells = λ z. cells_are (passed a z) }

-- ---- the reader

restores : {x y : Reading} → x ≡ y → {r : Taken} {m : List ℕ} → numbered r ≡ taken_with y.number → taken_number r ≡ y.number → m ≡ y.cells → Restores x r m
restores e a n b = record { result_is = rw e a; number_is = rw e n; cells_are = rw e b }

abbrev refusal : ℕ → Result (Unit {0}) ℕ
refusal n = Err n

module _ (c i j t m : List ℕ) where
  abbrev lent : Inputs
  lent = i ∷ j ∷ []

  abbrev readings : Reading
  readings = read_of c lent t m

  is-62 : good_table c ≡ false → readings ≡ read_refused m 62
  unfolding read_of
  is-62 a = rw a refl

  is-61 : good_table c ≡ true → good_inputs lent ≡ false → readings ≡ read_refused m 61
  unfolding read_of
  is-61 a b = rw (a, b) refl

  module _ {X : Type 0} {o : Result X Question} (told : told_by o ≡ first_no c lent) where
    -- it is 62 or 61
    pub refused-early : {q : Question} → o ≡ Err q → {r : Taken} → r ≡ Err q → Restores readings r m
    refused-early {q} is {r} w = go (good_table c) (good_inputs lent) refl refl (ap told_by (sym is) ∙ told)
      where
        go : (a b : Bool) → good_table c ≡ a → good_inputs lent ≡ b → question_number q ≡ cond a (cond b 0 61) 62 → Restores readings r m
        go false b x y h = restores (is-62 x) (ap numbered w ∙ ap refusal h) (ap taken_number w ∙ h) refl
        go true false x y h = restores (is-61 x y) (ap numbered w ∙ ap refusal h) (ap taken_number w ∙ h) refl
        go true true x y h = absurd (some q h)

    module _ {u : X} (none : o ≡ Ok u) where
      yes-yes : (good_table c ≡ true) × (good_inputs lent ≡ true)
      yes-yes = both_yes c lent told (ap told_by none)

      pub asked : Asked c i j
      asked = record { table = subst T (sym yes-yes.0) tt; inputs = subst T (sym yes-yes.1) tt }

      pub refused-63 : length m < limit.state → Restores readings (Err code.State) m
      unfolding read_of
      refused-63 h = restores (rw (yes-yes.0, yes-yes.1, lt-leb limit.state (length m) h) refl) refl refl refl

      module _ (h : limit.state ≤ length m) {f : Bool} (e : f ≡ sound_text t) where
        pub refused-68 : f ≡ false → Restores readings (Err code.Lines) m
        unfolding read_of
        refused-68 k = restores (rw (yes-yes.0, yes-yes.1, le-leb limit.state (length m) h, sym e ∙ k) refl) refl refl refl

        module _ (y : f ≡ true) where
          pub restorable : {z : List ℕ} → z ≡ replicate limit.state 0 → Restorable c i j t z
          restorable z = record { asked = asked; sound = passed e y; zeros = z }

          module _ {r : Bool} {n : List ℕ} (q : Restored c i j t r n) where
            pub refused-69 : r ≡ false → Restores readings (Err code.Frames) m
            unfolding read_of
            refused-69 z = restores (rw (yes-yes.0, yes-yes.1, le-leb limit.state (length m) h, sym e ∙ y, sym q.answer ∙ z) refl) refl refl refl

            pub accepted : r ≡ true → {o : List ℕ} → o ≡ pasted m 0 n → Restores readings (Ok tt) o
            unfolding read_of written
            accepted z a =
                let x : readings ≡ read_accepted (restored (frames_in t)) m = rw (yes-yes.0, yes-yes.1, le-leb limit.state (length m) h, sym e ∙ y, sym q.answer ∙ z) refl in
                let w : 0 + length n ≡ limit.state = omega (arith, q.long) in
                restores x refl refl (a ∙ ap (λ o. n ++ drop o m) w ∙ ap (λ v. v ++ drop limit.state m) (q.cells z))
