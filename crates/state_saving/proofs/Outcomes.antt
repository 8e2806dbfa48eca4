-- What the writer answers, way by way.
use mathlib.Core.Path.{◌≡◌, refl, sym, ap, ◌∙◌, subst}
use mathlib.Core.Bool.{Bool, true, false, cond, ◌&&◌, and-false}
use mathlib.Core.List.{List, [], ◌∷◌, ◌++◌}
use Prim.Native.Nat.{ℕ, ◌+◌, ◌≤◌, ◌<◌}
use native.Mathlib.Omega.{arith}
use lib.Dec.{T, leb}
use lib.ListN.{length, take, drop}
use lib.Seq.{take_at}
use borrow.Author.Tests.{le-leb, lt-leb}
use Rattle.calls.specs.Filling.{Filling, filled_in, Filled, Gives}
use Rattle.calls.specs.Filling.Filling.{kept, fills}
use Rattle.calls.specs.Questions.{question_number}
use Rattle.calls.specs.declared.Question.{Question}
use Rattle.calls.specs.declared.Question.TheVariants as code
use Rattle.cells.specs.Cells.{pasted}
use Rattle.check_calls.specs.Asked.{told_by, first_no}
use Rattle.check_calls.specs.AskedLaws.{both_yes, some}
use Rattle.check_state.specs.Asked.{Asked}
use Rattle.language.specs.Values.{Inputs}
use Rattle.layout.specs.Memory.{state_of, good_memory}
use Rattle.layout.specs.Table.{program_of, good_table}
use Rattle.layout.proofs.TableLaws.{table-facts}
use Rattle.lists.specs.Lists.{if_any}
use Rattle.machine.specs.Steps.{refusals}
use Rattle.machine.specs.WellFormed.{good_inputs}
use Rattle.state_frames.specs.Keeping.{write_of}
use Rattle.state_frames.specs.MemoryFrames.{Saveable}
use Rattle.state_frames.specs.Saved.{saved}
use Rattle.std.specs.Prelude.{Result, Ok, Err}
use Rattle.state_saving.specs.Saving.{Put}

-- ---- three questions

abbrev answer : Filling → Bool → Bool → Bool → Filling
answer x a b d = if_any x kept (refusals ((62, a) ∷ (61, b) ∷ (63, d) ∷ []))

first-refused : (x : Filling) (a b d : Bool) → (◌≡◌ {A = ℕ} (cond a (cond b 0 61) 62) 0 → ⊥) → answer x a b d ≡ kept (cond a (cond b 0 61) 62)
first-refused x true true d h = absurd (h refl)
first-refused x true false d h = refl
first-refused x false b d h = refl

third : (x : Filling) (a b d e : Bool) → T a → T b → d ≡ e → answer x a b d ≡ cond e x (kept 63)
third x true true d true t u q = ap (answer x true true) q
third x true true d false t u q = ap (answer x true true) q
third x true false d e t u q = absurd u
third x false b d e t u q = absurd t

-- ---- on a call: c is the table, i and j are the inputs, M is the memory, b the buffer

module _ (c i j M b : List ℕ) where
  abbrev ins : Inputs
  ins = i ∷ j ∷ []

  abbrev W : Filling
  W = write_of c ins M (length b)

  abbrev well : Bool
  well = good_memory (program_of c) ins M

  abbrev room : Bool
  room = leb (length (saved (state_of M))) (length b)

  refused-gives : (q : Question) → W ≡ kept (question_number q) → Gives W (Err q) b b
  unfolding filled_in
  refused-gives q e = subst (λ x. Gives x (Err q) b b) (sym e) (record { result_is = refl; number_is = refl; cells_are = refl })

  module _ {X : Type 0} {o : Result X Question} (told : told_by o ≡ first_no c ins) where
    pub first_gives : {q : Question} → o ≡ Err q → {r : Filled} → r ≡ Err q → Gives W r b b
    unfolding write_of
    first_gives {q} is {r} w =
        let n : question_number q ≡ first_no c ins = ap told_by (sym is) ∙ told in
        let e = first-refused (fills 80 (saved (state_of M))) (good_table c) (good_inputs ins) (well && room) (λ z. some q (n ∙ z)) in
        subst (λ r. Gives W r b b) (sym w) (refused-gives q (e ∙ ap kept (sym n)))

    pub asked : {u : X} → o ≡ Ok u → Asked c i j
    asked is = let y = both_yes c ins told (ap told_by is) in record { table = subst T (sym y.0) tt; inputs = subst T (sym y.1) tt }

  module _ (y : Asked c i j) where
    decided : (e : Bool) → well && room ≡ e → W ≡ cond e (fills 80 (saved (state_of M))) (kept 63)
    unfolding write_of
    decided e q = third (fills 80 (saved (state_of M))) (good_table c) (good_inputs ins) (well && room) e y.table y.inputs q

    pub ill-gives : {t : Bool} → t ≡ well → t ≡ false → Gives W (Err code.State) b b
    ill-gives e f = refused-gives code.State (decided false (ap (λ (u : Bool). u && room) (sym e ∙ f)))

    module _ {t : Bool} (e : t ≡ well) (f : t ≡ true) where
      pub saveable : Saveable M
      saveable = record { program = program_of c; inputs = ins; good = (table-facts c y.table).good; right = y.inputs; memory = subst T (sym f ∙ e) tt }

      module _ {o o' : List ℕ} {n : ℕ} (p : Put (saved (state_of M)) n o o') where
        pub narrow_gives : length b < n → Gives W (Err code.State) b b
        narrow_gives h =
            refused-gives code.State (decided false (ap (λ (u : Bool). well && u) (lt-leb (length (saved (state_of M))) (length b) (omega (arith, p.count))) ∙ and-false well))

        pub fitting-gives : n ≤ length b → {b' : List ℕ} → b' ≡ pasted b 0 (take n o') → Gives W (Ok n) b b'
        unfolding filled_in
        fitting-gives h {b'} g =
            let x = saved (state_of M) in
            let yes-yes : well && room ≡ true = ap (λ (u : Bool). u && room) (sym e ∙ f) ∙ le-leb (length x) (length b) (omega (arith, p.count)) in
            let held : take n o' ≡ x = ap (take n) p.row ∙ take_at x (drop (length x) o) n (sym p.count) in
            let z : 0 + length x ≡ length x = omega arith in
            subst (λ w. Gives w (Ok n) b b') (sym (decided true yes-yes))
            (record { result_is = ap Ok p.count; number_is = refl; cells_are = g ∙ ap (pasted b 0) held ∙ ap (λ (k : ℕ). x ++ drop k b) z })
