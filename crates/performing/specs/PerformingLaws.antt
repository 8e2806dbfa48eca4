-- From an instruction carried out to a step.
use Rattle.std.specs.Prelude.{◌≡◌, Bool, true, false, cond, not, ◌||◌, List, [], ◌∷◌, map, ℕ, suc, ◌≤◌, ◌<◌, leb, length}
use Rattle.std.proofs.Math.Path.{refl}
use Rattle.std.proofs.Common.{sym, ap, ◌∙◌, subst, arith, leb→le}
use Rattle.std.proofs.Math.Dec.{T}
use Rattle.lists.specs.Lists.{all, head_or, if_any}
use Rattle.lists.specs.ListLaws.{T-left, T-right}
use Rattle.lists.specs.TableLaws.{below}
use Rattle.language.specs.Instructions.{operation, operator_of, number_of as operator_number, is_end}
use Rattle.language.specs.Limits as limit
use Rattle.language.specs.Program.{Arg, Op, Program, instr_at}
use Rattle.language.specs.Program.Op.{PRZESLIJ, CZYTAJ, PISZ, KOPIUJ, WSTAW, POBIERZ, SCHOWAJ, USTAW, ZAMIEN, UMIESC, USUN, SKRESL, RW, WK, MN, PP, NS, RZ, SKOCZ, WYKONAJ, SKOMI, SKOPL, WYMI, WYPL, SKONA, SKOIN, WYNA, WYIN, WROC, DODAJ, ODEJMIJ, MNOZ, DZIEL, SLOWO, LICZBA, ZBIJ, ROZBIJ, SZUKAJ, OMIN, COFNIJ, STOP}
use Rattle.language.specs.Values.{Store, State, Inputs}
use Rattle.machine.specs.Effects.{Row, relation, equality, ordered, computed, changed, row}
use Rattle.machine.specs.Effects.Go.{on}
use Rattle.machine.proofs.WellFormedLaws.{open-state}
use Rattle.machine.specs.Runs.Outcome.{stop, went}
use Rattle.machine.specs.Steps.{made, meaning, numbers, questions, refusals, step}
use Rattle.layout.proofs.ArgumentLaws.{operator-back}
use Rattle.layout.specs.Table.{program_of}
use Rattle.control.specs.Going.{going}
use Rattle.decoding.specs.OperandLaws.{has-following}
use Rattle.instructions.specs.Does.{answered, asked_of, done_of, with_store}
use Rattle.state.specs.Working.{HoldsState}
use Rattle.table.specs.declared.Argument.{Argument}
use Rattle.performing.specs.Stepping.{inputs, number_of, state_after, outcome, Stepped}
use Rattle.performing.specs.Performing.{leads, Performing, next_row, Performs, Leads}
use Rattle.performing.specs.SteppingLaws.{few}

-- the first no among some, as an outcome and as a number
number-first : (m : State) (ns : List ℕ) → number_of (if_any (went m) stop ns) ≡ head_or 0 ns
number-first m [] = refl
number-first m (k ∷ ns) = refl

state-first : (m s : State) (ns : List ℕ) → state_after s (if_any (went m) stop ns) ≡ if_any m (λ n. s) ns
state-first m s [] = refl
state-first m s (k ∷ ns) = refl

refused-most : (f : ℕ → Bool) (ns : List ℕ) → T (all (λ n. leb n 60) ns) → head_or 0 (refusals (map (λ n. (n, f n)) ns)) ≤ 60
refused-most f [] h = omega arith
refused-most f (n ∷ ns) h = go (f n) (refused-most f ns (T-right (leb n 60) (all (λ n. leb n 60) ns) h))
  where
    rest : List ℕ
    rest = refusals (map (λ n. (n, f n)) ns)

    go : (b : Bool) → head_or 0 rest ≤ 60 → head_or 0 (cond b rest (n ∷ rest)) ≤ 60
    go true k = k
    go false k = leb→le n 60 (T-left (leb n 60) (all (λ n. leb n 60) ns) h)

-- an instruction that is no jump, call, return or STOP goes on to the following one
goes_on : (g : Program) (ins : Inputs) (s : Store) (a b c : Arg) (o : Op) → T (not (leads o)) → (row g ins s a b c o).2 ≡ on
unfolding row equality ordered changed relation computed
goes_on g ins s a b c PRZESLIJ h = refl
goes_on g ins s a b c CZYTAJ h = refl
goes_on g ins s a b c PISZ h = refl
goes_on g ins s a b c KOPIUJ h = refl
goes_on g ins s a b c WSTAW h = refl
goes_on g ins s a b c POBIERZ h = refl
goes_on g ins s a b c SCHOWAJ h = refl
goes_on g ins s a b c USTAW h = refl
goes_on g ins s a b c ZAMIEN h = refl
goes_on g ins s a b c UMIESC h = refl
goes_on g ins s a b c USUN h = refl
goes_on g ins s a b c SKRESL h = refl
goes_on g ins s a b c RW h = refl
goes_on g ins s a b c WK h = refl
goes_on g ins s a b c MN h = refl
goes_on g ins s a b c PP h = refl
goes_on g ins s a b c NS h = refl
goes_on g ins s a b c RZ h = refl
goes_on g ins s a b c SKOCZ h = absurd h
goes_on g ins s a b c WYKONAJ h = absurd h
goes_on g ins s a b c SKOMI h = absurd h
goes_on g ins s a b c SKOPL h = absurd h
goes_on g ins s a b c WYMI h = absurd h
goes_on g ins s a b c WYPL h = absurd h
goes_on g ins s a b c SKONA h = absurd h
goes_on g ins s a b c SKOIN h = absurd h
goes_on g ins s a b c WYNA h = absurd h
goes_on g ins s a b c WYIN h = absurd h
goes_on g ins s a b c WROC h = absurd h
goes_on g ins s a b c DODAJ h = refl
goes_on g ins s a b c ODEJMIJ h = refl
goes_on g ins s a b c MNOZ h = refl
goes_on g ins s a b c DZIEL h = refl
goes_on g ins s a b c SLOWO h = refl
goes_on g ins s a b c LICZBA h = refl
goes_on g ins s a b c ZBIJ h = refl
goes_on g ins s a b c ROZBIJ h = refl
goes_on g ins s a b c SZUKAJ h = refl
goes_on g ins s a b c OMIN h = refl
goes_on g ins s a b c COFNIJ h = refl
goes_on g ins s a b c STOP h = absurd h

module _ (c i j : List ℕ) (σ : State) where
  abbrev r : Row
  r = next_row c i j σ

  abbrev refused : List ℕ
  refused = refusals (asked_of r σ)

  step_is : outcome c i j σ ≡ if_any (went (made r σ)) stop refused
  unfolding step questions
  step_is = refl

  none-refused : {told : ℕ} → told ≡ head_or 0 refused → told ≡ 0 → refused ≡ []
  none-refused {told} q z = go refused refl (sym q ∙ z)
    where
      go : (ns : List ℕ) → refused ≡ ns → head_or 0 ns ≡ 0 → refused ≡ []
      go [] q z = q
      go (k ∷ ns) q z = absurd (let x = few (answered r σ) numbers tt q in omega (arith, x, z))

  -- a jump, call or return is a step
  pub stepped : {told : ℕ} {σ' : State} → Leads c i j σ told σ' → Stepped c i j σ told σ'
  stepped {σ' = σ'} h =
      record {
        is = h.is ∙ sym (ap number_of step_is ∙ number-first (made r σ) refused);
        holds = subst (λ (t : State). HoldsState σ' t) (sym (ap (state_after σ) step_is ∙ state-first (made r σ) σ refused)) h.holds;
        most = rw h.is (refused-most (answered r σ) numbers tt);
      }

  module _ {told : ℕ} {σ' : State} where
    -- a refusal
    pub stepped-stop : Performs c i j σ told σ' → (told ≡ 0 → ⊥) → Stepped c i j σ told σ'
    stepped-stop h w = stepped (record { is = h.is; holds = go refused h.is h.holds })
      where
        go : (ns : List ℕ) → told ≡ head_or 0 ns → HoldsState σ' (if_any (with_store r.1 σ) (λ n. σ) ns) → HoldsState σ' (if_any (made r σ) (λ n. σ) ns)
        go [] q k = absurd (w q)
        go (x ∷ ns) q k = k

    -- no refusal: the following instruction comes next
    module _ (h : Performs c i j σ told σ') (z : told ≡ 0) where
      held : HoldsState σ' (with_store r.1 σ)
      held = subst (λ (ns : List ℕ). HoldsState σ' (if_any (with_store r.1 σ) (λ n. σ) ns)) (none-refused h.is z) h.holds

      pub following : suc σ.next < limit.instructions → suc σ'.next < limit.instructions
      following b = rw held.is b

      pub stepped-on : r.2 ≡ on → {σ'' : State} → HoldsState σ'' (going on σ') → Stepped c i j σ told σ''
      unfolding going
      stepped-on q {σ''} k =
          let g : HoldsState σ'' (going on (with_store r.1 σ)) = subst (λ (t : State). HoldsState σ'' (going on t)) held.is k in
          let m : made r σ ≡ going on (with_store r.1 σ) = rw q refl in
          let w : HoldsState σ'' (done_of r σ) = rw (none-refused h.is z, m) g in
          stepped (record { is = h.is; holds = w })

-- of an instruction that was read of a well-formed table
module _ {c i j : List ℕ} {σ : State} {op : Op} {x y z : Argument} (w : Performing c i j σ op x y z) (h : T (not (leads op))) where
  pub row_on : (next_row c i j σ).2 ≡ on
  unfolding meaning
  row_on =
      let g = program_of c in
      let m = instr_at g σ.next in
      goes_on g (inputs i j) σ.store m.first m.second m.third m.op
      (subst (λ (o : Op). T (not (leads o))) (sym (operator-back op) ∙ w.read.instruction.operator) h)

  pub has-next : suc σ.next < limit.instructions
  has-next =
      has-following c w.ready.table σ.next next-in w.read (subst (λ (o : Op). T (not (is_end (operation o).flow))) (sym (operator-back op)) not-ends)
    where
      next-in : σ.next < length (program_of c).code
      next-in = (open-state (program_of c) (inputs i j) σ w.ready.good).next

      unless : (a b : Bool) → T (a || b) → T (not a) → T b
      unless true b k h = absurd h
      unless false b k h = k

      not-ends : T (not (is_end (operation op).flow))
      not-ends =
          unless (leads op) (not (is_end (operation op).flow))
          (subst (λ (o : Op). T (leads o || not (is_end (operation o).flow))) (operator-back op)
          (below (λ k. leads (operator_of k) || not (is_end (operation (operator_of k)).flow)) 42 tt (operator_number op)
          (omega (arith, w.read.instruction.to)))) h
