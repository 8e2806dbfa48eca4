-- Rows that may give addresses: 59, then 60, after what they ask of their own; and rows that ask nothing of their own.
use mathlib.Core.Path.{◌≡◌, refl, sym, ◌∙◌}
use mathlib.Core.Bool.{true, false}
use Prim.Native.Nat.{◌<◌}
use native.Mathlib.Omega.{arith}
use borrow.Author.Tests.{le-leb, lt-leb}
use Rattle.state.specs.Below.Limits as limit
use Rattle.state.specs.Below.LanguageValues.{Store, State}
use Rattle.state.specs.Below.MachineArguments.{Asks, none}
use Rattle.state.specs.Below.Changes.{fits}
use Rattle.state.specs.Below.Effects.Go.{on}
use Rattle.state.specs.Working.{HoldsState, Stands, on_store}
use Rattle.state.proofs.Fits.{fine-limited, fits-limited}
use Rattle.instructions.specs.Does.{answer_of, with_store, Does, Quiet, stop_of}
use Rattle.instructions.proofs.Answers.{kept-done, does-stop, answer-quiet, answer-on, quiet-done}

pub quiet_none : Quiet none
quiet_none = record { is_50 = refl; is_55 = refl; is_56 = refl; is_57 = refl; is_58 = refl; is_59 = refl; is_60 = refl }

module _ {σ : State} (h : Stands σ) (q : Asks) (k : Quiet q) (z : stop_of q ≡ 0) (t : Store) where
  -- 59 is answered no; 59 yes and 60 no; both yes
  pub storing-full : fits t ≡ false → Does σ 59 σ (q, t, on)
  storing-full f = does-stop h (q, t, on) (answer-on h q t k z ∙ rw f refl) (λ y. omega (arith, y))

  pub storing-given : fits t ≡ true → limit.addresses < t.last → Does σ 60 σ (q, t, on)
  storing-given f l = does-stop h (q, t, on) (answer-on h q t k z ∙ rw (f, lt-leb t.last limit.addresses l) refl) (λ y. omega (arith, y))

  pub storing-done : {σ' : State} → HoldsState σ' (with_store t σ) → Does σ 0 σ' (q, t, on)
  storing-done g = quiet-done h q t k z g

-- nothing is asked: all is done, or 59. Where all is done, the new state alone has to be fine
pub plain_done : {σ : State} (f : Store → Store) {σ' : State} → HoldsState σ' (on_store f σ) → Does σ 0 σ' (none, f σ.store, on)
unfolding on_store
plain_done {σ} f g =
    let t : Store = f σ.store in
    let q : answer_of (none, t, on) σ ≡ 0 =
    answer-quiet none t σ quiet_none g.fine.stack_most
    ∙ rw (fits-limited (fine-limited (with_store t σ) g.fine), le-leb t.last limit.addresses g.fine.last_most) refl in
    record { is = sym q; holds = rw (kept-done (none, t, on) σ q) g }

pub plain-full : {σ : State} → Stands σ → (t : Store) → fits t ≡ false → Does σ 59 σ (none, t, on)
plain-full h t f = storing-full h none quiet_none refl t f
