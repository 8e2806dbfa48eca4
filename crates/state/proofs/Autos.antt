-- What `search` is given for the methods.
use mathlib.Core.Path.{◌≡◌}
use mathlib.Core.Bool.{Bool, true, false}
use Prim.Native.Nat.{ℕ}
use Rattle.store.specs.Below.LanguageValues.{State}
use Rattle.store.specs.Below.Changes.{minus_unless, with_plus, past, past_by}
use Rattle.state.specs.Working.{HoldsState, Stands, on_store, nth, reading}

pub kept : {b : Bool} {s : State} → Stands s → b ≡ true → HoldsState s (on_store (minus_unless b) s)
unfolding on_store minus_unless with_plus
kept h q = rw q h

pub left : {b : Bool} {s : State} (i k : ℕ) → b ≡ false → Stands s → HoldsState s (on_store (past (nth (reading b) i) k) s)
unfolding on_store past past_by
left i k q h = rw q h
