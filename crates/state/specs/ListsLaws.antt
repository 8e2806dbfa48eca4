-- What is said over lists, and what is said of the fields of a value.
use mathlib.Core.List.{List}
use Prim.Native.Nat.{ℕ}
use Rattle.store.specs.Below.LanguageValues.{State}
use Rattle.store.specs.Below.Pool as pool
use Rattle.state.specs.Working.{Lies}
use Rattle.state.specs.Lists.{HoldsLists}

pub lists-lie : {p e n : List ℕ} {s : State} → HoldsLists p e n s → Lies (pool.abs p e) n s
lists-lie h = record { strings_is = h.holds.is; numbers = h.numbers; fine = h.fine }

pub lies-lists : {p e n : List ℕ} {s : State} → pool.Fine p e → Lies (pool.abs p e) n s → HoldsLists p e n s
lies-lists f h = record { holds = record { fine = f; is = h.strings_is; fits = rw (← h.strings_is) f.fits }; numbers = h.numbers; fine = h.fine }
