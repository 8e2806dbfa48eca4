-- The questions on a start or run one by one: the first no decides, and three yeses accept.
use Rattle.std.specs.Prelude.{◌≡◌, true, false, List, ℕ}
use Rattle.std.proofs.Math.Path.{refl}
use Rattle.layout.specs.Below.WellFormed.{good_inputs}
use Rattle.layout.specs.Table.{good_table}
use Rattle.calls.specs.Calls.{Call, call_inputs, Result, memory_passes, accepted_result, result_of}
use Rattle.calls.specs.Calls.Reply.{refusal}

-- a refusal, and the memory as it was
abbrev pub refused_as : ℕ → List ℕ → Result
refused_as number m = record { reply = refusal number; cells = m }

module _ (c m : List ℕ) (x : Call) where
  pub is-62 : good_table c ≡ false → result_of c x m ≡ refused_as 62 m
  unfolding result_of
  is-62 a = rw a refl

  pub is-61 : good_table c ≡ true → good_inputs (call_inputs x) ≡ false → result_of c x m ≡ refused_as 61 m
  unfolding result_of
  is-61 a b = rw (a, b) refl

  pub is-63 : good_table c ≡ true → good_inputs (call_inputs x) ≡ true → memory_passes c x m ≡ false → result_of c x m ≡ refused_as 63 m
  unfolding result_of
  is-63 a b d = rw (a, b, d) refl

  pub is-accepted : good_table c ≡ true → good_inputs (call_inputs x) ≡ true → memory_passes c x m ≡ true → result_of c x m ≡ accepted_result c x m
  unfolding result_of
  is-accepted a b d = rw (a, b, d) refl
