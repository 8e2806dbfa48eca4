-- `Strings::new` meets its contract.
use Rattle.std.proofs.lemmas.List.{get_or-replicate, length-replicate}
use Prim.Native.Nat.{ℕ}
use Rattle.strings.proofs.Empty.{empty_fine, empty_is}
use Rattle.strings.proofs.Strings.new.Goals as goal

pub invariant_of-result : goal.invariant_of-result
invariant_of-result c = empty_fine _ _ (length-replicate {A = ℕ} 65536 0) (length-replicate {A = ℕ} 198 0) (λ k h. get_or-replicate {A = ℕ} 198 k 0 0 h)

pub returns : goal.returns
returns c = empty_is _ _ (length-replicate {A = ℕ} 65536 0) (length-replicate {A = ℕ} 198 0) (λ k h. get_or-replicate {A = ℕ} 198 k 0 0 h)
