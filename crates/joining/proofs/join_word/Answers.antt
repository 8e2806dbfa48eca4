-- `joining::join_word` meets its contract.
use mathlib.Core.List.{List}
use Prim.Native.Nat.{ℕ}
use mathlib.Core.Path.{subst}
use Rattle.layout.specs.Components.{components_bytes}
use Rattle.components.specs.Parts.{Written}
use Rattle.joining.specs.Joining.{word_if}
use Rattle.joining.proofs.Words.{written_is}
use Rattle.joining.proofs.join_word.Goals as goal

pub returns : goal.returns
returns c =
    let argsᶜ = c.args in
    let make-wordᶜ = c.make_word in
    subst (λ (l : List ℕ). Written argsᶜ.out.now (components_bytes (word_if l)) make-wordᶜ.new.out make-wordᶜ.result) (written_is c.join-n.ensures) make-wordᶜ.ensures
