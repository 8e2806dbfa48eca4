-- `class_running::sum` meets its contract.
use Rattle.std.proofs.Common.{◌≡◌, refl, sym, ◌∙◌, rules}
use Rattle.std.specs.List.{sum_by}
use Rattle.std.proofs.lemmas.List.Recursion.{is_sum_by}
use Rattle.class_calls.specs.Class.{sum}
use Rattle.class_running.proofs.sum.Goals as goal

pub returns : goal.returns
returns c =
    let ns = c.args.lengths.now in
    let added : c.sum.result ≡ sum_by (λ n. n) ns = search rules in
    added ∙ sym (is_sum_by sum (λ n. n) refl (λ _ _. refl) ns)
