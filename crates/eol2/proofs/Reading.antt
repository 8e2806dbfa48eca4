-- A buffer filled by one read after the other.
use Rattle.std.specs.Prelude.{◌≡◌, ℕ, ◌+◌, ◌≤◌, List, ◌++◌, length, take, None, Some}
use Rattle.std.specs.declared.option.Option.{Option}
use Rattle.std.specs.Io.KnownBytes.{Consumes}
use Rattle.std.proofs.Common.{ap, sym, ◌∙◌, subst, append_assoc}
use Rattle.std.proofs.Math.Seq.{take-append-add}
use Rattle.std.proofs.lemmas.List.{take-append-le}
use lib.Seq.{length-take-le}

-- what two reads take
both : (k l m : Option (List ℕ)) (a b : List ℕ) → Consumes k l a → Consumes l m b → Consumes k m (a ++ b)
both None l m a b e f = tt
both (Some x) None m a b e f = elim e [ ]
both (Some x) (Some y) None a b e f = elim f [ ]
both (Some x) (Some y) (Some z) a b e f = e ∙ ap (λ (r : List ℕ). a ++ r) f ∙ sym (append_assoc a b z)

-- n bytes are read behind the first `done` of a buffer
pub read-on : (k l m : Option (List ℕ)) (done n : ℕ) (buffer part rest : List ℕ) → done ≤ length buffer → n ≤ length part
    → Consumes k l (take done buffer) → Consumes l m (take n part) → Consumes k m (take (done + n) (take done buffer ++ (part ++ rest)))
read-on k l m done n buffer part rest h i e f =
    let long : length (take done buffer) ≡ done = length-take-le done buffer h in
    let t : take (done + n) (take done buffer ++ (part ++ rest)) ≡ take done buffer ++ take n part =
    ap (λ (j : ℕ). take (j + n) (take done buffer ++ (part ++ rest))) (sym long)
    ∙ take-append-add (take done buffer) (part ++ rest) n
    ∙ ap (λ (r : List ℕ). take done buffer ++ r) (take-append-le n part rest i) in
    subst (λ (r : List ℕ). Consumes k m r) (sym t) (both k l m (take done buffer) (take n part) e f)
