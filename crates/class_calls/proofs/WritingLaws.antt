-- What is written pupil by pupil.
use Rattle.std.specs.Prelude.{◌≡◌, refl, List, [], ◌∷◌, ◌++◌, ℕ, suc, ◌+◌, ◌*◌, ◌≤◌, ◌<◌, length, get_or, take, drop}
use Rattle.std.proofs.Common.{ap, sym, ◌∙◌, append_assoc, zero-add, arith, length-append, length-drop, take-append-drop, take_at, drop-drop, take-suc, length-take-le}
use Rattle.std.proofs.lemmas.List.{drop-append-le}
use Rattle.std.proofs.Math.Seq.{drop-append-add, take-append-add}
use Rattle.lists.specs.Lists.{each}
use Rattle.lists.specs.ListLaws.{total-append, total-split}
use Rattle.language.specs.Limits as limit
use Rattle.cells.specs.Cells.{pasted}
use Rattle.class_calls.specs.Class.{Pupil, sum, result_cells, results_of, outputs_of}
use Rattle.class_calls.proofs.UnawareLaws.{length_part}

-- ---- the inputs

pub sum-next : (ns : List ℕ) (k : ℕ) → k < length ns → sum (take (suc k) ns) ≡ sum (take k ns) + get_or ns k 0
sum-next ns k h =
    ap sum (take-suc ns k 0 h) ∙ total-append (λ (n : ℕ). n) (take k ns) (get_or ns k 0 ∷ []) ∙ omega arith

pub sum-within : (ns : List ℕ) (k : ℕ) → sum (take k ns) ≤ sum ns
sum-within ns k = omega (arith, total-split (λ (n : ℕ). n) k ns)

-- ---- the results

length-cells : (ps : List Pupil) → length (each result_cells ps) ≡ 3 * length ps
length-cells [] = refl
length-cells (p ∷ ps) = omega (arith, length-cells ps)

each_last : (ps : List Pupil) (p : Pupil) → each result_cells (ps ++ (p ∷ [])) ≡ each result_cells ps ++ result_cells p
each_last [] p = refl
each_last (q ∷ ps) p = ap (λ (l : List ℕ). result_cells q ++ l) (each_last ps p)

length_last : (ps : List Pupil) (p : Pupil) → length (ps ++ (p ∷ [])) ≡ suc (length ps)
length_last ps p = length-append ps (p ∷ []) ∙ omega arith

pub results-none : (res : List ℕ) → results_of [] res ≡ res
unfolding results_of
results-none res = refl

pub results_next : (ps : List Pupil) (p : Pupil) (res : List ℕ) → pasted (results_of ps res) (3 * length ps) (result_cells p) ≡ results_of (ps ++ (p ∷ [])) res
unfolding results_of
results_next ps p res =
    let cs = each result_cells ps in
    let n = 3 * length ps in
    let front : take n (cs ++ drop n res) ≡ cs = take_at cs (drop n res) n (length-cells ps) in
    let e : n + 3 ≡ length cs + 3 = omega (arith, length-cells ps) in
    let z : n + 3 ≡ 3 * length (ps ++ (p ∷ [])) = omega (arith, length_last ps p) in
    let back : drop (n + 3) (cs ++ drop n res) ≡ drop (3 * length (ps ++ (p ∷ []))) res =
    ap (λ (k : ℕ). drop k (cs ++ drop n res)) e ∙ drop-append-add cs (drop n res) 3 ∙ drop-drop 3 n res
    ∙ ap (λ (k : ℕ). drop k res) z in
    ap (λ (l : List ℕ). l ++ (result_cells p ++ drop (n + 3) (cs ++ drop n res))) front
    ∙ ap (λ (l : List ℕ). cs ++ (result_cells p ++ l)) back
    ∙ sym (append_assoc cs (result_cells p) (drop (3 * length (ps ++ (p ∷ []))) res))
    ∙ ap (λ (l : List ℕ). l ++ drop (3 * length (ps ++ (p ∷ []))) res) (sym (each_last ps p))

-- ---- the outputs

-- all as short as Q may be
abbrev pub AllShort : List Pupil → Type 0
AllShort [] = Unit {0}
AllShort (p ∷ ps) = (length p.q1 ≤ limit.output) × AllShort ps

pub outputs-none : (out : List ℕ) → outputs_of [] out ≡ out
unfolding outputs_of
outputs-none out = refl

-- a part with its Q1, by its first bytes
one-part : (q out : List ℕ) → length q ≤ limit.output → limit.output ≤ length out
    → q ++ drop (length q) out ≡ (q ++ drop (length q) (take limit.output out)) ++ drop limit.output out
one-part q out h k =
    let long : length (take limit.output out) ≡ limit.output = length-take-le limit.output out k in
    ap (λ (l : List ℕ). q ++ drop (length q) l) (sym (take-append-drop limit.output out))
    ∙ ap (λ (l : List ℕ). q ++ l) (drop-append-le (length q) (take limit.output out) (drop limit.output out) (omega (arith, h, long)))
    ∙ sym (append_assoc q (drop (length q) (take limit.output out)) (drop limit.output out))

pub outputs-next : (ps : List Pupil) (p : Pupil) (out : List ℕ) → AllShort ps → length p.q1 ≤ limit.output → limit.output * suc (length ps) ≤ length out
    → pasted (outputs_of ps out) (limit.output * length ps) p.q1 ≡ outputs_of (ps ++ (p ∷ [])) out
unfolding outputs_of
outputs-next [] p out s h r = ap (λ (k : ℕ). p.q1 ++ drop k out) (zero-add (length p.q1)) ∙ one-part p.q1 out h (omega (arith, r))
outputs-next (q ∷ ps) p out s h r =
    let front = q.q1 ++ drop (length q.q1) (take limit.output out) in
    let rest = outputs_of ps (drop limit.output out) in
    let n = limit.output * length ps in
    let long : length front ≡ limit.output = length_part q.q1 out s.0 (omega (arith, r)) in
    let e : limit.output * suc (length ps) ≡ length front + n = omega (arith, long) in
    let f : limit.output * suc (length ps) + length p.q1 ≡ length front + (n + length p.q1) = omega (arith, long) in
    ap (λ (k : ℕ). take k (front ++ rest) ++ (p.q1 ++ drop (limit.output * suc (length ps) + length p.q1) (front ++ rest))) e
    ∙ ap (λ (l : List ℕ). l ++ (p.q1 ++ drop (limit.output * suc (length ps) + length p.q1) (front ++ rest))) (take-append-add front rest n)
    ∙ ap (λ (l : List ℕ). (front ++ take n rest) ++ (p.q1 ++ l)) (ap (λ (k : ℕ). drop k (front ++ rest)) f ∙ drop-append-add front rest (n + length p.q1))
    ∙ append_assoc front (take n rest) (p.q1 ++ drop (n + length p.q1) rest)
    ∙ ap (λ (l : List ℕ). front ++ l)
    (outputs-next ps p (drop limit.output out) s.1 h (omega (arith, r, length-drop limit.output out)))
