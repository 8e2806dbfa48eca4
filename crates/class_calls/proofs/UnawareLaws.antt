-- "Once the call is taken, none of the sixteen can tell from its own results who else is in the class."
use Rattle.std.specs.Prelude.{◌≡◌, refl, Bool, true, false, List, [], ◌∷◌, ◌++◌, ℕ, zero, suc, ◌+◌, ◌*◌, ◌≤◌, ◌<◌, T, length, get_or, take, drop}
use Rattle.std.proofs.Common.{ap, sym, ◌∙◌, subst, append_assoc, not-suc-le-zero, le_of_suc-le-suc, arith, length-append, length-drop, take_at, length-take-le}
use Rattle.std.proofs.Math.Seq.{drop-append-add}
use Rattle.layout.proofs.StringLaws.{length-cut-by}
use Rattle.lists.specs.Lists.{each, if_any}
use Rattle.language.specs.Limits as limit
use Rattle.machine.specs.Steps.{refusals}
use Rattle.layout.specs.Strings.{cut_by}
use Rattle.layout.specs.Table.{good_table}
use Rattle.class_calls.specs.Class.{Pupil, refused_pupil, pupil, Lent, class_fits, pupils, class_of, result_cells, results_of, outputs_of}
use Rattle.class_calls.specs.Class.ClassReply.{class_refused, taken}
use Rattle.class_calls.proofs.ClassLaws.{q1-most}
use Rattle.class_calls.proofs.FitLaws.{fits-facts}

-- ---- a call that is taken

abbrev inputs_in : Lent → List (List ℕ)
inputs_in x = cut_by x.lengths x.data_in

pub record Taken (c : List ℕ) (x : Lent) (ps : List Pupil) : Type 0 where
  pub table : T (good_table c)
  pub fits : T (class_fits x)
  pub are : ps ≡ pupils c (inputs_in x) x.budgets

same_taken : {ps qs : List Pupil} → taken ps ≡ taken qs → ps ≡ qs
same_taken e = cc

pub taken-facts : (c : List ℕ) (x : Lent) (ps : List Pupil) → class_of c x ≡ taken ps → Taken c x ps
unfolding class_of
taken-facts c x ps = go (good_table c) refl (class_fits x) refl
  where
    go : (a : Bool) → good_table c ≡ a → (b : Bool) → class_fits x ≡ b
        → if_any (taken (pupils c (inputs_in x) x.budgets)) class_refused (refusals ((62, a) ∷ (71, b) ∷ [])) ≡ taken ps → Taken c x ps
    go true e true f q = record { table = subst T (sym e) tt; fits = subst T (sym f) tt; are = sym (same_taken q) }
    go true e false f q = absurd (let z : ◌≡◌ {A = ℕ} 0 1 = cc in omega (arith, z))
    go false e true f q = absurd (let z : ◌≡◌ {A = ℕ} 0 1 = cc in omega (arith, z))
    go false e false f q = absurd (let z : ◌≡◌ {A = ℕ} 0 1 = cc in omega (arith, z))

-- ---- the pupil at an index

pub pupil-at : (c : List ℕ) (ws : List (List ℕ)) (bs : List ℕ) (i : ℕ) → i < length (pupils c ws bs)
    → get_or (pupils c ws bs) i (refused_pupil 0) ≡ pupil c (get_or ws i []) (get_or bs i 0)
unfolding pupils
pupil-at c [] bs i h = absurd (not-suc-le-zero h)
pupil-at c (w ∷ ws) [] i h = absurd (not-suc-le-zero h)
pupil-at c (w ∷ ws) (b ∷ bs) zero h = refl
pupil-at c (w ∷ ws) (b ∷ bs) (suc i) h = pupil-at c ws bs i (le_of_suc-le-suc h)

pub length-pupils : (c : List ℕ) (ws : List (List ℕ)) (bs : List ℕ) → length bs ≡ length ws → length (pupils c ws bs) ≡ length ws
unfolding pupils
length-pupils c [] bs h = refl
length-pupils c (w ∷ ws) [] h = absurd (omega (arith, h))
length-pupils c (w ∷ ws) (b ∷ bs) h = ap suc (length-pupils c ws bs (omega (arith, h)))

-- ---- what is written of the pupil at an index

-- its result cells
cells_at : (ps : List Pupil) (t : List ℕ) (i : ℕ) → i < length ps → take 3 (drop (3 * i) (each result_cells ps ++ t)) ≡ result_cells (get_or ps i (refused_pupil 0))
cells_at [] t i h = absurd (not-suc-le-zero h)
cells_at (p ∷ ps) t zero h = refl
cells_at (p ∷ ps) t (suc i) h =
    let e : 3 * suc i ≡ 3 + 3 * i = omega arith in
    ap (λ (n : ℕ). take 3 (drop n (result_cells p ++ (each result_cells ps ++ t)))) e
    ∙ ap (take 3) (drop-append-add (result_cells p) (each result_cells ps ++ t) (3 * i)) ∙ cells_at ps t i (le_of_suc-le-suc h)

pub result-at : (ps : List Pupil) (res : List ℕ) (i : ℕ) → i < length ps → take 3 (drop (3 * i) (results_of ps res)) ≡ result_cells (get_or ps i (refused_pupil 0))
unfolding results_of
result-at ps res i h = cells_at ps (drop (3 * length ps) res) i h

-- all Q1 are as short as Q may be
abbrev pub ShortOutputs : List Pupil → Type 0
ShortOutputs ps = (i : ℕ) → i < length ps → length (get_or ps i (refused_pupil 0)).q1 ≤ limit.output

-- a part with its Q1 is as long as it was
pub length_part : (q out : List ℕ) → length q ≤ limit.output → limit.output ≤ length out
    → length (q ++ drop (length q) (take limit.output out)) ≡ limit.output
length_part q out a b =
    length-append q (drop (length q) (take limit.output out))
    ∙ omega (arith, length-drop (length q) (take limit.output out), length-take-le limit.output out b, a)

-- its Q1
pub output-at : (ps : List Pupil) (out : List ℕ) (i : ℕ) → i < length ps → ShortOutputs ps → limit.output * length ps ≤ length out
    → take (length (get_or ps i (refused_pupil 0)).q1) (drop (limit.output * i) (outputs_of ps out)) ≡ (get_or ps i (refused_pupil 0)).q1
unfolding outputs_of
output-at [] out i h s r = absurd (not-suc-le-zero h)
output-at (p ∷ ps) out zero h s r =
    ap (take (length p.q1)) (append_assoc p.q1 (drop (length p.q1) (take limit.output out)) (outputs_of ps (drop limit.output out)))
    ∙ take_at p.q1 (drop (length p.q1) (take limit.output out) ++ outputs_of ps (drop limit.output out)) (length p.q1) refl
output-at (p ∷ ps) out (suc i) h s r =
    let front = p.q1 ++ drop (length p.q1) (take limit.output out) in
    let rest = outputs_of ps (drop limit.output out) in
    let e : limit.output * suc i ≡ length front + limit.output * i = omega (arith, length_part p.q1 out (s 0 (omega arith)) (omega (arith, r))) in
    ap (take (length (get_or ps i (refused_pupil 0)).q1)) (ap (λ (n : ℕ). drop n (front ++ rest)) e ∙ drop-append-add front rest (limit.output * i))
    ∙ output-at ps (drop limit.output out) i (le_of_suc-le-suc h) (λ k l. s (suc k) (omega (arith, l))) (omega (arith, r, length-drop limit.output out))

-- ---- the theorem

-- what a pupil finds of its own: its pupil, its three result cells and the bytes of its Q1
pub record SameFor (ps qs : List Pupil) (x y : Lent) (i j : ℕ) : Type 0 where
  pub same : get_or ps i (refused_pupil 0) ≡ get_or qs j (refused_pupil 0)
  pub same_cells : take 3 (drop (3 * i) (results_of ps x.results)) ≡ take 3 (drop (3 * j) (results_of qs y.results))
  pub same_q1 : take (length (get_or ps i (refused_pupil 0)).q1) (drop (limit.output * i) (outputs_of ps x.out))
      ≡ take (length (get_or qs j (refused_pupil 0)).q1) (drop (limit.output * j) (outputs_of qs y.out))

module _ (c : List ℕ) (x : Lent) (ps : List Pupil) (t : Taken c x ps) where
  is-pupil : (i : ℕ) → i < length ps → get_or ps i (refused_pupil 0) ≡ pupil c (get_or (inputs_in x) i []) (get_or x.budgets i 0)
  is-pupil i h =
      ap (λ (r : List Pupil). get_or r i (refused_pupil 0)) t.are
      ∙ pupil-at c (inputs_in x) x.budgets i (subst (λ (r : List Pupil). i < length r) t.are h)

  short : ShortOutputs ps
  short i h = subst (λ (p : Pupil). length p.q1 ≤ limit.output) (sym (is-pupil i h)) (q1-most c (get_or (inputs_in x) i []) (get_or x.budgets i 0) t.table)

  room : limit.output * length ps ≤ length x.out
  room =
      let f = fits-facts x t.fits in
      let n : length ps ≡ length x.lengths =
      ap length t.are ∙ length-pupils c (inputs_in x) x.budgets (f.as_many ∙ sym (length-cut-by x.lengths x.data_in)) ∙ length-cut-by x.lengths x.data_in in
      omega (arith, n, f.bytes)

-- two calls with the same table, in which a pupil of the one and a pupil of the other have the same input and the same budget:
-- at whatever places, with whatever other pupils and whatever buffers
pub unaware : (c : List ℕ) (x y : Lent) (ps qs : List Pupil) → class_of c x ≡ taken ps → class_of c y ≡ taken qs
    → (i j : ℕ) → i < length ps → j < length qs
    → get_or (cut_by x.lengths x.data_in) i [] ≡ get_or (cut_by y.lengths y.data_in) j [] → get_or x.budgets i 0 ≡ get_or y.budgets j 0
    → SameFor ps qs x y i j
unaware c x y ps qs a b i j h k e f =
    let t = taken-facts c x ps a in
    let u = taken-facts c y qs b in
    let z : get_or ps i (refused_pupil 0) ≡ get_or qs j (refused_pupil 0) =
    is-pupil c x ps t i h ∙ ap (λ (w : List ℕ). pupil c w (get_or x.budgets i 0)) e ∙ ap (λ (n : ℕ). pupil c (get_or (inputs_in y) j []) n) f
    ∙ sym (is-pupil c y qs u j k) in
    record {
      same = z;
      same_cells = result-at ps x.results i h ∙ ap result_cells z ∙ sym (result-at qs y.results j k);
      same_q1 =
          output-at ps x.out i h (short c x ps t) (room c x ps t) ∙ ap (λ (p : Pupil). p.q1) z
          ∙ sym (output-at qs y.out j k (short c y qs u) (room c y qs u));
    }
