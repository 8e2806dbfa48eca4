-- One pupil after the other, and the whole call.
use mathlib.Core.Path.{◌≡◌, refl, ap, sym, ◌∙◌, subst}
use mathlib.Core.Bool.{Bool, true, false}
use mathlib.Core.List.{List, [], ◌∷◌, ◌++◌}
use Prim.Native.Nat.{ℕ, zero, suc, ◌+◌, ◌*◌, ◌-◌, ◌≤◌, ◌<◌}
use native.Mathlib.Omega.{arith}
use lib.Dec.{T}
use lib.ListN.{length, get_or, take, drop}
use lib.Seq.{take-suc, take_all, length-take-le}
use Rattle.layout.proofs.StringLaws.{length-cut-by, cut_at}
use Rattle.lists.specs.Lists.{if_any}
use Rattle.language.specs.Limits as limit
use Rattle.machine.specs.Steps.{refusals}
use Rattle.layout.specs.Strings.{cut_by}
use Rattle.layout.specs.Table.{good_table}
use Rattle.layout.proofs.TableLaws.{table-facts}
use Rattle.calls.specs.Filling.{Taken}
use Rattle.cells.specs.Cells.{pasted}
use Rattle.class_calls.specs.Class.{lent_of, Pupil, refused_pupil, pupil, Lent, sum, class_fits, pupils, ClassReply, class_of, result_cells, results_of, results_after, outputs_of, outputs_after}
use Rattle.class_calls.specs.Class.ClassReply.{class_refused, taken}
use Rattle.class_calls.proofs.ClassLaws.{q1-most}
use Rattle.class_calls.proofs.FitLaws.{ClassFits, fits-facts}
use Rattle.class_calls.proofs.UnawareLaws.{pupil-at, length-pupils}
use Rattle.class_calls.proofs.WritingLaws.{sum-next, sum-within, results-none, results_next, AllShort, outputs-none, outputs-next}
use Rattle.calls.specs.Questions.{numbered}
use Rattle.calls.specs.declared.Question.{Question}
use Rattle.calls.specs.declared.Question.TheVariants as code
use Rattle.std.specs.Prelude.{Result, Ok, Err}
use Rattle.class_running.specs.ClassRunning.{told_cells, Seated, Answered, Classable, Written, taken_by, Classes}
use Rattle.class_running.specs.declared.Told.{Told}

all_short : (c : List ℕ) → T (good_table c) → (ws : List (List ℕ)) (bs : List ℕ) (k : ℕ) → AllShort (take k (pupils c ws bs))
unfolding pupils
all_short c t ws bs zero = tt
all_short c t [] bs (suc k) = tt
all_short c t (w ∷ ws) [] (suc k) = tt
all_short c t (w ∷ ws) (b ∷ bs) (suc k) = (q1-most c w b t, all_short c t ws bs k)

-- k pupils have sat, and the input of the next begins at `from`
pub record Sitting (c s ns bs res₀ out₀ : List ℕ) (memory₀ : ℕ) (res out : List ℕ) (memory k from : ℕ) : Type 0 where
  pub upto : k ≤ length ns
  pub from_is : from ≡ sum (take k ns)
  pub results_are : res ≡ results_of (take k (pupils c (cut_by ns s) bs)) res₀
  pub outputs_are : out ≡ outputs_of (take k (pupils c (cut_by ns s) bs)) out₀
  pub memory_is : memory ≡ memory₀
  pub res_long : length res ≡ length res₀
  pub out_long : length out ≡ length out₀

module _ {c s ns bs res₀ out₀ : List ℕ} {memory₀ : ℕ} (pre : Classable c s ns bs res₀ out₀ memory₀) where
  abbrev ps : List Pupil
  ps = pupils c (cut_by ns s) bs

  pub table-long : limit.table ≤ length c
  table-long = (table-facts c pre.table).long

  pub facts : ClassFits (lent_of s ns bs res₀ out₀)
  facts = fits-facts (lent_of s ns bs res₀ out₀) pre.fits

  many : length ps ≡ length ns
  many = length-pupils c (cut_by ns s) bs (facts.as_many ∙ sym (length-cut-by ns s)) ∙ length-cut-by ns s

  pub sit-begin : Sitting c s ns bs res₀ out₀ memory₀ res₀ out₀ memory₀ 0 0
  sit-begin = record {
    upto = omega arith;
    from_is = refl;
    results_are = sym (results-none res₀);
    outputs_are = sym (outputs-none out₀);
    memory_is = refl;
    res_long = refl;
    out_long = refl;
  }

  module _ {res out : List ℕ} {memory k from : ℕ} (i : Sitting c s ns bs res₀ out₀ memory₀ res out memory k from) (h : k < length ns) where
    pub few : k < 16
    few = omega (arith, h, facts.few)

    pub a-budget : k < length bs
    a-budget = omega (arith, h, facts.as_many)

    pub seated : Seated c memory (limit.output * k) (length out)
    seated = record { table = pre.table; long = i.memory_is ∙ pre.long; room = omega (arith, h, i.out_long, facts.bytes) }

    pub three-cells : 3 * k + 3 ≤ length res
    three-cells = omega (arith, h, i.res_long, facts.cells)

    module _ {n : ℕ} (r : n ≡ get_or ns k 0) where
      pub end-within : from + n ≤ length s
      end-within = omega (arith, i.from_is, r, sum-next ns k h, sum-within ns (suc k), facts.adds_up)

      its-input : take ((from + n) - from) (drop from s) ≡ get_or (cut_by ns s) k []
      its-input =
          let e : (from + n) - from ≡ get_or ns k 0 = omega (arith, r) in
          ap (λ (m : ℕ). take m (drop from s)) e ∙ ap (λ (m : ℕ). take (get_or ns k 0) (drop m s)) i.from_is ∙ sym (cut_at ns s k h)

      -- the pupil that sits
      its-pupil : pupil c (take ((from + n) - from) (drop from s)) (get_or bs k 0) ≡ get_or ps k (refused_pupil 0)
      its-pupil = ap (λ (w : List ℕ). pupil c w (get_or bs k 0)) its-input ∙ sym (pupil-at c (cut_by ns s) bs k (omega (arith, h, many)))

      next-all : take k ps ++ (get_or ps k (refused_pupil 0) ∷ []) ≡ take (k + 1) ps
      next-all =
          let e : suc k ≡ k + 1 = omega arith in
          sym (take-suc ps k (refused_pupil 0) (omega (arith, h, many))) ∙ ap (λ (j : ℕ). take j ps) e

      had : length (take k ps) ≡ k
      had = length-take-le k ps (omega (arith, h, many))

      module _ {t : Result Told Question} {out' res' : List ℕ} (a : Answered (pupil c (take ((from + n) - from) (drop from s)) (get_or bs k 0)) out (limit.output * k) t out')
          (w : res' ≡ pasted res (3 * k) (told_cells t)) where
        abbrev p : Pupil
        p = get_or ps k (refused_pupil 0)

        cells_are : told_cells t ≡ result_cells p
        cells_are = a.told_is ∙ ap result_cells its-pupil

        p-short : length p.q1 ≤ limit.output
        p-short = subst (λ (y : Pupil). length y.q1 ≤ limit.output) its-pupil (q1-most c (take ((from + n) - from) (drop from s)) (get_or bs k 0) pre.table)

        pub sit-next : {memory' : ℕ} → memory' ≡ memory → length res' ≡ length res → length out' ≡ length out
            → Sitting c s ns bs res₀ out₀ memory₀ res' out' memory' (k + 1) (from + n)
        sit-next e f g =
            let qs = take k ps in
            let z : suc k ≡ k + 1 = omega arith in
            record {
              upto = omega (arith, h);
              from_is = omega (arith, i.from_is, r, sum-next ns k h) ∙ ap (λ (j : ℕ). sum (take j ns)) z;
              results_are = w ∙ ap (pasted res (3 * k)) cells_are ∙ ap (λ (l : List ℕ). pasted l (3 * k) (result_cells p)) i.results_are
                  ∙ ap (λ (j : ℕ). pasted (results_of qs res₀) (3 * j) (result_cells p)) (sym had) ∙ results_next qs p res₀
                  ∙ ap (λ (l : List Pupil). results_of l res₀) next-all;
              outputs_are = a.is ∙ ap (λ (y : Pupil). pasted out (limit.output * k) y.q1) its-pupil
                  ∙ ap (λ (l : List ℕ). pasted l (limit.output * k) p.q1) i.outputs_are
                  ∙ ap (λ (j : ℕ). pasted (outputs_of qs out₀) (limit.output * j) p.q1) (sym had)
                  ∙ outputs-next qs p out₀ (all_short c pre.table (cut_by ns s) bs k) p-short (omega (arith, had, h, facts.bytes))
                  ∙ ap (λ (l : List Pupil). outputs_of l out₀) next-all;
              memory_is = e ∙ i.memory_is;
              res_long = f ∙ i.res_long;
              out_long = g ∙ i.out_long;
            }

  pub sit-end : {res out : List ℕ} {memory k from : ℕ} → Sitting c s ns bs res₀ out₀ memory₀ res out memory k from → length ns ≤ k → Written c s ns bs res₀ out₀ res out
  sit-end {res} {out} {memory} {k} {from} i h =
      let e : take k ps ≡ ps = take_all k ps (omega (arith, many, h)) in
      record {
        results_are = i.results_are ∙ ap (λ (l : List Pupil). results_of l res₀) e;
        outputs_are = i.outputs_are ∙ ap (λ (l : List Pupil). outputs_of l out₀) e;
      }

-- ---- the call

module _ (c s ns bs res out : List ℕ) where
  abbrev lent : Lent
  lent = lent_of s ns bs res out

  by : (a b : Bool) → good_table c ≡ a → class_fits lent ≡ b
      → class_of c lent ≡ if_any (taken (pupils c (cut_by ns s) bs)) class_refused (refusals ((62, a) ∷ (71, b) ∷ []))
  unfolding class_of
  by a b e f =
      ap (λ (x : Bool). if_any (taken (pupils c (cut_by ns s) bs)) class_refused (refusals ((62, x) ∷ (71, class_fits lent) ∷ []))) e
      ∙ ap (λ (x : Bool). if_any (taken (pupils c (cut_by ns s) bs)) class_refused (refusals ((62, a) ∷ (71, x) ∷ []))) f

  classes : {x : ClassReply} → class_of c lent ≡ x → {r : Taken} {res' out' : List ℕ} → numbered r ≡ taken_by x → res' ≡ results_after x res → out' ≡ outputs_after x out
      → Classes c lent r res' out'
  classes {x} e p q t = record {
    is = p ∙ ap taken_by (sym e);
    results_are = q ∙ ap (λ (y : ClassReply). results_after y res) (sym e);
    outputs_are = t ∙ ap (λ (y : ClassReply). outputs_after y out) (sym e);
  }

  pub no_table : {x : Bool} → x ≡ good_table c → x ≡ false → Classes c lent (Err code.Table) res out
  no_table e z = classes (by false (class_fits lent) (sym e ∙ z) refl) refl refl refl

  module _ {x : Bool} (e : x ≡ good_table c) (z : x ≡ true) where
    pub no-fit : {y : Bool} → y ≡ class_fits lent → y ≡ false → Classes c lent (Err code.Class) res out
    no-fit f w = classes (by true false (sym e ∙ z) (sym f ∙ w)) refl refl refl

    module _ {y : Bool} (f : y ≡ class_fits lent) (w : y ≡ true) where
      pub classable : {memory : ℕ} → memory ≡ limit.state → Classable c s ns bs res out memory
      classable l = record { table = subst T (sym z ∙ e) tt; fits = subst T (sym w ∙ f) tt; long = l }

      pub all_done : {res' out' : List ℕ} → Written c s ns bs res out res' out' → Classes c lent (Ok tt) res' out'
      all_done h = classes (by true true (sym e ∙ z) (sym f ∙ w)) refl h.results_are h.outputs_are
