-- Frames written behind one another in a row.
use mathlib.Core.Path.{◌≡◌, refl, sym, ap, ◌∙◌, subst}
use mathlib.Core.Bool.{Bool, true, false, cond}
use mathlib.Core.List.{List, [], ◌∷◌, ◌++◌, append_assoc}
use Prim.Native.Nat.{ℕ, suc, ◌+◌, ◌≤◌, ◌<◌}
use native.Mathlib.Numerals.{add-one}
use native.Mathlib.Omega.{arith}
use lib.ListN.{length, get_or, take, drop, length-append, take-append-drop}
use lib.Seq.{length-take-le, take_all, take-suc}
use Rattle.cells.proofs.Laws.{length-pasted, pasted-none, pasted-pasted}
use Rattle.cells.specs.Cells.{pasted}
use Rattle.lists.specs.Lists.{keep}
use Rattle.state_frames.specs.Frames.{Frame, framed, frame_line, frames_text}
use Rattle.state_frames.specs.Saved.{numbered, nonempty}
use Rattle.state_saving.specs.Saving.{text_of, Appended}

chosen : (b : Bool) (f : Frame) (ks ls : List Frame) (t : List ℕ) → frames_text ls ≡ frames_text ks ++ t → frames_text (cond b (f ∷ ls) ls) ≡ frames_text (cond b (f ∷ ks) ks) ++ t
unfolding frames_text
chosen true f ks ls t e = ap (λ (u : List ℕ). frame_line f ++ u) e ∙ sym (append_assoc (frame_line f) (frames_text ks) t)
chosen false f ks ls t e = e

text-append : (fs gs : List Frame) → text_of (fs ++ gs) ≡ text_of fs ++ text_of gs
unfolding text_of frames_text
text-append [] gs = refl
text-append (f ∷ fs) gs = chosen (nonempty f) f (keep nonempty fs) (keep nonempty (fs ++ gs)) (text_of gs) (text-append fs gs)

pub length_both : (fs gs : List Frame) → length (text_of (fs ++ gs)) ≡ length (text_of fs) + length (text_of gs)
length_both fs gs = ap length (text-append fs gs) ∙ length-append (text_of fs) (text_of gs)

pub appended-none : (at : ℕ) (o : List ℕ) → at ≤ length o → Appended [] at at o o
unfolding text_of frames_text
appended-none at o h = record { count = omega arith; most = h; row = pasted-none o at }

pub appended-long : {fs : List Frame} {at r : ℕ} {o o' : List ℕ} → Appended fs at r o o' → length o' ≡ length o
appended-long {fs} {at} {r} {o} x = ap length x.row ∙ length-pasted o at (text_of fs) (omega (arith, x.count, x.most))

-- two parts, the second where the first ends, are one
pub appended-both : {fs gs : List Frame} {a b c : ℕ} {o p q : List ℕ} → Appended fs a b o p → Appended gs b c p q → Appended (fs ++ gs) a c o q
appended-both {fs} {gs} {a} {b} {c} {o} {p} {q} x y =
    let l : length p ≡ length o = appended-long x in
    let n = length_both fs gs in
    record {
      count = omega (arith, x.count, y.count, n);
      most = omega (arith, y.most, l);
      row =
          y.row ∙ ap (λ (u : List ℕ). pasted u b (text_of gs)) x.row ∙ ap (λ (k : ℕ). pasted (pasted o a (text_of fs)) k (text_of gs)) x.count
          ∙ pasted-pasted o a (text_of fs) (text_of gs) (omega (arith, x.count, y.count, y.most, l)) ∙ ap (pasted o a) (sym (text-append fs gs));
    }

-- ---- frames of one kind, one after the other

numbered-append : (k n : ℕ) (ds bs : List (List ℕ)) → numbered k n (ds ++ bs) ≡ numbered k n ds ++ numbered k (n + length ds) bs
unfolding numbered
numbered-append k n [] bs = let z : n ≡ n + 0 = omega arith in ap (λ (j : ℕ). numbered k j bs) z
numbered-append k n (c ∷ ds) bs =
    let z : suc n + length ds ≡ n + suc (length ds) = omega arith in
    ap (λ fs. framed k n c ∷ fs) (numbered-append k (suc n) ds bs ∙ ap (λ (j : ℕ). numbered k (suc n) ds ++ numbered k j bs) z)

-- the first i of the contents cs are written
pub record Writing (k : ℕ) (cs : List (List ℕ)) (from : ℕ) (o : List ℕ) (i at : ℕ) (o' : List ℕ) : Type 0 where
  pub upto : i ≤ length cs
  pub done : Appended (numbered k 1 (take i cs)) from at o o'

module _ (k : ℕ) (cs : List (List ℕ)) {from : ℕ} {o : List ℕ} (room : from + length (text_of (numbered k 1 cs)) ≤ length o) where
  pub writing-none : Writing k cs from o 0 from o
  unfolding numbered
  writing-none = record { upto = omega arith; done = appended-none from o (omega arith) }

  module _ {i at : ℕ} {o' : List ℕ} (w : Writing k cs from o i at o') where
    module _ (b : i < length cs) {c : List ℕ} (e : c ≡ get_or cs i []) where
      next-frame : numbered k 1 (take (i + 1) cs) ≡ numbered k 1 (take i cs) ++ (framed k (i + 1) c ∷ [])
      unfolding numbered
      next-frame =
          let z : 1 + length (take i cs) ≡ i + 1 = omega (arith, length-take-le i cs (omega arith)) in
          ap (λ (n : ℕ). numbered k 1 (take n cs)) (add-one i) ∙ ap (numbered k 1) (take-suc cs i [] b) ∙ numbered-append k 1 (take i cs) (get_or cs i [] ∷ [])
          ∙ ap (λ (n : ℕ). numbered k 1 (take i cs) ++ (framed k n (get_or cs i []) ∷ [])) z
          ∙ ap (λ (v : List ℕ). numbered k 1 (take i cs) ++ (framed k (i + 1) v ∷ [])) (sym e)

      pub writing-room : at + length (text_of (framed k (i + 1) c ∷ [])) ≤ length o'
      writing-room =
          let t = take (i + 1) cs in
          let u = drop (i + 1) cs in
          let rest = numbered k (1 + length t) u in
          let whole : numbered k 1 cs ≡ numbered k 1 t ++ rest = ap (numbered k 1) (sym (take-append-drop (i + 1) cs)) ∙ numbered-append k 1 t u in
          omega (
            arith,
            room,
            w.done.count,
            appended-long w.done,
            ap (λ fs. length (text_of fs)) whole,
            length_both (numbered k 1 t) rest,
            ap (λ fs. length (text_of fs)) next-frame,
            length_both (numbered k 1 (take i cs)) (framed k (i + 1) c ∷ []),
          )

      pub writing-next : {r : ℕ} {o'' : List ℕ} → Appended (framed k (i + 1) c ∷ []) at r o' o'' → Writing k cs from o (i + 1) r o''
      writing-next {r} {o''} x = record { upto = omega arith; done = subst (λ fs. Appended fs from r o o'') (sym next-frame) (appended-both w.done x) }

    pub writing-end : length cs ≤ i → Appended (numbered k 1 cs) from at o o'
    writing-end h = subst (λ ds. Appended (numbered k 1 ds) from at o o') (take_all i cs h) w.done
