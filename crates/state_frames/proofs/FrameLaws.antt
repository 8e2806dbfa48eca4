-- Laws of frames: what is written passes 68 and is read back, and what passes 68 has one form only.
use Rattle.std.specs.Prelude.{◌≡◌, refl, ◌&&◌, List, [], ◌∷◌, ◌++◌, map, ℕ, suc, ◌+◌, ◌*◌, ◌-◌, ◌/◌, ◌%◌, ◌≤◌, ◌<◌, T, eqb, length, get_or, take, drop}
use Rattle.std.proofs.Common.{sym, ap, ◌∙◌, arith, eqb→eq, length-append, length-take, drop_of_length-le}
use Rattle.std.proofs.Math.Dec.{eqb_refl}
use Rattle.std.proofs.Math.Seq.{split_at, take-append_seam}
use Rattle.lists.specs.ListLaws.{T-left, T-right, T-both, all_head, all_tail, total-append, same_bytes-eq, same_bytes-refl}
use Rattle.lists.specs.Lists.{all, joined, bytes_equal}
use Rattle.layout.specs.Bounds.{Each, Below}
use Rattle.layout.proofs.CellLaws.{below-append, each_right}
use Rattle.text_lines.specs.Lines.{lines}
use Rattle.text_lines.specs.LineLaws.{joined-lines}
use Rattle.state_frames.specs.Hexadecimal.{line, is_line, bytes_in}
use Rattle.state_frames.proofs.HexadecimalLaws.{line-back, line_is, bytes_below, line-of-bytes, hexadecimal-first}
use Rattle.state_frames.specs.Frames.{Frame, framed, sum, check, front_bytes, frame_bytes, frame_line, frames_text, frame_in, right_length, right_sum, sound_line, sound_text, frames_in, same_frame, same_frames}

-- what has a place in a frame's bytes
pub record FrameOk (f : Frame) : Type 0 where
  pub kind_below : f.kind < 256
  pub index_below : f.index < 256
  pub length_below : length f.contents < 65536
  pub contents_below : Below 256 f.contents

-- ---- a frame

sum-end : (c : List ℕ) (x : ℕ) → sum (c ++ (x ∷ [])) ≡ sum c + x
sum-end c x = total-append (λ b. b) c (x ∷ []) ∙ omega arith

pub frame_below : (f : Frame) → FrameOk f → Below 256 (frame_bytes f)
unfolding frame_bytes
frame_below f h =
    let n = length f.contents in
    let k = h.length_below in
    let high : n / 256 < 256 = omega arith in
    let low : n % 256 < 256 = omega arith in
    let last : check (front_bytes f) < 256 = omega arith in
    (h.kind_below, (h.index_below, (high, (low, below-append 256 f.contents (check (front_bytes f) ∷ []) h.contents_below (last, tt)))))

length-end : (c : List ℕ) (x : ℕ) → length (c ++ (x ∷ [])) ≡ suc (length c)
length-end c x = simp length-append (omega arith)

-- what is written is read back, and its length and sum are right
pub frame_back : (f : Frame) → frame_in (frame_bytes f) ≡ f
unfolding frame_bytes frame_in
frame_back f =
    let c = f.contents in
    let x = check (front_bytes f) in
    let n : length (frame_bytes f) - 5 ≡ length c = omega (arith, length-end c x) in
    let e : take (length (frame_bytes f) - 5) (c ++ (x ∷ [])) ≡ c = rw n (take-append_seam c (x ∷ [])) in
    ap (λ (l : List ℕ). framed f.kind f.index l) e

length-right : (n : ℕ) → suc (suc (suc (suc (suc n)))) ≡ 5 + (256 * (n / 256) + n % 256)
length-right n = omega arith

pub frame-length : (f : Frame) → T (right_length (frame_bytes f))
unfolding frame_bytes
frame-length f =
    let c = f.contents in
    let x = check (front_bytes f) in
    rw (length-end c x, length-right (length c)) (eqb_refl (5 + (256 * (length c / 256) + length c % 256)))

sum-right : (s : ℕ) → (s + (256 - s % 256) % 256) % 256 ≡ 0
sum-right s = omega arith

pub frame-sum : (f : Frame) → T (right_sum (frame_bytes f))
unfolding frame_bytes
frame-sum f =
    let s = sum (front_bytes f) in
    let e : sum (frame_bytes f) % 256 ≡ 0 = rw (sum-end (front_bytes f) (check (front_bytes f))) (sum-right s) in
    rw e tt

-- bytes whose length and sum are right are those of their frame
module _ (k i h w x : ℕ) (c : List ℕ) (n : length c ≡ 256 * h + w) (b : w < 256) (d : x < 256) (s : (k + (i + (h + (w + (sum c + x))))) % 256 ≡ 0) where
  high-right : length c / 256 ≡ h
  high-right = omega arith

  low-right : length c % 256 ≡ w
  low-right = omega arith

  check-right : check (k ∷ i ∷ h ∷ w ∷ c) ≡ x
  check-right = omega arith

  frame-by : frame_bytes (framed k i c) ≡ k ∷ i ∷ h ∷ w ∷ (c ++ (x ∷ []))
  unfolding frame_bytes
  frame-by = rw (high-right, low-right, check-right)

pub frame-of-bytes : (l : List ℕ) → Below 256 l → T (right_length l) → T (right_sum l) → frame_bytes (frame_in l) ≡ l
unfolding frame_in
frame-of-bytes [] b n s = absurd n
frame-of-bytes (k ∷ []) b n s = absurd (let e = eqb→eq (length (k ∷ [])) (5 + (256 * 0 + 0)) n in omega (arith, e))
frame-of-bytes (k ∷ i ∷ []) b n s = absurd (let e = eqb→eq 2 (5 + (256 * 0 + 0)) n in omega (arith, e))
frame-of-bytes (k ∷ i ∷ h ∷ []) b n s = absurd (let e = eqb→eq 3 (5 + (256 * h + 0)) n in omega (arith, e))
frame-of-bytes (k ∷ i ∷ h ∷ w ∷ r) b n s =
    let e : suc (suc (suc (suc (length r)))) ≡ 5 + (256 * h + w) = eqb→eq (suc (suc (suc (suc (length r))))) (5 + (256 * h + w)) n in
    let m : ℕ = length (k ∷ i ∷ h ∷ w ∷ r) - 5 in
    let m-is : m ≡ 256 * h + w = omega arith in
    let c : List ℕ = take m r in
    let x : ℕ = get_or r m 0 in
    let long : length c ≡ 256 * h + w = simp length-take (omega arith) in
    let short : length r ≤ suc m = omega arith in
    let ends : drop (suc m) r ≡ [] = drop_of_length-le r short in
    let r-is : r ≡ c ++ (x ∷ []) = split_at r m 0 (omega arith) ∙ ap (λ (t : List ℕ). c ++ (x ∷ t)) ends in
    let below : Below 256 (c ++ (x ∷ [])) = rw r-is at b.1.1.1.1 in
    let q : (k + (i + (h + (w + sum r)))) % 256 ≡ 0 = eqb→eq ((k + (i + (h + (w + sum r)))) % 256) 0 s in
    let q' : (k + (i + (h + (w + (sum c + x))))) % 256 ≡ 0 = ap (λ (t : ℕ). (k + (i + (h + (w + t)))) % 256) (sym (ap sum r-is ∙ sum-end c x)) ∙ q in
    frame-by k i h w x c long b.1.1.1.0 (each_right (λ y. y < 256) c (x ∷ []) below).0 q' ∙ ap (λ (t : List ℕ). k ∷ i ∷ h ∷ w ∷ t) (sym r-is)

-- ---- lines of frames

pub line-sound : (f : Frame) → FrameOk f → T (sound_line (frame_line f))
unfolding sound_line
line-sound f h =
    let l = frame_bytes f in
    let b = frame_below f h in
    rw (line-back l b)
    (T-both (is_line (line l) && right_length l) (right_sum l) (T-both (is_line (line l)) (right_length l) (line_is l b) (frame-length f)) (frame-sum f))

frames-lines : (fs : List Frame) → Each FrameOk fs → lines (frames_text fs) ≡ map frame_line fs
unfolding frames_text lines
frames-lines [] h = refl
frames-lines (f ∷ fs) h = hexadecimal-first (frame_bytes f) (frames_text fs) (frame_below f h.0) ∙ ap (λ ls. frame_line f ∷ ls) (frames-lines fs h.1)

lines-sound : (fs : List Frame) → Each FrameOk fs → T (all sound_line (map frame_line fs))
lines-sound [] h = tt
lines-sound (f ∷ fs) h = T-both (sound_line (frame_line f)) (all sound_line (map frame_line fs)) (line-sound f h.0) (lines-sound fs h.1)

-- the text of frames passes 68 and gives them back
pub text-sound : (fs : List Frame) → Each FrameOk fs → T (sound_text (frames_text fs))
unfolding sound_text
text-sound fs h = rw (frames-lines fs h) (lines-sound fs h)

frames-read : (fs : List Frame) → Each FrameOk fs → map (λ l. frame_in (bytes_in l)) (map frame_line fs) ≡ fs
frames-read [] h = refl
frames-read (f ∷ fs) h =
    let e : frame_in (bytes_in (frame_line f)) ≡ f = rw (line-back (frame_bytes f) (frame_below f h.0)) (frame_back f) in
    let t = frames-read fs h.1 in
    λ j. e j ∷ t j

pub frames-back : (fs : List Frame) → Each FrameOk fs → frames_in (frames_text fs) ≡ fs
unfolding frames_in
frames-back fs h = rw (frames-lines fs h) (frames-read fs h)

-- a text that passes 68 is that of its frames
pub line-of-frame : (l : List ℕ) → T (sound_line l) → frame_line (frame_in (bytes_in l)) ≡ l
unfolding sound_line
line-of-frame l h =
    let a = is_line l in
    let n = right_length (bytes_in l) in
    let s = right_sum (bytes_in l) in
    let t : T a = T-left a n (T-left (a && n) s h) in
    ap line (frame-of-bytes (bytes_in l) (bytes_below l t) (T-right a n (T-left (a && n) s h)) (T-right (a && n) s h)) ∙ line-of-bytes l t

lines-of-frames : (ls : List (List ℕ)) → T (all sound_line ls) → frames_text (map (λ l. frame_in (bytes_in l)) ls) ≡ joined ls
unfolding frames_text
lines-of-frames [] h = refl
lines-of-frames (l ∷ ls) h =
    let e = line-of-frame l (all_head sound_line l ls h) in
    let t = lines-of-frames ls (all_tail sound_line l ls h) in
    λ j. e j ++ t j

pub text-of-frames : (t : List ℕ) → T (sound_text t) → frames_text (frames_in t) ≡ t
unfolding sound_text frames_in
text-of-frames t h = lines-of-frames (lines t) h ∙ joined-lines t

-- `same_frames` is equality
pub same_frame-eq : (f g : Frame) → T (same_frame f g) → f ≡ g
same_frame-eq f g h =
    let a = eqb f.kind g.kind in
    let b = eqb f.index g.index in
    let c = bytes_equal f.contents g.contents in
    let x = eqb→eq f.kind g.kind (T-left a b (T-left (a && b) c h)) in
    let y = eqb→eq f.index g.index (T-right a b (T-left (a && b) c h)) in
    let z = same_bytes-eq f.contents g.contents (T-right (a && b) c h) in
    λ j. framed (x j) (y j) (z j)

pub same_frames-eq : (fs gs : List Frame) → T (same_frames fs gs) → fs ≡ gs
same_frames-eq [] [] h = refl
same_frames-eq [] (g ∷ gs) h = absurd h
same_frames-eq (f ∷ fs) [] h = absurd h
same_frames-eq (f ∷ fs) (g ∷ gs) h =
    let e = same_frame-eq f g (T-left (same_frame f g) (same_frames fs gs) h) in
    let t = same_frames-eq fs gs (T-right (same_frame f g) (same_frames fs gs) h) in
    λ j. e j ∷ t j

pub same_frames-refl : (fs : List Frame) → T (same_frames fs fs)
same_frames-refl [] = tt
same_frames-refl (f ∷ fs) =
    let a = eqb f.kind f.kind in
    let b = eqb f.index f.index in
    let c = bytes_equal f.contents f.contents in
    T-both (same_frame f f) (same_frames fs fs)
    (T-both (a && b) c (T-both a b (eqb_refl f.kind) (eqb_refl f.index)) (same_bytes-refl f.contents)) (same_frames-refl fs)
