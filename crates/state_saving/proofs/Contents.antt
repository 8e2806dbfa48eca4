-- The frame of contents, written unless they are empty; and the contents that the loops over strings and files meet.
use mathlib.Core.Path.{◌≡◌, refl, sym, ap, ◌∙◌}
use mathlib.Core.List.{List, [], ◌∷◌, append-nil}
use Prim.Native.Nat.{ℕ, zero, suc, ◌+◌, ◌*◌, ◌≤◌, ◌<◌}
use native.Mathlib.Nat.{not-suc-le-zero, le_of_suc-le-suc}
use native.Mathlib.Omega.{arith}
use lib.ListN.{length, get_or, drop, length-append, length-drop}
use lib.Seq.{length-take-le, get_or-take, get_or-drop}
use Rattle.cells.proofs.Laws.{pasted-none}
use Rattle.cells.specs.Cells.{pasted}
use Rattle.check_memory.specs.Passes.{all_strings}
use Rattle.check_memory.specs.Reads.{StringLent}
use Rattle.language.specs.Limits as limit
use Rattle.layout.specs.Places as layout
use Rattle.layout.proofs.StringLaws.{length-strings_in, joined_next, joined-within}
use Rattle.layout.specs.Strings.{used}
use Rattle.state_frames.specs.Frames.{framed, file, frame_line, frames_text}
use Rattle.state_frames.proofs.LengthLaws.{length-frame}
use Rattle.state_frames.specs.MemoryFrames.{files_by}
use Rattle.state_frames.specs.Saved.{file_contents}
use Rattle.state_lines.specs.Writing.{FrameRoom, FileRoom}
use Rattle.state_saving.specs.Saving.{text_of, Appended, FrameFits, FileFits, strings_from, files_from, StringsFit, FilesFit}

-- ---- one frame

empty-text : (k i : ℕ) (c : List ℕ) → length c ≡ 0 → text_of (framed k i c ∷ []) ≡ []
unfolding text_of frames_text
empty-text k i [] h = refl
empty-text k i (x ∷ c) h = absurd (omega (arith, h))

line-text : (k i : ℕ) (c : List ℕ) → 0 < length c → text_of (framed k i c ∷ []) ≡ frame_line (framed k i c)
unfolding text_of frames_text
line-text k i [] h = absurd (omega (arith, h))
line-text k i (x ∷ c) h = append-nil (frame_line (framed k i (x ∷ c)))

length-line-text : (k i : ℕ) (c : List ℕ) → 0 < length c → length (text_of (framed k i c ∷ [])) ≡ 11 + 2 * length c
length-line-text k i c h = ap length (line-text k i c h) ∙ length-frame (framed k i c)

line-room : (k i : ℕ) (c : List ℕ) (at long : ℕ) → at + length (text_of (framed k i c ∷ [])) ≤ long → 0 < length c → at + (11 + 2 * length c) ≤ long
line-room k i c at long room h = omega (arith, room, length-line-text k i c h)

module _ (k i : ℕ) (c : List ℕ) (at : ℕ) (o : List ℕ) (room : at + length (text_of (framed k i c ∷ [])) ≤ length o) where
  pub empty-put : length c ≡ 0 → Appended (framed k i c ∷ []) at at o o
  empty-put h =
      let e = empty-text k i c h in
      record { count = omega (arith, ap length e); most = omega arith; row = pasted-none o at ∙ ap (pasted o at) (sym e) }

  pub line-put : 0 < length c → {n : ℕ} → n ≡ 11 + 2 * length c → {o' : List ℕ} → o' ≡ pasted o at (frame_line (framed k i c)) → Appended (framed k i c ∷ []) at (at + n) o o'
  line-put h e f =
      let l = length-line-text k i c h in
      record { count = omega (arith, e, l); most = omega (arith, e, l, room); row = f ∙ ap (pasted o at) (sym (line-text k i c h)) }

pub frame-room : {k i at long : ℕ} {c : List ℕ} → FrameFits (framed k i c) at long → 0 < length c → FrameRoom long at i (length c)
frame-room {k} {i} {at} {long} {c} f h =
    record { room = line-room k i c at long f.room h; index_below = f.index_below; short = f.short }

-- ---- of a file

pub length-contents : (b a : List ℕ) → 0 < length b + length a → length (file_contents b a) ≡ 2 + (length b + length a)
unfolding file_contents
length-contents [] [] h = absurd (omega (arith, h))
length-contents [] (y ∷ a) h = omega arith
length-contents (x ∷ b) a h = simp length-append (omega arith)

pub no-contents : (b a : List ℕ) → length b + length a ≡ 0 → length (file_contents b a) ≡ 0
unfolding file_contents
no-contents [] [] h = refl
no-contents [] (y ∷ a) h = absurd (omega (arith, h))
no-contents (x ∷ b) a h = absurd (omega (arith, h))

pub file-room : {i at long : ℕ} {b a : List ℕ} → FileFits i b a at long → 0 < length b + length a → FileRoom long at i (length b) (length a)
file-room {i} {at} {long} {b} {a} f h =
    let n = length-contents b a h in
    record { room = omega (arith, n, line-room file i (file_contents b a) at long f.room (omega (arith, n))); index_below = f.index_below; short = f.short; some = h }

-- ---- strings and files, by their index

module _ {m : List ℕ} {k first count at long : ℕ} (f : StringsFit m k first count at long) where
  pub length-strings : length (strings_from m first count) ≡ count
  length-strings = length-take-le count (drop first (all_strings m)) (omega (arith, length-drop first (all_strings m), length-strings_in (drop layout.first_length m), f.within))

  module _ {i : ℕ} (h : i < count) where
    pub string-named : first + i < layout.strings_count
    string-named = omega (arith, f.within)

    pub string-met : {v : List ℕ} → StringLent m (first + i) v → v ≡ get_or (strings_from m first count) i []
    string-met s = s.is ∙ sym (get_or-drop first (all_strings m) i []) ∙ sym (get_or-take count (drop first (all_strings m)) i [] h)

length-files_by : (n : ℕ) (vs : List (List ℕ)) → length (files_by n vs) ≡ n
unfolding files_by
length-files_by zero vs = refl
length-files_by (suc n) vs = ap suc (length-files_by n (drop 2 vs))

pub length-files : (m : List ℕ) → length (files_from m) ≡ limit.files
length-files m = length-files_by limit.files (drop layout.first_file (all_strings m))

file-at : (n i : ℕ) (vs : List (List ℕ)) → i < n → get_or (files_by n vs) i [] ≡ file_contents (get_or vs (2 * i) []) (get_or vs (2 * i + 1) [])
unfolding files_by
file-at zero i vs h = absurd (not-suc-le-zero h)
file-at (suc n) zero vs h = refl
file-at (suc n) (suc i) vs h =
    let x : 2 + 2 * i ≡ 2 * suc i = omega arith in
    let y : 2 + (2 * i + 1) ≡ 2 * suc i + 1 = omega arith in
    let b = get_or-drop 2 vs (2 * i) [] ∙ ap (λ (k : ℕ). get_or vs k []) x in
    let a = get_or-drop 2 vs (2 * i + 1) [] ∙ ap (λ (k : ℕ). get_or vs k []) y in
    file-at n i (drop 2 vs) (le_of_suc-le-suc h) ∙ (λ j. file_contents (b j) (a j))

two-short : (vs : List (List ℕ)) (k : ℕ) → k < length vs → length (get_or vs k []) + length (get_or vs (suc k) []) ≤ used vs
unfolding used
two-short vs k h = omega (arith, joined_next vs k h, joined-within vs (suc k))

module _ {m : List ℕ} {at long : ℕ} (f : FilesFit m at long) {i : ℕ} (h : i < limit.files) where
  module _ {b a : List ℕ} (p : StringLent m (layout.first_file + 2 * i) b) (q : StringLent m (layout.first_file + 2 * i + 1) a) where
    pub file-met : file_contents b a ≡ get_or (files_from m) i []
    file-met =
        let vs = all_strings m in
        let z : layout.first_file + 2 * i + 1 ≡ layout.first_file + (2 * i + 1) = omega arith in
        let x = p.is ∙ sym (get_or-drop layout.first_file vs (2 * i) []) in
        let y = q.is ∙ ap (λ (k : ℕ). get_or vs k []) z ∙ sym (get_or-drop layout.first_file vs (2 * i + 1) []) in
        (λ j. file_contents (x j) (y j)) ∙ sym (file-at limit.files i (drop layout.first_file vs) h)

    pub file-short : 2 + (length b + length a) < 65536
    file-short =
        let vs = all_strings m in
        let k : ℕ = layout.first_file + 2 * i in
        let z : layout.first_file + 2 * i + 1 ≡ suc k = omega arith in
        omega (arith, f.short, two-short vs k (omega (arith, length-strings_in (drop layout.first_length m))), ap length p.is, ap length (q.is ∙ ap (λ (n : ℕ). get_or vs n []) z))
