-- The loop over the frames of a text: the first line of a sound text is that of its first frame, and what the frames so far add stands in the row.
use Rattle.std.specs.Prelude.{Option, Some, None, MatchOption}
use Rattle.std.specs.Option.{is_some}
use mathlib.Core.Path.{◌≡◌, refl, sym, ap, ◌∙◌, subst}
use mathlib.Core.Bool.{Bool, true, false, ◌&&◌}
use mathlib.Core.List.{List, [], ◌∷◌, ◌++◌, map, append_assoc, append-nil}
use Prim.Native.Nat.{ℕ, ◌+◌, ◌*◌, ◌-◌, ◌/◌, ◌%◌, ◌≤◌, ◌<◌}
use native.Mathlib.Omega.{arith}
use lib.Dec.{T}
use lib.ListN.{length, get_or, take, drop, length-append, length-take, take-append-drop, drop_of_length-le}
use lib.Ieee.Bits.{is_true}
use lib.Seq.{take_at, drop_at}
use Rattle.std.proofs.lemmas.List.{nil_from_length}
use Rattle.lists.specs.ListLaws.{T-left, T-right, T-both}
use Rattle.lists.specs.Lists.{all}
use Rattle.text_lines.specs.LineLaws.{lines-first}
use Rattle.text_lines.specs.Lines.{lines, line_length}
use Rattle.layout.specs.Bounds.{Below}
use Rattle.layout.proofs.CellLaws.{each_left}
use Rattle.cells.specs.Cells.{pasted}
use Rattle.cells.proofs.Laws.{pasted-none}
use Rattle.state_frames.specs.Hexadecimal.{digit, is_digit, hexadecimal, line, is_line, bytes_in}
use Rattle.state_frames.proofs.HexadecimalLaws.{digit-back, digit-is, bytes_below}
use Rattle.state_frames.specs.Frames.{Frame, check, front_bytes, frame_bytes, frame_line, frame_in, right_length, right_sum, sound_line, sound_text, frames_in}
use Rattle.state_frames.proofs.FrameLaws.{frame-of-bytes, line-of-frame}
use Rattle.state_frames.specs.Saved.{is_at, contents_at}
use Rattle.hexadecimal.specs.Digits.{byte_by, told_byte, digits_at, Got}
use Rattle.hexadecimal.proofs.Laws.{two-digit, told-byte, told-byte-some, length-hexadecimal, hexadecimal-append}
use Rattle.state_lines.specs.Lengths.{Measured, contents_length}
use Rattle.state_contents.specs.Contents.{Begins, Lined, Tells, added, Behind, Added, Gathered}

-- ---- a byte and bytes in hexadecimal

byte-back : (x : ℕ) → x < 256 → told_byte (digit (x / 16)) (digit (x % 16)) ≡ Some x
byte-back x h =
    let high : x / 16 < 16 = omega arith in
    let low : x % 16 < 16 = omega arith in
    let a = digit-back (x / 16) high in
    let b = digit-back (x % 16) low in
    let u = digit (x / 16) in
    let v = digit (x % 16) in
    let e : byte_by u v ≡ x = rw (a, b) (omega arith) in
    told-byte u v (two-digit u v (rw a high) (rw b low)) ∙ ap (λ (n : ℕ). Some n) e

all_digits : (c : List ℕ) → Below 256 c → T (all is_digit (hexadecimal c))
unfolding hexadecimal
all_digits [] h = tt
all_digits (x ∷ c) h =
    let u = digit (x / 16) in
    let v = digit (x % 16) in
    T-both (is_digit u) (is_digit v && all is_digit (hexadecimal c)) (digit-is (x / 16) (let k = h.0 in omega arith))
    (T-both (is_digit v) (all is_digit (hexadecimal c)) (digit-is (x % 16) (omega arith)) (all_digits c h.1))

bytes_back : (c : List ℕ) → Below 256 c → bytes_in (hexadecimal c) ≡ c
unfolding hexadecimal bytes_in
bytes_back [] h = refl
bytes_back (x ∷ c) h =
    let k = h.0 in
    let high : x / 16 < 16 = omega arith in
    let low : x % 16 < 16 = omega arith in
    let z : 16 * (x / 16) + x % 16 ≡ x = omega arith in
    rw (digit-back (x / 16) high, digit-back (x % 16) low, z) (ap (λ (t : List ℕ). x ∷ t) (bytes_back c h.1))

-- ---- the line of a frame

line-long : (f : Frame) → length (frame_line f) ≡ 11 + 2 * length f.contents
unfolding line frame_bytes
line-long f =
    let c = f.contents in
    let x = check (front_bytes f) in
    let e : length (hexadecimal (frame_bytes f)) ≡ 2 * length (frame_bytes f) = length-hexadecimal (frame_bytes f) in
    let n : length (frame_bytes f) ≡ 5 + length c = simp length-append (omega arith) in
    simp length-append (omega (arith, e, n))

-- the frame whose line stands in front in t, by what the code reads
module _ {t : List ℕ} {f : Frame} (l : Begins t f) where
  abbrev c : List ℕ
  c = f.contents

  abbrev v : List ℕ
  v = drop (11 + 2 * length c) t

  byte-there : (k : ℕ) → get_or t k 0 ≡ get_or (frame_line f ++ v) k 0
  byte-there k = ap (λ (u : List ℕ). get_or u k 0) l.line

  -- two digits from k on
  read-there : (k : ℕ) (x : ℕ) → x < 256 → get_or (frame_line f ++ v) k 0 ≡ digit (x / 16) → get_or (frame_line f ++ v) (1 + k) 0 ≡ digit (x % 16)
      → told_byte (get_or t k 0) (get_or t (1 + k) 0) ≡ Some x
  read-there k x h a b =
      let p : get_or t k 0 ≡ digit (x / 16) = byte-there k ∙ a in
      let q : get_or t (1 + k) 0 ≡ digit (x % 16) = byte-there (1 + k) ∙ b in
      (λ i. told_byte (p i) (q i)) ∙ byte-back x h

  bytes-there : Below 256 (frame_bytes f)
  bytes-there = l.below

  -- its kind and its index are told
  pub kind-there : told_byte (get_or t 0 0) (get_or t 1 0) ≡ Some f.kind
  unfolding hexadecimal line frame_bytes
  kind-there = read-there 0 f.kind bytes-there.0 refl refl

  pub index-there : told_byte (get_or t 2 0) (get_or t 3 0) ≡ Some f.index
  unfolding hexadecimal line frame_bytes
  index-there = read-there 2 f.index bytes-there.1.0 refl refl

  high-there : told_byte (get_or t 4 0) (get_or t 5 0) ≡ Some (length c / 256)
  unfolding hexadecimal line frame_bytes
  high-there = read-there 4 (length c / 256) bytes-there.1.1.0 refl refl

  low-there : told_byte (get_or t 6 0) (get_or t 7 0) ≡ Some (length c % 256)
  unfolding hexadecimal line frame_bytes
  low-there = read-there 6 (length c % 256) bytes-there.1.1.1.0 refl refl

  high-is : length c / 256 ≡ byte_by (get_or t 4 0) (get_or t 5 0)
  high-is = (told-byte-some _ _ (length c / 256) high-there).1

  low-is : length c % 256 ≡ byte_by (get_or t 6 0) (get_or t 7 0)
  low-is = (told-byte-some _ _ (length c % 256) low-there).1

  pub size-there : contents_length t ≡ length c
  size-there =
      let n = length c in
      let e : 256 * (n / 256) + n % 256 ≡ n = omega arith in
      (λ i. 256 * sym high-is i + sym low-is i) ∙ e

  pub line-within : 11 + 2 * length c ≤ length t
  line-within = omega (arith, ap length l.line, length-append (frame_line f) v, line-long f)

  pub measured : Measured t
  measured =
      record {
        there = omega (arith, line-within);
        high = high-there ∙ ap (λ (n : ℕ). Some n) high-is;
        low = low-there ∙ ap (λ (n : ℕ). Some n) low-is;
      }

  contents_below : Below 256 c
  unfolding frame_bytes
  contents_below = each_left (λ x. x < 256) c (check (front_bytes f) ∷ []) bytes-there.1.1.1.1

  digits-there : digits_at t 8 (length c) ≡ hexadecimal c
  unfolding hexadecimal line frame_bytes
  digits-there =
      let x = check (front_bytes f) in
      let H = hexadecimal c in
      let E : List ℕ = hexadecimal (x ∷ []) ++ (10 ∷ []) in
      let d : drop 8 t ≡ hexadecimal (c ++ (x ∷ [])) ++ (10 ∷ []) ++ v = ap (drop 8) l.line in
      let e : hexadecimal (c ++ (x ∷ [])) ++ (10 ∷ []) ++ v ≡ H ++ (E ++ v) = rw (hexadecimal-append c (x ∷ [])) (simp append_assoc) in
      ap (take (2 * length c)) (d ∙ e) ∙ take_at H (E ++ v) (2 * length c) (length-hexadecimal c)

  -- the bytes are got
  all-there : all is_digit (digits_at t 8 (length c)) ≡ true
  all-there = ap (all is_digit) digits-there ∙ is_true (all is_digit (hexadecimal c)) (all_digits c contents_below)

  module _ {s : List ℕ} (q : s ≡ digits_at t 8 (length c)) {o o' : List ℕ} {n : ℕ} {r : Option (Unit {0})} (g : Got o n s r o') where
    pub got-there : o' ≡ pasted o n c
    got-there =
        let yes : T (is_some r) = subst T (sym (g.told ∙ ap (all is_digit) q ∙ all-there)) tt in
        g.bytes yes ∙ ap (λ (d : List ℕ). pasted o n (bytes_in d)) (q ∙ digits-there) ∙ ap (pasted o n) (bytes_back c contents_below)

    pub got-always : r ≡ None → ⊥
    got-always e = subst T (sym (g.told ∙ ap (all is_digit) q ∙ all-there) ∙ ap is_some e) tt

  -- the line alone begins so too
  pub begins-take : Begins (take (11 + 2 * length f.contents) t) f
  begins-take =
      let n = 11 + 2 * length f.contents in
      let e : take n t ≡ frame_line f = ap (take n) l.line ∙ take_at (frame_line f) v n (line-long f) in
      let z : drop n (frame_line f) ≡ [] = drop_of_length-le (frame_line f) {i = n} (omega (arith, line-long f)) in
      record { below = l.below; line = e ∙ sym (append-nil (frame_line f)) ∙ ap (λ (x : List ℕ). frame_line f ++ x) (sym (ap (drop n) e ∙ z)) }

-- the digits of a line's contents, as they are cut out of it
pub cut-there : (l : List ℕ) (size : ℕ) → take (8 + 2 * size - 8) (drop 8 l) ≡ digits_at l 8 size
cut-there l size = let e : 8 + 2 * size - 8 ≡ 2 * size = omega arith in rw e refl

-- ---- what a frame adds

nothing : (k i : ℕ) (f : Frame) → is_at k i f ≡ false → added k i f ≡ []
nothing k i f e = rw e

something : (k i : ℕ) (f : Frame) → is_at k i f ≡ true → added k i f ≡ f.contents
something k i f e = rw e

module _ {l : List ℕ} {k i : ℕ} {b : Bool} (told : Tells l k i b) where
  pub added-none : {n : ℕ} {o : List ℕ} → n ≤ length o → b ≡ false → Added l k i n o (Some n) o
  added-none {n} {o} h e = record {
    frame = λ f g. rw (nothing k i f (sym (told.frame f g) ∙ e)) (record { count = omega arith; room = h; row = pasted-none o n });
  }

  module _ (e : b ≡ true) {size : ℕ} (z : size ≡ contents_length l) where
    this-one : (f : Frame) → Begins l f → added k i f ≡ f.contents
    this-one f g = something k i f (sym (told.frame f g) ∙ e)

    long : (f : Frame) → Begins l f → size ≡ length f.contents
    long f g = z ∙ size-there g

    module _ {n : ℕ} {o o' : List ℕ} where
      pub no_room : length o < n + size → Added l k i n o None o'
      no_room h = record { frame = λ f g. rw (this-one f g) (omega (arith, h, long f g)) }

      module _ {s : List ℕ} (q : s ≡ digits_at l 8 size) {r : Option (Unit {0})} (got : Got o n s r o') where
        pub got-none : r ≡ None → Added l k i n o None o'
        got-none w = record { frame = λ f g. absurd (got-always g (rw (long f g) at q) got w) }

        pub got-one : n + size ≤ length o → Added l k i n o (Some (n + size)) o'
        got-one w = record {
          frame = λ f g. rw (this-one f g) (record { count = rw (long f g); room = w; row = got-there g (rw (long f g) at q) got });
        }

-- ---- from frame to frame

-- the first line of a text is that of its first frame
pub record Next (u : List ℕ) (f : Frame) : Type 0 where
  pub begins : Begins u f
  pub sound : T (sound_text (drop (11 + 2 * length f.contents) u))
  pub frames : frames_in u ≡ f ∷ frames_in (drop (11 + 2 * length f.contents) u)

unfoldable pub first_frame : List ℕ → Frame
first_frame u = frame_in (bytes_in (take (line_length u) u))

sound-bytes : (l : List ℕ) → T (sound_line l) → Below 256 (frame_bytes (frame_in (bytes_in l)))
unfolding sound_line
sound-bytes l h =
    let a = is_line l in
    let n = right_length (bytes_in l) in
    let s = right_sum (bytes_in l) in
    let b = bytes_below l (T-left a n (T-left (a && n) s h)) in
    subst (Below 256) (sym (frame-of-bytes (bytes_in l) b (T-right a n (T-left (a && n) s h)) (T-right (a && n) s h))) b

module _ (u : List ℕ) (some : 0 < length u) (s : T (sound_text u)) where
  abbrev L : List ℕ
  L = take (line_length u) u

  abbrev W : List ℕ
  W = drop (line_length u) u

  abbrev F : Frame
  F = first_frame u

  sounds : T (sound_line L && all sound_line (lines W))
  unfolding sound_text
  sounds = subst (λ ls. T (all sound_line ls)) (lines-first u some) s

  line-sound : T (sound_line L)
  line-sound = T-left (sound_line L) (all sound_line (lines W)) sounds

  u-is : u ≡ frame_line F ++ W
  unfolding first_frame
  u-is = sym (take-append-drop (line_length u) u) ∙ ap (λ (l : List ℕ). l ++ W) (sym (line-of-frame L line-sound))

  rest_is : W ≡ drop (11 + 2 * length F.contents) u
  rest_is = sym (drop_at (frame_line F) W (11 + 2 * length F.contents) (line-long F)) ∙ ap (drop (11 + 2 * length F.contents)) (sym u-is)

  frames-are : frames_in u ≡ F ∷ frames_in W
  unfolding frames_in first_frame
  frames-are = ap (map (λ l. frame_in (bytes_in l))) (lines-first u some)

  rest-sound : T (sound_text W)
  unfolding sound_text
  rest-sound = T-right (sound_line L) (all sound_line (lines W)) sounds

  below : Below 256 (frame_bytes F)
  unfolding first_frame
  below = sound-bytes L line-sound

  pub next-frame : Next u F
  next-frame =
      record {
        begins = record { below = below; line = u-is ∙ ap (λ (x : List ℕ). frame_line F ++ x) rest_is };
        sound = subst (λ (x : List ℕ). T (sound_text x)) rest_is rest-sound;
        frames = frames-are ∙ ap (λ (x : List ℕ). F ∷ frames_in x) rest_is;
      }

-- what the frames before the rest u add stands in the row o
pub record Gathering (t : List ℕ) (k i : ℕ) (o : List ℕ) (n : ℕ) (u : List ℕ) : Type 0 where
  pub so_far : List ℕ
  pub count : n ≡ length so_far
  pub room : n ≤ length o
  pub bytes : take n o ≡ so_far
  pub sound : T (sound_text u)
  pub all : contents_at k i (frames_in t) ≡ so_far ++ contents_at k i (frames_in u)

pub gathering-none : (t : List ℕ) (k i : ℕ) (o : List ℕ) → T (sound_text t) → Gathering t k i o 0 t
gathering-none t k i o s = record { so_far = []; count = refl; room = omega arith; bytes = refl; sound = s; all = refl }

pub gathering-all : {t : List ℕ} {k i : ℕ} {o : List ℕ} {n : ℕ} {u : List ℕ} → Gathering t k i o n u → length u ≡ 0 → Gathered (contents_at k i (frames_in t)) (Some n) o
unfolding frames_in lines contents_at
gathering-all {t} {k} {i} {u = u} g h =
    let none : u ≡ [] = nil_from_length u h in
    let e : contents_at k i (frames_in t) ≡ g.so_far = g.all ∙ ap (λ (x : List ℕ). g.so_far ++ contents_at k i (frames_in x)) none ∙ append-nil g.so_far in
    record { told = record { count = g.count ∙ ap length (sym e); room = g.room; bytes = g.bytes ∙ sym e } }

module _ {t : List ℕ} {k i : ℕ} {o : List ℕ} {n : ℕ} {u : List ℕ} (g : Gathering t k i o n u) (h : 0 < length u) where
  pub next : Next u (first_frame u)
  next = next-frame u h g.sound

  abbrev G : Frame
  G = first_frame u

  abbrev C : List ℕ
  C = added k i G

  contents-next : contents_at k i (frames_in u) ≡ C ++ contents_at k i (frames_in (drop (11 + 2 * length G.contents) u))
  unfolding contents_at
  contents-next = ap (contents_at k i) next.frames

  front : (o' : List ℕ) (r : ℕ) → r ≡ n + length C → o' ≡ pasted o n C → take r o' ≡ g.so_far ++ C
  front o' r c e =
      let x : List ℕ = drop (n + length C) o in
      let w = g.room in
      let l : length (take n o ++ C) ≡ r = simp (length-append, length-take) (omega arith) in
      ap (take r) (e ∙ sym (append_assoc (take n o) C x)) ∙ take_at (take n o ++ C) x r l ∙ ap (λ (y : List ℕ). y ++ C) g.bytes

  module _ {size m : ℕ} (z : size ≡ contents_length u) (y : m ≡ 11 + 2 * size) where
    line_is : 11 + 2 * length G.contents ≡ m
    line_is = omega (arith, y, z, size-there next.begins)

    pub split-fits : m ≤ length u
    split-fits = omega (arith, line_is, line-within next.begins)

    -- the line that is split off
    begins : {l : List ℕ} → l ≡ take m u → Begins l G
    begins e = subst (λ x. Begins x G) (ap (λ j. take j u) line_is ∙ sym e) (begins-take next.begins)

    pub lined : {l : List ℕ} → l ≡ take m u → Lined l
    lined e = record { frame = G; begins = begins e }

    module _ {l : List ℕ} (e : l ≡ take m u) {p : Option ℕ} {o' : List ℕ} (a : Added l k i n o p o') (same : length o' ≡ length o) where
      adds : MatchOption p (length o < n + length C) (λ m. Behind n C o m o')
      adds = a.frame G (begins e)

      -- where the row has no room for what the frame adds, it has none for all
      pub gathering-none-more : p ≡ None → Gathered (contents_at k i (frames_in t)) None o'
      gathering-none-more q =
          let w : length o < n + length C = subst (λ x. MatchOption x (length o < n + length C) (λ m. Behind n C o m o')) q adds in
          let e : contents_at k i (frames_in t) ≡ g.so_far ++ (C ++ contents_at k i (frames_in (drop (11 + 2 * length G.contents) u))) = g.all ∙ ap (λ (x : List ℕ). g.so_far ++ x) contents-next in
          record { told = rw e (simp length-append (omega (arith, w, same, g.count))) }

      pub gathering-more : {r : ℕ} → p ≡ Some r → {u' : List ℕ} → u' ≡ drop m u → Gathering t k i o' r u'
      gathering-more {r} d {u'} f =
          let b : Behind n C o r o' = subst (λ x. MatchOption x (length o < n + length C) (λ m. Behind n C o m o')) d adds in
          let c : r ≡ n + length C = b.count in
          let q : drop (11 + 2 * length G.contents) u ≡ u' = ap (λ j. drop j u) line_is ∙ sym f in
          record {
            so_far = g.so_far ++ C;
            count = simp length-append (omega (arith, c, g.count));
            room = omega (arith, same, b.room);
            bytes = front o' r c b.row;
            sound = subst (λ (x : List ℕ). T (sound_text x)) q next.sound;
            all = g.all ∙ ap (λ (x : List ℕ). g.so_far ++ x) contents-next ∙ sym (append_assoc g.so_far C _) ∙ ap (λ (x : List ℕ). (g.so_far ++ C) ++ contents_at k i (frames_in x)) q;
          }
