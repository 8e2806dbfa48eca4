-- The loop over a text from line to line.
use mathlib.Core.Path.{◌≡◌, refl, ap, sym, ◌∙◌}
use mathlib.Core.Bool.{true, false, ◌&&◌}
use mathlib.Core.List.{List, [], ◌∷◌}
use Prim.Native.Nat.{ℕ, ◌<◌}
use native.Mathlib.Omega.{arith}
use lib.ListN.{length, take, drop}
use Rattle.lists.specs.Lists.{all}
use Rattle.text_lines.specs.LineLaws.{lines-first}
use Rattle.text_lines.specs.Lines.{lines, line_length, LineEnd}
use Rattle.hexadecimal.specs.Below.Frames.{sound_line, sound_text}

-- ---- from line to line: what is left decides

sound-first : (s : List ℕ) → 0 < length s → sound_text s ≡ sound_line (take (line_length s) s) && sound_text (drop (line_length s) s)
unfolding sound_text
sound-first s h = ap (all sound_line) (lines-first s h)

module _ {s line others : List ℕ} {r : ℕ} (h : 0 < length s) (l : LineEnd s 0 r) (f : line ≡ take r s) (b : others ≡ drop r s) where
  text_is : sound_text s ≡ sound_line line && sound_text others
  text_is = let e : r ≡ line_length s = omega (arith, l.is) in sound-first s h ∙ rw (f, b, e)

  pub sounding-stop : sound_line line ≡ false → false ≡ sound_text s
  sounding-stop e = sym (text_is ∙ rw e)

  pub sounding-next : sound_line line ≡ true → sound_text s ≡ sound_text others
  sounding-next e = text_is ∙ rw e

pub sounding-all : (s : List ℕ) → length s ≡ 0 → true ≡ sound_text s
unfolding sound_text lines
sounding-all [] h = refl
sounding-all (x ∷ s) h = absurd (omega (arith, h))
