-- What each loop over the bytes of a text s promises, from a place n on. The definitions are those of Items.antt and Scan.antt.
use Rattle.std.specs.Prelude.{◌≡◌, Bool, true, false, cond, List, ℕ, ◌+◌, ◌≤◌, ◌<◌, eqb, length, take, drop, Option, None, Some, Result, Ok, Err}
use Rattle.std.specs.Bool.{then_some}
use Rattle.syntax.specs.Items.Stage.{inside}
use Rattle.syntax.specs.Items.Mode.{outside, in_comment}
use Rattle.syntax.specs.Scan.{Gap, word_length, text_length, text_chars, text_allowed, is_closed, gap_from}
use Rattle.syntax.specs.Scan.Gap.{clear, unclosed}
use Rattle.scanner.specs.declared.Scan.{Scan}
use Rattle.scanner.specs.declared.Unclosed.{Unclosed}

-- the character of a pair, where there is one
abbrev pub if_pair : ℕ → Option ℕ
if_pair c = cond (eqb c 0) None (Some c)

-- the gap that the reader of Scan.antt finds from n on
abbrev pub gap_at : List ℕ → ℕ → Gap
gap_at s n = gap_from outside n (drop n s)

-- Inside a comment that began at any place: it stays open, or what is behind it goes on from a place on
abbrev pub Closing : List ℕ → ℕ → Option ℕ → Type 0
Closing s n None = (p : ℕ) → gap_from (in_comment p inside) n (drop n s) ≡ unclosed p
Closing s n (Some at) = (n ≤ at) × (at ≤ length s) × ((p : ℕ) → gap_from (in_comment p inside) n (drop n s) ≡ gap_at s at)

-- A separator or a comment is passed, or none is there, or a comment stays open
abbrev pub Passed : List ℕ → ℕ → Result (Option ℕ) Unclosed → Type 0
Passed s n (Ok None) = gap_at s n ≡ clear n
Passed s n (Ok (Some at)) = (n < at) × (at ≤ length s) × (gap_at s n ≡ gap_at s at)
Passed s n (Err u) = (u.0 ≡ n) × (gap_at s n ≡ unclosed n)

-- the place that is found, and whether a comment stays open there
abbrev pub place_in : Result ℕ Unclosed → ℕ
place_in (Ok at) = at
place_in (Err u) = u.0

abbrev pub is_open : Result ℕ Unclosed → Bool
is_open (Ok at) = false
is_open (Err u) = true

-- All separators and comments are: from the place on, the reader finds what it finds from n on
pub record Skipped (s : List ℕ) (n : ℕ) (g : Result ℕ Unclosed) : Type 0 where
  pub from : n ≤ place_in g
  pub most : place_in g ≤ length s
  pub opening : is_open g ≡ true → place_in g < length s
  pub is : gap_at s n ≡ cond (is_open g) (unclosed (place_in g)) (clear (place_in g))
  pub settled : gap_at s n ≡ gap_at s (place_in g)

pub record WordEnd (s : List ℕ) (n e : ℕ) : Type 0 where
  pub from : n ≤ e
  pub most : e ≤ length s
  pub is : e ≡ n + word_length (drop n s)

-- the bytes of a text in front of r, up to its end
abbrev pub text_bytes : List ℕ → List ℕ
text_bytes r = take (text_length false r) r

pub record Scanned (s : List ℕ) (n : ℕ) (t : Scan) : Type 0 where
  pub from : n + t.count ≤ t.end
  pub most : t.end ≤ length s
  pub is : t.end ≡ n + text_length false (drop n s)
  pub counts : t.count ≡ length (text_chars false (text_bytes (drop n s)))
  pub allowed : t.good ≡ text_allowed false (text_bytes (drop n s))
  pub closes : t.behind ≡ then_some (is_closed (drop t.end s)) (t.end + 1)
