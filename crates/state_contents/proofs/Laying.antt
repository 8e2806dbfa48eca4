-- A memory laid out: the loop over the strings, and all cells of a saved state but the totals.
use Rattle.std.specs.Prelude.{Option, Some, None, MatchOption}
use mathlib.Core.Path.{◌≡◌, refl, sym, ap, ◌∙◌, subst}
use mathlib.Core.List.{List, [], ◌++◌, append_assoc, append-nil}
use Prim.Native.Nat.{ℕ, ◌+◌, ◌*◌, ◌-◌, ◌≤◌, ◌<◌}
use native.Mathlib.Numerals.{add-one}
use native.Mathlib.Omega.{arith}
use lib.ListN.{length, get_or, take, drop, replicate, length-append, length-drop, length-replicate, replicate-append-replicate, take-append-drop}
use lib.Seq.{take_at, drop_at, take_all, length-take-le}
use Rattle.language.specs.Limits as limit
use Rattle.language.specs.Values.{State}
use Rattle.lists.specs.Lists.{each, joined}
use Rattle.layout.specs.Cells.{two, three}
use Rattle.layout.proofs.FineLaws.{good-fine, fine-room}
use Rattle.layout.specs.Memory.{strings}
use Rattle.layout.proofs.MemoryLaws.{length-strings}
use Rattle.layout.specs.Places as layout
use Rattle.layout.specs.Strings.{lengths, used, string_cells}
use Rattle.layout.proofs.StringLaws.{joined-within, length-lengths}
use Rattle.cells.specs.Cells.{pasted}
use Rattle.cells.proofs.Laws.{pasted-none, pasted-pasted, length-pasted, drop_past}
use Rattle.writing.proofs.Parts.{pasted-left, pasted-right}
use Rattle.gaps.proofs.Rows.{lengths-next, strings-next}
use Rattle.state_frames.specs.Frames.{head, frames_in}
use Rattle.state_frames.specs.Saved.{head_numbers, contents_at, frames_of, strings_by}
use Rattle.state_frames.proofs.SavedLaws.{head_at, strings-back}
use Rattle.state_frames.proofs.KeepingLaws.{saved-frames}
use Rattle.state_frames.specs.MemoryFrames.{untotalled, SavedAs}
use Rattle.state_contents.specs.Contents.{Stored, Gathered, strings_of, Fitting, PutOne, StringsLaid, HeadLaid, Laid}
use Rattle.state_contents.proofs.Finding.{length-strings_of}

-- ---- one string

pub put-none : (m : List ℕ) (j at : ℕ) (v : List ℕ) → at ≤ limit.state → limit.state < at + length v → PutOne m j at v at m
put-none m j at v h k = record { most = h; next = λ w. absurd (omega arith); cells = λ w. absurd (omega arith) }

pub put_one : {m m₁ m₂ : List ℕ} {j at : ℕ} {v : List ℕ} → at + length v ≤ limit.state → m₁ ≡ pasted m (layout.first_length + 2 * j) (two (length v)) → m₂ ≡ pasted m₁ at v
    → PutOne m j at v (at + length v) m₂
put_one {at = at} {v = v} h e f = record { most = h; next = λ w. refl; cells = λ w. f ∙ ap (λ (x : List ℕ). pasted x at v) e }

-- ---- all strings

-- lengths in the first part of a memory, and bytes in the second
abbrev placed : List ℕ → List ℕ → List ℕ → List ℕ
placed m L J = pasted (take layout.first_byte m) layout.first_length L ++ pasted (drop layout.first_byte m) 0 J

module _ (m L J v : List ℕ) (j at : ℕ) (l : length m ≡ limit.state) (x : length L ≡ 2 * j) (y : at ≡ layout.first_byte + length J) (h : j < layout.strings_count)
    (w : at + length v ≤ limit.state) where
  abbrev A : List ℕ
  A = take layout.first_byte m

  abbrev B : List ℕ
  B = drop layout.first_byte m

  long-A : length A ≡ layout.first_byte
  long-A = length-take-le layout.first_byte m (omega arith)

  long-B : length B ≡ layout.room
  long-B = simp length-drop (omega arith)

  placed-length : pasted (placed m L J) (layout.first_length + 2 * j) (two (length v)) ≡ placed m (L ++ two (length v)) J
  placed-length =
      let long : length (pasted A layout.first_length L) ≡ layout.first_byte = length-pasted A layout.first_length L (omega (arith, long-A)) ∙ long-A in
      let z : layout.first_length + 2 * j ≡ layout.first_length + length L = omega arith in
      pasted-left (pasted A layout.first_length L) (pasted B 0 J) (two (length v)) (layout.first_length + 2 * j) (omega (arith, long))
      ∙ ap (λ (k : ℕ). pasted (pasted A layout.first_length L) k (two (length v)) ++ pasted B 0 J) z
      ∙ ap (λ (p : List ℕ). p ++ pasted B 0 J) (pasted-pasted A layout.first_length L (two (length v)) (omega (arith, long-A)))

  placed-bytes : (N : List ℕ) → length N ≡ 2 * j + 2 → pasted (placed m N J) at v ≡ placed m N (J ++ v)
  placed-bytes N n =
      let long : length (pasted A layout.first_length N) ≡ layout.first_byte = length-pasted A layout.first_length N (omega (arith, long-A)) ∙ long-A in
      pasted-right (pasted A layout.first_length N) (pasted B 0 J) v at (0 + length J) (omega (arith, long))
      ∙ ap (λ (p : List ℕ). pasted A layout.first_length N ++ p) (pasted-pasted B 0 J v (omega (arith, long-B)))

  pub placed-next : pasted (pasted (placed m L J) (layout.first_length + 2 * j) (two (length v))) at v ≡ placed m (L ++ two (length v)) (J ++ v)
  placed-next = ap (λ (p : List ℕ). pasted p at v) placed-length ∙ placed-bytes (L ++ two (length v)) (simp length-append (omega arith))

-- the first j strings are laid, if all have room
pub record Laying (t m₀ m : List ℕ) (at j : ℕ) : Type 0 where
  pub upto : j ≤ layout.strings_count
  pub place : at ≤ limit.state
  pub long : length m ≡ limit.state
  pub next : Fitting t → at ≡ layout.first_byte + length (joined (take j (strings_of t)))
  pub cells : Fitting t → m ≡ placed m₀ (lengths (take j (strings_of t))) (joined (take j (strings_of t)))

pub laying-none : (t m : List ℕ) → length m ≡ limit.state → Laying t m m layout.first_byte 0
unfolding lengths
laying-none t m l =
    let A = take layout.first_byte m in
    let B = drop layout.first_byte m in
    let a = pasted-none A layout.first_length in
    let b = pasted-none B 0 in
    record {
      upto = omega arith;
      place = omega arith;
      long = l;
      next = λ f. refl;
      cells = λ f. sym (take-append-drop layout.first_byte m) ∙ (λ i. a i ++ b i);
    }

module _ {t m₀ m : List ℕ} {at j : ℕ} (l₀ : length m₀ ≡ limit.state) (u : Laying t m₀ m at j) (h : j < layout.strings_count) where
  abbrev vs : List (List ℕ)
  vs = strings_of t

  one : j < length vs
  one = rw (length-strings_of t) h

  fits : Fitting t → at + length (get_or vs j []) ≤ limit.state
  unfolding used
  fits f = omega (arith, f, u.next f, joined-within vs j)

  pub laying-more : {v m' : List ℕ} {r : ℕ} → (Fitting t → v ≡ get_or vs j []) → PutOne m j at v r m' → length m' ≡ length m → Laying t m₀ m' r (j + 1)
  laying-more {v} {m'} {r} e p k =
      let L = lengths (take j vs) in
      let J = joined (take j vs) in
      let room : Fitting t → at + length v ≤ limit.state = λ f. omega (arith, ap length (e f), fits f) in
      let lL : length L ≡ 2 * j = length-lengths (take j vs) ∙ ap (λ (n : ℕ). 2 * n) (length-take-le j vs (omega (arith, one))) in
      let nL : Fitting t → lengths (take (j + 1) vs) ≡ L ++ two (length v) = λ f. rw (add-one, e f) (lengths-next vs j one) in
      let nJ : Fitting t → joined (take (j + 1) vs) ≡ J ++ v = λ f. rw (add-one, e f) (strings-next vs j one) in
      record {
        upto = omega arith;
        place = p.most;
        long = k ∙ u.long;
        next = λ f. p.next (room f) ∙ omega (arith, u.next f, ap length (nJ f), length-append J v);
        cells = λ f. p.cells (room f) ∙ ap (λ (x : List ℕ). pasted (pasted x (layout.first_length + 2 * j) (two (length v))) at v) (u.cells f)
            ∙ placed-next m₀ L J v j at l₀ lL (u.next f) h (room f)
            ∙ (let a = sym (nL f) in let b = sym (nJ f) in λ i. placed m₀ (a i) (b i));
      }

pub laying-all : {t m₀ m : List ℕ} {at j : ℕ} → Laying t m₀ m at j → layout.strings_count ≤ j → StringsLaid (strings_of t) m₀ m
laying-all {t} {m₀} {j = j} u h =
    let e : take j (strings_of t) ≡ strings_of t = take_all j (strings_of t) (omega (arith, length-strings_of t)) in
    record { cells = λ f. u.cells f ∙ ap (λ ws. placed m₀ (lengths ws) (joined ws)) e }

-- ---- the head

pub head-other : {c o m : List ℕ} {p : Option ℕ} → layout.components_cell ≤ length o → Gathered c p o → (p ≡ Some layout.components_cell → ⊥) → HeadLaid c m m
head-other {c} {o} {m} {p} w g h = record { cells = λ l. absurd (go p g.told h l) }
  where
    go : (p : Option ℕ) → MatchOption p (length o < length c) (λ n. Stored c n o) → (p ≡ Some layout.components_cell → ⊥) → length c ≡ layout.components_cell → ⊥
    go None z h l = omega (arith, z, l, w)
    go (Some n) z h l = h (ap (λ (k : ℕ). Some k) (z.count ∙ l))

pub head-put : {c o m m' : List ℕ} {p : Option ℕ} → Gathered c p o → p ≡ Some layout.components_cell → m' ≡ pasted m 0 (take layout.components_cell o) → HeadLaid c m m'
head-put {c} {o} {m} g h e =
    let s : Stored c layout.components_cell o = subst (λ x. MatchOption x (length o < length c) (λ n. Stored c n o)) h g.told in
    record { cells = λ l. e ∙ ap (pasted m 0) s.bytes }

-- ---- all cells

replaced : (p x q s : List ℕ) (n : ℕ) → length p ≡ n → length x ≡ length s → pasted (p ++ (x ++ q)) n s ≡ p ++ (s ++ q)
replaced p x q s n h k =
    rw (take_at p (x ++ q) n h, drop_past p (x ++ q) n (length s) h, drop_at x q (length s) k)

abbrev zeros : ℕ → List ℕ
zeros n = replicate n 0

module _ (H L J : List ℕ) (a b c r : ℕ) (x : length H ≡ a) (y : length L ≡ c) where
  zeros-are : zeros (a + (b + (c + (length J + r)))) ≡ zeros a ++ (zeros b ++ (zeros c ++ (zeros (length J) ++ zeros r)))
  zeros-are =
      sym (ap (λ (p : List ℕ). zeros a ++ (zeros b ++ (zeros c ++ p))) (replicate-append-replicate {A = ℕ} (length J) r 0)
      ∙ ap (λ (p : List ℕ). zeros a ++ (zeros b ++ p)) (replicate-append-replicate {A = ℕ} c (length J + r) 0)
      ∙ ap (λ (p : List ℕ). zeros a ++ p) (replicate-append-replicate {A = ℕ} b (c + (length J + r)) 0)
      ∙ replicate-append-replicate {A = ℕ} a (b + (c + (length J + r))) 0)

  laid_cells : (m₀ m₁ m₂ : List ℕ) (n k w : ℕ) → m₀ ≡ zeros n → n ≡ a + (b + (c + (length J + r))) → m₁ ≡ pasted m₀ 0 H → k ≡ a + b → w ≡ k + c
      → m₂ ≡ pasted (take w m₁) k L ++ pasted (drop w m₁) 0 J → m₂ ≡ H ++ (zeros b ++ (L ++ (J ++ zeros r)))
  laid_cells m₀ m₁ m₂ n k w e₀ en e₁ ek ew e₂ =
      let P = H ++ zeros b in
      let R = zeros (length J) ++ zeros r in
      let z₀ : m₀ ≡ zeros a ++ (zeros b ++ (zeros c ++ R)) = e₀ ∙ ap zeros en ∙ zeros-are in
      let la : length (zeros a) ≡ length H = length-replicate {A = ℕ} a 0 ∙ sym x in
      let z₁ : m₁ ≡ H ++ (zeros b ++ (zeros c ++ R)) = e₁ ∙ ap (λ (p : List ℕ). pasted p 0 H) z₀ ∙ replaced [] (zeros a) (zeros b ++ (zeros c ++ R)) H 0 refl la in
      let z₂ : m₁ ≡ (P ++ (zeros c ++ [])) ++ R = z₁ ∙ simp (append_assoc, append-nil) in
      let lP : length P ≡ k = simp (length-append, length-replicate) (omega arith) in
      let lw : length (P ++ (zeros c ++ [])) ≡ w = simp (length-append, length-replicate) (omega (arith, lP)) in
      let first : pasted (take w m₁) k L ≡ P ++ (L ++ []) =
      ap (λ (p : List ℕ). pasted (take w p) k L) z₂ ∙ ap (λ (p : List ℕ). pasted p k L) (take_at (P ++ (zeros c ++ [])) R w lw)
      ∙ replaced P (zeros c) [] L k lP (length-replicate {A = ℕ} c 0 ∙ sym y) in
      let second : pasted (drop w m₁) 0 J ≡ J ++ zeros r =
      ap (λ (p : List ℕ). pasted (drop w p) 0 J) z₂ ∙ ap (λ (p : List ℕ). pasted p 0 J) (drop_at (P ++ (zeros c ++ [])) R w lw)
      ∙ replaced [] (zeros (length J)) (zeros r) J 0 refl (length-replicate {A = ℕ} (length J) 0) in
      e₂ ∙ (λ i. first i ++ second i) ∙ simp (append_assoc, append-nil)

pub zeros-long : {m : List ℕ} → m ≡ replicate limit.state 0 → length m ≡ limit.state
zeros-long e = ap length e ∙ length-replicate {A = ℕ} limit.state 0

module _ {t m₀ m₁ m₂ : List ℕ} (e : m₀ ≡ replicate limit.state 0) (h : HeadLaid (contents_at head 0 (frames_in t)) m₀ m₁) (v : StringsLaid (strings_of t) m₁ m₂) where
  pub saved-laid : (s : State) → SavedAs t s → m₂ ≡ untotalled s
  unfolding untotalled string_cells used
  saved-laid s a =
      let f = good-fine a.program a.inputs s a.good a.right a.state in
      let fs : frames_in t ≡ frames_of s = ap frames_in a.text ∙ saved-frames a.program a.inputs s a.good a.right a.state in
      let vs : strings_of t ≡ strings s = ap strings_by fs ∙ strings-back s f in
      let hs : contents_at head 0 (frames_in t) ≡ each three (head_numbers s) = ap (contents_at head 0) fs ∙ head_at s in
      let H = each three (head_numbers s) in
      let L = lengths (strings s) in
      let J = joined (strings s) in
      let room : length J ≤ layout.room = omega (arith, fine-room s f) in
      let lL : length L ≡ layout.lengths_bytes = length-lengths (strings s) ∙ ap (λ (n : ℕ). 2 * n) (length-strings s f) in
      let e₁ : m₁ ≡ pasted m₀ 0 H = h.cells (ap length hs) ∙ ap (pasted m₀ 0) hs in
      let fits : used (strings_of t) ≤ layout.room = rw vs room in
      let e₂ : m₂ ≡ placed m₁ L J = v.cells fits ∙ ap (λ ws. placed m₁ (lengths ws) (joined ws)) vs in
      laid_cells H L J layout.components_cell (layout.first_length - layout.components_cell) layout.lengths_bytes (layout.room - length J) refl lL m₀ m₁ m₂ limit.state layout.first_length layout.first_byte e (omega arith) e₁ refl refl e₂

  pub state-laid : length m₁ ≡ length m₀ → length m₂ ≡ length m₁ → Laid t m₂
  state-laid k l = record { long = l ∙ k ∙ zeros-long e; cells = saved-laid }
