-- The parts of a state's text: each finds room behind the others, and they are the whole of it.
use mathlib.Core.Path.{◌≡◌, refl, sym, ap, ◌∙◌, subst}
use mathlib.Core.List.{List, [], ◌∷◌, ◌++◌, map}
use Prim.Native.Nat.{ℕ, ◌+◌, ◌-◌, ◌≤◌}
use native.Mathlib.Omega.{arith}
use lib.ListN.{length, get_or, take, drop, replicate, length-drop}
use lib.Seq.{length-take-le, take_all, take-take, drop_at}
use Rattle.cells.specs.Cells.{pasted}
use Rattle.check_memory.proofs.Cells.{sum-lengths}
use Rattle.check_memory.specs.Passes.{sizes, sum, all_strings}
use Rattle.check_memory.specs.Reads.{Roomy, StringLent}
use Rattle.language.specs.Limits as limit
use Rattle.language.specs.Values.{State}
use Rattle.layout.specs.Bounds.{Fine, AtRest}
use Rattle.layout.proofs.CellLaws.{length-each}
use Rattle.layout.specs.Cells.{three}
use Rattle.layout.proofs.FineLaws.{fine-room}
use Rattle.layout.specs.Memory.{scalars, strings, state_cells, state_of}
use Rattle.layout.proofs.MemoryLaws.{length-strings, memory-facts, memory-fine, memory-strings}
use Rattle.layout.specs.Places as layout
use Rattle.layout.proofs.StringLaws.{length-strings_in, lengths_in-lengths}
use Rattle.layout.specs.Strings.{lengths, used, string_cells, lengths_in}
use Rattle.lists.specs.Lists.{each, joined, keep}
use Rattle.state_frames.specs.Frames.{Frame, framed, head, expression, output, stack, frames_text}
use Rattle.state_frames.proofs.LengthLaws.{saved-most}
use Rattle.state_frames.proofs.MemoryFrameLaws.{slots-of-memory}
use Rattle.state_frames.specs.MemoryFrames.{slots_by, slots_in, Saveable}
use Rattle.state_frames.specs.Saved.{numbered, nonempty, frames_of, saved}
use Rattle.state_saving.specs.Saving.{longest, Put, text_of, Appended, FrameFits, string_frames, file_frames, StringsFit, FilesFit, memory_frames, FramesFit}
use Rattle.state_saving.proofs.Appending.{length_both, appended-long, appended-both}

-- ---- of cells

module _ (m o : List ℕ) (f : FramesFit m (length o)) where
  abbrev H : List Frame
  H = framed head 0 (take layout.components_cell m) ∷ []

  abbrev E : List Frame
  E = string_frames m expression 0 limit.expressions

  abbrev F : List Frame
  F = file_frames m

  abbrev Q : List Frame
  Q = string_frames m output layout.first_output limit.outputs

  abbrev R : List Frame
  R = framed stack 0 (get_or (all_strings m) layout.stack_string []) ∷ []

  parts_are : H ++ (E ++ (F ++ (Q ++ R))) ≡ memory_frames m
  unfolding slots_by
  parts_are =
      let vs = all_strings m in
      let n : length (drop layout.first_output vs) ≤ limit.outputs = omega (arith, length-drop layout.first_output vs, length-strings_in (drop layout.first_length m)) in
      ap (λ cs. H ++ (E ++ (F ++ (numbered output 1 cs ++ R)))) (take_all limit.outputs (drop layout.first_output vs) n)

  all_room : length (text_of H) + (length (text_of E) + (length (text_of F) + (length (text_of Q) + length (text_of R)))) ≤ length o
  all_room =
      omega (
        arith,
        f.room,
        ap (λ fs. length (text_of fs)) parts_are,
        length_both H (E ++ (F ++ (Q ++ R))),
        length_both E (F ++ (Q ++ R)),
        length_both F (Q ++ R),
        length_both Q R,
      )

  pub head-long : length (take layout.components_cell m) ≡ layout.components_cell
  head-long = length-take-le layout.components_cell m (omega (arith, f.cells))

  pub head_fits : FrameFits (framed head 0 (take layout.components_cell m)) 0 (length o)
  head_fits = record { room = omega (arith, all_room); index_below = omega arith; short = omega (arith, head-long) }

  -- the same of the cells as they are lent
  module _ {l : List ℕ} (e : l ≡ m) where
    pub lent-long : length (take layout.components_cell l) ≡ layout.components_cell
    lent-long = ap (λ (c : List ℕ). length (take layout.components_cell c)) e ∙ head-long

    pub lent-fits : FrameFits (framed head 0 (take layout.components_cell l)) 0 (length o)
    lent-fits = subst (λ (c : List ℕ). FrameFits (framed head 0 (take layout.components_cell c)) 0 (length o)) (sym e) head_fits

    pub lent-appended : {a : ℕ} {o₁ : List ℕ} → Appended (framed head 0 (take layout.components_cell l) ∷ []) 0 a o o₁ → Appended H 0 a o o₁
    lent-appended {a} {o₁} x = subst (λ (c : List ℕ). Appended (framed head 0 (take layout.components_cell c) ∷ []) 0 a o o₁) e x

  module _ {a : ℕ} {o₁ : List ℕ} (x : Appended H 0 a o o₁) where
    pub expressions-fit : StringsFit m expression 0 limit.expressions a (length o₁)
    expressions-fit = record { within = omega arith; room = omega (arith, all_room, x.count, appended-long x) }

    module _ {b : ℕ} {o₂ : List ℕ} (y : Appended E a b o₁ o₂) where
      pub files-fit : FilesFit m b (length o₂)
      files-fit = record { short = f.short; room = omega (arith, all_room, x.count, y.count, appended-long x, appended-long y) }

      module _ {d : ℕ} {o₃ : List ℕ} (z : Appended F b d o₂ o₃) where
        pub outputs-fit : StringsFit m output layout.first_output limit.outputs d (length o₃)
        outputs-fit =
            record {
              within = omega arith;
              room = omega (arith, all_room, x.count, y.count, z.count, appended-long x, appended-long y, appended-long z);
            }

        module _ {e : ℕ} {o₄ : List ℕ} (u : Appended Q d e o₃ o₄) {v : List ℕ} (l : StringLent m layout.stack_string v) where
          pub stack-fits : FrameFits (framed stack 0 v) e (length o₄)
          stack-fits =
              let q = ap (λ (w : List ℕ). length (text_of (framed stack 0 w ∷ []))) l.is in
              record {
                room = omega (arith, all_room, q, x.count, y.count, z.count, u.count, appended-long x, appended-long y, appended-long z, appended-long u);
                index_below = omega arith;
                short = l.small;
              }

          pub all-appended : {r : ℕ} {o₅ : List ℕ} → Appended (framed stack 0 v ∷ []) e r o₄ o₅ → Appended (memory_frames m) 0 r o o₅
          all-appended {r} {o₅} w =
              let k : Appended R e r o₄ o₅ = subst (λ (c : List ℕ). Appended (framed stack 0 c ∷ []) e r o₄ o₅) l.is w in
              subst (λ fs. Appended fs 0 r o o₅) parts_are (appended-both x (appended-both y (appended-both z (appended-both u k))))

-- ---- of a memory that can be written

module _ {M : List ℕ} (h : Saveable M) where
  abbrev cells : List ℕ
  cells = take limit.state M

  abbrev s : State
  s = state_of M

  at_rest : AtRest h.program h.inputs M
  at_rest = memory-facts h.program h.inputs M h.memory

  fine : Fine s
  fine = memory-fine h.program h.inputs M h.good h.right h.memory

  pub cells-long : length cells ≡ limit.state
  cells-long = length-take-le limit.state M at_rest.long

  strings-are : all_strings cells ≡ strings s
  strings-are = memory-strings h.program h.inputs M h.good h.right h.memory

  sizes-are : sizes cells ≡ map length (strings s)
  unfolding state_cells string_cells
  sizes-are =
      let ws = strings s in
      let t : List ℕ = joined ws ++ replicate (layout.room - used ws) 0 in
      ap (λ (l : List ℕ). lengths_in layout.strings_count (drop layout.first_length l)) (sym at_rest.cells)
      ∙ ap (lengths_in layout.strings_count) (drop_at (each three (scalars s)) (string_cells ws) layout.first_length (length-each 3 three (λ n. refl) (scalars s)))
      ∙ ap (λ (k : ℕ). lengths_in k (lengths ws ++ t)) (sym (length-strings s fine)) ∙ lengths_in-lengths ws t

  text_is : text_of (memory_frames cells) ≡ saved s
  unfolding text_of saved frames_of slots_in
  text_is =
      let a : take layout.components_cell cells ≡ take layout.components_cell M = take-take layout.components_cell limit.state M (omega arith) in
      ap (λ (c : List ℕ). text_of (slots_by c (all_strings cells))) a
      ∙ ap (λ fs. frames_text (keep nonempty fs)) (slots-of-memory h.program h.inputs M h.good h.right h.memory)

  text-most : length (text_of (memory_frames cells)) ≤ longest
  text-most = omega (arith, ap length text_is, saved-most s fine)

  pub roomy : Roomy cells
  roomy = record { long = cells-long; room = omega (arith, ap sum sizes-are, sum-lengths (strings s), fine-room s fine) }

  pub frames-fit : {long : ℕ} → longest ≤ long → FramesFit cells long
  frames-fit k = record { cells = cells-long; short = omega (arith, ap used strings-are, fine-room s fine); room = omega (arith, text-most) }

  pub saved-put : {r : ℕ} {o o' : List ℕ} → Appended (memory_frames cells) 0 r o o' → Put (saved s) r o o'
  saved-put {r} {o} x =
      let n = ap length text_is in
      let z : 0 + length (saved s) ≡ length (saved s) = omega arith in
      record {
        count = omega (arith, x.count, n);
        most = omega (arith, x.count, text-most);
        row = x.row ∙ ap (pasted o 0) text_is ∙ ap (λ (k : ℕ). saved s ++ drop k o) z;
      }
