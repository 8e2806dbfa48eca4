-- Contents are as laid out, those of the state that they give, just when they are whole.
use Rattle.std.specs.Prelude.{◌≡◌, ◌↔◌, eqb}
use Rattle.std.proofs.Math.Path.{refl, sym, ap}
use Rattle.std.proofs.Common.{◌∙◌, take_at, drop_at, get_or-drop, drop-drop}
use Rattle.std.proofs.Math.Bool.{cond}
use mathlib.Core.List.{List, [], ◌∷◌, ◌++◌, map, append_assoc, append-nil, map-map}
use Prim.Native.Nat.{ℕ, zero, suc, ◌+◌, ◌*◌, ◌/◌, ◌<◌}
use native.Mathlib.Omega.{arith}
use Rattle.std.proofs.Math.ListN.{length, get_or, drop, length-append}
use Rattle.std.proofs.lemmas.List.{length-map}
use Rattle.layout.specs.CodeLaws.{three-cells}
use Rattle.layout.specs.EachLaws.{each_map}
use Rattle.lists.specs.BoolLaws.{sign-most, sign-again}
use Rattle.language.specs.Limits as limit
use Rattle.lists.specs.Lists.{each}
use Rattle.language.specs.Values.{File, State}
use Rattle.layout.specs.Bounds.{Each, Below}
use Rattle.layout.proofs.CellLaws.{each_append, each_left, each_right, length-each, length-tab, get_d-tab, tab-ext}
use Rattle.layout.specs.Cells.{two, three, tab}
use Rattle.layout.specs.Components.{components_bytes, records_bytes, components_in, records_in}
use Rattle.layout.specs.Memory.{threes_in, files_in, twos_in, state_by}
use Rattle.layout.proofs.MemoryLaws.{threes-back}
use Rattle.state_frames.specs.Frames.{Frame, framed}
use Rattle.state_frames.specs.Saved.{head_count, head_numbers, file_contents, file_bytes, numbered, slots, contents_at, contents_of, before_half, after_half, halves, strings_by, numbers_in, numbers_by, restored}
use Rattle.state_frames.proofs.SavedLaws.{halves-back}
use Rattle.state_frames.specs.Order.{Found, LaidOut, WholeFile, WholeContents}

-- ---- numbers of three bytes

length-threes : (n : ℕ) (l : List ℕ) → length (threes_in n l) ≡ n
unfolding threes_in
length-threes zero l = refl
length-threes (suc n) l = ap suc (length-threes n (drop 3 l))

-- so many bytes are those of the numbers that they read as
pub threes-of : (n : ℕ) (l : List ℕ) → length l ≡ 3 * n → Below 256 l → each three (threes_in n l) ≡ l
unfolding threes_in
threes-of zero [] h b = refl
threes-of zero (x ∷ l) h b = absurd (omega (arith, h))
threes-of (suc n) [] h b = absurd (omega (arith, h))
threes-of (suc n) (x ∷ []) h b = absurd (omega (arith, h))
threes-of (suc n) (x ∷ y ∷ []) h b = absurd (omega (arith, h))
threes-of (suc n) (x ∷ y ∷ z ∷ l) h b =
    let e = three-cells x y z b.0 b.1.0 b.1.1.0 in
    let t = threes-of n l (omega (arith, h)) b.1.1.1 in
    λ j. e j ++ t j

-- ---- the parts of the state that frames give

abbrev file_in : List ℕ → File
file_in c = record { before = records_in (before_half c); after = records_in (after_half c) }

files-of-halves : (cs : List (List ℕ)) (t : List (List ℕ)) → files_in (length cs) (each halves cs ++ t) ≡ map file_in cs
unfolding files_in
files-of-halves [] t = refl
files-of-halves (c ∷ cs) t = ap (λ fs. file_in c ∷ fs) (files-of-halves cs t)

module _ (fs : List Frame) where
  abbrev s : State
  s = restored fs

  abbrev E : List (List ℕ)
  E = contents_of 2 limit.expressions fs

  abbrev F : List (List ℕ)
  F = contents_of 3 limit.files fs

  abbrev Q : List (List ℕ)
  Q = contents_of 4 limit.outputs fs

  abbrev R : List ℕ
  R = contents_at 5 0 fs

  length-E : length E ≡ limit.expressions
  length-E = length-tab limit.expressions (λ i. contents_at 2 (suc i) fs)

  length-F : length F ≡ limit.files
  length-F = length-tab limit.files (λ i. contents_at 3 (suc i) fs)

  length-halves : length (each halves F) ≡ 2 * limit.files
  length-halves = length-each 2 halves (λ c. refl) F ∙ ap (λ (n : ℕ). 2 * n) length-F

  restored-exprs : s.store.exprs ≡ map components_in E
  unfolding restored state_by strings_by
  restored-exprs = ap (map components_in) (take_at E (each halves F ++ (R ∷ Q)) limit.expressions length-E)

  restored-files : s.store.files ≡ map file_in F
  unfolding restored state_by strings_by
  restored-files =
      ap (files_in limit.files) (drop_at E (each halves F ++ (R ∷ Q)) limit.expressions length-E)
      ∙ ap (λ (n : ℕ). files_in n (each halves F ++ (R ∷ Q))) (sym length-F)
      ∙ files-of-halves F (R ∷ Q)

  stack-drop : drop 96 (strings_by fs) ≡ R ∷ Q
  unfolding strings_by
  stack-drop =
      rw (← append_assoc E (each halves F) (R ∷ Q))
      (drop_at (E ++ each halves F) (R ∷ Q) 96 (simp length-append (omega (arith, length-E, length-halves))))

  restored-stack : s.stack ≡ twos_in R
  unfolding restored state_by
  restored-stack = ap twos_in (sym (get_or-drop 96 (strings_by fs) 0 []) ∙ ap (λ vs. get_or vs 0 []) stack-drop)

  restored-outputs : s.store.outputs ≡ Q
  unfolding restored state_by
  restored-outputs = sym (drop-drop 1 96 (strings_by fs)) ∙ ap (drop 1) stack-drop

  abbrev firsts : List ℕ
  firsts = tab head_count (λ k. get_or (numbers_by fs) k 0)

  restored-head : head_numbers s ≡ cond (eqb (get_or (numbers_by fs) 0 0) 1) 1 0 ∷ drop 1 firsts
  unfolding restored state_by tab
  restored-head = refl

  first_some : get_or (numbers_by fs) 0 0 ∷ drop 1 firsts ≡ firsts
  unfolding tab
  first_some = refl

  firsts-are : length (numbers_by fs) ≡ head_count → firsts ≡ numbers_by fs
  firsts-are h =
      ap (λ (n : ℕ). tab n (λ k. get_or (numbers_by fs) k 0)) (sym h) ∙ tab-ext 0 (numbers_by fs) (λ k. get_or (numbers_by fs) k 0) (λ i b. refl)

-- ---- each slot's contents

-- of one kind: every frame of the state's contents cs has what the frames have
module _ (fs : List Frame) (k : ℕ) where
  abbrev C : ℕ → List ℕ
  C i = contents_at k i fs

  found_by : (n : ℕ) (cs : List (List ℕ)) → ((i : ℕ) → i < length cs → C (n + i) ≡ get_or cs i []) → Each (Found fs) (numbered k n cs)
  unfolding numbered
  found_by n [] h = tt
  found_by n (c ∷ cs) h =
      let z : n + 0 ≡ n = omega arith in
      let e : C n ≡ c = ap C (sym z) ∙ h 0 (omega arith) in
      (e, found_by (suc n) cs (λ i b. let y : suc n + i ≡ n + suc i = omega arith in ap C y ∙ h (suc i) (omega arith)))

  found_at : (n : ℕ) (cs : List (List ℕ)) → Each (Found fs) (numbered k n cs) → (i : ℕ) → i < length cs → C (n + i) ≡ get_or cs i []
  unfolding numbered
  found_at n [] h i b = absurd (omega arith)
  found_at n (c ∷ cs) h zero b = let z : n + 0 ≡ n = omega arith in ap C z ∙ h.0
  found_at n (c ∷ cs) h (suc i) b = let y : n + suc i ≡ suc n + i = omega arith in ap C y ∙ found_at (suc n) cs h.1 i (omega arith)

  -- as lists
  found-list : (cs : List (List ℕ)) (n : ℕ) → length cs ≡ n → Each (Found fs) (numbered k 1 cs) → contents_of k n fs ≡ cs
  found-list cs n l h =
      ap (λ (m : ℕ). tab m (λ i. C (suc i))) (sym l)
      ∙ tab-ext [] cs (λ i. C (suc i)) (λ i b. let y : suc i ≡ 1 + i = omega arith in ap C y ∙ found_at 1 cs h i b)

  list-found : (cs : List (List ℕ)) (n : ℕ) → length cs ≡ n → contents_of k n fs ≡ cs → Each (Found fs) (numbered k 1 cs)
  list-found cs n l e =
      found_by 1 cs (λ i b.
      let y : 1 + i ≡ suc i = omega arith in
      let w : i < n = omega arith in
      ap C y ∙ sym (get_d-tab n (λ j. C (suc j)) i [] w) ∙ ap (λ vs. get_or vs i []) e)

each-fixed : (g : List ℕ → List ℕ) (cs : List (List ℕ)) → Each (λ c. g c ≡ c) cs → map g cs ≡ cs
each-fixed g [] h = refl
each-fixed g (c ∷ cs) h = let e = h.0 in let t = each-fixed g cs h.1 in λ j. e j ∷ t j

fixed-each : (g : List ℕ → List ℕ) (cs : List (List ℕ)) → cs ≡ map g cs → Each (λ c. g c ≡ c) cs
fixed-each g [] h = tt
fixed-each g (c ∷ cs) h = let e : g c ≡ c = cc in let t : cs ≡ map g cs = cc in (e, fixed-each g cs t)

-- a file's contents, there and back
abbrev file_again : List ℕ → List ℕ
file_again c = file_bytes (file_in c)

whole-file : (c : List ℕ) → WholeFile c → file_again c ≡ c
whole-file c w = (let a = w.before_whole in let b = w.after_whole in λ j. file_contents (a j) (b j)) ∙ w.cut

file-whole : (c : List ℕ) → file_again c ≡ c → WholeFile c
file-whole c e =
    let b = records_bytes (records_in (before_half c)) in
    let a = records_bytes (records_in (after_half c)) in
    let h : halves c ≡ b ∷ a ∷ [] = ap halves (sym e) ∙ halves-back b a in
    let x : b ≡ before_half c = cc in
    let y : a ≡ after_half c = cc in
    record { cut = (λ j. file_contents (sym x j) (sym y j)) ∙ e; before_whole = x; after_whole = y }

module _ (fs : List Frame) where
  exprs-again : map components_bytes (s fs).store.exprs ≡ map (λ c. components_bytes (components_in c)) (E fs)
  exprs-again = ap (map components_bytes) (restored-exprs fs) ∙ map-map components_bytes components_in (E fs)

  files-again : map file_bytes (s fs).store.files ≡ map file_again (F fs)
  files-again = ap (map file_bytes) (restored-files fs) ∙ map-map file_bytes file_in (F fs)

  exprs-long : length (map components_bytes (s fs).store.exprs) ≡ limit.expressions
  exprs-long = ap length exprs-again ∙ length-map (E fs) (λ c. components_bytes (components_in c)) ∙ length-E fs

  files-long : length (map file_bytes (s fs).store.files) ≡ limit.files
  files-long = ap length files-again ∙ length-map (F fs) file_again ∙ length-F fs

  outputs-long : length (s fs).store.outputs ≡ limit.outputs
  outputs-long = ap length (restored-outputs fs) ∙ length-tab limit.outputs (λ i. contents_at 4 (suc i) fs)

  numbers-is : numbers_by fs ≡ numbers_in (contents_at 1 0 fs)
  unfolding numbers_by
  numbers-is = refl

  numbers-firsts : length (contents_at 1 0 fs) ≡ 3 * head_count → numbers_by fs ≡ threes_in head_count (contents_at 1 0 fs)
  numbers-firsts h = numbers-is ∙ ap (λ (n : ℕ). threes_in (n / 3) (contents_at 1 0 fs)) h

  abbrev N2 : List Frame
  N2 = numbered 2 1 (map components_bytes (s fs).store.exprs)

  abbrev N3 : List Frame
  N3 = numbered 3 1 (map file_bytes (s fs).store.files)

  abbrev N4 : List Frame
  N4 = numbered 4 1 (s fs).store.outputs

  abbrev N5 : List Frame
  N5 = framed 5 0 (each two (s fs).stack) ∷ []

  whole-laid : Below 256 (contents_at 1 0 fs) → WholeContents fs → LaidOut fs
  unfolding slots
  whole-laid b w =
      let ns = numbers_by fs in
      let read = numbers-firsts w.head_length in
      let long : length ns ≡ head_count = ap length read ∙ length-threes head_count (contents_at 1 0 fs) in
      let n0 : cond (eqb (get_or ns 0 0) 1) 1 0 ≡ get_or ns 0 0 = sign-again (get_or ns 0 0) w.head_sign in
      let hd : head_numbers (s fs) ≡ ns = restored-head fs ∙ ap (λ (x : ℕ). x ∷ drop 1 (firsts fs)) n0 ∙ first_some fs ∙ firsts-are fs long in
      let h1 : contents_at 1 0 fs ≡ each three (head_numbers (s fs)) =
      sym (threes-of head_count (contents_at 1 0 fs) w.head_length b) ∙ ap (each three) (sym (hd ∙ read)) in
      let e2 : E fs ≡ map components_bytes (s fs).store.exprs = sym (exprs-again ∙ each-fixed (λ c. components_bytes (components_in c)) (E fs) w.exprs_whole) in
      let e3 : F fs ≡ map file_bytes (s fs).store.files = sym (files-again ∙ each-fixed file_again (F fs) (each_map WholeFile (λ c. file_again c ≡ c) whole-file (F fs) w.files_whole)) in
      let h5 : contents_at 5 0 fs ≡ each two (s fs).stack = sym (ap (each two) (restored-stack fs) ∙ w.stack_whole) in (
        h1,
        each_append (Found fs) N2 (N3 ++ (N4 ++ N5)) (list-found fs 2 (map components_bytes (s fs).store.exprs) limit.expressions exprs-long e2)
            (each_append (Found fs) N3 (N4 ++ N5) (list-found fs 3 (map file_bytes (s fs).store.files) limit.files files-long e3)
            (each_append (Found fs) N4 N5 (list-found fs 4 (s fs).store.outputs limit.outputs outputs-long (sym (restored-outputs fs))) (h5, tt))),
      )

  laid-whole : LaidOut fs → WholeContents fs
  unfolding slots
  laid-whole l =
      let h1 : contents_at 1 0 fs ≡ each three (head_numbers (s fs)) = l.0 in
      let l2 = each_left (Found fs) N2 (N3 ++ (N4 ++ N5)) l.1 in
      let l345 = each_right (Found fs) N2 (N3 ++ (N4 ++ N5)) l.1 in
      let l3 = each_left (Found fs) N3 (N4 ++ N5) l345 in
      let l5 = each_right (Found fs) N4 N5 (each_right (Found fs) N3 (N4 ++ N5) l345) in
      let e2 = found-list fs 2 (map components_bytes (s fs).store.exprs) limit.expressions exprs-long l2 ∙ exprs-again in
      let e3 = found-list fs 3 (map file_bytes (s fs).store.files) limit.files files-long l3 ∙ files-again in
      let ns : numbers_by fs ≡ head_numbers (s fs) =
      numbers-is ∙ ap numbers_in (h1 ∙ sym (append-nil (each three (head_numbers (s fs))))) ∙ threes-back (head_numbers (s fs)) [] in
      let sign : get_or (numbers_by fs) 0 0 ≡ cond (s fs).store.plus 1 0 = ap (λ (x : List ℕ). get_or x 0 0) ns in
      record {
        head_length = ap length h1 ∙ length-each 3 three (λ n. refl) (head_numbers (s fs));
        head_sign = rw sign (sign-most (s fs).store.plus);
        exprs_whole = fixed-each (λ c. components_bytes (components_in c)) (E fs) e2;
        files_whole = each_map (λ c. file_again c ≡ c) WholeFile file-whole (F fs) (fixed-each file_again (F fs) e3);
        stack_whole = ap (each two) (sym (restored-stack fs)) ∙ sym l5.0;
      }

  -- contents "as laid out in docs/": whole, kind by kind
  pub laid-out-means : Below 256 (contents_at 1 0 fs) → LaidOut fs ↔ WholeContents fs
  laid-out-means b = (laid-whole, whole-laid b)
