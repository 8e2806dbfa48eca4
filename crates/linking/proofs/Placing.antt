-- The instructions of the program, where all marks have become places.
use mathlib.Core.Path.{◌≡◌, refl, sym, ap, ◌∙◌}
use mathlib.Core.Bool.{Bool, true, false}
use mathlib.Core.List.{List, [], ◌∷◌, ◌++◌, map, append-nil}
use Prim.Native.Nat.{ℕ, zero, suc, ◌≤◌}
use native.Mathlib.Omega.{arith}
use lib.Dec.{T}
use lib.ListN.{length, get_or, set, take, drop, length-map}
use lib.IntN.{ℤ}
use lib.Seq.{set_at, get_or_at, take-suc, drop-cons, length-take-le, take-length, drop-length, append_snoc}
use Rattle.std.proofs.lemmas.List.{map_push}
use Rattle.lists.specs.SearchLaws.{ahead-map}
use Rattle.acceptance.specs.Drafts.{SoundArgument, SoundWritten}
use Rattle.drafts.specs.Drafting.{draft_arg, draft_instr, draft_switch, draft_program}
use Rattle.drafts.specs.Marks.{mark, word_by}
use Rattle.drafts.specs.Tabled.{Spelt, Tabled}
use Rattle.language.specs.Letters.{Letter}
use Rattle.language.specs.Program.{Arg, Instr, Label, Switch, Program, no_instr, classes}
use Rattle.language.specs.Program.Arg.{nothing, letter, label, switch, class, text}
use Rattle.language.specs.Values.{amount, value_of}
use Rattle.layout.specs.Bounds.{Each}
use Rattle.lists.specs.ListLaws.{all_among}
use Rattle.lists.specs.Quoted.{bytes}
use Rattle.lists.specs.Lists.{ahead, head_or, bytes_equal}
use Rattle.linking.specs.Lookup.{label_by, switch_by, argument}
use Rattle.linking.specs.Resolving.{all_changed, resolved_arg, argument_resolved, instr_resolved, code_resolved}
use Rattle.syntax.specs.ArgumentForms.{form_in, Argument, letter_of}
use Rattle.syntax.specs.Items.{Item, line_at}
use Rattle.syntax.specs.Load.{label_place, switch_place, arg_of, instr_of}
use Rattle.syntax.specs.Tables.{Written, Tables}
use Rattle.writing.specs.Writing.{with_argument, put_argument}
use Rattle.linking.proofs.Steps.{untouched}
use Rattle.linking.proofs.Marked.{by_form, Used, used-argument}

-- ---- the code after all instructions

same-resolved : (s sw : List ℕ) (p q : Program) → q.labels ≡ p.labels → q.switches ≡ p.switches → (a : Arg) → resolved_arg s sw q a ≡ resolved_arg s sw p a
same-resolved s sw p q e f nothing = refl
same-resolved s sw p q e f (letter l n) = refl
same-resolved s sw p q e f (label m) = ap (λ (ls : List Label). label (ahead (λ l. bytes_equal (word_by s m) l.name) ls)) e
same-resolved s sw p q e f (switch m) = ap (λ (ws : List Switch). switch (switch_by s sw (length ws) m)) f
same-resolved s sw p q e f (class cs) = refl
same-resolved s sw p q e f (text t) = refl
same-resolved s sw p q e f (Arg.number z) = refl

module _ (s sw : List ℕ) where
  abbrev resolved_instr : Program → Instr → Instr
  resolved_instr p i =
      record { op = i.op; line = i.line; first = resolved_arg s sw p i.first; second = resolved_arg s sw p i.second; third = resolved_arg s sw p i.third }

  one_argument : (q : Program) (k j : ℕ) (xs ys : List Instr) (x : Instr) → length xs ≡ k → q.code ≡ xs ++ x ∷ ys
      → (argument_resolved s sw k j q).code ≡ xs ++ put_argument j (resolved_arg s sw q (argument j x)) x ∷ ys
  unfolding argument_resolved with_argument
  one_argument q k j xs ys x l e =
      ap (λ (c : List Instr). set c k (put_argument j (resolved_arg s sw q (argument j (get_or c k no_instr))) (get_or c k no_instr))) e
      ∙ ap (λ (y : Instr). set (xs ++ x ∷ ys) k (put_argument j (resolved_arg s sw q (argument j y)) y)) (get_or_at xs x ys no_instr k l)
      ∙ set_at xs x ys (put_argument j (resolved_arg s sw q (argument j x)) x) k l

  argument-labels : (k j : ℕ) (q : Program) → (argument_resolved s sw k j q).labels ≡ q.labels
  unfolding argument_resolved with_argument
  argument-labels k j q = refl

  argument-switches : (k j : ℕ) (q : Program) → (argument_resolved s sw k j q).switches ≡ q.switches
  unfolding argument_resolved with_argument
  argument-switches k j q = refl

  one-instruction : (p q : Program) (k : ℕ) (xs ys : List Instr) (x : Instr) → q.labels ≡ p.labels → q.switches ≡ p.switches → length xs ≡ k → q.code ≡ xs ++ x ∷ ys
      → (instr_resolved s sw k q).code ≡ xs ++ resolved_instr p x ∷ ys
  one-instruction p q k xs ys x e f l c =
      let q₁ : Program = argument_resolved s sw k 0 q in
      let q₂ : Program = argument_resolved s sw k 1 q₁ in
      let e₁ : q₁.labels ≡ p.labels = argument-labels k 0 q ∙ e in
      let f₁ : q₁.switches ≡ p.switches = argument-switches k 0 q ∙ f in
      let e₂ : q₂.labels ≡ p.labels = argument-labels k 1 q₁ ∙ e₁ in
      let f₂ : q₂.switches ≡ p.switches = argument-switches k 1 q₁ ∙ f₁ in
      let x₁ : Instr = put_argument 0 (resolved_arg s sw q x.first) x in
      let x₂ : Instr = put_argument 1 (resolved_arg s sw q₁ x.second) x₁ in
      let c₁ : q₁.code ≡ xs ++ x₁ ∷ ys = one_argument q k 0 xs ys x l c in
      let c₂ : q₂.code ≡ xs ++ x₂ ∷ ys = one_argument q₁ k 1 xs ys x₁ l c₁ in
      one_argument q₂ k 2 xs ys x₂ l c₂
      ∙ (λ j. xs ++ record { op = x.op; line = x.line; first = same-resolved s sw p q e f x.first j; second = same-resolved s sw p q₁ e₁ f₁ x.second j; third = same-resolved s sw p q₂ e₂ f₂ x.third j } ∷ ys)

  -- the other parts of the program are as they were
  pub code-only : {X : Type 0} (g : Program → X) → ((k j : ℕ) (p : Program) → g (argument_resolved s sw k j p) ≡ g p) → (k : ℕ) (p : Program) → g (code_resolved s sw k p) ≡ g p
  code-only g h = untouched (instr_resolved s sw) g (λ k p. h k 2 _ ∙ h k 1 _ ∙ h k 0 p)

  code-so-far : (k : ℕ) (p : Program) → k ≤ length p.code → (code_resolved s sw k p).code ≡ map (resolved_instr p) (take k p.code) ++ drop k p.code
  unfolding all_changed
  code-so-far zero p h = refl
  code-so-far (suc k) p h =
      let x : Instr = get_or p.code k no_instr in
      let f : Instr → Instr = resolved_instr p in
      let xs : List Instr = map f (take k p.code) in
      let l : length xs ≡ k = length-map (take k p.code) f ∙ length-take-le k p.code (omega arith) in
      one-instruction p (code_resolved s sw k p) k xs (drop (suc k) p.code) x (code-only (λ p. p.labels) argument-labels k p) (code-only (λ p. p.switches) argument-switches k p) l
      (code-so-far k p (omega arith) ∙ ap (λ (ys : List Instr). xs ++ ys) (drop-cons p.code k no_instr h))
      ∙ sym (append_snoc xs (f x) (drop (suc k) p.code))
      ∙ ap (λ (ys : List Instr). ys ++ drop (suc k) p.code) (sym (map_push f (take k p.code) x) ∙ ap (map f) (sym (take-suc p.code k no_instr h)))

  pub code-whole : (p : Program) → (code_resolved s sw (length p.code) p).code ≡ map (resolved_instr p) p.code
  code-whole p =
      code-so-far (length p.code) p (omega arith)
      ∙ (λ j. map (resolved_instr p) (take-length p.code j) ++ drop-length p.code j) ∙ append-nil (map (resolved_instr p) p.code)

-- ---- the same from the text's tables

module _ (s lines : List ℕ) (t : Tables) (c sw en : List ℕ) (h : Tabled s lines t c sw en) where
  pub label-placed : (i : Item) → Used s i → label_by s (draft_program lines t) (mark i) ≡ label_place t i.chars
  unfolding draft_program
  label-placed i u = ap (label_place t) u.spells

  switch-placed : (i : Item) → Used s i → switch_by s sw (length (draft_program lines t).switches) (mark i) ≡ switch_place t i.chars
  unfolding draft_program
  switch-placed i u =
      let w : List ℕ = i.chars in
      ap (λ (n : ℕ). switch_by s sw n (mark i)) (length-map t.switches draft_switch)
      ∙ ap (λ (v : List ℕ). ahead (λ x. bytes_equal v (word_by s x)) (take (length t.switches) sw)) u.spells
      ∙ sym (ahead-map (bytes_equal w) (word_by s) (take (length t.switches) sw)) ∙ ap (ahead (bytes_equal w)) h.switch_names
      ∙ ahead-map (bytes_equal w) (λ c. c.name) t.switches

  by_cases : (bt bn bc bl bw : Bool) (w : List ℕ) (z : ℤ) (cs : List ℕ) (m k l x : ℕ) (y : Letter) (n : ℕ) → (T bl → label_by s (draft_program lines t) m ≡ l)
      → (T bw → switch_by s sw (length (draft_program lines t).switches) k ≡ x)
      → resolved_arg s sw (draft_program lines t) (by_form bt bn bc bl bw w z cs (label m) (switch k) y n) ≡ by_form bt bn bc bl bw w z cs (label l) (switch x) y n
  by_cases true bn bc bl bw w z cs m k l x y n e f = refl
  by_cases false true bc bl bw w z cs m k l x y n e f = refl
  by_cases false false true bl bw w z cs m k l x y n e f = refl
  by_cases false false false true bw w z cs m k l x y n e f = ap label (e tt)
  by_cases false false false false true w z cs m k l x y n e f = ap switch (f tt)
  by_cases false false false false false w z cs m k l x y n e f = refl

  argument-placed : (a : Argument) → SoundArgument (length s) t.texts t.numbers a → Spelt s a.item → resolved_arg s sw (draft_program lines t) (draft_arg a) ≡ arg_of t a
  unfolding draft_arg arg_of
  argument-placed a o u =
      let f : ℕ = a.form in
      let i : Item = a.item in
      let w : List ℕ = i.chars in
      by_cases (form_in "t" f) (form_in "n" f) (form_in "c" f) (form_in "l" f) (form_in "wx" f) w (value_of w) (classes w) (mark i) (mark i) (label_place t w) (switch_place t w)
      (letter_of (head_or 0 w)) (amount 0 (drop 1 w))
      (λ k. label-placed i (used-argument s t.texts t.numbers a o u (all_among (form_in "lwx") (bytes "l") tt f k)))
      (λ k. switch-placed i (used-argument s t.texts t.numbers a o u (all_among (form_in "lwx") (bytes "wx") tt f k)))

  arguments-placed : (bs : List Argument) → Each (SoundArgument (length s) t.texts t.numbers) bs → Each (λ a. Spelt s a.item) bs → (j : ℕ)
      → resolved_arg s sw (draft_program lines t) (get_or (map draft_arg bs) j nothing) ≡ get_or (map (arg_of t) bs) j nothing
  arguments-placed [] o u j = refl
  arguments-placed (b ∷ bs) o u zero = argument-placed b o.0 u.0
  arguments-placed (b ∷ bs) o u (suc j) = arguments-placed bs o.1 u.1 j

  code-placed : (ws : List Written) → Each (SoundWritten (length s) t.texts t.numbers) ws → Each (λ w. Each (λ a. Spelt s a.item) w.args) ws
      → map (resolved_instr s sw (draft_program lines t)) (map (draft_instr lines) ws) ≡ map (instr_of lines t) ws
  unfolding draft_instr instr_of
  code-placed [] o u = refl
  code-placed (w ∷ ws) o u =
      let a : (j : ℕ) → resolved_arg s sw (draft_program lines t) (get_or (map draft_arg w.args) j nothing) ≡ get_or (map (arg_of t) w.args) j nothing =
      arguments-placed w.args o.0.each_argument u.0 in
      λ j. record { op = w.op; line = line_at lines w.at; first = a 0 j; second = a 1 j; third = a 2 j } ∷ code-placed ws o.1 u.1 j

  draft-code : map (resolved_instr s sw (draft_program lines t)) (draft_program lines t).code ≡ map (instr_of lines t) t.code
  unfolding draft_program
  draft-code = code-placed t.code h.sound.code h.spelt_arguments

  pub program-code : (code_resolved s sw (length (draft_program lines t).code) (draft_program lines t)).code ≡ map (instr_of lines t) t.code
  program-code = code-whole s sw (draft_program lines t) ∙ draft-code
