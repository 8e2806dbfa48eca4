-- An argument's cell, kind by kind.
use mathlib.Core.Path.{◌≡◌, sym, ap, ◌∙◌, subst}
use mathlib.Core.List.{List}
use Prim.Native.Nat.{ℕ, ◌+◌, ◌*◌}
use native.Mathlib.Omega.{arith}
use lib.ListN.{length, take}
use Rattle.entering.specs.Below.Valued.{text_from, text_to, Spells, Drafted}
use Rattle.entering.specs.Entering.{Held}
use Rattle.entering.proofs.Adding.{put_front}
use Rattle.entering.specs.Below.Finding.{Counted, Tells}
use Rattle.language.specs.Program.{Arg}
use Rattle.layout.specs.Table.{arg_cell}
use Rattle.spelling.specs.Spelling.{Put, text_in, FitsText}
use Rattle.entering.specs.Below.Quoted.{Quoted}
use Rattle.entering.specs.Below.ReadArgument.{ReadArgument}
use Rattle.entering.specs.Below.ReadArgument.TheVariants.{Nothing, Text}
use Rattle.entering.proofs.Below.WritingHeld.{text_count, number_count}
use Rattle.argument_cells.specs.ArgumentCells.{text_cell, TextNamed, TextTold, Drafts, CellAsked, CellOf}

-- ---- what a table that holds a program has

pub texts-counted : {c : List ℕ} → Held c → Counted c 4 128
texts-counted {c} h = record { most = omega (arith, text_count c h.program h.holds, h.holds.tabular.texts_most) }

pub numbers-counted : {c : List ℕ} → Held c → Counted c 5 128
numbers-counted {c} h = record { most = omega (arith, number_count c h.program h.holds, h.holds.tabular.numbers_most) }

-- ---- characters in front of a buffer

module _ {s : List ℕ} {q : Quoted} {c : List ℕ} (u : TextNamed s q c) where
  pub named-fits : {d : List ℕ} → length d ≡ 60 → FitsText s (text_from q) (text_to q) d
  named-fits l = record { between = u.names.between; room = omega (arith, ap length u.names.is, u.short, l) }

pub named-told : {s : List ℕ} {q : Quoted} {d o : List ℕ} {n : ℕ} → Put d 0 (text_in s (text_from q) (text_to q)) n o → {c : List ℕ} {k : ℕ} → Tells c (text_cell (take n o)) 384 k → TextTold s q c k
named-told h t w i = rw i.is at (rw (put_front h) at t)

-- ---- by the kind of a value

module _ {s : List ℕ} {x : ReadArgument} {c : List ℕ} (u : CellAsked s x c) where
  -- what is asked of the value, where it is known
  pub text-asked : {q : Quoted} → x ≡ Text q → TextNamed s q c
  text-asked e = record { chars = u.drafts.chars; names = subst (Spells s u.drafts.chars) e u.drafts.spelt; short = u.drafts.short; held = u.held }

-- and of any argument that it stands for
meant : {s : List ℕ} {x y : ReadArgument} → x ≡ y → (a : Arg) (d : Drafts s x a) → Drafted d.chars y a
meant e a d = subst (λ z. Drafted d.chars z a) e d.drafted

module _ {s : List ℕ} {x : ReadArgument} {c : List ℕ} where
  pub nothing-cell : x ≡ Nothing → CellOf s x c 0
  nothing-cell e a d = record { is = λ p g. sym (ap (arg_cell p) (meant e a d)); most = omega arith }

  pub text-cell : {q : Quoted} {k r : ℕ} → x ≡ Text q → TextTold s q c k → r ≡ 5 + 8 * k → CellOf s x c r
  text-cell e t i a d =
      let h = t d.chars (subst (Spells s d.chars) e d.spelt) in
      record { is = λ p g. i ∙ ap (λ (j : ℕ). 5 + 8 * j) (h.is p g) ∙ sym (ap (arg_cell p) (meant e a d)); most = omega (arith, i, h.most) }
