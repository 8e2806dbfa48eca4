-- `Working::read_past` meets its contract.
use mathlib.Core.Path.{◌≡◌, refl, sym, ap, ◌∙◌}
use mathlib.Core.Bool.{cond}
use Prim.Native.Nat.{ℕ, ◌+◌, ◌<◌}
use native.Mathlib.Omega.{arith}
use lib.ListN.{length, drop, get_or, set}
use Rattle.state.specs.declared.Scalars.{Scalars}
use Rattle.state.specs.Working.{row_of}
use Rattle.state.proofs.Standing.{held, stands, becomes, place_of}
use Rattle.state.proofs.Beside.{place_set, place-then, read_past}
use Rattle.state.proofs.Working.read_past.Goals as goal

there : (m : Scalars) (i : ℕ) → i < 2 → get_or (row_of m) (1 + i) 0 ≡ get_or m.places i 0
there m i b = place_of (row_of m) (cond m.plus 1 0) m.places (drop 3 (row_of m)) refl i b

moved : (m : Scalars) (i k : ℕ) → i < 2 → length m.places ≡ 2
    → row_of (record { plus = m.plus; places = set m.places i (get_or m.places i 0 + k); next = m.next; last = m.last; components = m.components; characters = m.characters; records = m.records })
    ≡ set (row_of m) (1 + i) (get_or (row_of m) (1 + i) 0 + k)
moved m i k b l =
    place_set m.places l i b (get_or m.places i 0 + k) (cond m.plus 1 0) (drop 3 (row_of m))
    ∙ ap (λ (v : ℕ). set (row_of m) (1 + i) (v + k)) (sym (there m i b))

pub overflow_add-self : goal.overflow_add-self
overflow_add-self c =
    omega (arith, there c.self.inside.scalars c.args.i c.requires.index, place-then (held c.self.invariant c.self.view_is) c.requires)

pub invariant_of-self : goal.invariant_of-self
invariant_of-self c = stands (read_past (held c.self.invariant c.self.view_is) c.requires (moved c.self.inside.scalars c.args.i c.args.k c.requires.index (search)))

pub returns : goal.returns
returns c = becomes (read_past (held c.self.invariant c.self.view_is) c.requires (moved c.self.inside.scalars c.args.i c.args.k c.requires.index (search)))
