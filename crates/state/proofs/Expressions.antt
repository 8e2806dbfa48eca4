-- The state at work after an expression is changed.
use mathlib.Core.Path.{◌≡◌, refl, sym, ap, ◌∙◌}
use mathlib.Core.Bool.{Bool, true, false}
use mathlib.Core.List.{List, [], ◌++◌}
use Prim.Native.Nat.{ℕ, ◌+◌, ◌-◌, ◌≤◌, ◌<◌}
use native.Mathlib.Omega.{arith}
use lib.ListN.{length, get_or, take, drop, set, length-set, length-append, length-drop}
use Rattle.store.specs.Below.Lists.{total}
use Rattle.store.specs.Below.ListLaws.{total-append, total-split, total-at}
use Rattle.store.specs.Below.Limits as limit
use Rattle.store.specs.Below.Letters.Letter.{E}
use Rattle.store.specs.Below.LanguageValues.{Component, Store, State, chars}
use Rattle.store.specs.Below.MachineArguments.{expr}
use Rattle.store.specs.Below.Changes.{put_expr, into, placed, past, past_by, held}
use Rattle.store.proofs.Below.SumLaws.{held-put_expr}
use Rattle.store.specs.Below.LayoutBounds.{Each, Ok, Fine}
use Rattle.store.proofs.Below.LayoutCellLaws.{each_append, each-drop}
use Rattle.store.proofs.Below.ComponentLaws.{components_bytes-append}
use Rattle.store.specs.Below.Components.{components_bytes, components_in}
use Rattle.store.specs.Below.LayoutMemory.{components_held, chars_held, scalars, strings}
use Rattle.store.proofs.Below.MemoryLaws.{expr-encoded}
use Rattle.store.specs.Below.LayoutPlaces as layout
use Rattle.store.specs.Below.Gaps.{pushed_front, pushed_back}
use Rattle.store.specs.Below.Pool.{string}
use Rattle.store.specs.Store.{dropped_front}
use Rattle.strings.specs.Strings.{Droppable, Pushable}
use Rattle.state.specs.Working.{Lies, on_store, nth, reading, writing, char_count}
use Rattle.state.specs.Blocks.{totalled, Lowerable, Raisable, pushed, PartsDroppable, PartsWritable}
use Rattle.state.proofs.Standing.{number_is, string-is, pushable}
use Rattle.state.proofs.Strings.{strings-expr}
use Rattle.state.proofs.Totals.{scalars-exprs}
use Rattle.state.proofs.Fineness.{fine-exprs}
use Rattle.state.proofs.Sequences.{total-ones, each_set, rest-bytes, bytes-within}

-- expression i becomes xs, and the totals c and d
module _ (s : State) (f : Fine s) (i : ℕ) (l : i < limit.expressions) (xs : List Component) (c d : ℕ)
    (c_is : c + length (expr s.store (nth E i)) ≡ components_held s.store + length xs)
    (d_is : d + char_count (expr s.store (nth E i)) ≡ chars_held s.store + char_count xs) where
  abbrev changed : Store
  changed = put_expr (nth E i) xs s.store

  within : i < length s.store.exprs
  within = rw f.exprs_is l

  components_then : components_held changed ≡ c
  components_then =
      let h = held-put_expr (nth E i) s.store (λ x. 1) xs within in
      omega (arith, h, c_is, total-ones xs, total-ones (expr s.store (nth E i)))

  chars_then : chars_held changed ≡ d
  chars_then = let h = held-put_expr (nth E i) s.store (λ x. length (chars x)) xs within in omega (arith, h, d_is)

  scalars-then : scalars (on_store (put_expr (nth E i) xs) s) ≡ totalled c d (scalars s)
  unfolding on_store put_expr
  scalars-then = scalars-exprs s (set s.store.exprs i xs) components_then chars_then

  pub strings-then : strings (on_store (put_expr (nth E i) xs) s) ≡ set (strings s) i (components_bytes xs)
  unfolding on_store put_expr
  strings-then = strings-expr s f.exprs_is f.files_is i xs l

  pub fine-then : Each Ok xs → c ≤ limit.components → d ≤ limit.characters → Fine (on_store (put_expr (nth E i) xs) s)
  unfolding on_store put_expr
  fine-then k hc hd =
      fine-exprs s f (set s.store.exprs i xs) (length-set s.store.exprs i xs ∙ f.exprs_is)
      (each_set (Each Ok) s.store.exprs i xs f.exprs_ok k) (rw components_then hc) (rw chars_then hd)

  pub holds-expr : {t t' : List (List ℕ)} {n n' : List ℕ} → Lies t n s → Each Ok xs → c ≤ limit.components → d ≤ limit.characters
      → t' ≡ set (strings s) i (components_bytes xs) → n' ≡ totalled c d n → Lies t' n' (on_store (put_expr (nth E i) xs) s)
  holds-expr {t' = t'} h k hc hd g q =
      record {
        strings_is = rw strings-then g;
        numbers = q ∙ ap (totalled c d) h.numbers ∙ sym scalars-then;
        fine = fine-then k hc hd;
      }

-- what an expression counts is part of the totals
pub held-expr : (g : Component → ℕ) (s : Store) (i : ℕ) → total g (expr s (nth E i)) ≤ held g s
unfolding held
held-expr g s i = omega (arith, total-at (total g) [] refl s.exprs i)

module _ {t : List (List ℕ)} {n : List ℕ} {s : State} (h : Lies t n s) {i k b c : ℕ} (pre : PartsDroppable s i k b c) where
  abbrev old : List Component
  old = expr s.store (nth E i)

  counts : char_count (take k old) + char_count (drop k old) ≡ char_count old
  counts = total-split (λ x. length (chars x)) k old

  pub parts-lowerable : Lowerable n k c
  parts-lowerable =
      record {
        components = omega (arith, number_is h 5, held-expr (λ x. 1) s.store i, total-ones old, pre.first.most);
        characters = omega (arith, number_is h 6, held-expr (λ x. length (chars x)) s.store i, counts, pre.first.chars_is);
      }

  parts_within : b ≤ length (string i t)
  parts_within = rw (string-is h i, (expr-encoded s h.fine i pre.index).is) (bytes-within components_bytes components_bytes-append old k pre.first.bytes_is)

  pub parts-droppable : Droppable t i b
  parts-droppable = record { index = omega (arith, pre.index); within = parts_within }

  strings-less : dropped_front i b t ≡ set (strings s) i (components_bytes (drop k old))
  unfolding dropped_front
  strings-less =
      rw (h.strings_is, (expr-encoded s h.fine i pre.index).is, rest-bytes components_bytes components_bytes-append old k pre.first.bytes_is)

  pub parts-dropped : {t' : List (List ℕ)} {n' : List ℕ} → t' ≡ dropped_front i b t → n' ≡ totalled (get_or n layout.components_scalar 0 - k) (get_or n layout.characters_scalar 0 - c) n
      → Lies t' n' (on_store (past (nth (reading true) i) k) s)
  unfolding past past_by put_expr on_store
  parts-dropped g q =
      let l = parts-lowerable in
      holds-expr s h.fine i pre.index (drop k old) (get_or n layout.components_scalar 0 - k) (get_or n layout.characters_scalar 0 - c)
      (omega (arith, number_is h 5, l.components, length-drop k old, pre.first.most))
      (omega (arith, number_is h 6, l.characters, counts, pre.first.chars_is))
      h (each-drop Ok k old (expr-encoded s h.fine i pre.index).all_ok)
      (omega (arith, number_is h 5, h.fine.components_most)) (omega (arith, number_is h 6, h.fine.chars_most))
      (rw strings-less at g) q

-- components at the end or in front
abbrev added : Bool → List Component → List Component → List Component
added true xs old = old ++ xs
added false xs old = xs ++ old

added-length : (b : Bool) (xs ys : List Component) → length (added b xs ys) ≡ length ys + length xs
added-length true xs ys = length-append ys xs
added-length false xs ys = simp length-append (omega arith)

added-chars : (b : Bool) (xs ys : List Component) → char_count (added b xs ys) ≡ char_count ys + char_count xs
added-chars true xs ys = total-append (λ x. length (chars x)) ys xs
added-chars false xs ys = omega (arith, total-append (λ x. length (chars x)) xs ys)

added-ok : (b : Bool) (xs ys : List Component) → Each Ok xs → Each Ok ys → Each Ok (added b xs ys)
added-ok true xs ys h k = each_append Ok ys xs k h
added-ok false xs ys h k = each_append Ok xs ys h k

added-bytes : (b : Bool) (xs : List Component) (i : ℕ) (s : List (List ℕ)) (ys : List Component) → string i s ≡ components_bytes ys
    → pushed b i (components_bytes xs) s ≡ set s i (components_bytes (added b xs ys))
unfolding pushed pushed_front pushed_back
added-bytes true xs i s ys q = rw (q, components_bytes-append ys xs)
added-bytes false xs i s ys q = rw (q, components_bytes-append xs ys)

added-long : (b : Bool) (xs ys : List Component) → length (components_bytes (added b xs ys)) ≡ length (components_bytes xs) + length (components_bytes ys)
added-long true xs ys = rw (components_bytes-append ys xs, length-append (components_bytes ys) (components_bytes xs)) (omega arith)
added-long false xs ys = rw (components_bytes-append xs ys, length-append (components_bytes xs) (components_bytes ys))

added-into : (b : Bool) (i : ℕ) (xs : List Component) (s : Store)
    → into (nth (writing b) i) xs s ≡ put_expr (nth E i) (added b xs (expr s (nth E i))) s
unfolding into placed put_expr
added-into true i xs s = refl
added-into false i xs s = refl

module _ {t : List (List ℕ)} {n : List ℕ} {s : State} (h : Lies t n s) {i : ℕ} {new : List ℕ} {k c : ℕ} (pre : PartsWritable s i new k c) (b : Bool) where
  abbrev xs : List Component
  xs = components_in new

  abbrev ys : List Component
  ys = expr s.store (nth E i)

  parts_more : components_held s.store + k + length ys ≡ components_held s.store + length (added b xs ys)
  parts_more = omega (arith, added-length b xs ys, pre.count)

  chars-more : chars_held s.store + c + char_count ys ≡ chars_held s.store + char_count (added b xs ys)
  chars-more = omega (arith, added-chars b xs ys, pre.chars_is)

  all_ok : Each Ok (added b xs ys)
  all_ok = added-ok b xs ys pre.whole.all_ok (expr-encoded s h.fine i pre.index).all_ok

  pub parts-raisable : Raisable n k c
  parts-raisable =
      record {
        components = omega (arith, number_is h 5, pre.components_room);
        characters = omega (arith, number_is h 6, pre.chars_room);
      }

  strings-more : pushed b i new t ≡ set (strings s) i (components_bytes (added b xs ys))
  strings-more =
      ap (λ (l : List ℕ). pushed b i l t) pre.whole.is
      ∙ rw h.strings_is (added-bytes b xs i (strings s) ys (expr-encoded s h.fine i pre.index).is)

  pub parts-pushable : Pushable t i (length new)
  parts-pushable =
      let l : List ℕ = components_bytes (added b xs ys) in
      let c' = components_held s.store + k in
      let d' = chars_held s.store + c in
      pushable h (on_store (put_expr (nth E i) (added b xs ys)) s)
      (fine-then s h.fine i pre.index (added b xs ys) c' d' parts_more chars-more all_ok pre.components_room pre.chars_room)
      i l (strings-then s h.fine i pre.index (added b xs ys) c' d' parts_more chars-more) (omega (arith, pre.index))
      (omega (arith, added-long b xs ys, ap length pre.whole.is, ap length (expr-encoded s h.fine i pre.index).is))

  pub parts-written : {t' : List (List ℕ)} {n' : List ℕ} → t' ≡ pushed b i new t → n' ≡ totalled (get_or n layout.components_scalar 0 + k) (get_or n layout.characters_scalar 0 + c) n
      → Lies t' n' (on_store (into (nth (writing b) i) (components_in new)) s)
  unfolding on_store
  parts-written {n' = n'} g q =
      let q' : n' ≡ totalled (components_held s.store + k) (chars_held s.store + c) n = q ∙ rw (number_is h 5, number_is h 6) in
      rw (added-into b i xs s.store)
      (holds-expr s h.fine i pre.index (added b xs ys) (components_held s.store + k) (chars_held s.store + c) parts_more chars-more
      h all_ok pre.components_room pre.chars_room (rw strings-more at g) q')
