-- POBIERZ: the components of the record after the pointer.
use mathlib.Core.Path.{◌≡◌, refl, sym, ap, ◌∙◌, subst}
use mathlib.Core.Bool.{Bool, true, false, cond, ◌&&◌}
use mathlib.Core.List.{List, [], ◌∷◌}
use Prim.Native.Nat.{ℕ, min, ◌+◌, ◌≤◌, ◌<◌}
use native.Mathlib.Omega.{arith}
use lib.Dec.{leb}
use lib.ListN.{length, take, drop}
use borrow.Author.Tests.{le-leb, leb-true}
use Rattle.std.proofs.lemmas.Bool.{and_parts}
use Rattle.cells.specs.Cells.{pasted}
use Rattle.cells.proofs.Laws.{pasted-front}
use Rattle.lists.specs.Lists.{total, if_any}
use Rattle.language.specs.Limits as limit
use Rattle.language.specs.Letters.Letter.{P}
use Rattle.language.specs.Program.{Arg, Program}
use Rattle.language.specs.Program.Arg.{nothing}
use Rattle.language.specs.Program.Op.{POBIERZ}
use Rattle.language.specs.Values.{Component, Record, Store, State, Inputs, chars}
use Rattle.machine.specs.Arguments.{file_of, none, everything}
use Rattle.machine.specs.Changes.{with_plus, minus, minus_unless, into, past, fits}
use Rattle.machine.specs.Effects.{Row, moved, row}
use Rattle.machine.specs.Effects.Go.{on}
use Rattle.layout.specs.Bounds.{Ok, Encoded}
use Rattle.layout.specs.Cells.{two_at}
use Rattle.layout.proofs.ComponentLaws.{next-record, records-none, record-length, records_bytes-one, components-of, whole-components}
use Rattle.layout.specs.Components.{components_bytes, components_in, record_in, records_in}
use Rattle.layout.specs.Memory.{components_held, chars_held}
use Rattle.matching.specs.Tests.{Took}
use Rattle.matching.specs.declared.Taken.{Taken}
use Rattle.records.specs.Places.{Part}
use Rattle.records.proofs.Walking.{all-taken}
use Rattle.state.specs.Blocks.{PartsWritable}
use Rattle.state.specs.Limited.{Limited}
use Rattle.state.specs.Working.{HoldsState, Stands, on_store, nth, filing, writing, turned, char_count}
use Rattle.state.proofs.Fits.{fine-limited, fits-into-ok}
use Rattle.state.proofs.Freed.{limited-past, removed-or-left}
use Rattle.state.proofs.Sequences.{total-ones, turned-length, turned-total, each-turned, bytes-turned}
use Rattle.filing.specs.Files.{RecordsLent, FirstRecords}
use Rattle.filing.proofs.Removed.{components-past, chars-past}
use Rattle.instructions.specs.Does.{DoesFor}
use Rattle.instructions.specs.Operands.{target}
use Rattle.instructions.proofs.Answers.{one-after}
use Rattle.instructions.proofs.Storing.{plain_done, plain-full}
use Rattle.instructions.proofs.Written.{into-target}
use Rattle.transfers.proofs.Inserting.{plus-same}

-- ---- the first record

abbrev first_of : List Record → Store → Arg → Arg → Store
first_of rs s a b = if_any (minus s) (λ r. minus_unless (leb 1 (length rs)) (into b r.parts (past a (min 1 (length rs)) s))) rs

first_is : (rs : List Record) (r : Record) (ts : List Record) → rs ≡ r ∷ ts → (s : Store) (a b : Arg) → first_of rs s a b ≡ into b r.parts (past a 1 s)
first_is rs r ts q s a b =
    let l : 1 ≤ length rs = rw q (omega arith) in
    let m : min 1 (length rs) ≡ 1 = omega (arith, l) in
    rw (le-leb 1 (length rs) l, m) (rw q (plus-same (into b r.parts (past a 1 s))))

module _ {σ : State} (h : Stands σ) (removes : Bool) {i : ℕ} (a : i < limit.files) {f : List ℕ} (l : RecordsLent (file_of σ.store (nth P i)).after f)
    (reverses at_end : Bool) {j : ℕ} (d : j < limit.expressions) where
  abbrev s : Store
  s = σ.store

  abbrev rs : List Record
  rs = (file_of s (nth P i)).after

  abbrev by : Program → Inputs → Row
  by g ins = row g ins s (nth (filing removes) i) (nth (target reverses at_end) j) nothing POBIERZ

  row-none : (r : Bool) (g : Program) (ins : Inputs) → rs ≡ [] → row g ins s (nth (filing r) i) (nth (target reverses at_end) j) nothing POBIERZ ≡ (none, minus s, on)
  unfolding row
  row-none true g ins q = rw q refl
  row-none false g ins q = rw q refl

  pub pobierz-none : length f ≡ 0 → {σ' : State} → HoldsState σ' (on_store (with_plus false) σ) → DoesFor σ 0 σ' by
  unfolding minus
  pobierz-none z k g ins = rw (row-none removes g ins (sym l.is ∙ records-none f z)) (plain_done (with_plus false) k)

  module _ (z : length f ≡ 0 → ⊥) where
    abbrev r : Record
    r = record_in f

    abbrev ts : List Record
    ts = records_in (drop (7 + two_at 3 f) f)

    rs-is : rs ≡ r ∷ ts
    rs-is = sym l.is ∙ (next-record l.whole (omega (arith, z))).is

    abbrev then : Store → Store
    then u = past (nth (filing removes) i) 1 u

    abbrev fetched : Store → Store
    fetched u = into (nth (writing at_end) j) (turned reverses r.parts) (then u)

    row_by : (c : Bool) (g : Program) (ins : Inputs)
        → row g ins s (nth (filing c) i) (nth (target reverses at_end) j) nothing POBIERZ
        ≡ (none, first_of rs s (nth (filing c) i) (nth (target reverses at_end) j), on)
    unfolding row moved
    row_by true g ins = refl
    row_by false g ins = refl

    row_is : (g : Program) (ins : Inputs) → by g ins ≡ (none, fetched s, on)
    row_is g ins =
        row_by removes g ins
        ∙ ap (λ (t : Store). (none, t, on))
        (first_is rs r ts rs-is s (nth (filing removes) i) (nth (target reverses at_end) j) ∙ into-target reverses at_end j r.parts (then s))

    module _ {x : List ℕ} (y : Part f r.parts x) {t : Taken} (k : Took everything (components_in x) t) where
      parts_is : t.amount.parts ≡ total (λ c. 1) r.parts
      parts_is = (all-taken y k).parts_is

      chars_is : t.amount.chars ≡ char_count r.parts
      chars_is = (all-taken y k).chars_is

      pub parts_most : t.amount.parts ≤ 65536
      parts_most = omega (arith, (all-taken y k).parts_most, (all-taken y k).bytes_most, l.most)

      pub chars_most : t.amount.chars ≤ 65536
      chars_most = omega (arith, (all-taken y k).chars_most, (all-taken y k).bytes_most, l.most)

      pub first : FirstRecords rs 1 (length x + 7) t.amount.parts t.amount.chars
      first =
          rw rs-is
          (record {
            most = omega arith;
            bytes_is = rw (records_bytes-one r, record-length r) (omega (arith, ap length y.cells.is));
            parts_is = omega (arith, parts_is);
            chars_is = omega (arith, chars_is);
          })

      within : i < length s.files
      within = rw h.fine.files_is a

      limited : Limited (then s)
      limited = limited-past s (fine-limited σ h.fine) (nth (filing removes) i) 1

      abbrev ys : List Component
      ys = turned reverses r.parts

      count_is : t.amount.parts ≡ length ys
      count_is = parts_is ∙ total-ones r.parts ∙ sym (turned-length reverses r.parts)

      chars-are : t.amount.chars ≡ char_count ys
      chars-are = chars_is ∙ sym (turned-total (λ c. length (chars c)) reverses r.parts)

      components_then : components_held (then s) + t.amount.parts ≡ components_held s + cond removes 0 t.amount.parts
      components_then = omega (arith, components-past s i 1 within first removes, removed-or-left removes t.amount.parts)

      chars_then : chars_held (then s) + t.amount.chars ≡ chars_held s + cond removes 0 t.amount.chars
      chars_then = omega (arith, chars-past s i 1 within first removes, removed-or-left removes t.amount.chars)

      module _ {c m : ℕ} (u : c ≡ cond removes 0 t.amount.parts) (v : m ≡ cond removes 0 t.amount.chars) where
        abbrev roomy : Bool
        roomy = leb (components_held s + c) limit.components && leb (chars_held s + m) limit.characters

        fits-fetched : fits (fetched s) ≡ roomy
        fits-fetched =
            fits-into-ok (nth (writing at_end) j) (then s) (rw limited.exprs_is d) ys limited (each-turned Ok reverses r.parts y.cells.all_ok)
            ∙ rw (← count_is, ← chars-are, components_then, chars_then, u, v) refl

        pub pobierz-full : {b : Bool} → b ≡ roomy → b ≡ false → DoesFor σ 59 σ by
        pobierz-full q o g ins = rw (row_is g ins) (plain-full h (fetched s) (fits-fetched ∙ sym q ∙ o))

        module _ {b : Bool} (q : b ≡ roomy) (o : b ≡ true) (old : List ℕ) {new : List ℕ} (w : new ≡ pasted old 0 (components_bytes (turned reverses (components_in x)))) where
          new-encoded : Encoded (take (length x) new) ys
          new-encoded =
              record {
                is = rw (w, components-of y.cells) (pasted-front old (components_bytes ys) (length x) (bytes-turned reverses r.parts ∙ sym (ap length y.cells.is)));
                all_ok = each-turned Ok reverses r.parts y.cells.all_ok;
              }

          module _ {σ' : State} (g : HoldsState σ' (on_store then σ)) where
            pub pobierz-writable : PartsWritable σ' j (take (length x) new) t.amount.parts t.amount.chars
            unfolding on_store
            pobierz-writable =
                let st = g.is in
                let i = components-of new-encoded in
                let room = and_parts (leb (components_held s + c) limit.components) (leb (chars_held s + m) limit.characters) (sym q ∙ o) in
                record {
                  index = d;
                  whole = whole-components new-encoded;
                  count = rw i count_is;
                  chars_is = rw i chars-are;
                  components_room = rw st (omega (arith, components_then, u, leb-true (components_held s + c) limit.components room.0));
                  chars_room = rw st (omega (arith, chars_then, v, leb-true (chars_held s + m) limit.characters room.1));
                }

            pub pobierz-done : {σ'' : State} → HoldsState σ'' (on_store (into (nth (writing at_end) j) (components_in (take (length x) new))) σ')
                → DoesFor σ 0 σ'' by
            pobierz-done {σ'' = σ''} k' g' ins =
                rw (row_is g' ins)
                (plain_done fetched
                (one-after σ then (into (nth (writing at_end) j) ys) g
                (subst (λ (zs : List Component). HoldsState σ'' (on_store (into (nth (writing at_end) j) zs) σ')) (components-of new-encoded) k')))
