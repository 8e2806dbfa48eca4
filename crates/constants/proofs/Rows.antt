-- Constants as components, and the row of UMIESC.
use mathlib.Core.Path.{◌≡◌, refl, sym, ap, ◌∙◌, subst}
use mathlib.Core.Bool.{Bool, true, false, ◌&&◌}
use mathlib.Core.List.{List, [], ◌∷◌}
use Prim.Native.Nat.{ℕ, ◌+◌, ◌-◌, ◌≤◌, ◌<◌}
use native.Mathlib.Omega.{arith}
use lib.Seq.{length-take-le}
use lib.Dec.{leb}
use lib.IntN.{nat_abs}
use lib.ListN.{length, take}
use borrow.Author.Tests.{lt-leb, leb-false}
use Rattle.cells.specs.Cells.{pasted}
use Rattle.language.specs.Limits as limit
use Rattle.language.specs.Letters.Letter.{Q}
use Rattle.language.specs.Program.{Arg, Program}
use Rattle.language.specs.Program.Arg.{nothing, text}
use Rattle.language.specs.Program.Op.{UMIESC}
use Rattle.language.specs.Values.{Component, Store, State, Inputs}
use Rattle.language.specs.Values.Component.{word}
use Rattle.machine.specs.Arguments.{at, none}
use Rattle.machine.specs.Changes.{minus_unless, into, printed, stamped, stored}
use Rattle.machine.specs.Effects.{Row, set_to, row}
use Rattle.machine.specs.Effects.Go.{on}
use Rattle.layout.specs.Bounds.{EncodedRecords}
use Rattle.layout.specs.Cells.{uncode}
use Rattle.layout.proofs.ComponentLaws.{components-of, whole-components, components_bytes-one}
use Rattle.layout.specs.Components.{component_bytes, components_bytes, record_bytes, components_in}
use Rattle.layout.specs.Memory.{components_held, chars_held}
use Rattle.packed.specs.Packed.{Copied}
use Rattle.records.specs.Places.{Recordable}
use Rattle.records.proofs.Stamps.{record_of}
use Rattle.state.specs.Blocks.{PartsWritable, OutputLong}
use Rattle.state.specs.Working.{HoldsState, Stands, on_store, nth, filing, writing, turned, char_count}
use Rattle.state.proofs.Fits.{fine-limited, fits-printed}
use Rattle.filing.specs.Files.{bodies, RecordsWritable}
use Rattle.table.specs.Denote.{arg_of}
use Rattle.table.specs.declared.Argument.{Argument}
use Rattle.instructions.specs.Does.{DoesFor}
use Rattle.instructions.specs.Operands.{target}
use Rattle.instructions.proofs.Storing.{quiet_none, plain_done, plain-full}
use Rattle.instructions.proofs.Written.{into_one, fits-written, writable}
use Rattle.tests.specs.Prepares.{Beside}
use Rattle.tests.proofs.Values.{copied_is}
use Rattle.components.proofs.FirstLaws.{copied-front}
use Rattle.transfers.specs.Places.{room_of, Roomy, Lot}
use Rattle.transfers.proofs.Inserting.{one-encoded, plus-same}
use Rattle.transfers.proofs.Rooms.{room-stop, has_room, lot-fits, lot-last, lot-writable, lot-stored}
use Rattle.constants.specs.Constants.{Put}
use Rattle.components.specs.declared.Amount.{Amount}

-- ---- constants

word-long : (v : List ℕ) → length (component_bytes (word v)) ≡ 1 + length v
unfolding component_bytes
word-long v = omega arith

pub text-long : {v g : List ℕ} {n : ℕ} → Beside (word v ∷ []) g n → n ≡ 1 + length v
text-long {v} {g} {n} h = sym (length-take-le n g h.inside) ∙ ap length h.encoded.is ∙ ap length (components_bytes-one (word v)) ∙ word-long v

pub text_put : {v g : List ℕ} {n : ℕ} → Beside (word v ∷ []) g n → length v ≤ 60 → Put (text v) g (record { parts = 1; bytes = n; chars = n - 1 })
text_put {v} h l =
    record {
      part = word v;
      single = refl;
      is = λ ins s. refl;
      encoded = h.encoded;
      inside = h.inside;
      chars_is = omega (arith, text-long h);
      bytes_most = omega (arith, text-long h, l);
      chars_most = omega (arith, text-long h, l);
    }

code_by : (b : Bool) (v : ℕ) → leb 8388607 v ≡ b → v ≤ 16777214 → nat_abs (uncode v) ≤ limit.size
unfolding uncode
code_by true v q h = rw q (omega (arith, h))
code_by false v q h = rw q (omega (arith, leb-false 8388607 v q))

code_ok : (v : ℕ) → v ≤ 16777214 → nat_abs (uncode v) ≤ limit.size
code_ok v h = code_by (leb 8388607 v) v refl h

pub number_put : (v : ℕ) → v ≤ 16777214 → (d : List ℕ) {d' : List ℕ} → d' ≡ pasted d 0 (component_bytes (Component.number (uncode v)))
    → 5 ≤ length d' → Put (Arg.number (uncode v)) d' (record { parts = 1; bytes = 5; chars = 0 })
unfolding component_bytes
number_put v h d q l =
    let x : Component = Component.number (uncode v) in
    record {
      part = x;
      single = refl;
      is = λ ins s. refl;
      encoded = copied-front d 5 q refl (record { is = sym (components_bytes-one x); all_ok = (code_ok v h, tt) });
      inside = l;
      chars_is = refl;
      bytes_most = omega arith;
      chars_most = omega arith;
    }

pub as-put : (t : List ℕ) {o : List ℕ} {r : Amount} {a b : Argument} → a ≡ b → Put (arg_of t b) o r → Put (arg_of t a) o r
as-put t {o} {r} e w = subst (λ (x : Argument). Put (arg_of t x) o r) (sym e) w

-- ---- to an expression and to a file

module _ {σ : State} (h : Stands σ) {a : Arg} {o : List ℕ} {parts bytes size : ℕ} (w : Put a o (record { parts = parts; bytes = bytes; chars = size })) where
  abbrev s : Store
  s = σ.store

  abbrev x : Component
  x = w.part

  size_is : size ≡ char_count (x ∷ [])
  size_is = omega (arith, w.chars_is)

  module _ (at_end : Bool) {j : ℕ} (d : j < limit.expressions) where
    abbrev placed : Program → Inputs → Bool → Row
    placed g ins reverses = row g ins s a (nth (target reverses at_end) j) nothing UMIESC

    abbrev put : Store → Store
    put t = into (nth (writing at_end) j) (x ∷ []) t

    row_by : (g : Program) (ins : Inputs) (reverses end : Bool)
        → row g ins s a (nth (target reverses end) j) nothing UMIESC ≡ (none, into (nth (target reverses end) j) (x ∷ []) s, on)
    unfolding row set_to
    row_by g ins true true = rw (w.is ins s) refl
    row_by g ins true false = rw (w.is ins s) refl
    row_by g ins false true = rw (w.is ins s) refl
    row_by g ins false false = rw (w.is ins s) refl

    row_is : (g : Program) (ins : Inputs) (reverses : Bool) → placed g ins reverses ≡ (none, put s, on)
    row_is g ins reverses = row_by g ins reverses at_end ∙ ap (λ (t : Store). (none, t, on)) (into_one reverses at_end j x s)

    module _ {b : Bool} (q : b ≡ (leb (components_held s + parts) limit.components && leb (chars_held s + size) limit.characters)) where
      pub expr-full : b ≡ false → (reverses : Bool) → DoesFor σ 59 σ (λ g ins. placed g ins reverses)
      expr-full z reverses g ins = rw (row_is g ins reverses) (plain-full h (put s) (fits-written h w.encoded d refl size_is at_end ∙ sym (rw w.single at q) ∙ z))

      pub expr-writable : b ≡ true → PartsWritable σ j (take bytes o) parts size
      expr-writable z = rw w.single (writable h w.encoded d refl size_is (sym (rw w.single at q) ∙ z))

    pub expr-done : {σ' : State} → HoldsState σ' (on_store (into (nth (writing at_end) j) (components_in (take bytes o))) σ)
        → (reverses : Bool) → DoesFor σ 0 σ' (λ g ins. placed g ins reverses)
    expr-done {σ'} k reverses g ins =
        rw (row_is g ins reverses)
        (plain_done put (subst (λ (xs : List Component). HoldsState σ' (on_store (into (nth (writing at_end) j) xs) σ)) (components-of w.encoded) k))

  module _ (b : Bool) {j : ℕ} (d : j < limit.files) where
    abbrev filed : Program → Inputs → Row
    filed g ins = row g ins s a (nth (filing b) j) nothing UMIESC

    abbrev kept : Store → Store
    kept t = stored (nth (filing b) j) ((x ∷ []) ∷ []) t

    file-by : (g : Program) (ins : Inputs) (c : Bool) → row g ins s a (nth (filing c) j) nothing UMIESC ≡ (none, stored (nth (filing c) j) ((x ∷ []) ∷ []) s, on)
    unfolding row set_to
    file-by g ins true = rw (w.is ins s) refl
    file-by g ins false = rw (w.is ins s) refl

    lot : Lot s s ((x ∷ []) ∷ []) 1 1 size 1 1 size
    lot =
        record {
          count = refl;
          parts_is = refl;
          chars_is = omega (arith, w.chars_is);
          all_ok = (w.encoded.all_ok, tt);
          limited = fine-limited σ h.fine;
          components_then = refl;
          chars_then = refl;
          records_then = refl;
          last_is = refl;
        }

    pub file-stop : {r : ℕ} → r ≡ room_of s 1 parts size 1 → (r ≡ 0 → ⊥) → DoesFor σ r σ filed
    file-stop v z g ins =
        rw (file-by g ins b, ← plus-same (kept s))
        (room-stop h none quiet_none refl (minus_unless true (kept s)) 1 1 size 1 (lot-fits lot b d true) (lot-last lot b d true) (rw w.single at v) z)

    module _ (v : 0 ≡ room_of s 1 parts size 1) where
      roomy : Roomy s 1 1 size 1
      roomy = has_room s 1 1 size 1 (rw w.single at v)

      part-long : bytes ≡ length (take bytes o)
      part-long = sym (length-take-le bytes o w.inside)

      pub file-recordable : {m : ℕ} → m ≡ s.last → {out : List ℕ} → length out ≡ 32768 → Recordable out (m + 1) (take bytes o)
      file-recordable q ro =
          record {
            room = omega (arith, part-long, w.bytes_most, ro);
            small = omega (arith, part-long, w.bytes_most);
            given = omega (arith, q, roomy.addresses);
            whole = whole-components w.encoded;
          }

      module _ {m : ℕ} (q : m ≡ s.last) (out : List ℕ) {new : List ℕ}
          (e : new ≡ pasted out 0 (record_bytes (record_of (m + 1) (components_in (take bytes o))))) where
        long : bytes ≡ length (components_bytes (x ∷ []))
        long = part-long ∙ ap length w.encoded.is

        new-record : EncodedRecords (take (bytes + 7) new) (turned b (stamped s.last ((x ∷ []) ∷ [])))
        new-record =
            one-encoded b s.last (x ∷ []) w.encoded.all_ok (omega (arith, long, w.bytes_most)) roomy.addresses out
            (rw (← q, ← components-of w.encoded) e) long

        same_store : HoldsState σ (on_store (λ (t : Store). t) σ)
        unfolding on_store
        same_store = h

        pub file-writable : RecordsWritable σ j b (take (bytes + 7) new) 1 parts size
        file-writable = rw w.single (lot-writable lot b d σ (λ t. t) refl same_store new-record roomy)

        pub file-done : {σ' : State} → HoldsState σ' (on_store (stored (nth (filing b) j) (bodies b (take (bytes + 7) new))) σ)
            → DoesFor σ 0 σ' filed
        file-done f g ins = rw (file-by g ins b) (plain_done kept (lot-stored lot b d σ (λ t. t) refl same_store new-record f))

-- ---- to an output

module _ {σ : State} (h : Stands σ) {v o z : List ℕ} {r : ℕ} (c : Copied v o z r) {j : ℕ} (d : j < limit.outputs) {m : ℕ} (q : OutputLong σ j m) where
  abbrev store : Store
  store = σ.store

  abbrev printing : Program → Inputs → Row
  printing g ins = row g ins store (text v) (nth Q j) nothing UMIESC

  row_output : (g : Program) (ins : Inputs) → printing g ins ≡ (none, printed (nth Q j) v store, on)
  unfolding row set_to
  row_output g ins = refl

  pub output-full : limit.output < m + r → DoesFor σ 59 σ printing
  output-full l g ins =
      let k : limit.output < length (at [] store.outputs (nth Q j)) + length v = omega (arith, l, q.is, c.count) in
      rw (row_output g ins)
      (plain-full h (printed (nth Q j) v store)
      (fits-printed (nth Q j) store (rw h.fine.outputs_is d) v (fine-limited σ h.fine)
      ∙ lt-leb (length (at [] store.outputs (nth Q j)) + length v) limit.output k))

  pub output-done : {σ' : State} → HoldsState σ' (on_store (printed (nth Q j) (take r z)) σ) → DoesFor σ 0 σ' printing
  output-done {σ' = σ'} k g ins =
      rw (row_output g ins)
      (plain_done (printed (nth Q j) v) (subst (λ (w : List ℕ). HoldsState σ' (on_store (printed (nth Q j) w) σ)) (copied_is c) k))
