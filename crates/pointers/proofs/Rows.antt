-- The rows of COFNIJ, SCHOWAJ, USTAW and ZAMIEN, and that their functions do them.
use mathlib.Core.Path.{◌≡◌, refl, sym, ap, ◌∙◌, subst}
use mathlib.Core.Bool.{Bool, true, false, ◌&&◌, ◌||◌}
use mathlib.Core.List.{List, [], ◌∷◌}
use Prim.Native.Nat.{ℕ, ◌+◌, ◌<◌}
use native.Mathlib.Omega.{arith}
use lib.Dec.{leb, eqb}
use lib.ListN.{length, take, drop}
use Rattle.std.specs.Prelude.{Option, Some, is_some, IfSome, unwrap_or}
use Rattle.records.specs.Places.{LastAddress}
use Rattle.language.specs.Limits as limit
use Rattle.language.specs.Letters.Letter.{E, P}
use Rattle.language.specs.Program.{Program}
use Rattle.language.specs.Program.Arg.{nothing}
use Rattle.language.specs.Program.Op.{COFNIJ, SCHOWAJ, USTAW, ZAMIEN}
use Rattle.language.specs.Values.{Component, Record, Store, State, Inputs, chars, kind, link}
use Rattle.language.specs.Values.Component.{word, address}
use Rattle.lists.specs.Lists.{any}
use Rattle.machine.specs.Arguments.{expr, file_of, records, first, Asks, none, needs, ask, ◌&◌}
use Rattle.machine.specs.Changes.{with_exprs, put_expr, into, past_by, past, used_by, used, pointed, records_to, address_of_last}
use Rattle.machine.specs.Effects.{Row, exchanged, row}
use Rattle.machine.specs.Effects.Go.{on}
use Rattle.cells.specs.Cells.{Number, pasted}
use Rattle.cells.proofs.Laws.{pasted-front}
use Rattle.layout.specs.Bounds.{Encoded}
use Rattle.layout.proofs.ComponentLaws.{components-of, components_bytes-one}
use Rattle.layout.specs.Cells.{cell}
use Rattle.layout.specs.Components.{component_bytes, component_size, records_bytes, component_in, components_in}
use Rattle.layout.specs.Memory.{components_held, chars_held}
use Rattle.state.specs.Blocks.{PartsDroppable, PartsWritable, exprs_exchanged}
use Rattle.state.specs.Working.{HoldsState, Stands, on_store, nth, reading, writing}
use Rattle.filing.specs.Files.{RecordsLent, Pointable, pointed_at, files_exchanged}
use Rattle.filing.proofs.Pointers.{pointed-is}
use Rattle.state.proofs.Fronts as fronts
use Rattle.instructions.specs.Questions.{question_number}
use Rattle.instructions.specs.declared.Question.{Question}
use Rattle.instructions.specs.Does.{answered, Does, DoesFor, Quiet, stop_of}
use Rattle.instructions.specs.Fronts.{FrontLent}
use Rattle.instructions.proofs.Asking.{some}
use Rattle.instructions.proofs.Fronts.{there}
use Rattle.instructions.specs.Operands.{target}
use Rattle.instructions.proofs.Answers.{answer-no, does-stop, quiet-done}
use Rattle.instructions.proofs.Storing.{plain_done, plain-full}
use Rattle.instructions.proofs.Written.{into_one, fits-written, writable}
use Rattle.pointers.specs.Located.{PlaceOf, Located}
use Rattle.records.specs.declared.Place.{Place}

pub last-told : {rs : List Record} {x : List ℕ} {o : Option ℕ} {a : ℕ} → RecordsLent rs x → LastAddress x o → a ≡ unwrap_or o 0 → Number (address_of_last 0 rs) 8388608 a
last-told {a = a} l v e = subst (λ (ts : List Record). Number (address_of_last 0 ts) 8388608 a) l.is (rw e v.is)

pub front-pointable : {σ : State} {i : ℕ} → i < limit.files → Pointable σ i 0 0
unfolding records_bytes
front-pointable l = record { index = l; bytes_is = refl }

-- ---- COFNIJ and ZAMIEN

pub cofnij-done : (i : ℕ) {σ σ' : State} → HoldsState σ' (on_store (pointed_at i 0) σ)
    → DoesFor σ 0 σ' (λ g ins. row g ins σ.store (nth P i) nothing nothing COFNIJ)
unfolding row
cofnij-done i {σ} k g ins = rw (pointed-is i 0 σ.store) (plain_done (pointed_at i 0) k)

pub zamien-exprs : (i j : ℕ) {σ σ' : State} → HoldsState σ' (on_store (exprs_exchanged i j) σ)
    → DoesFor σ 0 σ' (λ g ins. row g ins σ.store (nth E i) (nth E j) nothing ZAMIEN)
unfolding row exchanged exprs_exchanged
zamien-exprs i j k g ins = plain_done (exprs_exchanged i j) k

pub zamien-files : (i j : ℕ) {σ σ' : State} → HoldsState σ' (on_store (files_exchanged i j) σ)
    → DoesFor σ 0 σ' (λ g ins. row g ins σ.store (nth P i) (nth P j) nothing ZAMIEN)
unfolding row exchanged files_exchanged
zamien-files i j k g ins = plain_done (files_exchanged i j) k

-- ---- SCHOWAJ

module _ {σ : State} (h : Stands σ) where
  abbrev s : Store
  s = σ.store

  module _ (i : ℕ) (reverses at_end : Bool) {j : ℕ} (d : j < limit.expressions) {a : ℕ} (v : Number (address_of_last 0 (file_of s (nth P i)).before) 8388608 a) where
    abbrev saved : Program → Inputs → Row
    saved g ins = row g ins s (nth P i) (nth (target reverses at_end) j) nothing SCHOWAJ

    abbrev kept : Store → Store
    kept t = into (nth (writing at_end) j) (address a ∷ []) t

    row-schowaj : (g : Program) (ins : Inputs) → saved g ins ≡ (none, kept s, on)
    unfolding row
    row-schowaj g ins = rw (← v.is) (ap (λ (t : Store). (none, t, on)) (into_one reverses at_end j (address a) s))

    address-encoded : {new : List ℕ} → new ≡ component_bytes (address a) → Encoded new (address a ∷ [])
    address-encoded q = record { is = q ∙ sym (components_bytes-one (address a)); all_ok = (omega (arith, v.most), tt) }

    address-long : length (component_bytes (address a)) ≡ 5
    unfolding component_bytes
    address-long = refl

    pub schowaj-full : {b : Bool} → b ≡ (leb (components_held s + 1) limit.components && leb (chars_held s + 0) limit.characters) → b ≡ false
        → DoesFor σ 59 σ saved
    schowaj-full q z g ins =
        rw (row-schowaj g ins) (plain-full h (kept s) (fits-written h (address-encoded refl) d refl refl at_end ∙ sym q ∙ z))

    module _ (o : List ℕ) {o' : List ℕ} (w : o' ≡ pasted o 0 (component_bytes (address a))) where
      held-address : Encoded (take 5 o') (address a ∷ [])
      held-address = address-encoded (rw w (pasted-front o (component_bytes (address a)) 5 address-long))

      pub address-writable : {b : Bool} → b ≡ (leb (components_held s + 1) limit.components && leb (chars_held s + 0) limit.characters) → b ≡ true
          → PartsWritable σ j (take 5 o') 1 0
      address-writable q z = writable h held-address d refl refl (sym q ∙ z)

      pub schowaj-done : {σ' : State} → HoldsState σ' (on_store (into (nth (writing at_end) j) (components_in (take 5 o'))) σ)
          → DoesFor σ 0 σ' saved
      schowaj-done {σ'} k g ins =
          rw (row-schowaj g ins)
          (plain_done kept (subst (λ (xs : List Component). HoldsState σ' (on_store (into (nth (writing at_end) j) xs) σ)) (components-of held-address) k))

-- ---- USTAW

module _ {σ : State} (h : Stands σ) (removes : Bool) {i : ℕ} (b : i < limit.expressions) {j : ℕ} (d : j < limit.files) where
  abbrev store : Store
  store = σ.store

  abbrev rs : List Record
  rs = records (file_of store (nth P j))

  abbrev by : Program → Inputs → Row
  by g ins = row g ins store (nth (reading removes) i) (nth P j) nothing USTAW

  -- what is asked of the first component, and what it makes
  abbrev asks : List Component → Asks
  asks ys = let k = link (first ys) in needs 2 ys & ask 58 (eqb k 0 || any (λ r. eqb r.addr k) rs)

  abbrev makes : List Component → Store
  makes ys = pointed (nth P j) (link (first ys)) (past (nth (reading removes) i) 1 store)

  row_by : (r : Bool) (g : Program) (ins : Inputs) (ys : List Component) → take 1 (expr store (nth E i)) ≡ ys
      → row g ins store (nth (reading r) i) (nth P j) nothing USTAW ≡ (asks ys, pointed (nth P j) (link (first ys)) (past (nth (reading r) i) 1 store), on)
  unfolding row used used_by past
  row_by true g ins ys q = rw (← q) refl
  row_by false g ins ys q = rw (← q) refl

  row-ustaw : (g : Program) (ins : Inputs) (ys : List Component) → take 1 (expr store (nth E i)) ≡ ys → by g ins ≡ (asks ys, makes ys, on)
  row-ustaw g ins ys q = row_by removes g ins ys q

  -- 52 and 53, where no address stands in front
  pub ustaw-stop : (q : Question) → question_number q ≡ stop_of (needs 2 (take 1 (expr store (nth E i)))) → DoesFor σ (question_number q) σ by
  ustaw-stop q e g ins = go (take 1 (expr store (nth E i))) refl
    where
      go : (ys : List Component) → take 1 (expr store (nth E i)) ≡ ys → Does σ (question_number q) σ (by g ins)
      go [] o =
          let m : question_number q ≡ 52 = e ∙ rw o refl in
          rw (row-ustaw g ins [] o, m)
          (does-stop h (asks [], makes [], on) (answer-no (asks [], makes [], on) σ (50 ∷ []) 52 (53 ∷ 54 ∷ 55 ∷ 56 ∷ 57 ∷ 58 ∷ 59 ∷ 60 ∷ []) refl (refl, tt) refl) (λ y. omega (arith, y)))
      go (y ∷ ys) o = by_kind (eqb (kind y) 2) refl
        where
          by_kind : (t : Bool) → eqb (kind y) 2 ≡ t → Does σ (question_number q) σ (by g ins)
          by_kind true k = absurd (some q (e ∙ rw (o, k) refl))
          by_kind false k =
              let r : Row = (asks (y ∷ ys), makes (y ∷ ys), on) in
              let m : question_number q ≡ 53 = e ∙ rw (o, k) refl in
              let t : answered r σ 53 ≡ false = rw k refl in
              rw (row-ustaw g ins (y ∷ ys) o, m)
              (does-stop h r (answer-no r σ (50 ∷ 52 ∷ []) 53 (54 ∷ 55 ∷ 56 ∷ 57 ∷ 58 ∷ 59 ∷ 60 ∷ []) refl (refl, (refl, tt)) t) (λ z. omega (arith, z)))

  module _ {x : List ℕ} (front : FrontLent σ i 2 x) where
    abbrev y : Component
    y = component_in x

    first-there : expr store (nth E i) ≡ y ∷ components_in (drop (component_size (cell x 0)) x)
    first-there = fronts.one-there front.lent (there front)

    one-there : take 1 (expr store (nth E i)) ≡ y ∷ []
    one-there = ap (take 1) first-there

    module _ {a : ℕ} (v : Number (link y) 16777216 a) {o : Option Place} (u : Located a rs o) where
      asked-58 : (t : Bool) → is_some o ≡ t → (eqb (link y) 0 || any (λ r. eqb r.addr (link y)) rs) ≡ t
      asked-58 t q = rw (← v.is) (sym u.is ∙ q)

      pub ustaw-missing : is_some o ≡ false → DoesFor σ 58 σ by
      ustaw-missing q g ins =
          let r : Row = (asks (y ∷ []), makes (y ∷ []), on) in
          let t : answered r σ 58 ≡ false = rw (asked-58 false q) refl in
          let k : answered r σ 53 ≡ true = rw front.kind_is refl in
          rw (row-ustaw g ins (y ∷ []) one-there)
          (does-stop h r
          (answer-no r σ (50 ∷ 52 ∷ 53 ∷ 54 ∷ 55 ∷ 56 ∷ 57 ∷ []) 58 (59 ∷ 60 ∷ []) refl (refl, (refl, (k, (refl, (refl, (refl, (refl, tt))))))) t)
          (λ m. omega (arith, m)))

      file-stays : (r : Bool) → file_of (past (nth (reading r) i) 1 store) (nth P j) ≡ file_of store (nth P j)
      unfolding past past_by put_expr with_exprs
      file-stays true = refl
      file-stays false = refl

      module _ {f : Place} (q : o ≡ Some f) where
        place_is : PlaceOf a rs f
        place_is = subst (λ (r : Option Place). IfSome r (λ p. PlaceOf a rs p)) q u.place

        found : is_some o ≡ true
        found = ap is_some q

        pub then-pointable : {σ' : State} → HoldsState σ' (on_store (past (nth (reading removes) i) 1) σ) → Pointable σ' j f.records f.bytes
        unfolding on_store
        then-pointable k = record { index = d; bytes_is = rw (k.is, file-stays removes) place_is.bytes_is }

        quiet : Quiet (asks (y ∷ []))
        quiet = record { is_50 = refl; is_55 = refl; is_56 = refl; is_57 = refl; is_58 = rw (asked-58 true found) refl; is_59 = refl; is_60 = refl }

        answered-all : stop_of (asks (y ∷ [])) ≡ 0
        answered-all = rw front.kind_is refl

        made-is : makes (y ∷ []) ≡ pointed_at j f.records (past (nth (reading removes) i) 1 store)
        made-is =
            let t = past (nth (reading removes) i) 1 store in
            let m : records_to (link y) (records (file_of t (nth P j))) ≡ f.records = rw (file-stays removes, ← v.is) (sym place_is.count) in
            pointed-is j (link y) t ∙ ap (λ (k : ℕ). pointed_at j k t) m

        pub ustaw-done : {σ' : State} → HoldsState σ' (on_store (λ t. pointed_at j f.records (past (nth (reading removes) i) 1 t)) σ)
            → DoesFor σ 0 σ' by
        unfolding on_store
        ustaw-done k g ins = rw (row-ustaw g ins (y ∷ []) one-there) (quiet-done h (asks (y ∷ [])) (makes (y ∷ [])) quiet answered-all (rw made-is k))

    address-front : (c : Component) → kind c ≡ 2 → (length (component_bytes c) ≡ 5) × (length (chars c) ≡ 0)
    unfolding component_bytes
    address-front (word u) q = absurd (omega (arith, q))
    address-front (Component.number u) q = absurd (omega (arith, q))
    address-front (address u) q = (refl, refl)

    pub address-droppable : PartsDroppable σ i 1 5 0
    address-droppable =
        let o = one-there in
        let c = address-front y front.kind_is in
        record {
          index = b;
          first = record {
            most = rw first-there (omega arith);
            bytes_is = rw (o, components_bytes-one y) (sym c.0);
            chars_is = rw o (omega (arith, c.1));
          };
        }
