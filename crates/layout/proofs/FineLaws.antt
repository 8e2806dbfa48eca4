-- A state that the machine calls good has a layout: its parts are in range, its strings leave room, its characters are bytes.
use Rattle.std.specs.Prelude.{◌≡◌, Bool, true, false, cond, ◌&&◌, ℕ, ◌+◌, ◌*◌, ◌≤◌, ◌<◌, T, leb, ltb, eqb, length}
use Rattle.std.proofs.Math.Path.{refl}
use Rattle.std.proofs.Common.{sym, subst, arith, leb→le, ltb→lt, length-append, leb-true}
use mathlib.Core.List.{List, [], ◌∷◌, ◌++◌, map}
use Rattle.machine.specs.Below.Limits as limit
use Rattle.machine.specs.Below.ListLaws.{all-total, part, all_head, all_tail, total-append, T-left, T-right}
use Rattle.machine.specs.Below.Lists.{total, all, each}
use Rattle.machine.specs.Below.Characters.{known}
use Rattle.machine.specs.Below.Program.{Program}
use Rattle.machine.specs.Below.LanguageValues.{Component, Record, File, Store, State, Inputs, chars}
use Rattle.machine.specs.Below.LanguageValues.Component.{word, address}
use Rattle.machine.specs.Arguments.{records}
use Rattle.machine.specs.Changes.{held, recorded, fits}
use Rattle.machine.proofs.CleanLaws.{chars-known}
use Rattle.machine.proofs.ControlLaws.{returns-in}
use Rattle.machine.specs.Facts.{StoreFacts, StateFacts}
use Rattle.machine.specs.WellFormed.{good_program, good_return, good_inputs, void, strange, faults, record_faults, overrun, store_faults, all_records, store_tests, good_store, good_state}
use Rattle.machine.proofs.WellFormedLaws.{open-program, open-store, open-state}
use Rattle.layout.specs.Bounds.{Each, Below, Ok, RecordOk, FileOk, Fine}
use Rattle.layout.proofs.CellLaws.{each_of, each-zero, each_append, each_left, each_right, each_below, two-below, length-each}
use Rattle.layout.specs.Cells.{two}
use Rattle.layout.proofs.ComponentLaws.{components_most, components-below, records_most, records-below}
use Rattle.layout.specs.Components.{components_bytes}
use Rattle.layout.specs.Memory.{file_strings, strings}
use Rattle.layout.proofs.ProgramLaws.{known-below}
use Rattle.layout.proofs.StringLaws.{used-append, used-cons}
use Rattle.layout.specs.Strings.{used}

-- 1 for a word that is too long
abbrev over : Component → ℕ
over x = cond (leb (length (chars x)) limit.word) 0 1

short : (n : ℕ) → ◌≡◌ {A = ℕ} (cond (leb n limit.word) 0 1) 0 → n ≤ limit.word
short n h = go (leb n limit.word) refl h
  where
    go : (b : Bool) → leb n limit.word ≡ b → ◌≡◌ {A = ℕ} (cond b 0 1) 0 → n ≤ limit.word
    go true e q = leb-true n limit.word e
    go false e q = absurd (omega (arith, q))

some : (w : List ℕ) → void w ≡ 0 → 0 < length w
some [] h = absurd (omega (arith, h))
some (x ∷ w) h = omega arith

-- ---- the limits

five : (a b c d e : Bool) → T (a && b && c && d && e) → T a × T b × T c × T d × T e
five true true true true true h = (tt, tt, tt, tt, tt)
five false b c d e h = absurd h
five true false c d e h = absurd h
five true true false d e h = absurd h
five true true true false e h = absurd h
five true true true true false h = absurd h

record WithinLimits (s : Store) : Type 0 where
  components_most : held (λ x. 1) s ≤ limit.components
  chars_most : held (λ x. length (chars x)) s ≤ limit.characters
  words_short : held over s ≤ 0
  records_most : recorded (λ r. 1) s ≤ limit.records
  outputs_short : T (all (λ q. leb (length q) limit.output) s.outputs)

limited : (s : Store) → T (fits s) → WithinLimits s
unfolding fits
limited s h =
    let q = five (leb (held (λ x. 1) s) limit.components) (leb (held (λ x. length (chars x)) s) limit.characters) (leb (held over s) 0)
    (leb (recorded (λ r. 1) s) limit.records) (all (λ q. leb (length q) limit.output) s.outputs) h in
    record {
      components_most = leb→le (held (λ x. 1) s) limit.components q.0;
      chars_most = leb→le (held (λ x. length (chars x)) s) limit.characters q.1;
      words_short = leb→le (held over s) 0 q.2;
      records_most = leb→le (recorded (λ r. 1) s) limit.records q.3;
      outputs_short = q.4;
    }

-- ---- components, records and files without faults, where l is the last address given

module _ (l : ℕ) (hl : l ≤ limit.addresses) where
  ok_of : (x : Component) → faults l x ≡ 0 → over x ≡ 0 → Ok x
  ok_of (word w) f o = (some w (omega (arith, f)), short (length w) o)
  ok_of (Component.number z) f o = omega (arith, f)
  ok_of (address n) f o = omega (arith, f)

  -- of components, of expressions
  oks-of : (xs : List Component) → total (faults l) xs ≡ 0 → total over xs ≡ 0 → Each Ok xs
  oks-of [] f o = tt
  oks-of (x ∷ xs) f o = (ok_of x (omega (arith, f)) (omega (arith, o)), oks-of xs (omega (arith, f)) (omega (arith, o)))

  exprs-of : (es : List (List Component)) → total (total (faults l)) es ≡ 0 → total (total over) es ≡ 0 → Each (Each Ok) es
  exprs-of [] f o = tt
  exprs-of (e ∷ es) f o = (oks-of e (omega (arith, f)) (omega (arith, o)), exprs-of es (omega (arith, f)) (omega (arith, o)))

  abbrev AddressGiven : Record → Type 0
  AddressGiven r = r.addr ≤ l

  given_of : (rs : List Record) → T (all (λ n. ltb 0 n && leb n l) (map (λ r. r.addr) rs)) → Each AddressGiven rs
  given_of [] h = tt
  given_of (r ∷ rs) h =
      let p : ℕ → Bool = λ n. ltb 0 n && leb n l in
      let ns : List ℕ = map (λ r. r.addr) rs in
      (leb→le r.addr l (T-right (ltb 0 r.addr) (leb r.addr l) (all_head p r.addr ns h)), given_of rs (all_tail p r.addr ns h))

  records-of : (rs : List Record) → total (record_faults l) rs ≡ 0 → total (λ r. total over r.parts) rs ≡ 0 → Each AddressGiven rs
      → total (λ r. total (λ x. 1) r.parts) rs ≤ limit.components → total (λ r. total (λ x. length (chars x)) r.parts) rs ≤ limit.characters → Each RecordOk rs
  records-of [] f o g a b = tt
  records-of (r ∷ rs) f o g a b = (
    record {
      addr_most = omega (arith, g.0);
      parts_ok = oks-of r.parts (omega (arith, f)) (omega (arith, o));
      bytes_below = omega (arith, components_most r.parts);
    },
    records-of rs (omega (arith, f)) (omega (arith, o)) g.1 (omega arith) (omega arith),
  )

  files-of : (fs : List File) → total (λ f. total (record_faults l) (records f)) fs ≡ 0 → total (λ f. total (λ r. total over r.parts) (records f)) fs ≡ 0
      → Each AddressGiven (all_records fs) → total (λ f. total (λ r. total (λ x. 1) r.parts) (records f)) fs ≤ limit.components
      → total (λ f. total (λ r. total (λ x. length (chars x)) r.parts) (records f)) fs ≤ limit.characters → Each FileOk fs
  files-of [] f o g a b = tt
  files-of (x ∷ fs) f o g a b =
      let g₁ = each_left AddressGiven (records x) (all_records fs) g in
      let f₁ = total-append (record_faults l) x.before x.after in
      let o₁ = total-append (λ r. total over r.parts) x.before x.after in
      let a₁ = total-append (λ r. total (λ y. 1) r.parts) x.before x.after in
      let b₁ = total-append (λ r. total (λ y. length (chars y)) r.parts) x.before x.after in (
        record {
          before_ok = records-of x.before (omega (arith, f)) (omega (arith, o)) (each_left AddressGiven x.before x.after g₁) (omega arith) (omega arith);
          after_ok = records-of x.after (omega (arith, f)) (omega (arith, o)) (each_right AddressGiven x.before x.after g₁) (omega arith) (omega arith);
        },
        files-of fs (omega (arith, f)) (omega (arith, o)) (each_right AddressGiven (records x) (all_records fs) g) (omega arith) (omega arith),
      )

-- ---- the read places

abbrev short_input : List ℕ → Bool
short_input w = leb (length w) limit.input && all known w

places_of : (ns : List ℕ) (ins : Inputs) → overrun ns ins ≡ 0 → T (all short_input ins) → Each (λ n. n ≤ limit.input) ns
places_of [] ins h k = tt
places_of (n ∷ ns) [] h k = (omega (arith, h), places_of ns [] (omega (arith, h)) k)
places_of (n ∷ ns) (w ∷ ws) h k =
    let b = leb→le (length w) limit.input (T-left (leb (length w) limit.input) (all known w) (all_head short_input w ws k)) in
    (omega (arith, h), places_of ns ws (omega (arith, h)) (all_tail short_input w ws k))

-- ---- a good state

module _ (p : Program) (ins : Inputs) (s : State) (gp : T (good_program p)) (gi : T (good_inputs ins)) (g : T (good_state p ins s)) where
  abbrev st : Store
  st = s.store

  state-facts : StateFacts p ins s
  state-facts = open-state p ins s g

  facts : StoreFacts ins st
  facts = open-store ins st state-facts.store

  limits : WithinLimits st
  limits = limited st facts.limits

  abbrev fault_sum : ℕ
  fault_sum =
      total (total (faults st.last)) st.exprs + total (λ f. total (record_faults st.last) (records f)) st.files + total (total strange) st.outputs + overrun st.places ins

  no_faults : fault_sum ≡ 0
  unfolding store_faults
  no_faults = facts.sound.no_faults

  given : Each (λ r. r.addr ≤ st.last) (all_records st.files)
  unfolding good_store
  given = given_of st.last facts.given (all_records st.files) (part (store_tests ins st) state-facts.store 7)

  sums : (f : Component → ℕ) → total (total f) st.exprs + total (λ x. total (λ r. total f r.parts) (records x)) st.files ≡ held f st
  unfolding held
  sums f = refl

  inputs_short : T (all short_input ins)
  unfolding good_inputs
  inputs_short = T-right (eqb (length ins) limit.inputs) (all short_input ins) gi

  pub good-fine : Fine s
  good-fine =
      let z = no_faults in
      let o = limits.words_short in
      let a = limits.components_most in
      let b = limits.chars_most in
      let o₁ = sums over in
      let a₁ = sums (λ x. 1) in
      let b₁ = sums (λ x. length (chars x)) in
      let last = facts.given in
      let code_short = (open-program p gp).code_short in
      let inside : ℕ → Bool = λ e. ltb e (length p.code) && good_return p e in
      let returns = returns-in p (open-program p gp) s.stack state-facts.returns in
      record {
        exprs_is = facts.exprs;
        files_is = facts.files;
        outputs_is = facts.outputs;
        places_is = facts.places;
        exprs_ok = exprs-of st.last last st.exprs (omega (arith, z)) (omega (arith, o, o₁));
        files_ok = files-of st.last last st.files (omega (arith, z)) (omega (arith, o, o₁)) given (omega (arith, a, a₁)) (omega (arith, b, b₁));
        outputs_ok = each_of (λ q. leb (length q) limit.output) (λ q. length q ≤ limit.output) (λ q. leb→le (length q) limit.output) st.outputs limits.outputs_short;
        places_ok = places_of st.places ins (omega (arith, z)) inputs_short;
        stack_ok = each_of inside (λ n. n < limit.instructions) (λ n t. omega (arith, ltb→lt n (length p.code) (T-left (ltb n (length p.code)) (good_return p n) t))) s.stack returns;
        stack_most = state-facts.depth;
        next_below = omega (arith, state-facts.next);
        last_most = last;
        components_most = a;
        chars_most = b;
        records_most = limits.records_most;
      }

-- ---- characters are bytes

word_below : (w : List ℕ) → total strange w ≡ 0 → Below 256 w
word_below w h = known-below w (subst T (sym (all-total known w)) (rw h tt))

module _ (l : ℕ) where
  chars-below : (x : Component) → faults l x ≡ 0 → Below 256 (chars x)
  chars-below x h = word_below (chars x) (chars-known l x h)

  abbrev CharsBelow : List Component → Type 0
  CharsBelow xs = Each (λ x. Below 256 (chars x)) xs

  parts_below : (xs : List Component) → total (faults l) xs ≡ 0 → CharsBelow xs
  parts_below xs h = each-zero (faults l) (λ x. Below 256 (chars x)) chars-below xs h

  exprs-below : (es : List (List Component)) → Each (Each Ok) es → total (total (faults l)) es ≡ 0 → Each (Below 256) (map components_bytes es)
  exprs-below [] k h = tt
  exprs-below (e ∷ es) k h = (components-below e k.0 (parts_below e (omega (arith, h))), exprs-below es k.1 (omega (arith, h)))

  recs-below : (rs : List Record) → total (record_faults l) rs ≡ 0 → Each (λ r. CharsBelow r.parts) rs
  recs-below rs h = each-zero (record_faults l) (λ r. CharsBelow r.parts) (λ r z. parts_below r.parts (omega (arith, z))) rs h

  files-below : (fs : List File) → Each FileOk fs → total (λ f. total (record_faults l) (records f)) fs ≡ 0 → Each (Below 256) (file_strings fs)
  unfolding file_strings
  files-below [] k h = tt
  files-below (f ∷ fs) k h =
      let e = total-append (record_faults l) f.before f.after in (
        records-below f.before k.0.before_ok (recs-below f.before (omega (arith, h))),
        (records-below f.after k.0.after_ok (recs-below f.after (omega (arith, h))), files-below fs k.1 (omega (arith, h))),
      )

stack-below : (ns : List ℕ) → Below limit.instructions ns → Below 256 (each two ns)
stack-below ns h = each_below 256 two (λ n. n < limit.instructions) (λ n b. two-below n (omega arith)) ns h

pub good-strings-below : (p : Program) (ins : Inputs) (s : State) → T (good_program p) → T (good_inputs ins) → T (good_state p ins s) → Each (Below 256) (strings s)
unfolding strings
good-strings-below p ins s gp gi g =
    let st : Store = s.store in
    let f : Fine s = good-fine p ins s gp gi g in
    let z = no_faults p ins s gp gi g in
    let E : List (List ℕ) = map components_bytes st.exprs in
    let F : List (List ℕ) = file_strings st.files in
    let R : List (List ℕ) = each two s.stack ∷ st.outputs in
    each_append (Below 256) E (F ++ R) (exprs-below st.last st.exprs f.exprs_ok (omega (arith, z)))
    (each_append (Below 256) F R (files-below st.last st.files f.files_ok (omega (arith, z)))
    (stack-below s.stack f.stack_ok, each-zero (total strange) (Below 256) word_below st.outputs (omega (arith, z))))

-- ---- the strings leave room

used-exprs : (es : List (List Component)) → used (map components_bytes es) ≤ 5 * total (total (λ x. 1)) es + total (total (λ x. length (chars x))) es
unfolding used
used-exprs [] = omega arith
used-exprs (e ∷ es) = simp length-append (omega (arith, components_most e, used-exprs es))

used-files : (fs : List File)
    → used (file_strings fs) ≤ 5 * total (λ f. total (λ r. total (λ x. 1) r.parts) (records f)) fs + total (λ f. total (λ r. total (λ x. length (chars x)) r.parts) (records f)) fs + 7 * total (λ f. total (λ r. 1) (records f)) fs
unfolding used file_strings
used-files [] = omega arith
used-files (f ∷ fs) =
    simp length-append (
    omega (
      arith,
      records_most f.before,
      records_most f.after,
      total-append (λ r. total (λ x. 1) r.parts) f.before f.after,
      total-append (λ r. total (λ x. length (chars x)) r.parts) f.before f.after,
      total-append (λ r. 1) f.before f.after,
      used-files fs,
    )
    )

used-outputs : (os : List (List ℕ)) → Each (λ q. length q ≤ limit.output) os → used os ≤ limit.output * length os
unfolding used
used-outputs [] h = omega arith
used-outputs (o ∷ os) h = simp length-append (omega (arith, h.0, used-outputs os h.1))

-- 5 · 1,024 and 8,192 for components, 7 · 256 for records, 2 · 64 for the stack, 2 · 4,096 for outputs
pub fine-room : (s : State) → Fine s → used (strings s) ≤ 23424
unfolding strings held recorded
fine-room s f =
    let E : List (List ℕ) = map components_bytes s.store.exprs in
    let F : List (List ℕ) = file_strings s.store.files in
    let R : List (List ℕ) = each two s.stack ∷ s.store.outputs in
    omega (
      arith,
      used-append E (F ++ R),
      used-append F R,
      used-cons (each two s.stack) s.store.outputs,
      length-each 2 two (λ n. refl) s.stack,
      used-exprs s.store.exprs,
      used-files s.store.files,
      used-outputs s.store.outputs f.outputs_ok,
      f.outputs_is,
      f.stack_most,
      f.components_most,
      f.chars_most,
      f.records_most,
    )
