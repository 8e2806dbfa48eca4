-- What the arguments of tests ask and mean, form by form.
use mathlib.Core.Path.{◌≡◌, refl, sym, ap, ◌∙◌, subst, fun_ext}
use mathlib.Core.Bool.{Bool, true, false, or-false}
use mathlib.Core.List.{List, [], ◌∷◌, append-nil, map-id}
use Prim.Native.Nat.{ℕ, suc, ◌+◌, ◌-◌, ◌≤◌, ◌<◌}
use native.Mathlib.Omega.{arith}
use lib.IntN.{ℤ}
use lib.Dec.{eqb}
use lib.ListN.{length, take, drop, length-take}
use lib.Seq.{take_at}
use Rattle.std.specs.Prelude.{Result, Ok, Err}
use Rattle.std.proofs.lemmas.Result.{IfOk-at_ok, IfOk-weaker}
use Rattle.lists.specs.Lists.{any, among}
use Rattle.language.specs.Letters.Letter.{B, E, N, T}
use Rattle.language.specs.Program.{Arg}
use Rattle.language.specs.Program.Arg.{letter, class, text}
use Rattle.language.specs.Values.{Component, Store, State, Inputs, value, kind, same}
use Rattle.language.specs.Values.Component.{word}
use Rattle.machine.specs.Arguments.{expr, none, present, needs, ◌&◌, test_asks, number_of, up_to, on_parts}
use Rattle.layout.specs.Bounds.{Encoded, WholeComponents}
use Rattle.layout.specs.Cells.{cell, code, uncode}
use Rattle.layout.proofs.ComponentLaws.{components_bytes-one, components-of, whole-components, next-component}
use Rattle.layout.specs.Components.{component_bytes, component_size, component_in, components_in}
use Rattle.layout.specs.Table.{class_by}
use Rattle.cells.specs.Cells.{pasted, Number}
use Rattle.cells.proofs.Laws.{length-pasted}
use Rattle.table.specs.Below.Packed.{Copied}
use Rattle.state.specs.Working.{nth}
use Rattle.state.specs.Blocks.{ExprLent}
use Rattle.matching.specs.Tests.{first_chars}
use Rattle.tests.specs.declared.Prepared.TheVariants.{Count, Class, Among}
use Rattle.matching.proofs.OnChars.{chars-class, chars-text, chars-one, chars-any}
use Rattle.instructions.specs.Questions.{question_number, told_by}
use Rattle.instructions.proofs.Asking.{some}
use Rattle.instructions.specs.declared.Question.{Question}
use Rattle.instructions.specs.declared.Question.TheVariants.{Missing, Range}
use Rattle.instructions.specs.Does.{stop_of}
use Rattle.components.proofs.FirstLaws.{copied-front, low, high, front-value}
use Rattle.state.proofs.Fronts.{none-there, one-there}
use Rattle.table.specs.GoodLaws.{index_back}
use Rattle.table.specs.Denote.{letter_of, arg_of}
use Rattle.table.specs.Good.{GoodIndex}
use Rattle.table.specs.declared.Argument.{Argument}
use Rattle.table.specs.declared.Argument.TheVariants.{Indexed}
use Rattle.table.specs.declared.Letter.{Letter}
use Rattle.tests.specs.Prepares.{LetterReadable, TestReadable, Beside, PutBeside, ReadTest, Prepares, NumberPrepares, CountPrepares}
use Rattle.tests.specs.declared.Prepared.{Prepared}

-- ---- the bytes beside a test

-- the component in front of whole components
pub front_fits : {l : List ℕ} {n : ℕ} → WholeComponents l → (length l ≡ 0 → ⊥) → Number (component_size (cell l 0)) 257 n → n ≤ length l
front_fits {l} w z h = rw h.is (next-component w (omega (arith, z))).fits

pub front-encoded : {l : List ℕ} {n : ℕ} → WholeComponents l → (length l ≡ 0 → ⊥) → Number (component_size (cell l 0)) 257 n
    → Encoded (take n l) (take 1 (components_in l))
front-encoded {l} {n} w z h =
    let k = next-component w (omega (arith, z)) in
    rw (h.is, k.is) record { is = k.first ∙ sym (components_bytes-one (component_in l)); all_ok = (k.first_ok, tt) }

pub word-encoded : (w : List ℕ) → 0 < length w → length w ≤ 60 → Encoded (component_bytes (word w)) (word w ∷ [])
word-encoded w a b = record { is = sym (components_bytes-one (word w)); all_ok = ((a, omega arith), tt) }

-- ---- the forms

module _ (s : Store) (g : List ℕ) where
  refused : (c : Arg) (q : Question) → ((ins : Inputs) → question_number q ≡ stop_of (test_asks ins s c))
      → (question_number q ≡ 54 → (ins : Inputs) → on_parts ins s c ≡ number_of 0) → Prepares s c g (Err q)
  refused c q a m = record { stop_is = a; is = tt; negative = m }

  read : (c : Arg) (p : Prepared) → ((ins : Inputs) → 0 ≡ stop_of (test_asks ins s c)) → ReadTest s c g p → Prepares s c g (Ok p)
  read c p a h = record { stop_is = a; is = h; negative = λ z. absurd (omega (arith, z)) }

  module _ (i : ℕ) where
    abbrev es : List Component
    es = expr s (nth E i)

    -- B
    asks-first : (ins : Inputs) → stop_of (present (take 1 es)) ≡ stop_of (test_asks ins s (nth B i))
    asks-first ins = go es
      where
        go : (xs : List Component) → stop_of (present (take 1 xs)) ≡ stop_of (present (take 1 xs) & none)
        go [] = refl
        go (x ∷ xs) = refl

    first-missing : {k : ℕ} → k ≡ stop_of (present (take 1 es)) → k ≡ 54 → ⊥
    first-missing = go es
      where
        go : {k : ℕ} (xs : List Component) → k ≡ stop_of (present (take 1 xs)) → k ≡ 54 → ⊥
        go [] e m = omega (arith, e, m)
        go (x ∷ xs) e m = omega (arith, e, m)

    module _ {r : Result ℕ Question} (w : PutBeside (present (take 1 es)) (take 1 es) g r) where
      pub first-refused : {q : Question} → r ≡ Err q → Prepares s (nth B i) g (Err q)
      first-refused {q} e =
          let a : question_number q ≡ stop_of (present (take 1 es)) = sym (ap told_by e) ∙ w.told in
          refused (nth B i) q (λ ins. a ∙ asks-first ins) (λ m. absurd (first-missing a m))

      pub first-read : {n : ℕ} → r ≡ Ok n → Prepares s (nth B i) g (Ok (Among n))
      first-read {n} e =
          let h : Beside (take 1 es) g n = IfOk-at_ok (λ n. Beside (take 1 es) g n) e w.is in
          let c = h.encoded in
          read (nth B i) (Among n) (λ ins. sym (ap told_by e) ∙ w.told ∙ asks-first ins)
          record {
            fitting = whole-components c;
            parts = λ ins. ap (λ ys. up_to (λ x. any (same x) ys)) (map-id (take 1 es) ∙ sym (components-of c));
            chars = λ ins. chars-one ins s B (suc i) ∙ ap (λ ys. up_to (λ b. among b (first_chars ys))) (sym (components-of c));
            most = h.most;
            inside = h.inside;
          }

    -- T
    pub any-read : {n : ℕ} → Beside es g n → Prepares s (nth T i) g (Ok (Among n))
    any-read {n} h =
        let c = h.encoded in
        read (nth T i) (Among n) (λ ins. refl)
        record {
          fitting = whole-components c;
          parts = λ ins. ap (λ ys. up_to (λ x. any (same x) ys)) (map-id es ∙ sym (components-of c));
          chars = λ ins. chars-any ins s T (suc i) ∙ ap (λ ys. up_to (λ b. among b (first_chars ys))) (sym (components-of c));
          most = h.most;
          inside = h.inside;
        }

    -- N
    pub count-refused : {q : Question} → question_number q ≡ stop_of (needs 1 (take 1 es)) → Prepares s (nth N i) g (Err q)
    count-refused {q} e = go es refl
      where
        go : (xs : List Component) → es ≡ xs → Prepares s (nth N i) g (Err q)
        go [] o =
            let m : question_number q ≡ 52 = e ∙ rw o refl in
            refused (nth N i) q (λ ins. m ∙ rw o refl) (λ z. absurd (omega (arith, z, m)))
        go (x ∷ xs) o = by_kind (eqb (kind x) 1) refl
          where
            by_kind : (t : Bool) → eqb (kind x) 1 ≡ t → Prepares s (nth N i) g (Err q)
            by_kind true k = absurd (some q (e ∙ rw (o, k) refl))
            by_kind false k =
                let m : question_number q ≡ 53 = e ∙ rw (o, k) refl in
                refused (nth N i) q (λ ins. m ∙ rw (o, k) refl) (λ z. absurd (omega (arith, z, m)))

    pub count-number : {x : Component} {xs : List Component} {r : Result Prepared Question} → es ≡ x ∷ xs → kind x ≡ 1 → Prepares s (Arg.number (value x)) g r
        → Prepares s (nth N i) g r
    count-number {x} {xs} {r} o k p =
        record {
          stop_is = λ ins. p.stop_is ins ∙ rw (o, k) refl;
          is =
              IfOk-weaker r (ReadTest s (Arg.number (value x)) g) (ReadTest s (nth N i) g)
              (λ t h. record { fitting = h.fitting; parts = λ ins. rw o (h.parts ins); chars = λ ins. rw o (h.chars ins); most = h.most; inside = h.inside })
              p.is;
          negative = λ z ins. rw o (p.negative z ins);
        }

  -- a number
  pub number_low : (n : ℕ) → n < 8388607 → Prepares s (Arg.number (uncode n)) g (Err Range)
  number_low n h = refused (Arg.number (uncode n)) Range (λ ins. rw (low n h) refl) (λ z ins. rw (low n h) refl)

  pub number-high : (n : ℕ) → 8388607 ≤ n → Prepares s (Arg.number (uncode n)) g (Ok (Count (n - 8388607)))
  number-high n h =
      read (Arg.number (uncode n)) (Count (n - 8388607)) (λ ins. rw (high n h) refl)
      record { fitting = tt; parts = λ ins. rw (high n h) refl; chars = λ ins. rw (high n h) refl; most = omega arith; inside = omega arith }

  -- a class and a text
  pub class-met : (c : List ℕ) (m : ℕ) → Prepares s (class (class_by c m)) g (Ok (Class m))
  class-met c m =
      read (class (class_by c m)) (Class m) (λ ins. refl)
      record {
        fitting = tt;
        parts = λ ins. refl;
        chars = λ ins. chars-class ins s m;
        most = omega arith;
        inside = omega arith;
      }

  pub text-read : (w : List ℕ) {n : ℕ} → Beside (word w ∷ []) g n → Prepares s (text w) g (Ok (Among n))
  text-read w {n} h =
      let c = h.encoded in
      read (text w) (Among n) (λ ins. refl)
      record {
        fitting = whole-components c;
        parts = λ ins. ap up_to (fun_ext (λ x. sym (or-false (same x (word w))))) ∙ ap (λ ys. up_to (λ x. any (same x) ys)) (sym (components-of c));
        chars = λ ins. chars-text ins s w ∙ ap (λ ys. up_to (λ b. among b ys)) (sym (append-nil (take 1 w)) ∙ ap first_chars (sym (components-of c)));
        most = h.most;
        inside = h.inside;
      }

-- ---- what the functions tell, from what they read

module _ {σ : State} {i : ℕ} {x : List ℕ} (l : ExprLent σ i x) where
  abbrev store : Store
  store = σ.store

  pub first-none : {g : List ℕ} → length x ≡ 0 → PutBeside (present (take 1 (expr store (nth E i)))) (take 1 (expr store (nth E i))) g (Err Missing)
  first-none z = record { told = rw (none-there l z) refl; is = tt }

  pub first-put : (length x ≡ 0 → ⊥) → {k : ℕ} → Number (component_size (cell x 0)) 257 k → (d : List ℕ) {d' : List ℕ} → d' ≡ pasted d 0 (take k x) → 32768 ≤ length d
      → PutBeside (present (take 1 (expr store (nth E i)))) (take 1 (expr store (nth E i))) d' (Ok k)
  first-put z {k} h d {d'} q r =
      let f : k ≤ length x = front_fits l.whole z h in
      let v : length (take k x) ≡ k = simp length-take (omega (arith, f)) in
      let c : Encoded (take k x) (take 1 (expr store (nth E i))) = subst (λ (ys : List Component). Encoded (take k x) (take 1 ys)) l.is (front-encoded l.whole z h) in
      record {
        told = rw (one-there l z) refl;
        is =
            record {
              encoded = copied-front d k q v c;
              inside = rw (q, length-pasted d 0 (take k x) (omega (arith, v, f, l.most))) (omega (arith, f, l.most));
              most = omega (arith, f, l.most);
            };
      }

-- a text
module _ {v o z : List ℕ} {r : ℕ} (h : Copied v o z r) where
  pub copied_is : take r z ≡ v
  copied_is = rw h.is (take_at v (drop (length v) o) r (sym h.count))

  pub word-long : length (component_bytes (word v)) ≡ 1 + r
  unfolding component_bytes
  word-long = omega (arith, h.count)

  pub text-put : 0 < length v → (d : List ℕ) {d' : List ℕ} → d' ≡ pasted d 0 (component_bytes (word (take r z))) → 32768 ≤ length d
      → Beside (word v ∷ []) d' (1 + r)
  text-put a d {d'} q m =
      let e : d' ≡ pasted d 0 (component_bytes (word v)) = q ∙ ap (λ (w : List ℕ). pasted d 0 (component_bytes (word w))) copied_is in
      record {
        encoded = copied-front d (1 + r) e word-long (word-encoded v a (omega (arith, h.count, h.short)));
        inside = rw (e, length-pasted d 0 (component_bytes (word v)) (omega (arith, word-long, h.short))) (omega (arith, h.short));
        most = omega (arith, h.short);
      }

pub count-told : {σ : State} {i : ℕ} {x : List ℕ} → ExprLent σ i x → (length x ≡ 0 → ⊥) → kind (component_in x) ≡ 1 → {k : ℕ}
    → Number (code (value (component_in x))) 16777216 k → {r : Result Prepared Question} → NumberPrepares k r → CountPrepares σ.store i r
count-told {σ} {i} {x} l z q {k} h {r} w g =
    count-number σ.store g i (one-there l z) q (subst (λ (v : ℤ). Prepares σ.store (Arg.number v) g r) (front-value l.whole z q h) (w σ.store g))

-- ---- letters

pub letter-told : {s : Store} {g : List ℕ} {r : Result Prepared Question} {l m : Letter} {k : ℕ} → l ≡ m → GoodIndex l k → Prepares s (nth (letter_of m) (k - 1)) g r
    → Prepares s (letter (letter_of l) k) g r
letter-told {s} {g} {r} {l} {m} {k} e h w =
    subst (λ (n : ℕ). Prepares s (letter (letter_of l) n) g r) (index_back h) (subst (λ (x : Letter). Prepares s (nth (letter_of x) (k - 1)) g r) (sym e) w)

-- ---- arguments

pub letter-readable : {c : List ℕ} {a : Argument} {l : Letter} {k : ℕ} → TestReadable c a → a ≡ Indexed l k → LetterReadable l k
letter-readable {l = l} {k = k} h e = record { index = h.good.index l k e; form = h.form l k e }

pub as_read : (t : List ℕ) (s : Store) {g : List ℕ} {a b : Argument} {r : Result Prepared Question} → a ≡ b → Prepares s (arg_of t b) g r → Prepares s (arg_of t a) g r
as_read t s {g} {r = r} e w = subst (λ (x : Argument). Prepares s (arg_of t x) g r) (sym e) w
