-- The texts of a list come to the table, entry by entry: question 11 for them, and for the switch.
use mathlib.Core.Path.{◌≡◌, refl, sym, ap, ◌∙◌, subst}
use mathlib.Core.Bool.{true≢false}
use mathlib.Core.List.{List, [], ◌∷◌, ◌++◌, append-nil, append_assoc}
use Prim.Native.Nat.{ℕ, zero, suc, ◌+◌, ◌-◌, ◌≤◌, ◌<◌}
use native.Mathlib.Decide.{dec_lt}
use native.Mathlib.Omega.{arith}
use lib.Dec.{T, leb}
use lib.ListN.{length, get_or, drop, length-map, drop_of_length-le}
use lib.Seq.{drop-cons, drop-nil}
use Rattle.acceptance.proofs.RowLaws.{drop-none}
use Rattle.switch_lists.specs.Below.HeadLaws.{lower-assoc}
use Rattle.switch_lists.specs.Below.Valued.{Ordered}
use Rattle.switch_lists.specs.Below.Quoted.{Quoted}
use Rattle.declaring.specs.Below.ArgumentCells.{TextNamed, TextTold}
use Rattle.declaring.specs.Declaring.{texts_excess}
use Rattle.declaring.specs.SpeltLaws.{statement-plain}
use Rattle.declaring.specs.Below.Entering.{excess, all_added, long_text, set_texts, ShortItem, EnterableText, QuotedEntered}
use Rattle.declaring.specs.Below.EnteringLaws.{goes_on, excess-here, fresh-from}
use Rattle.declaring.proofs.Below.EnteringAdding.{texts-laws}
use Rattle.statements.specs.FaultLaws.{fault-both, lower-clear, no-fault}
use Rattle.statements.specs.Faults.{lower}
use Rattle.declaring.specs.Below.Finding.{Tells}
use Rattle.language.specs.Program.{Program}
use Rattle.layout.specs.Bounds.{Each}
use Rattle.layout.specs.Cells.{cell}
use Rattle.layout.specs.Table.{text_ref, all_entries}
use Rattle.lists.specs.Lists.{keep, bytes_equal}
use Rattle.lists.specs.ListLaws.{all_tail, all_keep}
use Rattle.packed.specs.Packed.{table_of}
use Rattle.statements.specs.LowestLaws.{fault-first}
use Rattle.statements.specs.PlaceLaws.{places-from}
use Rattle.statements.specs.Places.{none_before, stands_from, all_from}
use Rattle.statements.specs.StatementAt.{statement_at, fault_of}
use Rattle.statements.specs.Faults.{Fault}
use Rattle.std.specs.Prelude.{Option, None, Some, Result, Ok, Err, IfErr, is_ok}
use Rattle.std.proofs.lemmas.Option.{none-some, same_Some}
use Rattle.switch_lists.specs.Switches.{entry_texts, NamesItem, TextCell}
use Rattle.syntax.specs.Items.{Item, is, places}
use Rattle.syntax.specs.Items.Sort.{word, text}
use Rattle.syntax.specs.Questions.{beyond}
use Rattle.syntax.specs.Tables.{fresh}
use Rattle.syntax.specs.Verdict.{lowest}
use Rattle.writing.specs.Writing.{HoldsProgram}
use Rattle.writing.proofs.Held.{entry_count}
use Rattle.declaring_switches.specs.declared.Declaration.{Declaration}
use Rattle.declaring_switches.specs.DeclaringSwitches.{ListedSwitch, SwitchTold, switch_excess, with_texts, JudgeableSwitch, JudgesSwitch}
use Rattle.declaring_switches.specs.Entries.{row_text, RowNamed, RowTold, RowEnters, RowEntered}
use Rattle.declaring_switches.proofs.Rows.{texts_of, texts-behind, long-behind, ordered-keep, ordered-drop, texts-over, rows_in, rows_are, row-inside, cell-here, row_named}

-- ---- a cell

-- an entry with a text, and one with none
some-row : {s : List ℕ} {q : Quoted} (P : List Item → Type 0) → ((j : Item) (js : List Item) → NamesItem s q j → P (j ∷ js)) → {m : Option Quoted} → m ≡ Some q → (row : List Item) → TextCell s m row → P row
some-row P b e [] h = absurd (none-some _ (sym h ∙ e))
some-row {s} P b e (j ∷ js) h = b j js (subst (λ k. NamesItem s k j) (same_Some _ _ (sym h.1.0 ∙ e)) h.1.1)

none-row : (s : List ℕ) (P : List Item → Type 0) → P [] → {m : Option Quoted} → m ≡ None → (row : List Item) → TextCell s m row → P row
none-row s P a e [] h = a
none-row s P a e (j ∷ js) h = absurd (none-some _ (sym e ∙ h.1.0))

abbrev Ref : List ℕ → ℕ → List Item → Type 0
Ref c r row = Tells c (λ p. text_ref p (row_text row)) 384 r

-- the place of an entry's text is that of its item
at-item : {s : List ℕ} {q : Quoted} (r : Result (Unit {0}) ℕ) → IfErr r (λ p. p ≡ q.at) → (j : Item) → NamesItem s q j → IfErr r (λ p. p ≡ j.at)
at-item (Ok u) h j k = tt
at-item (Err p) h j k = h ∙ k.place

module _ {s : List ℕ} {m : Option Quoted} {c : List ℕ} where
  -- the item of an entry's text
  item-there : RowNamed s m c → {q : Quoted} → m ≡ Some q → (j : Item) × (NamesItem s q j × ShortItem j)
  item-there g {q} e =
      some-row (λ row. Each ShortItem row → (j : Item) × (NamesItem s q j × ShortItem j)) (λ j js h k. (j, (h, k.0))) e g.row g.named g.short

  pub entry-enterable : RowNamed s m c → {q : Quoted} → m ≡ Some q → EnterableText s q c
  entry-enterable g e = let j = item-there g e in record { item = j.0; text_is = j.1.0.sort; names = j.1.0.names; short = j.1.1; held = g.held }

  pub entry-named : RowNamed s m c → {q : Quoted} → m ≡ Some q → TextNamed s q c
  entry-named g e = let j = item-there g e in record { chars = j.0.chars; names = j.1.0.names; short = j.1.1; held = g.held }

  pub none_told : m ≡ None → RowTold s m c 0
  none_told e = record { of = none-row s (Ref c 0) (record { is = λ p g. refl; most = omega arith }) e }

  pub entry-told : {q : Quoted} → m ≡ Some q → {r : ℕ} → TextTold s q c r → RowTold s m c r
  entry-told e {r} u = record { of = some-row (Ref c r) (λ j js h. u j.chars h.names) e }

  pub entry-entered : RowNamed s m c → {q : Quoted} → m ≡ Some q → {r : Result (Unit {0}) ℕ} {d : List ℕ} → QuotedEntered s q c r d → RowEntered s m c r d
  entry-entered g {q} e {r} {d} u =
      let i = item-there g e in
      record {
        of = some-row (λ row. RowEnters row c r d) (λ j js h. (at-item r u.place j h, u.enters j h.sort h.names)) e;
        beyond_same = (u.enters i.0 i.1.0.sort i.1.0.names).beyond_same;
      }

-- ---- the texts of some rows at a table

abbrev over_by : List (List ℕ) → List (List Item) → List ℕ
over_by t rows = excess bytes_equal (λ i. i.chars) long_text t (texts_of rows)

abbrev with_all : List (List ℕ) → List (List Item) → List (List ℕ)
with_all t rows = all_added bytes_equal (λ i. i.chars) long_text t (texts_of rows)

-- d holds p with the texts of the rows up to the rest
pub record Entered (all rest : List (List Item)) (p : Program) (d : List ℕ) : Type 0 where
  pub table : List (List ℕ)
  pub holds : HoldsProgram d (set_texts table p)
  pub over_is : over_by p.texts all ≡ over_by table rest
  pub all_is : with_all p.texts all ≡ with_all table rest

module _ {all : List (List Item)} {p : Program} {d : List ℕ} (rest : List (List Item)) where
  entered-row : (row : List Item) → Entered all (row ∷ rest) p d → {e : List ℕ} → RowEnters row d (Ok tt) e → Entered all rest p e
  unfolding set_texts
  entered-row [] u k = record { table = u.table; holds = rw k.1 u.holds; over_is = u.over_is; all_is = u.all_is }
  entered-row (j ∷ js) u {e} k =
      let on = goes_on bytes_equal (λ i. i.chars) long_text j (texts_of rest) u.table (sym (k.1.told (set_texts u.table p) u.holds)) in
      record { table = _; holds = k.1.holds refl (set_texts u.table p) u.holds; over_is = u.over_is ∙ on.0; all_is = u.all_is ∙ on.1 }

  refused-row : (row : List Item) → Ordered (texts_of (row ∷ rest)) → Entered all (row ∷ rest) p d → {at : ℕ} (e : List ℕ) → RowEnters row d (Err at) e
      → fault_of (over_by p.texts all) ≡ Some at
  unfolding set_texts
  refused-row [] o u {at} e k = absurd (true≢false (sym (ap is_ok k.0)))
  refused-row (j ∷ js) o u {at} e k =
      ap fault_of u.over_is ∙ excess-here bytes_equal (λ i. i.chars) long_text j (texts_of rest) u.table (sym (k.1.told (set_texts u.table p) u.holds)) o.0 ∙ ap Some (sym k.0)

no_texts : (t : List (List ℕ)) → over_by t [] ≡ []
unfolding fresh
no_texts t = drop-nil (128 - length t)

no_more : (t : List (List ℕ)) → with_all t [] ≡ t
unfolding fresh
no_more t = append-nil t

drop-before : (p m : ℕ) (ps : List ℕ) → T (none_before p ps) → T (none_before p (drop m ps))
drop-before p zero ps h = h
drop-before p (suc m) [] h = tt
drop-before p (suc m) (q ∷ ps) h = drop-before p m ps (all_tail (leb p) q ps h)

over-from : (p : ℕ) (t : List (List ℕ)) (ks : List Item) → T (all_from p ks) → T (none_before p (excess bytes_equal (λ i. i.chars) long_text t ks))
over-from p t ks h =
    drop-before p (128 - length t) (places (fresh bytes_equal (λ i. i.chars) t (keep long_text ks)))
    (places-from p (fresh bytes_equal (λ i. i.chars) t (keep long_text ks)) (fresh-from bytes_equal (λ i. i.chars) long_text p t (keep long_text ks) (all_keep (stands_from p) long_text ks h)))

low-lower : (p : ℕ) (ps : List ℕ) → T (none_before p ps) → lower (Some p) (fault_of ps) ≡ Some p
unfolding lowest
low-lower p ps h = sym (fault-both (p ∷ []) ps) ∙ fault-first p ps h

-- ---- the loop

-- the texts of the list are entered, or the place of one is told; that of a text in excess behind an entry in excess is not
pub record EntersTexts (s : List ℕ) (d : Declaration) (c : List ℕ) (r : Fault) (c' : List ℕ) : Type 0 where
  pub told : (p : Program) → HoldsProgram c p → lower d.list.over r ≡ lower d.list.over (fault_of (texts_excess s d.begin p))
  pub holds : d.list.over ≡ None → r ≡ None → (p : Program) → HoldsProgram c p → HoldsProgram c' (with_texts s d.begin p)
  pub beyond_same : drop 8192 c' ≡ drop 8192 c

-- place k of the cells tx is reached
pub record Entering (s : List ℕ) (d : Declaration) (c : List ℕ) (tx : List (Option Quoted)) (e : List ℕ) (k : ℕ) : Type 0 where
  pub most : k ≤ length tx
  pub entered : (p : Program) → HoldsProgram c p → Entered (entry_texts (statement_at s d.begin)) (drop k (entry_texts (statement_at s d.begin))) p e
  pub beyond_same : drop 8192 e ≡ drop 8192 c

pub entering-first : {s : List ℕ} {d : Declaration} {c : List ℕ} {tx : List (Option Quoted)} {k : ℕ} → k ≡ 0 → Entering s d c tx c k
entering-first e =
    record {
      most = omega (arith, e);
      entered = λ p h. record { table = p.texts; holds = rw (texts-laws.same p) h; over_is = rw e; all_is = rw e };
      beyond_same = refl;
    }

module _ {s : List ℕ} {d : Declaration} {c : List ℕ} {tx : List (Option Quoted)} (pre : JudgeableSwitch s d c tx) where
  abbrev js : List Item
  js = statement_at s d.begin

  abbrev held : ℕ
  held = cell (table_of c) 3

  abbrev l : ListedSwitch s d c tx
  l = pre.list

  abbrev rows : List (List Item)
  rows = rows_in l

  rows-ordered : Ordered (texts_of rows)
  rows-ordered = rw (texts-behind d.named js (statement-plain s d.begin l.inside) l.right) at (ordered-keep (is text) js l.ordered)

  -- the texts of the list are those of its rows
  long-here : keep long_text js ≡ keep long_text (texts_of rows)
  long-here = long-behind d.named js (statement-plain s d.begin l.inside) l.right

  over-rows : (p : Program) → texts_excess s d.begin p ≡ over_by p.texts rows
  over-rows p = rw long-here

  all-rows : (p : Program) → all_added bytes_equal (λ i. i.chars) long_text p.texts js ≡ with_all p.texts rows
  all-rows p = rw long-here

  module _ {e : List ℕ} {k : ℕ} (u : Entering s d c tx e k) where
    abbrev row : List Item
    row = get_or rows k []

    module _ (more : k < length tx) where
      rest_is : drop k rows ≡ row ∷ drop (suc k) rows
      rest_is = drop-cons rows k [] (row-inside l more)

      pub row-enterable : RowNamed s (get_or tx k None) e
      row-enterable = row_named l more (record { program = _; holds = (u.entered pre.held.program pre.held.holds).holds })

      module _ {r : Result (Unit {0}) ℕ} {e' : List ℕ} (h : RowEntered s (get_or tx k None) e r e') where
        now : (p : Program) → HoldsProgram c p → Entered rows (row ∷ drop (suc k) rows) p e
        now p q = rw rest_is at (u.entered p q)

        by : {o : Result (Unit {0}) ℕ} → r ≡ o → RowEnters row e o e'
        by q = subst (λ (o : Result (Unit {0}) ℕ). RowEnters row e o e') q (h.of row (cell-here l more))

        pub entering-more : r ≡ Ok tt → {k' : ℕ} → k' ≡ k + 1 → Entering s d c tx e' k'
        entering-more q {k'} f =
            let z : k' ≡ suc k = omega (arith, f) in
            record {
              most = omega (arith, more, f);
              entered = λ p w. rw z (entered-row (drop (suc k) rows) row (now p w) (by q));
              beyond_same = h.beyond_same ∙ u.beyond_same;
            }

        pub text-refused : {place : ℕ} → r ≡ Err place → EntersTexts s d c (Some place) e'
        text-refused q =
            record {
              told = λ p w.
                  ap (lower d.list.over)
                  (sym (ap fault_of (over-rows p) ∙ refused-row (drop (suc k) rows) row (rw rest_is at (ordered-drop rows rows-ordered k)) (now p w) e' (by q)));
              holds = λ o f. absurd (let y : ◌≡◌ {A = ℕ} 0 1 = cc in omega arith);
              beyond_same = h.beyond_same ∙ u.beyond_same;
            }

    module _ (done : length tx ≤ k) where
      count-over : length (places (keep (is word) js)) ≡ d.list.words
      count-over = length-map (keep (is word) js) (λ (i : Item). i.at) ∙ sym l.words_is

      none_left : d.list.over ≡ None → drop k rows ≡ []
      none_left o =
          let n = drop-none (128 - held) (places (keep (is word) js)) (no-fault (drop (128 - held) (places (keep (is word) js))) (sym l.over_is ∙ o)) in
          drop_of_length-le rows {i = k} (omega (arith, n, count-over, rows_are l, l.text_count, done))

      told-by : (o : Fault) → d.list.over ≡ o → (p : Program) → HoldsProgram c p → lower o None ≡ lower o (fault_of (over_by p.texts rows))
      told-by None x p w =
          let v = u.entered p w in
          sym (ap fault_of (v.over_is ∙ ap (over_by v.table) (none_left x) ∙ no_texts v.table))
      told-by (Some q) x p w =
          let v = u.entered p w in
          let many : 128 - held < d.list.words = elim (dec_lt (128 - held) d.list.words) as (λ y. 128 - held < d.list.words) [
            | yes y ↦ y
            | no y ↦
                let e : Some q ≡ None = sym x ∙ l.over_is ∙ ap fault_of (drop_of_length-le (places (keep (is word) js)) {i = 128 - held} (omega (arith, count-over))) in
                absurd (let n : ◌≡◌ {A = ℕ} 0 1 = cc in omega arith)
          ] in
          let z : 128 - held ≡ k = omega (arith, done, u.most, l.text_count, many) in
          sym (ap (λ (ps : List ℕ). lower (Some q) (fault_of ps)) v.over_is
          ∙ low-lower q (over_by v.table (drop k rows)) (over-from q v.table (texts_of (drop k rows))
          (rw z at (texts-over js l.ordered (128 - held) q (sym l.over_is ∙ x)))))

      pub texts-entered : EntersTexts s d c None e
      unfolding with_texts
      texts-entered =
          record {
            told = λ p w. told-by d.list.over refl p w ∙ ap (λ (ps : List ℕ). lower d.list.over (fault_of ps)) (sym (over-rows p));
            holds = λ o f p w.
                let v = u.entered p w in
                let all : all_added bytes_equal (λ i. i.chars) long_text p.texts js ≡ v.table = all-rows p ∙ v.all_is ∙ ap (with_all v.table) (none_left o) ∙ no_more v.table in
                rw all v.holds;
            beyond_same = u.beyond_same;
          }

-- ---- all of question 11

pub lower-rest : (f : Fault) → f ≡ lower f None
lower-rest None = refl
lower-rest (Some p) = refl

pub judged-switch : {s : List ℕ} {d : Declaration} {c : List ℕ} {tx : List (Option Quoted)} → JudgeableSwitch s d c tx → {tr : Fault} {e : List ℕ} → EntersTexts s d c tr e → {a x y : Fault}
    → SwitchTold c d.at a → x ≡ lower a d.list.over → y ≡ lower x tr → JudgesSwitch s d c y e
unfolding switch_excess
judged-switch {s} {d} {c} pre {tr} {e} t {a} {x} {y} h f g =
    let y_is : y ≡ lower a (lower d.list.over tr) = g ∙ ap (λ (z : Fault). lower z tr) f ∙ lower-assoc a d.list.over tr in
    record {
      told = λ p w.
          let ps = beyond 32 (length p.switches) (d.at ∷ []) in
          let qs = beyond 128 (length (all_entries p)) (places (keep (is word) (statement_at s d.begin))) in
          let rs = texts_excess s d.begin p in
          let o : d.list.over ≡ fault_of qs = pre.list.over_is ∙ ap (λ (m : ℕ). fault_of (drop (128 - m) (places (keep (is word) (statement_at s d.begin))))) (entry_count c p w) in
          y_is ∙ ap (lower a) (t.told p w) ∙ ap (λ (z : Fault). lower z (lower d.list.over (fault_of rs))) (h p w) ∙ ap (λ (z : Fault). lower (fault_of ps) (lower z (fault_of rs))) o
          ∙ sym (ap fault_of (append_assoc ps qs rs) ∙ fault-both ps (qs ++ rs) ∙ ap (lower (fault_of ps)) (fault-both qs rs));
      holds = λ q.
          let k = lower-clear d.list.over tr (lower-clear a (lower d.list.over tr) (sym y_is ∙ q)).1 in
          t.holds k.0 k.1;
      beyond_same = t.beyond_same;
    }
