-- From the two faults to the verdict, and from the changes of the table to the program.
use mathlib.Core.Path.{◌≡◌, refl, sym, ap, ◌∙◌, subst}
use mathlib.Core.List.{List, [], ◌∷◌}
use Prim.Native.Nat.{ℕ}
use native.Mathlib.Omega.{arith}
use lib.ListN.{length}
use Rattle.drafts.specs.Drafting.{draft_program}
use Rattle.drafts.specs.Tabled.{Tabled}
use Rattle.layout.specs.Table.{all_entries}
use Rattle.linking.proofs.Faults.{joined-clear}
use Rattle.linking.specs.Resolving.{code_resolved, entries_resolved, Labelling}
use Rattle.statements.specs.StatementAt.{fault_of}
use Rattle.statements.specs.Faults.{Fault, Verdict, decided, verdict_of}
use Rattle.std.specs.Prelude.{None, Some}
use Rattle.syntax.proofs.LoadLaws.{goes_on, decides}
use Rattle.syntax.specs.Tables.{Tables}
use Rattle.syntax.specs.Verdict.{Question, ask, first_no}
use Rattle.syntax.specs.Verdict.Verdict.{yes, refuse}
use Rattle.writing.specs.Writing.{HoldsProgram, Changes}
use Rattle.linking.proofs.Relabelling.{linked-program, labelling}
use Rattle.linking.specs.Linking.{Kept, Finds, Links, label_places, switch_places}
use Rattle.statements.specs.declared.Refusal.{Refusal}
use Rattle.std.specs.Prelude.{Ok, Err}

clear : (ps : List ℕ) → None ≡ fault_of ps → ps ≡ []
clear ps e = (joined-clear None ps (sym e)).1

-- the place of a fault decides
abbrev place_of : Fault → ℕ
place_of None = 0
place_of (Some p) = p

at_fault : (n p : ℕ) (ps : List ℕ) (qs : List Question) → Some p ≡ fault_of ps → refuse n p ≡ first_no (ask n ps ∷ qs)
at_fault n p [] qs e = absurd (let z : ◌≡◌ {A = ℕ} 0 1 = cc in omega arith)
at_fault n p (q ∷ ps) qs e = ap (refuse n) (ap place_of e) ∙ sym (decides n q ps qs)

-- where a question is decided: no at a place at fault, or yes
pub refused-at : (n : ℕ) (r : Refusal) (f : Fault) → verdict_of (Err r) ≡ decided n f → (verdict_of (Err r) ≡ refuse n r.at) × (f ≡ Some r.at)
refused-at n r None e = absurd (let z : ◌≡◌ {A = ℕ} 0 1 = cc in omega arith)
refused-at n r (Some p) e = let q : p ≡ r.at = cc in (e ∙ ap (refuse n) q, ap Some q)

pub none-at : (n : ℕ) (f : Fault) {v : Verdict} → v ≡ Ok tt → verdict_of v ≡ decided n f → f ≡ None
none-at n None q e = refl
none-at n (Some p) q e = absurd (let x = sym (ap verdict_of q) ∙ e in let z : ◌≡◌ {A = ℕ} 0 1 = cc in omega arith)

both-clear : (n m : ℕ) (ps qs : List ℕ) → ps ≡ [] → qs ≡ [] → yes ≡ first_no (ask n ps ∷ ask m qs ∷ [])
unfolding first_no
both-clear n m ps qs e f =
    sym ((λ j. first_no (ask n (e j) ∷ ask m (f j) ∷ [])) ∙ goes_on n (ask m [] ∷ []) ∙ goes_on m [])

module _ (s c sw en : List ℕ) where
  pub no_label : {f : Fault} (r : Refusal) → Finds s c sw en label_places f → verdict_of (Err r) ≡ decided 12 f → Links s c sw en (Err r) c
  no_label r u e = let x = refused-at 12 r _ e in
      record {
        verdict_is = λ lines t h. x.0 ∙ at_fault 12 r.at (label_places t) (ask 13 (switch_places t) ∷ []) (sym x.1 ∙ u.is lines t h);
        holds = λ q. absurd (let z : ◌≡◌ {A = ℕ} 0 1 = cc in omega arith);
        beyond = refl;
      }

  -- every used label is declared
  module _ {f : Fault} (u : Finds s c sw en label_places f) (e : f ≡ None) where
    declared : (lines : List ℕ) (t : Tables) → Tabled s lines t c sw en → label_places t ≡ []
    declared lines t h = clear (label_places t) (sym e ∙ u.is lines t h)

    pub no_switch : {g : Fault} (r : Refusal) → Finds s c sw en switch_places g → verdict_of (Err r) ≡ decided 13 g → Links s c sw en (Err r) c
    no_switch r v i = let x = refused-at 13 r _ i in
        record {
          verdict_is = λ lines t h. x.0 ∙ at_fault 13 r.at (switch_places t) [] (sym x.1 ∙ v.is lines t h) ∙ sym (goes_on 12 (ask 13 (switch_places t) ∷ []))
              ∙ ap (λ (ps : List ℕ). first_no (ask 12 ps ∷ ask 13 (switch_places t) ∷ [])) (sym (declared lines t h));
          holds = λ q. absurd (let z : ◌≡◌ {A = ℕ} 0 1 = cc in omega arith);
          beyond = refl;
        }

    pub entries-labelled : {d : List ℕ} → Kept s c sw en → Changes (λ p. code_resolved s sw (length p.code) p) c d → Labelling s d en
    entries-labelled k x =
        labelling s k.lines k.tables c sw en k.tabled (declared k.lines k.tables k.tabled) (x.holds (draft_program k.lines k.tables) k.tabled.holds)

    pub all-linked : {g : Fault} {d d' : List ℕ} → Finds s c sw en switch_places g → g ≡ None → Changes (λ p. code_resolved s sw (length p.code) p) c d
        → Changes (λ p. entries_resolved s en (length (all_entries p)) p) d d' → Links s c sw en (Ok tt) d'
    all-linked {g} {d} {d'} v i x y =
        record {
          verdict_is = λ lines t h. both-clear 12 13 (label_places t) (switch_places t) (declared lines t h) (clear (switch_places t) (sym i ∙ v.is lines t h));
          holds = λ q lines t h. let p = draft_program lines t in
              subst (HoldsProgram d') (linked-program s lines t c sw en h) (y.holds (code_resolved s sw (length p.code) p) (x.holds p h.holds));
          beyond = y.beyond ∙ x.beyond;
        }
