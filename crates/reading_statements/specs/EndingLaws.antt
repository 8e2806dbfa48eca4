-- A statement that is neither an instruction nor a switch: SEKCJA, KONS, KONP, or labels alone.
use Rattle.std.specs.Prelude.{Bool, false, List, [], ◌≡◌, refl, ℕ, ◌≤◌, length, Ok, Err}
use Rattle.std.proofs.Common.{sym, ap, ◌∙◌, subst}
use Rattle.statements.specs.Places.{InText}
use Rattle.progress.specs.Below.Headings.{mark_first, Rests, FirstTold, FollowsTold}
use Rattle.progress.specs.Below.Rest.{Rest}
use Rattle.heads.specs.Heads.{head_keyword, Headed, instr_of, is_switch}
use Rattle.heads.specs.declared.Head.{Head}
use Rattle.language.specs.Limits as limit
use Rattle.language.specs.Program.{Op}
use Rattle.progress.specs.Advancing.{SectionTold}
use Rattle.progress.specs.AdvancingLaws.{section-before, section-first}
use Rattle.progress.specs.declared.Progress.{Progress}
use Rattle.statements.specs.Checks.{worst}
use Rattle.statements.specs.FaultLaws.{then-yes}
use Rattle.statements.specs.Faults.{verdict_of}
use Rattle.statements.specs.Groups.{early_questions}
use Rattle.statements.specs.StatementAt.{statement_at, fault_of}
use Rattle.statements.specs.Faults.{Fault}
use Rattle.std.specs.Prelude.{Option, None, Some}
use Rattle.statements.specs.Faults as told
use Rattle.declaring_switches.specs.Below.SwitchLaws.{other}
use Rattle.syntax.specs.Questions.{instr_beyond, switch_beyond}
use Rattle.syntax.specs.Statements.{by_keyword, keyword_in}
use Rattle.syntax.specs.Tables.{Draft, all_labels, with_instr, with_switch}
use Rattle.syntax.specs.Verdict.{first_no}
use Rattle.reading_statements.specs.Admitting.{AskedLast}
use Rattle.reading_statements.specs.Asking.{HeadAsked}
use Rattle.reading_statements.specs.GatheringLaws.{all_short}
use Rattle.reading_statements.specs.KindLaws.{worst-whole, neither-asked}
use Rattle.reading_statements.specs.QuestionLaws.{early-told}
use Rattle.reading_statements.specs.ReadLaws.{plain, read_as}
use Rattle.reading_statements.specs.ReadingStatements.{Read, Reading, Finishes, ReadsEnding, EndingTold}
use Rattle.reading_statements.specs.declared.Ending.{Ending}

pub restable : {s : List ℕ} {n : ℕ} {h : Head} → Headed s n h → length s ≤ limit.text → InText s h.op
restable k low = record { low = low; stands = k.stands }

-- 11 has no fault
none_last : (u : told.Verdict) → AskedLast (λ f. f ≡ None) u u
none_last (Ok tt) = (None, (refl, refl))
none_last (Err w) = refl

module _ {s : List ℕ} {h : Head} (no_number : instr_of (head_keyword h) ≡ 0) (no_switch : is_switch (head_keyword h) ≡ false) {r : Rest} (o : Rests s h.op h.worst r) where
  pub whole-rest : {n : ℕ} → Headed s n h → r.worst ≡ worst (statement_at s n)
  whole-rest k = worst-whole k o.worst_is

  none_here : {X : Type 0} {n : ℕ} → Headed s n h → (f : Op → X) (f' : Bool → X) (z : X) → by_keyword f f' z (keyword_in (statement_at s n)) ≡ z
  none_here {n = n} k f f' z =
      other f f' z (keyword_in (statement_at s n)) (sym (ap instr_of k.keyword) ∙ no_number) (sym (ap is_switch k.keyword) ∙ no_switch)

  module _ {g : Progress} {ms : List ℕ} {zero : Fault} (u : told.Verdict) (first : FirstTold s h r zero) (asked : HeadAsked s r.worst g h ms zero u) where
    early : {lines c sw en : List ℕ} (n : ℕ) (d : Draft) → Reading s lines n d g h ms c sw en → first_no (early_questions d (statement_at s n)) ≡ verdict_of u
    early n d k =
        let i = k.judging.headed in
        early-told d (statement_at s n) (asked n d k.judging (whole-rest i) (λ e. first n h.worst i o)) (neither-asked i no_number no_switch) (sym (then-yes (verdict_of u)))

    pub read_ending : {e : Ending} → EndingTold s h r g.section e → {y : Read} → Finishes g h e ms u y → ReadsEnding s g h ms y r.next
    read_ending t z lines c sw en =
        read_as {F = λ f. f ≡ None} {u = u} early
        (λ n d k b f q.
        let x = statement_at s n in
        let i = k.judging.headed in (
          q ∙ ap fault_of (sym (none_here i (λ op. instr_beyond d.tables (all_labels d x) x) (λ goes_by_name. switch_beyond d.tables x) [])),
          λ _. rw (none_here i (with_instr d.tables (all_labels d x) x) (with_switch d.tables (all_labels d x) x) d.tables) k.tabled,
        ))
        (λ n d k b. t n h.worst k.judging.headed o k.judging.inside (all_short k.judging (plain k b)))
        (λ n k. o.ends n k.place k.within k.token) u (record { asked = none_last u; beyond = refl }) z

-- the section's name and what follows, as they are told
module _ {s : List ℕ} {h : Head} {r : Rest} {after : Fault} where
  pub told-first : {section : Option ℕ} → FollowsTold s h r section after → section ≡ None → {m : Option ℕ} → m ≡ mark_first r.first
      → EndingTold s h r section (record { section = m; after = after })
  told-first f z {m} e n w k o inside short =
      (subst (λ (a : Option ℕ). SectionTold s n a m) (sym z) (subst (SectionTold s n None) (sym e) (section-first s n k o inside short)), f n w k o)

  pub told-later : {section : Option ℕ} → FollowsTold s h r section after → {m : ℕ} → section ≡ Some m → EndingTold s h r section (record { section = section; after = after })
  told-later f z n w k o inside short = (subst (λ (a : Option ℕ). SectionTold s n a a) (sym z) (section-before s n), f n w k o)
