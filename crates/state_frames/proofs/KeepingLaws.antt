-- Laws of the writer and the reader: what is written is read back, what is read has one form only, and refused calls change nothing.
use Rattle.std.specs.Prelude.{◌≡◌, ◌≢◌, Bool, false, cond, ◌&&◌, ℕ, T}
use Rattle.std.proofs.Math.Path.{refl, sym, ap}
use Rattle.std.proofs.Common.{◌∙◌, subst}
use Rattle.std.proofs.Math.Bool.{true}
use mathlib.Core.List.{List, [], ◌∷◌}
use Rattle.lists.specs.ListLaws.{T-left, T-right, T-both, part, parts}
use Rattle.lists.specs.Lists.{all, if_any, among}
use Rattle.language.specs.Program.{Program}
use Rattle.language.specs.Values.{State, Inputs}
use Rattle.machine.specs.Steps.{Question, refusals}
use Rattle.machine.specs.WellFormed.{good_program, good_inputs, good_state}
use Rattle.layout.proofs.FineLaws.{good-fine}
use Rattle.layout.specs.Memory.{state_of, long_enough, written}
use Rattle.layout.proofs.MemoryLaws.{written_back}
use Rattle.layout.specs.Table.{program_of, good_table}
use Rattle.layout.proofs.TableLaws.{table-facts}
use Rattle.calls.specs.Answers.{FirstNo}
use Rattle.calls.proofs.QuestionLaws.{none-no, first-among}
use Rattle.state_frames.specs.Frames.{frames_text, sound_text, frames_in, same_frames}
use Rattle.state_frames.proofs.FrameLaws.{text-sound, frames-back, text-of-frames, same_frames-eq, same_frames-refl}
use Rattle.state_frames.specs.Saved.{frames_of, saved, restored, well_framed}
use Rattle.state_frames.proofs.SavedLaws.{restored-back, frames-ok}
use Rattle.state_frames.specs.Keeping.{Reading, read_questions, read_refused, read_accepted, read_of}

-- where all questions are answered yes, none is answered no
pub all_yes : (qs : List Question) → T (all (λ q. q.1) qs) → refusals qs ≡ []
all_yes [] h = refl
all_yes (q ∷ qs) h = go q.1 h (all_yes qs)
  where
    go : (b : Bool) → T (b && all (λ q. q.1) qs) → (T (all (λ q. q.1) qs) → refusals qs ≡ []) → cond b (refusals qs) (q.0 ∷ refusals qs) ≡ []
    go true k r = r k
    go false k r = absurd k

-- ---- how the reader's call is decided

module _ (c : List ℕ) (ins : Inputs) (t m : List ℕ) where
  abbrev asked : List Question
  asked = read_questions c ins t m

  abbrev tests : List Bool
  tests = good_table c ∷ good_inputs ins ∷ long_enough m ∷ sound_text t ∷ well_framed (program_of c) ins (frames_in t) ∷ []

  -- each of its five questions is answered yes
  pub record ReadYes : Type 0 where
    pub table_good : T (good_table c)
    pub inputs_good : T (good_inputs ins)
    pub long : T (long_enough m)
    pub sound : T (sound_text t)
    pub framed : T (well_framed (program_of c) ins (frames_in t))

  -- "the first no decides"
  pub data ReadDecision : Reading → Type 0 where
    answered_no : {number : ℕ} → FirstNo number asked → ReadDecision (read_refused m number)
    answered_yes : ReadYes → ReadDecision (read_accepted (restored (frames_in t)) m)

  pub read-decided : ReadDecision (read_of c ins t m)
  unfolding read_of
  read-decided = go (refusals asked) refl
    where
      go : (ns : List ℕ) → refusals asked ≡ ns → ReadDecision (if_any (read_accepted (restored (frames_in t)) m) (read_refused m) ns)
      go [] e =
          let yes = part tests (none-no asked e) in
          answered_yes (record { table_good = yes 0; inputs_good = yes 1; long = yes 2; sound = yes 3; framed = yes 4 })
      go (n ∷ ns) e = answered_no (ns, e)

  pub read_taken : ReadYes → read_of c ins t m ≡ read_accepted (restored (frames_in t)) m
  unfolding read_of
  read_taken y =
      ap (if_any (read_accepted (restored (frames_in t)) m) (read_refused m))
      (all_yes asked (parts tests (y.table_good, (y.inputs_good, (y.long, (y.sound, (y.framed, tt)))))))

  -- a refusal has the number of the first question answered no, which is none of acceptance
  pub refused-by : (number : ℕ) → FirstNo number asked → read_of c ins t m ≡ read_refused m number
  unfolding read_of
  refused-by number h = ap (if_any (read_accepted (restored (frames_in t)) m) (read_refused m)) h.1

  no-80 : (number : ℕ) → FirstNo number asked → number ≢ 80
  no-80 number h e = subst (λ (n : ℕ). T (among n (62 ∷ 61 ∷ 63 ∷ 68 ∷ 69 ∷ []))) e (first-among number asked h)

  -- "A refused call changes nothing."
  pub refused-reads-keep : (read_of c ins t m).number ≢ 80 → (read_of c ins t m).cells ≡ m
  refused-reads-keep = go (read_of c ins t m) read-decided
    where
      go : (r : Reading) → ReadDecision r → r.number ≢ 80 → r.cells ≡ m
      go r (answered_no h) k = refl
      go r (answered_yes y) k = absurd (k refl)

  -- an accepted text
  pub accepted-yes : (read_of c ins t m).number ≡ 80 → ReadYes
  accepted-yes = go (read_of c ins t m) read-decided
    where
      go : (r : Reading) → ReadDecision r → r.number ≡ 80 → ReadYes
      go r (answered_no {number = n} h) e = absurd (no-80 n h e)
      go r (answered_yes y) e = y

  module _ (y : ReadYes) where
    abbrev s : State
    s = restored (frames_in t)

    abbrev same : Bool
    same = same_frames (frames_in t) (frames_of s)

    pub read-good : T (good_state (program_of c) ins s)
    unfolding well_framed
    read-good = T-right same (good_state (program_of c) ins s) y.framed

    pub read-frames : frames_in t ≡ frames_of s
    unfolding well_framed
    read-frames = same_frames-eq (frames_in t) (frames_of s) (T-left same (good_state (program_of c) ins s) y.framed)

    pub read-text : t ≡ saved s
    unfolding saved
    read-text = sym (text-of-frames t y.sound) ∙ ap frames_text read-frames

    pub read_left : state_of (written s m) ≡ s
    read_left = written_back s (good-fine (program_of c) ins s (table-facts c y.table_good).good y.inputs_good read-good) m

  -- "every state has one form only": an accepted text is the one that its state is saved as
  pub one_form : (read_of c ins t m).number ≡ 80 → t ≡ saved (state_of (read_of c ins t m).cells)
  one_form e =
      let y = accepted-yes e in
      read-text y ∙ ap saved (sym (read_left y)) ∙ ap (λ (r : Reading). saved (state_of r.cells)) (sym (read_taken y))

-- ---- what is written is read back

module _ (p : Program) (ins : Inputs) (s : State) (gp : T (good_program p)) (gi : T (good_inputs ins)) (g : T (good_state p ins s)) where
  pub saved-sound : T (sound_text (saved s))
  unfolding saved
  saved-sound = text-sound (frames_of s) (frames-ok p ins s gp gi g)

  pub saved-frames : frames_in (saved s) ≡ frames_of s
  unfolding saved
  saved-frames = frames-back (frames_of s) (frames-ok p ins s gp gi g)

  pub saved-back : restored (frames_in (saved s)) ≡ s
  saved-back = ap restored saved-frames ∙ restored-back s (good-fine p ins s gp gi g)

  pub saved-framed : T (well_framed p ins (frames_in (saved s)))
  unfolding well_framed
  saved-framed =
      rw (saved-back, saved-frames) (T-both (same_frames (frames_of s) (frames_of s)) (good_state p ins s) (same_frames-refl (frames_of s)) g)

-- a well-formed state, saved and read back on any memory long enough, is that state
pub read_back : (c : List ℕ) (ins : Inputs) (s : State) (m : List ℕ) → T (good_table c) → T (good_inputs ins) → T (good_state (program_of c) ins s)
    → T (long_enough m) → read_of c ins (saved s) m ≡ read_accepted s m
read_back c ins s m tc gi g h =
    let p = program_of c in
    let gp = (table-facts c tc).good in
    read_taken c ins (saved s) m
    (record { table_good = tc; inputs_good = gi; long = h; sound = saved-sound p ins s gp gi g; framed = saved-framed p ins s gp gi g })
    ∙ ap (λ (s : State). read_accepted s m) (saved-back p ins s gp gi g)
