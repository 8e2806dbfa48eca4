-- The numbers of an answer that is a result.
use mathlib.Core.Path.{◌≡◌, refl, sym, ap, ◌∙◌}
use mathlib.Core.List.{List}
use Prim.Native.Nat.{ℕ}
use lib.ListN.{length}
use Rattle.calls.specs.Calls.{packed}
use Rattle.calls.specs.Filling.{Filling, filling_number, filled_number, filled_count, Filled, Fills, Gives, Taken, taken_number}
use Rattle.calls.proofs.FillingLaws.{count-of, count-numbered, gives-fills}
use Rattle.calls.specs.Questions.{numbered}
use Rattle.std.specs.Prelude.{Result, Ok, Err}
use Rattle.class_calls.specs.Class.{Lent, ClassReply, class_of, class_number}
use Rattle.class_calls.specs.Class.ClassReply.{class_refused, taken}
use Rattle.class_running.specs.ClassRunning.{taken_by, Classes}
use Rattle.macros.specs.Load.{load_in}
use Rattle.shorten_calls.specs.Shortening.{shorten_of}
use Rattle.shortening.specs.Below.Told.{Loaded, loaded_number, loaded_line}
use Rattle.shortening.specs.Below.ToldLaws.{number-told, line-told}
use Rattle.shortening.specs.Below.Loading.{Loads}
use Rattle.shortening.specs.Trying.{Answer, shortened_number, shortened_filled, Shortens}
use Rattle.state_frames.specs.Keeping.{Reading, Reads, Restores}
use Rattle.interpreter.specs.Answers.{AnswersLoad, AnswersShorten, AnswersClass}

pub answers-load : {s c d : List ℕ} {l : Loaded} {r : ℕ} → Loads s c l d → r ≡ packed (loaded_number l) (loaded_line l) → AnswersLoad (load_in (length c) s) c r d
answers-load {s} {c} {d} {l} k w =
    let x = load_in (length c) s in
    record { answer = w ∙ (λ i. packed (number-told l x k.is i) (line-told l x k.is i)); cells = k.cells_are }

pub answers-filled : {x : Filling} {t : Filled} {b b' : List ℕ} {r : ℕ} → Gives x t b b' → r ≡ packed (filled_number t) (filled_count t) → Fills x r b b'
answers-filled {x} {t} {b} {b'} g w = let f = gives-fills x t b b' g in record { answer = w ∙ f.answer; cells = f.cells }

pub answers-shorten : {s c b d b' : List ℕ} {t : Answer} {r : ℕ} → Shortens s c b t d b' → r ≡ packed (shortened_number t) (filled_count (shortened_filled t))
    → AnswersShorten s c b r d b'
answers-shorten {s} {c} {b} {d} {b'} {t} k w =
    let x = shorten_of (length c) (length b) s in
    record {
      fills = record {
        answer = w ∙ ap (λ n. packed n (filled_count (shortened_filled t))) k.number_is ∙ ap (packed (filling_number x)) (sym (count-numbered (shortened_filled t)) ∙ ap filled_count k.result_is ∙ count-of x);
        cells = k.cells_are;
      };
      cells = k.table_is;
    }

pub answers-reading : {x : Reading} {t : Taken} {m : List ℕ} {r : ℕ} → Restores x t m → r ≡ packed (taken_number t) 0 → Reads x r m
answers-reading g w = record { answer = w ∙ ap (λ n. packed n 0) g.number_is; cells = g.cells_are }

abbrev number_in : Result (Unit {0}) ℕ → ℕ
number_in (Ok u) = 80
number_in (Err n) = n

number-in : (t : Taken) → number_in (numbered t) ≡ taken_number t
number-in (Ok u) = refl
number-in (Err q) = refl

taken-told : (x : ClassReply) → number_in (taken_by x) ≡ class_number x
taken-told (class_refused number) = refl
taken-told (taken ps) = refl

pub answers-class : {c : List ℕ} {x : Lent} {t : Taken} {res out : List ℕ} {r : ℕ} → Classes c x t res out → r ≡ packed (taken_number t) 0 → AnswersClass c x r res out
answers-class {c} {x} {t} k w =
    record { answer = w ∙ ap (λ n. packed n 0) (sym (number-in t) ∙ ap number_in k.is ∙ taken-told (class_of c x)); results = k.results_are; outputs = k.outputs_are }
