-- The answer of a call that fills a buffer is read back from the 64 bits; "its rest stays".
use Rattle.std.specs.Prelude.{◌≡◌, refl, Ok, Err, List, ℕ, ◌/◌, ◌%◌, ◌≤◌, ◌<◌, length, drop}
use Rattle.std.proofs.Common.{sym, ap, ◌∙◌, arith, length-append, length-drop, drop_at}
use Rattle.calls.proofs.AnswerLaws.{packed-number, packed-value}
use Rattle.calls.specs.Calls.{packed}
use Rattle.calls.specs.Filling.{Filling, filling_number, filling_count, filling_answer, filled_in, Fills, Filled, filled_of, filled_number, filled_count, Gives}
use Rattle.calls.specs.Filling.Filling.{kept, fills}
use Rattle.calls.specs.Questions.{numbered}

pub count-of : (x : Filling) → filled_count (filled_of x) ≡ filling_count x
count-of (kept number) = refl
count-of (fills number t) = refl

pub count-numbered : (r : Filled) → filled_count (numbered r) ≡ filled_count r
count-numbered (Ok n) = refl
count-numbered (Err q) = refl

-- number and count, put together
pub gives-fills : (x : Filling) (r : Filled) (b b' : List ℕ) → Gives x r b b' → Fills x (packed (filled_number r) (filled_count r)) b b'
gives-fills x r b b' g =
    record {
      answer = ap (λ n. packed n (filled_count r)) g.number_is ∙ ap (packed (filling_number x)) (sym (count-numbered r) ∙ ap filled_count g.result_is ∙ count-of x);
      cells = g.cells_are;
    }

pub rest-stays : (x : Filling) (b : List ℕ) → drop (filling_count x) (filled_in x b) ≡ drop (filling_count x) b
unfolding filled_in
rest-stays (kept number) b = refl
rest-stays (fills number t) b = drop_at t (drop (length t) b) (length t) refl

pub filled-length : (x : Filling) (b : List ℕ) → filling_count x ≤ length b → length (filled_in x b) ≡ length b
unfolding filled_in
filled-length (kept number) b h = refl
filled-length (fills number t) b h = omega (arith, length-append t (drop (length t) b), length-drop (length t) b)

module _ (x : Filling) (low : filling_count x < 4294967296) where
  pub number-back : filling_answer x / 4294967296 ≡ filling_number x
  number-back = packed-number (filling_number x) (filling_count x) low

  pub count-back : filling_answer x % 4294967296 ≡ filling_count x
  count-back = packed-value (filling_number x) (filling_count x) low
