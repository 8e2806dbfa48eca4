-- A round, and the rounds, over the bytes of a row.
use mathlib.Core.Path.{◌≡◌, refl, ap, sym, ◌∙◌, subst}
use mathlib.Core.Bool.{Bool, true, false, cond}
use mathlib.Core.List.{List, [], ◌∷◌, ◌++◌, reverse, reverse-append, reverse-reverse}
use Prim.Native.Nat.{ℕ, zero, suc, ◌≤◌, ◌<◌}
use native.Mathlib.Omega.{arith}
use lib.Dec.{eqb}
use lib.ListN.{length, take, drop, length-append, length-take, length-drop, take-append-drop}
use lib.Seq.{length-take-le, take-take, take_at, drop_at, take-append-le, drop-append-le, drop-length, take-length}
use borrow.Author.Tests.{eq-eqb, ne_eqb}
use Rattle.lists.specs.Lists.{joined}
use Rattle.language.specs.Limits as limit
use Rattle.calls.specs.Calls.{load_number}
use Rattle.macros.specs.Load.{load_of}
use Rattle.text_lines.specs.LineLaws.{joined-lines}
use Rattle.text_lines.specs.Lines.{lines}
use Rattle.shorten_calls.specs.Shortening.{number_of, round, round_of, rounds}
use Rattle.shorten_calls.specs.Parts.{InOrder}
use Rattle.shorten_calls.proofs.RoundLaws.{of-order, fewer, as_many}
use Rattle.shorten_calls.proofs.LineLaws.{joined-append, lines-lined, some-lined, lines-back, lighter, as-heavy, no_lines}
use Rattle.shortening.specs.Trying.{Ending, LineStart, cut, cut_number, Tryable, Cuttable, Tried, Rounded, Finished}

-- ---- one round

-- of the text in the first `size` bytes of d the lines before `left` are not yet tried; what the round leaves is still r
pub record Trying (d : List ℕ) (size left number : ℕ) (r : List (List ℕ)) : Type 0 where
  pub upto : left ≤ size
  pub within : size ≤ length d
  pub after : List (List ℕ)
  pub kept : drop left (take size d) ≡ joined after
  pub leads : round limit.table number after (reverse (lines (take left d))) ≡ r

round-begin : (d : List ℕ) (number : ℕ) → Trying d (length d) (length d) number (round_of limit.table number (lines d))
round-begin d number = record {
  upto = omega arith;
  within = omega arith;
  after = [];
  kept = ap (drop (length d)) (take-length d) ∙ drop-length d;
  leads = ap (λ (x : List ℕ). round limit.table number [] (reverse (lines x))) (take-length d);
}

-- what stands at the front of a row stands there with other bytes behind it
front-kept : {x : List ℕ} (e rest : List ℕ) {r : ℕ} → take r e ≡ x → r ≡ length x → take r (e ++ rest) ≡ x
front-kept {x} e rest {r} i z = take-append-le r e rest (omega (arith, length-take r e, ap length i, z)) ∙ i

tried-kept : {p e : List ℕ} {from to number r : ℕ} (rest : List ℕ) → Tried p from to number e r → Tried p from to number (e ++ rest) r
tried-kept {e = e} rest k = record { is = front-kept e rest k.is k.size; size = k.size }

rounded-kept : {p e : List ℕ} {number r : ℕ} (rest : List ℕ) → Rounded p number e r → Rounded p number (e ++ rest) r
rounded-kept {e = e} rest k = record { is = front-kept e rest k.is k.size; size = k.size }

pub finished-kept : {p e : List ℕ} {number r : ℕ} (rest : List ℕ) → Finished p number e r → Finished p number (e ++ rest) r
finished-kept {e = e} rest k = record { is = front-kept e rest k.is k.size; size = k.size }

-- the texts before and after a line was tried
module _ {d : List ℕ} {size left number : ℕ} {r : List (List ℕ)} (t : Trying d size left number r) {from : ℕ} (l : LineStart d left from) where
  abbrev p : List ℕ
  p = take size d

  abbrev line : List ℕ
  line = drop from (take left d)

  abbrev before : List (List ℕ)
  before = lines (take from d)

  -- the line and those before it
  parted : reverse (lines (take left d)) ≡ line ∷ reverse before
  parted = ap reverse l.is ∙ reverse-append before (line ∷ [])

  -- the number of the trial is that of the cut text
  tried-text : joined (reverse (reverse before) ++ t.after) ≡ cut p from left
  tried-text =
      ap (λ (ls : List (List ℕ)). joined (ls ++ t.after)) (reverse-reverse before)
      ∙ joined-append before t.after ∙ ap (λ (x : List ℕ). x ++ joined t.after) (joined-lines (take from d))
      ∙ ap (λ (x : List ℕ). x ++ joined t.after) (sym (take-take from size d (omega (arith, l.below, t.upto))))
      ∙ ap (λ (x : List ℕ). take from p ++ x) (sym t.kept)

  tried-number : number_of limit.table (reverse (reverse before) ++ t.after) ≡ cut_number p from left
  unfolding number_of
  tried-number = ap (λ (x : List ℕ). load_number (load_of x)) tried-text

  abbrev stays : Bool
  stays = eqb (cut_number p from left) number

  leads-on : round limit.table number (cond stays t.after (line ∷ t.after)) (reverse before) ≡ r
  unfolding round
  leads-on =
      ap (λ (k : ℕ). round limit.table number (cond (eqb k number) t.after (line ∷ t.after)) (reverse before)) (sym tried-number)
      ∙ ap (λ (ls : List (List ℕ)). round limit.table number t.after ls) (sym parted) ∙ t.leads

  long : length p ≡ size
  long = length-take-le size d t.within

  long-from : length (take from p) ≡ from
  long-from = length-take-le from p (omega (arith, long, l.below, t.upto))

  -- the text that is left, by whether the number stays
  abbrev left_text : Bool → List ℕ
  left_text b = cond b (cut p from left) p

  same-front : (b : Bool) → take from (left_text b) ≡ take from d
  same-front true = take_at (take from p) (drop left p) from long-from ∙ take-take from size d (omega (arith, l.below, t.upto))
  same-front false = take-take from size d (omega (arith, l.below, t.upto))

  front_of : take left d ≡ take left p
  front_of = sym (take-take left size d t.upto)

  line-and-rest : drop from p ≡ line ++ drop left p
  line-and-rest =
      ap (drop from) (sym (take-append-drop left p))
      ∙ drop-append-le from (take left p) (drop left p) (omega (arith, length-take-le left p (omega (arith, long, t.upto)), l.below))
      ∙ ap (λ (x : List ℕ). drop from x ++ drop left p) (sym front_of)

  same_rest : (b : Bool) → drop from (left_text b) ≡ joined (cond b t.after (line ∷ t.after))
  same_rest true = drop_at (take from p) (drop left p) from long-from ∙ t.kept
  same_rest false = line-and-rest ∙ ap (λ (x : List ℕ). line ++ x) t.kept

  enough : (b : Bool) → from ≤ length (left_text b)
  enough true = omega (arith, length-append (take from p) (drop left p), long-from)
  enough false = omega (arith, long, l.below, t.upto)

  no_more : (b : Bool) → length (left_text b) ≤ size
  no_more true = omega (arith, length-append (take from p) (drop left p), long-from, length-drop left p, long, l.below, t.upto)
  no_more false = omega (arith, long)

  module _ {d' : List ℕ} {size' : ℕ} (k : Tried p from left number d' size') (same : length d' ≡ length d) where
    small : size' ≤ size
    small = subst (λ (n : ℕ). n ≤ size) (sym k.size) (no_more stays)

    -- the bytes before the line are what they were
    untouched : take from d' ≡ take from d
    untouched =
        sym (take-take from size' d' (subst (λ (n : ℕ). from ≤ n) (sym k.size) (enough stays))) ∙ ap (take from) k.is ∙ same-front stays

    tried-on : Trying d' size' from number r
    tried-on = record {
      upto = subst (λ (n : ℕ). from ≤ n) (sym k.size) (enough stays);
      within = omega (arith, small, t.within, same);
      after = cond stays t.after (line ∷ t.after);
      kept = ap (drop from) k.is ∙ same_rest stays;
      leads = ap (λ (x : List ℕ). round limit.table number (cond stays t.after (line ∷ t.after)) (reverse (lines x))) untouched ∙ leads-on;
    }

  cuttable : {table : ℕ} → Tryable number table → Cuttable p from left number table
  cuttable e = record { tryable = e; upto = omega (arith, t.upto, long); some = omega (arith, l.below) }

pub ending : {d : List ℕ} {size left number : ℕ} {r : List (List ℕ)} → Trying d size left number r → 0 < left → Ending d left
ending t h = record { some = h; within = omega (arith, t.upto, t.within) }

-- no line is left to try
pub round-end : {p d : List ℕ} {size left number : ℕ} → Trying d size left number (round_of limit.table number (lines p)) → left ≡ 0 → Rounded p number d size
unfolding round
round-end {p} {d} {size} {left} {number} t z =
    let none : reverse (lines (take left d)) ≡ [] = ap (λ (n : ℕ). reverse (lines (take n d))) z ∙ ap reverse no_lines in
    let is_all : t.after ≡ round_of limit.table number (lines p) = ap (λ (ls : List (List ℕ)). round limit.table number t.after ls) (sym none) ∙ t.leads in
    let e : take size d ≡ joined (round_of limit.table number (lines p)) =
    ap (λ (n : ℕ). drop n (take size d)) (sym z) ∙ t.kept ∙ ap joined is_all in
    record { is = e; size = sym (length-take-le size d t.within) ∙ ap length e }

-- the loop of a round: what it has of the row d₀; row and table keep their lengths
pub record InRound (d₀ : List ℕ) (number table : ℕ) (d : List ℕ) (table' size left : ℕ) : Type 0 where
  pub trying : Trying d size left number (round_of limit.table number (lines d₀))
  pub same : length d ≡ length d₀
  pub table_is : table' ≡ table

module _ {d₀ : List ℕ} {number table : ℕ} (pre : Tryable number table) where
  pub in-round : InRound d₀ number table d₀ table (length d₀) (length d₀)
  in-round = record { trying = round-begin d₀ number; same = refl; table_is = refl }

  module _ {d : List ℕ} {table' size left : ℕ} (i : InRound d₀ number table d table' size left) where
    pub inside : size ≤ length d
    inside = i.trying.within

    module _ {from : ℕ} (l : LineStart d left from) where
      pub may-cut : Cuttable (take size d) from left number table'
      may-cut = cuttable i.trying l (record { refused = pre.refused; long = i.table_is ∙ pre.long })

      pub on-round : {e : List ℕ} (rest : List ℕ) {table'' size' : ℕ} → Tried (take size d) from left number e size' → length (e ++ rest) ≡ length d → table'' ≡ table'
          → InRound d₀ number table (e ++ rest) table'' size' from
      on-round rest k e g = record { trying = tried-on i.trying l (tried-kept rest k) e; same = e ∙ i.same; table_is = g ∙ i.table_is }

-- ---- the rounds

-- what the rounds leave of the text in the first `size` bytes of d is still r
pub record Going (d : List ℕ) (size number : ℕ) (r : List (List ℕ)) : Type 0 where
  pub within : size ≤ length d
  pub fuel : ℕ
  pub enough : length (lines (take size d)) ≤ fuel
  pub leads : rounds limit.table fuel number (lines (take size d)) ≡ r

rounds-begin : (d : List ℕ) (number : ℕ) → Going d (length d) number (rounds limit.table (length (lines d)) number (lines d))
rounds-begin d number = record {
  within = omega arith;
  fuel = length (lines d);
  enough = omega (arith, ap (λ (x : List ℕ). length (lines x)) (take-length d));
  leads = ap (λ (x : List ℕ). rounds limit.table (length (lines d)) number (lines x)) (take-length d);
}

module _ {d : List ℕ} {size number : ℕ} {r : List (List ℕ)} (g : Going d size number r) {d' : List ℕ} {left : ℕ} (k : Rounded (take size d) number d' left)
    (same : length d' ≡ length d) where
  abbrev was : List (List ℕ)
  was = lines (take size d)

  abbrev made : List (List ℕ)
  made = round_of limit.table number was

  made_in : InOrder made was
  made_in = of-order limit.table number was

  long-was : length (joined was) ≡ size
  long-was = ap length (joined-lines (take size d)) ∙ length-take-le size d g.within

  no_longer : left ≤ size
  no_longer = omega (arith, k.size, lighter made_in, long-was)

  lines-made : lines (take left d') ≡ made
  lines-made = ap lines k.is ∙ lines-back made (some-lined made was made_in (lines-lined (take size d)))

  -- none was dropped
  module _ (e : left ≡ size) where
    made-same : made ≡ was
    made-same = as-heavy made_in (lines-lined (take size d)) (sym k.size ∙ e ∙ sym long-was)

    ends : (f : ℕ) → rounds limit.table f number was ≡ was
    unfolding rounds
    ends zero = refl
    ends (suc f) =
        ap (λ (b : Bool). elim b as (λ (b : Bool). List (List ℕ)) [ true ↦ was | false ↦ rounds limit.table f number made ])
        (eq-eqb (length made) (length was) (ap length made-same))

    rounds-end : (take size d' ≡ joined r) × (size ≡ length (joined r))
    rounds-end =
        let all : r ≡ was = sym g.leads ∙ ends g.fuel in
        (ap (λ (n : ℕ). take n d') (sym e) ∙ k.is ∙ ap joined (made-same ∙ sym all), sym long-was ∙ ap (λ (ls : List (List ℕ)). length (joined ls)) (sym all))

  -- one was
  module _ (e : left ≡ size → ⊥) where
    falls : left < size
    falls = omega (arith, no_longer, e)

    not_same : length made ≡ length was → ⊥
    not_same q = e (k.size ∙ ap (λ (ls : List (List ℕ)). length (joined ls)) (as_many made_in q) ∙ long-was)

    goes : (f : ℕ) → length was ≤ f → rounds limit.table f number was ≡ r
        → (f' : ℕ) × (length made ≤ f') × (rounds limit.table f' number made ≡ r)
    unfolding rounds
    goes zero h q = absurd (not_same (omega (arith, h, fewer made_in)))
    goes (suc f) h q = (
      f,
      omega (arith, h, fewer made_in, not_same),
      sym (ap (λ (b : Bool). elim b as (λ (b : Bool). List (List ℕ)) [ true ↦ was | false ↦ rounds limit.table f number made ])
          (ne_eqb (length made) (length was) not_same)) ∙ q,
    )

    rounds-on : Going d' left number r
    rounds-on =
        let z = goes g.fuel g.enough g.leads in
        record {
          within = omega (arith, no_longer, g.within, same);
          fuel = z.0;
          enough = subst (λ (ls : List (List ℕ)). length ls ≤ z.0) (sym lines-made) z.1;
          leads = ap (λ (ls : List (List ℕ)). rounds limit.table z.0 number ls) lines-made ∙ z.2;
        }

-- the loop of the rounds
pub record InRounds (d₀ : List ℕ) (number table : ℕ) (d : List ℕ) (table' size : ℕ) : Type 0 where
  pub going : Going d size number (rounds limit.table (length (lines d₀)) number (lines d₀))
  pub same : length d ≡ length d₀
  pub table_is : table' ≡ table

module _ {d₀ : List ℕ} {number table : ℕ} (pre : Tryable number table) where
  pub in-rounds : InRounds d₀ number table d₀ table (length d₀)
  in-rounds = record { going = rounds-begin d₀ number; same = refl; table_is = refl }

  module _ {d : List ℕ} {table' size : ℕ} (i : InRounds d₀ number table d table' size) where
    pub within-rounds : size ≤ length d
    within-rounds = i.going.within

    pub may-try : Tryable number table'
    may-try = record { refused = pre.refused; long = i.table_is ∙ pre.long }

    module _ {d' : List ℕ} (rest : List ℕ) {left : ℕ} (k : Rounded (take size d) number d' left) (e : length (d' ++ rest) ≡ length d) where
      pub on-rounds : (left ≡ size → ⊥) → {table'' : ℕ} → table'' ≡ table' → InRounds d₀ number table (d' ++ rest) table'' left
      on-rounds z g = record { going = rounds-on i.going (rounded-kept rest k) e z; same = e ∙ i.same; table_is = g ∙ i.table_is }

      pub smaller : (left ≡ size → ⊥) → left < size
      smaller z = falls i.going (rounded-kept rest k) e z

      pub finished : left ≡ size → Finished d₀ number (d' ++ rest) size
      finished z = let q = rounds-end i.going (rounded-kept rest k) e z in record { is = q.0; size = q.1 }
