-- What the functions of arithmetic ask and tell. Numbers are their codes, the value with 8,388,607 added.
use Rattle.std.specs.Prelude.{◌≡◌, Bool, true, false, not, cond, ℕ, ◌≤◌, ◌<◌, ℤ, pos, neg_ℤ, nat_abs, ◌+ℤ◌, ◌-ℤ◌, ◌*ℤ◌, Result, IfOk}
use Rattle.std.specs.Int.Signed.{non_neg}
use Rattle.language.specs.Limits as limit
use Rattle.language.specs.Letters.Letter.{E}
use Rattle.language.specs.Program.{Op}
use Rattle.language.specs.Program.Op.{DODAJ, ODEJMIJ, MNOZ}
use Rattle.language.specs.Values.{State, in_range}
use Rattle.machine.specs.Arguments.{expr}
use Rattle.layout.specs.Cells.{uncode}
use Rattle.state.specs.Working.{nth}
use Rattle.state.specs.Blocks.{FirstParts}
use Rattle.instructions.specs.Questions.{told_by}
use Rattle.instructions.specs.declared.Question.{Question}
use Rattle.arithmetic.specs.declared.Computed.{Computed}
use Rattle.arithmetic.specs.declared.Computed.TheVariants.{Sum, Difference, Product}

abbrev pub negative : ℤ → Bool
negative z = not (non_neg z)

abbrev pub differ : Bool → Bool → Bool
differ true b = not b
differ false b = b

-- the number of a sign and a size
abbrev pub signed : Bool → ℕ → ℤ
signed t n = cond t (neg_ℤ (pos n)) (pos n)

-- two numbers of the machine; the second not zero
pub record Coded (a b : ℕ) : Type 0 where
  pub left : a ≤ 16777214
  pub right : b ≤ 16777214

pub record Divisible (a b : ℕ) : Type 0 where
  pub coded : Coded a b
  pub some : b ≡ 8388607 → ⊥

-- the size of a number
pub record Size (a r : ℕ) : Type 0 where
  pub is : r ≡ nat_abs (uncode a)
  pub most : r ≤ 8388607

-- r is the code of z
pub record Codes (z : ℤ) (r : ℕ) : Type 0 where
  pub is : uncode r ≡ z
  pub range : in_range z ≡ true
  pub most : r ≤ 16777214

-- 54, or the code of z
pub record InRange (z : ℤ) (r : Result ℕ Question) : Type 0 where
  pub told : told_by r ≡ cond (in_range z) 0 54
  pub is : IfOk r (λ c. Codes z c)

-- ---- instructions

abbrev pub op_of : Computed → Op
op_of Sum = DODAJ
op_of Difference = ODEJMIJ
op_of Product = MNOZ

abbrev pub value_of : Computed → ℤ → ℤ → ℤ
value_of Sum x y = x +ℤ y
value_of Difference x y = x -ℤ y
value_of Product x y = x *ℤ y

-- expression i begins with a number
pub record Numbered (σ : State) (i : ℕ) : Type 0 where
  pub index : i < limit.expressions
  pub first : FirstParts (expr σ.store (nth E i)) 1 5 0

pub record OneResult (σ : State) (i c : ℕ) : Type 0 where
  pub numbered : Numbered σ i
  pub most : c ≤ 16777214

pub record TwoResults (σ : State) (i c d : ℕ) : Type 0 where
  pub numbered : Numbered σ i
  pub left_most : c ≤ 16777214
  pub right_most : d ≤ 16777214
