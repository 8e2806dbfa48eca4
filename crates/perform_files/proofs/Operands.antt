-- From the arguments of the instructions of files to what their functions ask.
use mathlib.Core.List.{List}
use Prim.Native.Nat.{ℕ, ◌<◌}
use Rattle.lists.specs.Quoted.{bytes}
use Rattle.language.specs.Limits as limit
use Rattle.language.specs.Program.{Arg, Op}
use Rattle.language.specs.Values.{State}
use Rattle.decoding.specs.Operands.{Listed}
use Rattle.decoding.specs.OperandLaws.{form-letter}
use Rattle.table.specs.Good.{GoodArgument}
use Rattle.table.specs.declared.Argument.{Argument}
use Rattle.table.specs.LetterLaws.{listed-letter}
use Rattle.copying.specs.Copies.{RecordsRemovable, RecordsMovable}
use Rattle.tests.specs.Prepares.{OtherLetter}
use Rattle.perform_pointers.specs.Below.Operating.{Carrying}
use Rattle.perform_pointers.specs.Below.CarryingLaws.{good-itself}

module _ {c : List ℕ} {σ : State} {op : Op} {x y z : Argument} (w : Carrying c σ op x y z) {a : Arg} {t : Argument} (g : GoodArgument c a t)
    (m : Listed c (bytes "-nNtBTE") t) where
  pub removable : {i : ℕ} → i < limit.files → RecordsRemovable c i t
  removable h =
      record {
        test = record { good = good-itself g; form = form-letter c (bytes "-nNtBTE") (listed-letter OtherLetter (bytes "-nNtBTE") tt tt tt tt) m };
        source = h;
      }

  pub movable : {i j : ℕ} → i < limit.files → j < limit.files → RecordsMovable c i j t
  movable h k = record { removable = removable h; target = k }
