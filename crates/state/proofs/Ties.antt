-- Records stored by an argument: its letter's use tells on which side of the pointer, and whether they are turned round.
use mathlib.Core.Path.{◌≡◌, refl}
use mathlib.Core.Bool.{Bool, true, false, cond}
use mathlib.Core.List.{List, ◌++◌, reverse}
use Prim.Native.Nat.{◌+◌}
use lib.ListN.{length}
use Rattle.store.specs.Below.Letters.{use_of}
use Rattle.store.specs.Below.Program.{Arg}
use Rattle.store.specs.Below.LanguageValues.{Component, Record, File, Store}
use Rattle.store.specs.Below.MachineArguments.{use_by, file_of}
use Rattle.store.specs.Below.Changes.{with_files, put, stamped, stored}
use Rattle.state.specs.Working.{filing, turned, filed}

pub turns-so : (b : Bool) → (use_of (filing b)).reverses ≡ b
turns-so true = refl
turns-so false = refl

-- the new records to the pointer
filed-by : (b : Bool) (new : List Record) (f : File)
    → cond b (record { before = f.before; after = reverse new ++ f.after }) (record { before = f.before ++ new; after = f.after }) ≡ filed b (turned b new) f
filed-by true new f = refl
filed-by false new f = refl

pub stored_is : (a : Arg) (xs : List (List Component)) (s : Store)
    → stored a xs s
    ≡ with_files (put s.files a (filed (use_by a).reverses (turned (use_by a).reverses (stamped s.last xs)) (file_of s a))) (s.last + length xs) s
unfolding stored
stored_is a xs s = rw (filed-by (use_by a).reverses (stamped s.last xs) (file_of s a))
