-- What the program does with the bytes of a reader and of a writer, where they are known.
use Rattle.std.specs.Prelude.{ℕ, ◌≤◌, List, length, OnOk}
use Rattle.std.specs.declared.option.Option.{Option}
use Rattle.std.specs.declared.result.Result.{Result}
use Rattle.std.specs.Io.KnownBytes.{Appends, Consumes}
use Rattle.console.specs.Console.{printed}
use Rattle.language.specs.Limits as limit

-- the input is read, 65,536 bytes at most; unless a write fails, what it brings is written, once
pub record Answers {X E : Type 0} (before after : Option (List ℕ)) (held holds : Option (List ℕ)) (r : Result X E) : Type 0 where
  pub input : List ℕ
  pub most : length input ≤ limit.input
  pub read : Consumes before after input
  pub written : OnOk r (Appends held holds (printed input))
