-- Numbers above every cell of a macro, of a change and of a call, so that sums of cells fit; and the most cells of a change.
use Rattle.std.specs.Prelude.{ℕ}

abbrev pub near : ℕ
near = 4294967296

abbrev pub reach : ℕ
reach = 549755813888

abbrev pub far : ℕ
far = 1099511627776

abbrev pub widest : ℕ
widest = 131074
