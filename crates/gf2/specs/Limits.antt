-- The limit on the number of variables; other limits of document 01 stand where they apply. No law of this crate depends on it. Read next: Finite.
use Rattle.std.specs.Prelude.{ℕ}

-- The largest number of variables of a table (document 01, "Points and spaces").
abbrev pub max_variables : ℕ
max_variables = 12
