-- Flags of each point that hold what the rows so far say: one for each of the symbols 1, 0 and dash. Read next: crate `pla_lines`.
use Rattle.std.specs.Prelude.{◌≡◌, false, ◌||◌, List, ℕ, ◌<◌, eqb, get_or}
use Rattle.table.specs.Flags.{max_points}
use Rattle.pla_cubes.specs.declared.PointFlags.{PointFlags}
use Rattle.pla_cubes.specs.Cubes.{Row, says, symbol0, symbol1, dash}

-- No row covers the point.
abbrev pub unsaid : PointFlags
unsaid = record { one = false; zero = false; dash = false }

-- What is said of a point, once a row that covers it has this symbol.
unfoldable pub marked : PointFlags → ℕ → PointFlags
marked said symbol = record { one = eqb symbol symbol1 || said.one; zero = eqb symbol symbol0 || said.zero; dash = eqb symbol dash || said.dash }

-- What the rows say of a point.
abbrev pub said_at : List Row → ℕ → PointFlags
said_at rows p = record { one = says symbol1 rows p; zero = says symbol0 rows p; dash = says dash rows p }

-- The flags hold what the rows say.
pub record Flagged (flags : List PointFlags) (rows : List Row) : Type 0 where
  pub points : (p : ℕ) → p < max_points → get_or flags p unsaid ≡ said_at rows p
