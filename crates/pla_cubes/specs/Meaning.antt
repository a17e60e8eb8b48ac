-- What rows mean, by the type of the table: which points are on and which are free; all others are off. Read next: Flagging.
use Rattle.std.specs.Prelude.{Bool, true, false, not, ◌&&◌, Option, None, Some, List, ℕ, ◌^◌}
use Rattle.gf2.specs.Finite.{all}
use Rattle.pla_text.specs.declared.TableType.{TableType}
use Rattle.pla_text.specs.declared.TableType.TheVariants.{F, Fd, Fr}
use Rattle.pla_cubes.specs.Cubes.{Row, says, symbol0, symbol1, dash}

-- Of every type, a 1 says on.
abbrev pub on_at : List Row → ℕ → Bool
on_at rows p = says symbol1 rows p

-- By whether a 0 and whether a dash covers the point: of type f nothing is free; of type fr what no 0 covers is; of type fd, which is also that of
-- a table without type, what a dash covers.
unfoldable pub free_by : Option TableType → Bool → Bool → Bool
free_by None zero dashed = dashed
free_by (Some F) zero dashed = false
free_by (Some Fd) zero dashed = dashed
free_by (Some Fr) zero dashed = not zero

-- A free point, unless it is on.
abbrev pub free_at : Option TableType → List Row → ℕ → Bool
free_at kind rows p = free_by kind (says symbol0 rows p) (says dash rows p)

-- No point of n variables passes both tests.
abbrev pub apart_below : (ℕ → Bool) → (ℕ → Bool) → ℕ → Bool
apart_below f g n = all (λ p. not (f p && g p)) (2 ^ n)

-- A table's type is fr.
abbrev pub is_fr : Option TableType → Bool
is_fr None = false
is_fr (Some F) = false
is_fr (Some Fd) = false
is_fr (Some Fr) = true

-- Of type fr, a point is both on and off.
unfoldable pub contradicts : Option TableType → ℕ → List Row → Bool
contradicts kind n rows = is_fr kind && not (apart_below (on_at rows) (says symbol0 rows) n)
