-- `point_counts::table` meets its contract: the code's array is the table of the definitions. Assumes nothing.
use mathlib.Core.Path.{refl}
use Rattle.point_counts.specs.PointCounts.{point_counts}
use Rattle.point_counts.proofs.table.Goals as goal

pub returns : goal.returns
unfolding point_counts
returns c = refl
