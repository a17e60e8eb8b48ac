-- `closure_set::allowed_points` meets its contract: a point of either list. Assumes nothing.
use mathlib.Core.Path.{ap₂, ◌∙◌}
use mathlib.Core.Bool.{◌||◌}
use Rattle.closure_set.proofs.allowed_points.Goals as goal

pub returns : goal.returns
returns c x = c.either.ensures x ∙ ap₂ ◌||◌ (c.set_of-on_set.ensures x) (c.set_of-free_set.ensures x)
