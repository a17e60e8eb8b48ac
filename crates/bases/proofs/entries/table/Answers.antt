-- `bases::entries::table` meets its contract: the code's array is the table of the definitions. Assumes nothing.
use mathlib.Core.Path.{refl}
use Rattle.bases.specs.Entries.{entries}
use Rattle.bases.proofs.entries.table.Goals as goal

pub returns : goal.returns
unfolding entries
returns c = refl
