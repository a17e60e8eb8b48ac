-- `projection::write_kept` meets its contract: what is written are the points kept below this one, and the count is theirs. Assumes nothing.
use mathlib.Core.Path.{◌≡◌}
use mathlib.Core.List.{map}
use lib.ListN.{length}
use Rattle.gf2.specs.Finite.{select}
use Rattle.table.specs.Decision.{front}
use Rattle.space.specs.Restriction.{project}
use Rattle.space.specs.Witness.{flagged}
use Rattle.projection.specs.Masks.{places_clear, is_kept}
use Rattle.projection.proofs.write_kept.Given as goal

abbrev pub invariant-loop-point : goal.invariant-loop-point
invariant-loop-point l = record {
  counted : l.count ≡ length (select (is_kept l.leads (flagged l.flags)) l.point);
  written : l.room ≡ front (map (project (places_clear l.n l.leads)) (select (is_kept l.leads (flagged l.flags)) l.point)) l.initial.room;
}
