-- `projection::write_kept` meets its contract: what is written are the points kept below this one, and the count is theirs. Assumes nothing.
use mathlib.Core.Path.{◌≡◌, refl, sym, ap, ◌∙◌}
use mathlib.Core.Bool.{true, false}
use mathlib.Core.List.{map}
use Prim.Native.Nat.{ℕ, ◌^◌, ◌<◌}
use native.Mathlib.Omega.{arith}
use lib.ListN.{length, set}
use lib.Pow.{pow_mono}
use Rattle.gf2.specs.Finite.{select}
use Rattle.table.specs.Decision.{front}
use Rattle.space.specs.Restriction.{project}
use Rattle.space.specs.Witness.{flagged}
use Rattle.projection.specs.Masks.{places_clear, is_kept, kept}
use Rattle.table.proofs.Selecting.{count-step, write_step, written-room}
use Rattle.projection.proofs.write_kept.Goals as goal
use Rattle.projection.proofs.write_kept.Goals.{then-is_kept, else-is_kept}

pub loop-point-init : goal.loop-point-init
unfolding select
loop-point-init c = record { counted = refl; written = refl }

pub is_kept-requires : goal.is_kept-requires
is_kept-requires c = omega (arith, pow_mono c.requires.n_le_max_variables)

pub bounds-room-count : goal.bounds-room-count
unfolding kept
bounds-room-count c =
    let l = c.loop-point in
    let a = c.args in
    let t = is_kept a.leads (flagged a.flags.now) in
    let g = project (places_clear a.n a.leads) in
    omega (
      arith,
      written-room g t l.point (2 ^ a.n) a.room.now c.requires.flags_in_bounds (omega arith) (sym c.is_kept.ensures ∙ c.if-is_kept.true),
      l.invariant.counted,
    )

pub loop-point-preserved : goal.loop-point-preserved
unfolding kept
loop-point-preserved c =
    let l = c.loop-point in
    let a = c.args in
    let t = is_kept a.leads (flagged a.flags.now) in
    let g = project (places_clear a.n a.leads) in
    let known = sym c.is_kept.ensures in
    let room : t l.point ≡ true → l.count < length a.room.now =
    λ e. rw l.invariant.counted (written-room g t l.point (2 ^ a.n) a.room.now c.requires.flags_in_bounds (omega arith) e) in
    elim c.if-is_kept.branch [
      | then-is_kept w ↦ record {
        counted = count-step t l.point l.count c.if-is_kept.count l.invariant.counted true (known ∙ w.if-is_kept.true) w.count-is;
        written = write_step g t l.point l.count a.room.now l.room _ l.invariant.counted l.invariant.written room true (known ∙ w.if-is_kept.true)
            (w.room-is ∙ ap (set l.room l.count) (w.drop_places.ensures a.n (omega arith)));
      }
      | else-is_kept w ↦ record {
        counted = count-step t l.point l.count c.if-is_kept.count l.invariant.counted false (known ∙ w.if-is_kept.false) w.count-is;
        written = write_step g t l.point l.count a.room.now l.room _ l.invariant.counted l.invariant.written room false (known ∙ w.if-is_kept.false) w.room-is;
      }
    ]

pub returns : goal.returns
unfolding kept
returns c =
    let l = c.loop-point in
    let a = c.args in
    let e : l.point ≡ 2 ^ a.n = omega arith in
    l.invariant.written
    ∙ ap (λ (k : ℕ). front (map (project (places_clear a.n a.leads)) (select (is_kept a.leads (flagged a.flags.now)) k)) a.room.now) e
