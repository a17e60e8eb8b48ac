-- `listing::try_list_primes` meets its contract: a refusal by the tests, or the end of the walk. Assumes nothing.
use mathlib.Core.Path.{◌≡◌, sym, subst}
use native.Mathlib.Omega.{arith}
use Rattle.cubes.specs.Listing.{listing_fault}
use Rattle.walk.specs.Walk.{has_stopped}
use Rattle.listing.specs.Answers.{call_of}
use Rattle.std.proofs.lemmas.Result.{err_from_is_err_and}
use Rattle.table.specs.Answers.{number_of}
use Rattle.table.proofs.Results.{number-nonzero}
use Rattle.listing.proofs.Refusals.{sound-few, sound-on, sound-free, on-points, free-points}
use Rattle.listing.proofs.Finish.{refused-numbers, refused-room, Finished, finish}
use Rattle.listing.proofs.try_list_primes.Goals as goal
use Rattle.listing.proofs.try_list_primes.Goals.{After-tally_of-tally, In_ok-check_call}

pub returns-in_err-check_call : goal.returns-in_err-check_call
unfolding listing_fault
returns-in_err-check_call c =
    let a = c.args in
    let f = c.in_err-check_call.field-0.0 in
    let q = call_of a.n a.on.now a.free.now a.place a.allowance a.room.now in
    let p = err_from_is_err_and c.from_residual.result c.from_residual.ensures.1 in
    rw (p.1, p.2) (record {
      numbers = refused-numbers q (number_of f) c.in_err-check_call.ensures (number-nonzero f);
      room_after = refused-room q (number_of f) c.in_err-check_call.ensures (number-nonzero f);
    })

-- The call has no refusal.
sound : (c : In_ok-check_call) → let a = c.args in listing_fault (call_of a.n a.on.now a.free.now a.place a.allowance a.room.now) ≡ 0
unfolding listing_fault
sound c = sym c.in_ok-check_call.ensures

pub mask_of-on_mask-requires : goal.mask_of-on_mask-requires
mask_of-on_mask-requires c = let a = c.args in sound-on a.n a.on.now a.free.now a.place a.allowance a.room.now (sound c)

pub mask_of-free_mask-requires : goal.mask_of-free_mask-requires
mask_of-free_mask-requires c =
    let a = c.args in sound-free a.n a.on.now a.free.now a.place a.allowance a.room.now (sound (goal.at.mask_of-free_mask-requires c).In_ok-check_call)

pub start_at-start-requires : goal.start_at-start-requires
start_at-start-requires c =
    let a = c.args in
    sound-few a.n a.on.now a.free.now a.place a.allowance a.room.now (sound (goal.at.start_at-start-requires c).In_ok-check_call)

pub point_at-first-requires : goal.point_at-first-requires
point_at-first-requires c =
    let a = c.args in
    record {
      n_le_max_listed = sound-few a.n a.on.now a.free.now a.place a.allowance a.room.now (sound (goal.at.point_at-first-requires c).In_ok-check_call);
      degree_le_n = c.start_at-start.ensures.short;
    }

pub walk-walked-requires : goal.walk-walked-requires
walk-walked-requires c =
    let a = c.args in
    let e = sound (goal.at.walk-walked-requires c).In_ok-check_call in
    let few = sound-few a.n a.on.now a.free.now a.place a.allowance a.room.now e in
    record {
      on_points = on-points a.n a.on.now a.free.now a.place a.allowance a.room.now e c.mask_of-on_mask.result c.mask_of-on_mask.ensures;
      free_points = free-points a.n a.on.now a.free.now a.place a.allowance a.room.now e c.mask_of-free_mask.result c.mask_of-free_mask.ensures;
      n_le_max_listed = few;
      degree_le_n = c.start_at-start.ensures.short;
      point_bound = c.point_at-first.ensures.below;
    }

-- The walk has ended, with this tally.
tallied : (c : After-tally_of-tally) → let a = c.args in
    listing_fault (call_of a.n a.on.now a.free.now a.place a.allowance a.room.now) ≡ 0
    → Finished a.n a.on.now a.free.now a.place a.allowance a.room.now (record { tally = c.tally_of-tally.result; stopped = has_stopped c.walk-walked.result; room = c.walk-walked.new.room })
tallied c e =
    let a = c.args in
    subst (λ t. Finished a.n a.on.now a.free.now a.place a.allowance a.room.now (record { tally = t; stopped = has_stopped c.walk-walked.result; room = c.walk-walked.new.room }))
    (sym c.tally_of-tally.ensures)
    (finish a.n a.on.now a.free.now a.place a.allowance a.room.now e c.start_at-start.result c.start_at-start.ensures
    c.point_at-first.result c.point_at-first.ensures c.mask_of-on_mask.result c.mask_of-free_mask.result c.mask_of-on_mask.ensures c.mask_of-free_mask.ensures _ c.walk-walked.ensures)

pub overflow_sub-passed : goal.overflow_sub-passed
overflow_sub-passed c = let p = goal.at.overflow_sub-passed c in (tallied p.After-tally_of-tally (sound p.In_ok-check_call)).left

pub overflow_add-result : goal.overflow_add-result
overflow_add-result c = let p = goal.at.overflow_add-result c in omega (arith, (tallied p.After-tally_of-tally (sound p.In_ok-check_call)).fits)

pub returns : goal.returns
returns c =
    let p = goal.at.returns c in
    let f = tallied p.After-tally_of-tally (sound p.In_ok-check_call) in
    record { numbers = f.numbers; room_after = f.room }
