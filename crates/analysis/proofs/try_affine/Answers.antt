-- `analysis::try_affine` meets its contract: a refusal, or the directions, the least point and the projection of the on points.
-- Assumes nothing.
use Rattle.std.proofs.Common.{refl, sym, ap, ◌∙◌, length, ℕ, List, []}
use native.Mathlib.Nat.{pos_of_ne-zero}
use native.Mathlib.Omega.{arith}
use borrow.Author.Tests.{eqb-false}
use Rattle.std.proofs.lemmas.Result.{err_from_is_err_and}
use Rattle.table.specs.declared.Refusal.TheVariants.{Affine, Room}
use Rattle.table.specs.Decision.{front}
use Rattle.table.specs.Answers.{number_of}
use Rattle.table.proofs.Table.{accepted, not-outside, on-flags}
use Rattle.table.proofs.Results.{number-nonzero}
use Rattle.analysis.specs.Affine.{refused_affine}
use Rattle.analysis.proofs.AffineSpaces.{on-refused, on-empty, on-passed, projected-all, affine-numbers, affine-projected, affine-ways}
use Rattle.analysis.proofs.try_affine.Goals as goal

pub returns-in_err-check_table : goal.returns-in_err-check_table
returns-in_err-check_table c =
    let a = c.args in
    let e = c.in_err-check_table.field-0.0 in
    let p = err_from_is_err_and c.from_residual.result c.from_residual.ensures.1 in
    let both =
    (affine-ways a.n a.on.now a.room.now).faulty (number_of e) (on-refused a.n a.on.now (number_of e) c.in_err-check_table.ensures (number-nonzero e)) (number-nonzero e)
    (refused_affine e) refl in
    rw (p.1, p.2) (record { value = both.0; room_after = both.1 })

pub returns-then-is_empty : goal.returns-then-is_empty
returns-then-is_empty c =
    let n = c.args.n in
    let on = c.args.on.now in
    let both =
    (affine-ways n on c.args.room.now).faulty _ (on-empty n on (sym c.in_ok-check_table.ensures) (sym c.is_empty.ensures ∙ c.if-is_empty.true))
    (number-nonzero Affine) (refused_affine Affine) refl in
    record { value = both.0; room_after = both.1 }

-- Past the second test there is an on point, so that nothing but the room is refused.
pub returns-then-room-on : goal.returns-then-room-on
returns-then-room-on c =
    let n = c.args.n in
    let on = c.args.on.now in
    let both =
    (affine-ways n on c.args.room.now).short (on-passed n on (sym c.in_ok-check_table.ensures) (sym c.is_empty.ensures ∙ c.if-is_empty.false))
    (omega (arith, projected-all n on)) (refused_affine Room) refl in
    record { value = both.0; room_after = both.1 }

pub directions-basis-requires-clause-points_inside : goal.directions-basis-requires-clause-points_inside
directions-basis-requires-clause-points_inside c = on-flags (accepted c.args.n c.args.on.now [] (sym c.in_ok-check_table.ensures))

pub write_projection-requires : goal.write_projection-requires
write_projection-requires c =
    let t = accepted c.args.n c.args.on.now [] (sym c.in_ok-check_table.ensures) in
    record { n_le_max_variables = t.few; points_inside = not-outside c.args.n c.args.on.now t.on_below; room_enough = omega arith }

pub returns : goal.returns
returns c =
    let n = c.args.n in
    let on = c.args.on.now in
    let room = c.args.room.now in
    let least = c.reduce-least in
    let b = c.directions-basis in
    let some = sym c.is_empty.ensures ∙ c.if-is_empty.false in
    let both =
    (affine-ways n on room).whole (on-passed n on (sym c.in_ok-check_table.ensures) some) (omega (arith, projected-all n on)) _ _
    (affine-numbers n on b.result b.ensures.value (pos_of_ne-zero (eqb-false (length on) 0 some)) least.result least.ensures)
    (c.write_projection.ensures
    ∙ ap (λ (x : List ℕ). front x room) (affine-projected n on b.result b.ensures.value b.ensures.basis.reduced c.leads.result c.leads.ensures)) in
    record { value = both.0; room_after = both.1 }
