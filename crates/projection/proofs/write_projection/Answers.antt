-- `projection::write_projection` meets its contract: after i turns the i first points of the answer are written. Assumes nothing.
use mathlib.Core.Path.{◌≡◌, ap, ◌∙◌}
use mathlib.Core.List.{List}
use Prim.Native.Nat.{ℕ, ◌+◌, ◌-◌, ◌^◌, ◌<◌}
use native.Mathlib.Omega.{arith}
use lib.ListN.{length, take, set, get_or, get_or-map}
use lib.Pow.{pow_pos}
use Rattle.gf2.specs.Bits.{◌⊕◌}
use Rattle.table.specs.Decision.{front}
use Rattle.table.proofs.Table.{inside-at}
use Rattle.table.proofs.Fill.{fill-next, fill-all}
use Rattle.space.specs.Restriction.{project}
use Rattle.projection.specs.Masks.{places_set, places_clear, projected}
use Rattle.projection.proofs.Masks.{projected-length, turned_set}
use Rattle.projection.proofs.write_projection.Goals as goal

pub overflow_sub-all : goal.overflow_sub-all
overflow_sub-all c = omega (arith, c.point_count-all.ensures, pow_pos c.args.n)

-- The places that are dropped are those clear in the lead mask.
dropped : (n leads size : ℕ) → size ≡ 2 ^ n → places_clear n (leads ⊕ (size - 1)) ≡ places_set n leads
dropped n leads size e = ap (λ (s : ℕ). places_clear n (leads ⊕ (s - 1))) e ∙ turned_set n leads

-- One point passed.
passed : (n leads : ℕ) (ps room : List ℕ) (i : ℕ) → i < length ps → i < length room
    → set (front (take i (projected n leads ps)) room) i (project (places_set n leads) (get_or ps i 0)) ≡ front (take (i + 1) (projected n leads ps)) room
unfolding projected
passed n leads ps room i h k =
    rw (← (get_or-map (project (places_set n leads)) ps i 0)) (fill-next (projected n leads ps) room i (project (places_set n leads) 0) (rw (projected-length n leads ps) h) k)

pub loop-i-preserved : goal.loop-i-preserved
loop-i-preserved c =
    let i = c.loop-i.i in
    let n = c.args.n in
    let leads = c.args.leads in
    let on = c.args.on.now in
    let below = inside-at n on c.requires.points_inside i (omega arith) in
    let e = c.drop_places.ensures n below ∙ ap (λ (ks : List ℕ). project ks (get_or on i 0)) (dropped n leads c.point_count-all.result c.point_count-all.ensures) in
    rw (c.loop-i.invariant, e) (passed n leads on c.args.room.now i (omega arith) (omega arith))

pub returns : goal.returns
returns c =
    c.loop-i.invariant ∙ fill-all (projected c.args.n c.args.leads c.args.on.now) c.args.room.now c.loop-i.i (rw projected-length (omega arith))
