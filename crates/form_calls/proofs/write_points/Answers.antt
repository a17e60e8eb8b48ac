-- `form_calls::write_points` meets its contract: each turn writes the next point of the form behind those before it. Assumes nothing.
use Rattle.std.proofs.Common.{◌≡◌, ℕ, ◌+◌, ◌<◌, ◌≤◌, Bool, List, ap, ap₂, sym, ◌∙◌, length, take, get_or, set, arith, rules, tests, zero-add}
use Rattle.std.proofs.iter.Serving.{serving}
use Rattle.std.proofs.lemmas.List.{length_push}
use Rattle.std.proofs.lemmas.Iterator.{YieldsList-from_range}
use Rattle.std.proofs.lemmas.Iterator.Consumers.{YieldsList-from_filter, YieldsList-from_enumerate, YieldsList-at, YieldsList-turn, YieldsList-end}
use Rattle.std.proofs.lemmas.List.FromFn.{length-enumerate_from, get_or-enumerate_from}
use Rattle.std.specs.List.{filter, range_with_len, enumerate_from}
use Rattle.gf2.specs.Finite.{select}
use Rattle.table.specs.Decision.{front}
use Rattle.table.proofs.Fill.{fill-next, fill-all}
use Rattle.form.specs.Form.{form_at}
use Rattle.form.specs.Decoding.{decode_form}
use Rattle.form_calls.proofs.Answering.{select-filter}
use Rattle.form_calls.proofs.write_points.Goals as goal
use Rattle.form_calls.proofs.write_points.Goals.{In-Some}

-- The item of a turn is the next number that passes, with its place among them.
item : (f : ℕ → Bool) (size k place point : ℕ)
    → (k < length (enumerate_from 0 (filter f (range_with_len 0 size)))) × ((place, point) ≡ get_or (enumerate_from 0 (filter f (range_with_len 0 size))) k (place, point))
    → (k < length (select f size)) × (place ≡ k) × (point ≡ get_or (select f size) k point)
item f size k place point t =
    let passing = filter f (range_with_len 0 size) in
    let there : k < length passing = omega (arith, t.0, length-enumerate_from 0 passing) in
    let same : (place, point) ≡ (0 + k, get_or passing k point) = t.1 ∙ get_or-enumerate_from 0 passing k (place, point) there in
    rw (select-filter f size) (there, ap (λ (p : ℕ × ℕ). p.0) same ∙ zero-add k, ap (λ (p : ℕ × ℕ). p.1) same)

turn : (c : In-Some)
    → (length c.loop-place.yielded < length (select (form_at (decode_form c.args.bytes.now)) c.args.size)) × (c.in-Some.place ≡ length c.loop-place.yielded)
    × (c.in-Some.point ≡ get_or (select (form_at (decode_form c.args.bytes.now)) c.args.size) (length c.loop-place.yielded) c.in-Some.point)
turn c =
    let f = form_at (decode_form c.args.bytes.now) in
    item f c.args.size (length c.loop-place.yielded) c.in-Some.place c.in-Some.point
    (YieldsList-turn
    (YieldsList-at c.into_iter-place-iterator.ensures.into_iter_gives
    (YieldsList-from_enumerate
    (YieldsList-at c.enumerate-place-items.ensures.source
    (YieldsList-from_filter _ f (YieldsList-from_range 0 c.args.size c.args.size (cc) (search rules)) c.filter.ensures.closure (λ x r q k. search (rules, tests))))
    c.enumerate-place-items.ensures.count))
    c.loop-place.yielded
    _
    c.loop-place.yielded_by
    _
    _
    (c.in-Some.place, c.in-Some.point)
    c.in-Some.is
    c.next.ensures.steps)

-- Written at its place, it stands behind those before it.
step : (points room : List ℕ) (k place point next : ℕ) → k < length points → k < length room → place ≡ k → point ≡ get_or points k point → next ≡ k + 1
    → set (front (take k points) room) place point ≡ front (take next points) room
step points room k place point next h r e q n =
    ap₂ (λ (i v : ℕ). set (front (take k points) room) i v) e q ∙ fill-next points room k point h r ∙ ap (λ (j : ℕ). front (take j points) room) (sym n)

-- So it has its place in the room.
fits : (c : In-Some) → c.in-Some.place < length c.args.room.now
fits c = let t = turn c in omega (arith, t.0, t.1, c.requires.size_in_bounds)

pub offset_bounds-room-place : goal.offset_bounds-room-place
offset_bounds-room-place c = omega (arith, fits c)

pub bounds-room-place : goal.bounds-room-place
bounds-room-place c = omega (arith, fits c, c.loop-place.auto.room)

pub loop-place-preserved : goal.loop-place-preserved
loop-place-preserved c =
    let t = turn c in
    let points = select (form_at (decode_form c.args.bytes.now)) c.args.size in
    let k = length c.loop-place.yielded in
    let there : k < length c.args.room.now = omega (arith, fits c, t.1) in (
      grind serving,
      search rules,
      ap (λ (r : List ℕ). set r c.in-Some.place c.in-Some.point) c.loop-place.invariant.2
          ∙ step points c.args.room.now k c.in-Some.place c.in-Some.point _ t.0 there t.1 t.2 (length_push c.loop-place.yielded (c.in-Some.place, c.in-Some.point)),
    )

pub returns : goal.returns
returns c =
    let f = form_at (decode_form c.args.bytes.now) in
    let points = select f c.args.size in
    let passing = filter f (range_with_len 0 c.args.size) in
    let end = YieldsList-end
    (YieldsList-at c.into_iter-place-iterator.ensures.into_iter_gives
    (YieldsList-from_enumerate
    (YieldsList-at c.enumerate-place-items.ensures.source
    (YieldsList-from_filter _ f (YieldsList-from_range 0 c.args.size c.args.size (cc) (search rules)) c.filter.ensures.closure (λ x r q k. search (rules, tests))))
    c.enumerate-place-items.ensures.count))
    c.loop-place.yielded
    _
    c.loop-place.yielded_by
    _
    _
    c.in-None.is
    c.next.ensures.steps in
    let all : length points ≤ length c.loop-place.yielded = omega (arith, end.1, length-enumerate_from 0 passing, ap length (select-filter f c.args.size)) in
    c.loop-place.invariant.2 ∙ fill-all points c.args.room.now (length c.loop-place.yielded) all
