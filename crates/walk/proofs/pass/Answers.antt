-- `walk::pass` meets its contract: one law for each way that a candidate can go. Assumes nothing.
use mathlib.Core.Path.{ap, ◌∙◌}
use mathlib.Core.List.{[], ◌∷◌, ◌++◌}
use Prim.Native.Nat.{◌*◌}
use native.Mathlib.Omega.{arith}
use lib.Pow.{pow_mono}
use lib.ListN.{length}
use lib.Seq.{sets, length-sets}
use Rattle.cubes.specs.Records.{record_length}
use Rattle.bases.specs.Bases.{vectors_of}
use Rattle.masks.specs.Points.{prime_by, record_by}
use Rattle.bases.specs.Entry.{candidate_at}
use Rattle.walk.specs.Walk.{writing, going_on}
use Rattle.masks.proofs.PrimeTest.{count_none, count-some, count_small, count-record}
use Rattle.walk.proofs.Steps.{pass_spent, pass-off, pass-full, pass-write}
use Rattle.walk.proofs.pass.Goals as goal

pub returns-then-left-eq0 : goal.returns-then-left-eq0
returns-then-left-eq0 c =
    let a = c.args in pass_spent (prime_by a.n a.on a.free) (record_by a.n a.on) (candidate_at a.d a.p a.entry) a.tally a.room.now c.if-left-eq0.true

pub count_in_prime-count-requires : goal.count_in_prime-count-requires
count_in_prime-count-requires c = record { on_points = c.requires.on_points; free_points = c.requires.free_points; entry_at = c.requires.entry_at }

pub returns-then-count-eq0 : goal.returns-then-count-eq0
returns-then-count-eq0 c =
    let a = c.args in
    pass-off (prime_by a.n a.on a.free) (record_by a.n a.on) (candidate_at a.d a.p a.entry) a.tally a.room.now c.if-left-eq0.false
    (count_none a.on a.free c.requires.entry_at c.count_in_prime-count.result c.count_in_prime-count.ensures c.if-count-eq0.true)

pub returns-then-room-written-lt-RECORD_LENGTH : goal.returns-then-room-written-lt-RECORD_LENGTH
returns-then-room-written-lt-RECORD_LENGTH c =
    let a = c.args in
    pass-full (prime_by a.n a.on a.free) (record_by a.n a.on) (candidate_at a.d a.p a.entry) a.tally a.room.now c.if-left-eq0.false
    (count-some a.on a.free c.requires.entry_at c.count_in_prime-count.result c.count_in_prime-count.ensures c.if-count-eq0.false) (omega (arith, c.if-room-written-lt-RECORD_LENGTH.true))

pub put-requires : goal.put-requires
put-requires c =
    let k = c.requires.entry_at in
    record {
      record_length_in_bounds = omega (arith, c.if-room-written-lt-RECORD_LENGTH.false);
      d_bound = omega (arith, k.few, k.short);
      p_bound = omega (arith, k.point, pow_mono k.few);
      count_bound = omega (arith, count_small c.args.on c.args.free k c.count_in_prime-count.result c.count_in_prime-count.ensures c.if-count-eq0.false);
    }

pub shape_of-room : goal.shape_of-room
shape_of-room c =
    let a = c.args in
    ap length c.put.ensures ∙ length-sets a.room.now (record_length * a.tally.written) ((a.d ∷ a.p ∷ vectors_of 6 a.entry) ++ (c.count_in_prime-count.result ∷ []))

pub returns : goal.returns
returns c =
    let a = c.args in
    let k = c.requires.entry_at in
    let some = c.if-count-eq0.false in
    ap (going_on (writing a.tally))
    (c.put.ensures ∙ ap (sets a.room.now (record_length * a.tally.written)) (count-record a.on a.free k c.count_in_prime-count.result c.count_in_prime-count.ensures some))
    ∙ pass-write (prime_by a.n a.on a.free) (record_by a.n a.on) (candidate_at a.d a.p a.entry) a.tally a.room.now c.if-left-eq0.false
    (count-some a.on a.free k c.count_in_prime-count.result c.count_in_prime-count.ensures some) (omega (arith, c.if-room-written-lt-RECORD_LENGTH.false))
