-- Laws of what one candidate changes in a walk, one for each way it can go. Read next: Stand.
use mathlib.Core.Path.{◌≡◌, refl, sym, ap, ◌∙◌}
use mathlib.Core.Bool.{Bool, true, false, cond}
use mathlib.Core.Logic.{◌≢◌}
use mathlib.Core.List.{List, ◌∷◌}
use Prim.Native.Nat.{ℕ, ◌+◌, ◌*◌, ◌≤◌, ◌<◌}
use native.Mathlib.Omega.{arith}
use lib.Dec.{ltb, eqb}
use lib.ListN.{length}
use lib.Seq.{sets, length-sets}
use borrow.Author.Tests.{lt-ltb, le-ltb, ltb-false, eq-eqb, ne_eqb}
use Rattle.cubes.specs.Cubes.{Candidate}
use Rattle.cubes.specs.Records.{record_length}
use Rattle.walk.specs.declared.Tally.{Tally}
use Rattle.walk.specs.Walk.{passing, writing, State, going_on, stopping, pass, walk}

module _ (prime : Candidate → Bool) (recorded : Candidate → List ℕ) (c : Candidate) (t : Tally) (m : List ℕ) where
  pub pass_spent : t.left ≡ 0 → stopping t m ≡ pass prime recorded c (going_on t m)
  unfolding pass
  pass_spent e = rw (eq-eqb t.left 0 e)

  module _ (l : t.left ≢ 0) where
    pub pass-off : prime c ≡ false → going_on (passing t) m ≡ pass prime recorded c (going_on t m)
    unfolding pass
    pass-off e = rw (ne_eqb t.left 0 l, e)

    pub pass-full : prime c ≡ true → length m < record_length * t.written + record_length → stopping t m ≡ pass prime recorded c (going_on t m)
    unfolding pass
    pass-full e f = rw (ne_eqb t.left 0 l, e, lt-ltb (length m) (record_length * t.written + record_length) f)

    pub pass-write : prime c ≡ true → record_length * t.written + record_length ≤ length m
        → going_on (writing t) (sets m (record_length * t.written) (recorded c)) ≡ pass prime recorded c (going_on t m)
    unfolding pass
    pass-write e f = rw (ne_eqb t.left 0 l, e, le-ltb (length m) (record_length * t.written + record_length) f)

-- The room keeps its length, and what is written fits it.
pub record Kept (long : ℕ) (s : State) : Type 0 where
  pub keeps : length s.room ≡ long
  pub wrote : record_length * s.tally.written ≤ long

pub pass_kept : (prime : Candidate → Bool) (recorded : Candidate → List ℕ) (c : Candidate) (long : ℕ) (s : State) → Kept long s → Kept long (pass prime recorded c s)
unfolding pass
pass_kept prime recorded c long s k = go (eqb s.tally.left 0) (prime c) (ltb (length s.room) (record_length * s.tally.written + record_length)) refl
  where
    go : (b e f : Bool) → ltb (length s.room) (record_length * s.tally.written + record_length) ≡ f
        → Kept long (cond b (stopping s.tally s.room)
        (cond e
        (cond f (stopping s.tally s.room) (going_on (writing s.tally) (sets s.room (record_length * s.tally.written) (recorded c))))
        (going_on (passing s.tally) s.room)))
    go true e f q = record { keeps = k.keeps; wrote = k.wrote }
    go false false f q = record { keeps = k.keeps; wrote = k.wrote }
    go false true true q = record { keeps = k.keeps; wrote = k.wrote }
    go false true false q = record {
      keeps = length-sets s.room (record_length * s.tally.written) (recorded c) ∙ k.keeps;
      wrote = omega (arith, k.keeps, ltb-false (length s.room) (record_length * s.tally.written + record_length) q);
    }

-- The walk goes on after a candidate, or stops.
module _ (prime : Candidate → Bool) (recorded : Candidate → List ℕ) (c : Candidate) (cs : List Candidate) (s u : State) (e : u ≡ pass prime recorded c s) where
  pub walk-on : u.stopped ≡ false → walk prime recorded (c ∷ cs) s ≡ walk prime recorded cs u
  unfolding walk
  walk-on h = ap (λ (z : State). cond z.stopped z (walk prime recorded cs z)) (sym e) ∙ ap (λ (b : Bool). cond b u (walk prime recorded cs u)) h

  pub walk-stop : u.stopped ≡ true → walk prime recorded (c ∷ cs) s ≡ u
  unfolding walk
  walk-stop h = ap (λ (z : State). cond z.stopped z (walk prime recorded cs z)) (sym e) ∙ ap (λ (b : Bool). cond b u (walk prime recorded cs u)) h
