-- The listing rule of document 01, "Primes", as a walk: what each candidate changes, and all of them in order. Read next: crate `point_counts`.
use Rattle.std.specs.Prelude.{◌≡◌, Bool, true, false, cond, List, [], ◌∷◌, ◌++◌, ℕ, ◌+◌, ◌-◌, ◌*◌, ◌≤◌, length, drop, ltb, eqb}
use Rattle.std.specs.ControlFlow.{MatchControlFlow}
use Rattle.std.specs.declared.ops.ControlFlow.{ControlFlow}
use Rattle.std.specs.declared.ops.ControlFlow.TheVariants.{Continue, Break}
use Rattle.std.proofs.lemmas.List.Edits.{sets}
use Rattle.cubes.specs.Cubes.{Candidate}
use Rattle.cubes.specs.Records.{record_length}
use Rattle.masks.specs.Points.{prime_by, record_by}
use Rattle.walk.specs.declared.Progress.{Progress}
use Rattle.walk.specs.declared.Tally.{Tally}

-- The tally at the start of a walk: the whole allowance is left.
abbrev pub starting : ℕ → Tally
starting allowance = record { left = allowance; written = 0 }

-- The tally after a candidate that is passed, or passed and written.
abbrev pub passing : Tally → Tally
passing t = record { left = t.left - 1; written = t.written }

abbrev pub writing : Tally → Tally
writing t = record { left = t.left - 1; written = t.written + 1 }

-- A walk so far: its tally, whether it has stopped, and the room.
pub record State : Type 0 where
  pub tally : Tally
  pub stopped : Bool
  pub room : List ℕ

-- A walk that goes on, and one that has stopped.
abbrev pub going_on : Tally → List ℕ → State
going_on t room = record { tally = t; stopped = false; room = room }

abbrev pub stopping : Tally → List ℕ → State
stopping t room = record { tally = t; stopped = true; room = room }

-- What a step of a walk gives: it breaks where the walk stops.
abbrev pub tally_after : ControlFlow Tally Tally → Tally
tally_after (Continue t) = t
tally_after (Break t) = t

abbrev pub has_stopped : ControlFlow Tally Tally → Bool
has_stopped (Continue t) = false
has_stopped (Break t) = true

abbrev pub state_after : ControlFlow Tally Tally → List ℕ → State
state_after r room = record { tally = tally_after r; stopped = has_stopped r; room = room }

-- One candidate: the walk stops if the allowance is spent, or before a prime that no longer fits,
-- and otherwise passes it, and writes the record of a prime after the others. `prime` tests a candidate, `recorded` gives its record.
unfoldable pub pass : (Candidate → Bool) → (Candidate → List ℕ) → Candidate → State → State
pass prime recorded c s =
    cond (eqb s.tally.left 0) (stopping s.tally s.room)
    (cond (prime c)
    (cond (ltb (length s.room) (record_length * s.tally.written + record_length)) (stopping s.tally s.room)
    (going_on (writing s.tally) (sets s.room (record_length * s.tally.written) (recorded c))))
    (going_on (passing s.tally) s.room))

-- The candidates one after the other, until the walk stops. That it ends as the listing rule says is `walk_is`.
unfoldable pub walk : (Candidate → Bool) → (Candidate → List ℕ) → List Candidate → State → State
walk prime recorded [] s = s
walk prime recorded (c ∷ cs) s = cond (pass prime recorded c s).stopped (pass prime recorded c s) (walk prime recorded cs (pass prime recorded c s))

-- Both for the points of n variables that two masks hold.
abbrev pub pass_masked : ℕ → ℕ → ℕ → Candidate → State → State
pass_masked n on free = pass (prime_by n on free) (record_by n on)

abbrev pub walk_masked : ℕ → ℕ → ℕ → List Candidate → State → State
walk_masked n on free = walk (prime_by n on free) (record_by n on)

-- A walk over the candidates cs, without the first few, and then over any others has come to the candidates ds, and goes on over them and the others from
-- the progress r.
pub record Reaches (n on free : ℕ) (cs ds : List Candidate) (from : Progress) (lent : List ℕ) (r : Progress) (room : List ℕ) : Type 0 where
  pub same : (rest : List Candidate) → walk_masked n on free (drop from.skip (cs ++ rest)) (going_on from.tally lent) ≡ walk_masked n on free (drop r.skip (ds ++ rest)) (going_on r.tally room)
  pub wrote : record_length * r.tally.written ≤ length room

-- It has stopped among the candidates cs, whatever others stand behind them.
abbrev pub Stops : ℕ → ℕ → ℕ → List Candidate → Progress → List ℕ → Tally → List ℕ → Type 0
Stops n on free cs from lent t room = (rest : List Candidate) → walk_masked n on free (drop from.skip (cs ++ rest)) (going_on from.tally lent) ≡ stopping t room

-- A walk over these candidates goes on behind them, or has stopped.
abbrev pub Walked : ℕ → ℕ → ℕ → List Candidate → Progress → List ℕ → ControlFlow Tally Progress → List ℕ → Type 0
Walked n on free cs from lent r room = MatchControlFlow r (λ p. Reaches n on free cs [] from lent p room) (λ t. Stops n on free cs from lent t room)
