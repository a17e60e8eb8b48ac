-- Sets of points as masks: bit x of a mask stands for point x (document 01, "Primes"). Read next: crate `walk`.
use Rattle.std.specs.Prelude.{◌≡◌, Bool, true, cond, List, ℕ, ◌^◌, ◌<◌}
use Rattle.gf2.specs.Bits.{bit}
use Rattle.gf2.specs.Finite.{Mem, holds}
use Rattle.moves.specs.Moves.{mask_size}
use Rattle.cubes.specs.Cubes.{Candidate}
use Rattle.cubes.specs.Primes.{every_point, is_prime}
use Rattle.cubes.specs.Records.{on_count, record_of}

-- The mask is that of the list of points.
abbrev pub MaskOf : List ℕ → ℕ → Type 0
MaskOf points mask = (x : ℕ) → bit x mask ≡ holds points x

-- The mask holds points of n variables alone.
abbrev pub OfPoints : ℕ → ℕ → Type 0
OfPoints n mask = (x : ℕ) → bit x mask ≡ true → x < 2 ^ n

-- The vectors fit the mask.
abbrev pub Fitting : List ℕ → Type 0
Fitting vectors = (c : ℕ) → Mem c vectors → c < mask_size

-- The mask r holds x exactly if the mask holds every point of x XOR the span of the vectors.
abbrev pub EveryPoint : List ℕ → ℕ → ℕ → Type 0
EveryPoint vectors mask r = (x : ℕ) → bit x r ≡ every_point (λ y. bit y mask) vectors x

-- The candidate is a prime of the on and free points that two masks hold.
abbrev pub prime_by : ℕ → ℕ → ℕ → Candidate → Bool
prime_by n on free c = is_prime n (λ x. bit x on) (λ x. bit x free) c

-- The number of on points in it if it is a prime, and 0 if it is none.
abbrev pub count_by : ℕ → ℕ → ℕ → Candidate → ℕ
count_by n on free c = cond (prime_by n on free c) (on_count n (λ x. bit x on) c) 0

-- Its record among the on points that a mask holds.
abbrev pub record_by : ℕ → ℕ → Candidate → List ℕ
record_by n on c = record_of n (λ x. bit x on) c
