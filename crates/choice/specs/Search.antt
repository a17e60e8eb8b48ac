-- The search for the first prime that holds a point: what it is asked, and what it finds. Read next: Chosen.
use Rattle.std.specs.Prelude.{Bool, false, not, cond, ◌&&◌, List, [], ◌∷◌, ℕ, ◌^◌, ◌≤◌, ◌<◌, leb, Option, None, Some}
use Rattle.gf2.specs.Finite.{Mem}
use Rattle.gf2.specs.Basis.{reduce}
use Rattle.cubes.specs.Cubes.{Candidate}
use Rattle.cubes.specs.Records.{max_listed}
use Rattle.bases.specs.Bases.{vectors_of, fits_entry}
use Rattle.masks.specs.Points.{OfPoints}
use Rattle.bases.specs.Entry.{candidate_at, EntryAt}
use Rattle.choice.specs.declared.Prime.{Prime}

-- No vector is 0.
abbrev pub Positive : List ℕ → Type 0
Positive vectors = (b : ℕ) → Mem b vectors → 0 < b

-- A search among the candidates of m variables and degree d for a prime that holds the point x; the mask holds the on points.
pub record Search (m on d x : ℕ) : Type 0 where
  pub few : m ≤ max_listed
  pub inside : OfPoints m on
  pub short : d ≤ m
  pub point : x < 2 ^ m

-- The candidate that a prime by its entry is; and that the entry is one of m variables with a least point of it.
abbrev pub candidate_of : Prime → Candidate
candidate_of r = candidate_at r.degree r.point r.entry

abbrev pub PrimeAt : ℕ → Prime → Type 0
PrimeAt m r = EntryAt m r.degree r.point r.entry

-- What has been found: a list of one candidate, or of none.
unfoldable pub found_of : Option Prime → List Candidate
found_of None = []
found_of (Some r) = candidate_of r ∷ []

-- What has been found is an entry of m variables with a least point of it.
abbrev pub FoundAt : ℕ → Option Prime → Type 0
FoundAt m None = Unit {0}
FoundAt m (Some r) = PrimeAt m r

-- The least point of the coset of x by the space of an entry of d vectors.
abbrev pub least_point : ℕ → ℕ → ℕ → ℕ
least_point d x e = reduce (vectors_of d e) x

-- The best so far stays before a candidate with the least point p: it was found, and its own least point isn't greater.
abbrev pub stays : Option Prime → ℕ → Bool
stays None p = false
stays (Some best) p = leb best.point p

-- The best so far after one entry of d vectors: its candidate that holds x, if it is of m variables, the best so far doesn't stay, and it is a prime.
unfoldable pub better_of : (Candidate → Bool) → ℕ → ℕ → ℕ → ℕ → Option Prime → Option Prime
better_of prime m d x e best =
    cond (fits_entry m e && (not (stays best (least_point d x e)) && prime (candidate_at d (least_point d x e) e)))
    (Some (record { degree = d; point = least_point d x e; entry = e })) best
