-- What a listing call hands over, and what is said of an accepted and of a refused one (document 01, "Primes"). Demand 3, about lists of calls, is in
-- crate `claims`. Read next: crate `counts`.
use Rattle.std.specs.Prelude.{◌≡◌, Bool, ◌≢◌, List, [], ◌++◌, ℕ, ◌+◌, ◌*◌, length, take, drop}
use Rattle.gf2.specs.Finite.{holds}
use Rattle.cubes.specs.Lists.{keep}
use Rattle.cubes.specs.Cubes.{Candidate}
use Rattle.cubes.specs.Candidates.{candidates, candidate_count}
use Rattle.cubes.specs.Primes.{Prime}
use Rattle.cubes.specs.Records.{record_length}
use Rattle.cubes.specs.Listing.{Table, Call, prime_of, records_of, listing_fault, ListingRule, ahead_of, listing, listing_refused, listing_answer, listing_after}

-- ---- one call

-- What a call hands over: the records at the front of its room as it returns, as many as its record count says.
unfoldable pub handed_over : Call → List ℕ
handed_over c = take (record_length * (listing_answer c).records) (listing_after c)

-- An accepted call: it passes exactly as far as the listing rule says, and returns the numbers of that passage, with its records at the front of the
-- room and the rest of the room as lent.
pub record Obeyed (c : Call) : Type 0 where
  pub refusal : (listing_answer c).refusal ≡ 0
  pub rule : ListingRule record_length (prime_of c.table) (ahead_of c) c.allowance (length c.room) (listing c)
  pub passed : (listing_answer c).passed ≡ (listing c).passed
  pub next : (listing_answer c).next ≡ c.place + (listing_answer c).passed
  pub records : (listing_answer c).records ≡ length (listing c).primes
  pub handed : handed_over c ≡ records_of c.table (listing c).primes
  pub room : listing_after c ≡ handed_over c ++ drop (record_length * (listing_answer c).records) c.room

-- A refused call: it returns its number, all other numbers 0, changes nothing lent, and hands over nothing.
pub record Refused (c : Call) : Type 0 where
  pub number : listing_fault c ≢ 0
  pub numbers : listing_answer c ≡ listing_refused (listing_fault c)
  pub room : listing_after c ≡ c.room
  pub handed : handed_over c ≡ []

-- ---- a table

-- The primes among the first so many candidates, in their order.
unfoldable pub primes_behind : Table → ℕ → List Candidate
primes_behind t place = keep (prime_of t) (take place (candidates t.variables))

-- The end: the place equal to the number of candidates.
abbrev pub end_of : Table → ℕ
end_of t = candidate_count t.variables

-- The set of points is a prime of the table.
abbrev pub PrimeOf : Table → (ℕ → Bool) → Type 0
PrimeOf t C = Prime t.variables (holds t.on) (holds t.free) C
