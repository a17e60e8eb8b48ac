-- Demand 3: any list of prime-listing calls, whatever rooms and allowances, refused calls included, hands over exactly the primes among the
-- candidates passed, each once, in order, and moves forward (document 01, "Primes"): a single claim about the whole list of calls.
--
-- It is a claim about the running call. A call of `list_primes` with some arguments is `call_of` of them, and its contract (crates/glospruma/src/lib.rt)
-- says that the numbers it returns are `listing_answer` of that and that its room holds `listing_after` of that, which are all that is spoken of here.
-- Read next: Compared.
use Rattle.std.specs.Prelude.{◌≡◌, Bool, true, cond, ◌&&◌, ◌≢◌, ◌↔◌, ℕ, ◌+◌, ◌≤◌, ◌<◌, length, take, eqb, leb, ltb}
use mathlib.Core.List.{List, [], ◌∷◌, ◌++◌, flat_map}
use Rattle.gf2.specs.Finite.{Mem, Ordered}
use Rattle.table.specs.Refusal.{NoneApplies}
use Rattle.cubes.specs.Lists.{keep}
use Rattle.cubes.specs.Cubes.{Candidate, points_of, Only}
use Rattle.cubes.specs.Candidates.{Before, candidates}
use Rattle.cubes.specs.Records.{record_length, candidate_bytes}
use Rattle.cubes.specs.Listing.{Table, Call, records_of, listing_tests, listing, listing_answer}
use Rattle.cubes.specs.Calls.{handed_over, Obeyed, Refused, primes_behind, end_of, PrimeOf}

-- ---- lists of calls

-- The call was accepted: it returned no refusal.
abbrev pub was_accepted : Call → Bool
was_accepted c = eqb (listing_answer c).refusal 0

-- The place that the next accepted call is to be made at: the one that an accepted call returned. A refused one leaves it as it was, and the 0 that
-- it returns as its place plays no part.
abbrev pub goes_on : ℕ → Call → ℕ
goes_on place c = cond (was_accepted c) (listing_answer c).next place

-- Every accepted call is for the table, the first one at this place, and each later one at the place that the accepted one before it returned. A
-- refused one is any call at all. Nothing is asked of rooms and allowances.
abbrev pub Continues : Table → ℕ → List Call → Type 0
Continues t place [] = Unit {0}
Continues t place (c ∷ cs) = ((listing_answer c).refusal ≡ 0 → (c.table ≡ t) × (c.place ≡ place)) × Continues t (goes_on place c) cs

-- Passed so far is reckoned from the calls alone: an accepted call takes the place on as the listing rule says, a refused one leaves it.
abbrev pub advance : ℕ → Call → ℕ
advance place c = cond (was_accepted c) (place + (listing c).passed) place

-- The place that the calls reach from a place: the candidates behind it are passed.
unfoldable pub reached : ℕ → List Call → ℕ
reached place [] = place
reached place (c ∷ cs) = reached (advance place c) cs

-- A number of each call, summed.
unfoldable pub sum_of : {A : Type 0} → (A → ℕ) → List A → ℕ
sum_of g [] = 0
sum_of g (c ∷ cs) = g c + sum_of g cs

-- An accepted call with an allowance of one or more and room for a record.
abbrev pub able : Call → Bool
able c = was_accepted c && (ltb 0 c.allowance && leb record_length (length c.room))

-- A call for the table at the end: it is accepted, passes nothing and hands over nothing.
pub record AtEnd (t : Table) (c : Call) : Type 0 where
  pub refusal : (listing_answer c).refusal ≡ 0
  pub passed : (listing_answer c).passed ≡ 0
  pub next : (listing_answer c).next ≡ end_of t
  pub handed : handed_over c ≡ []

-- ---- the demand

-- Of an accepted table of one to six variables and a list of calls that go on from place 0. `reached 0 calls` is the place so far.
pub record Demand3 (t : Table) (calls : List Call) : Type 0 where
  -- A call is accepted exactly when none of refusals 1 to 5 and 9 applies to it; then it obeys the listing rule. A refused one gives nothing.
  pub accepts : (c : Call) → Mem c calls → ((listing_answer c).refusal ≡ 0) ↔ NoneApplies (listing_tests c)
  pub obeyed : (c : Call) → Mem c calls → (listing_answer c).refusal ≡ 0 → Obeyed c
  pub refused : (c : Call) → Mem c calls → (listing_answer c).refusal ≢ 0 → Refused c
  -- The end is one of at most 26,387 candidates; a call there passes nothing.
  pub most : end_of t ≤ 26387
  pub at-end : (c : Call) → c.table ≡ t → c.place ≡ end_of t → AtEnd t c
  -- The last accepted call returns the place so far, and the passed counts add up to it.
  pub within : reached 0 calls ≤ end_of t
  pub last : (before : List Call) (c : Call) (after : List Call) → calls ≡ before ++ (c ∷ after) → (listing_answer c).refusal ≡ 0
      → ((d : Call) → Mem d after → (listing_answer d).refusal ≢ 0) → (listing_answer c).next ≡ reached 0 calls
  pub passed : sum_of (λ c. (listing_answer c).passed) calls ≡ reached 0 calls
  -- What was handed over, joined: the records of the primes among the candidates passed so far, in the stated order, each exactly once: no two have the same
  -- degree, least point and basis.
  pub handed : flat_map handed_over calls ≡ records_of t (primes_behind t (reached 0 calls))
  pub number : sum_of (λ c. (listing_answer c).records) calls ≡ length (primes_behind t (reached 0 calls))
  pub exact : (c : Candidate) → Mem c (primes_behind t (reached 0 calls))
      ↔ (Mem c (take (reached 0 calls) (candidates t.variables)) × PrimeOf t (points_of c))
  pub order : Ordered Before (primes_behind t (reached 0 calls))
  pub once : Ordered (λ a b. candidate_bytes a ≢ candidate_bytes b) (primes_behind t (reached 0 calls))
  -- At the end: every prime that the table has, as a set of points, is the set of exactly one record.
  pub whole : reached 0 calls ≡ end_of t → (C : ℕ → Bool) → PrimeOf t C → Only t.variables C (primes_behind t (reached 0 calls))
  -- Short of the end, an accepted call with an allowance and room for a record moves on; so as many such calls as candidates reach the end.
  pub forward : (c : Call) → Mem c calls → able c ≡ true → c.place < end_of t → c.place < (listing_answer c).next
  pub enough : end_of t ≤ length (keep able calls) → reached 0 calls ≡ end_of t
