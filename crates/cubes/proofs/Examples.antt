-- Document 01's examples P4, P6 and P9, and cases at the edges of the listing rule, computed.
use mathlib.Core.Path.{◌≡◌, refl}
use mathlib.Core.List.{List, [], ◌∷◌, map, flat_map}
use Prim.Native.Nat.{ℕ}
use lib.ListN.{replicate}
use Rattle.gf2.specs.Bits.{bit, halvings, lead}
use Rattle.gf2.specs.Finite.{holds, all, select}
use Rattle.gf2.specs.Basis.{clear, reduce}
use Rattle.table.specs.Refusal.{first_fault}
use Rattle.table.specs.Table.{table_tests, bad_count, outside, not_above, unordered, shared}
use Rattle.cubes.specs.Lists.{keep}
use Rattle.cubes.specs.Cubes.{Candidate, candidate, spans, points_of}
use Rattle.cubes.specs.Candidates.{bases, candidates_at, candidates_of, candidates_from, candidates}
use Rattle.cubes.specs.Primes.{every_point, some_point, cannot_grow, is_prime}
use Rattle.cubes.specs.Records.{candidate_bytes, on_count, record_of}
use Rattle.cubes.specs.Listing.{Table, Call, prime_of, listing_fault, passage, listing_by, Answer, listing_answer, listing_after, listing_answer_by, listing_after_by}

-- ---- the primes of a table

-- A table and its primes in listing order, as least point and basis.
pub record PrimesOf : Type 0 where
  pub table : Table
  pub primes : List Candidate

pub PrimesHold : List PrimesOf → Type 0
PrimesHold [] = Unit {0}
PrimesHold (e ∷ es) = (keep (prime_of e.table) (candidates e.table.variables) ≡ e.primes) × PrimesHold es

pub table : ℕ → List ℕ → List ℕ → Table
table n on free = record { variables = n; on = on; free = free }

pub p4 : PrimesOf
p4 = record { table = table 3 (1 ∷ 2 ∷ 4 ∷ 7 ∷ []) []; primes = candidate 1 (3 ∷ 5 ∷ []) ∷ [] }

pub p6 : PrimesOf
p6 = record {
  table = table 3 (2 ∷ 3 ∷ 5 ∷ 6 ∷ 7 ∷ []) [];
  primes = candidate 2 (1 ∷ 4 ∷ []) ∷ candidate 2 (7 ∷ []) ∷ candidate 3 (6 ∷ []) ∷ candidate 5 (2 ∷ []) ∷ candidate 5 (3 ∷ []) ∷ [];
}

-- P8's table: primes go by the table as given, and not by its completion.
pub p8 : PrimesOf
p8 = record { table = table 2 (0 ∷ []) (1 ∷ 2 ∷ []); primes = candidate 0 (1 ∷ []) ∷ candidate 0 (2 ∷ []) ∷ [] }

-- Free points alone make no prime.
pub p9 : PrimesOf
p9 = record { table = table 2 [] (0 ∷ []); primes = [] }

pub primes-examples : PrimesHold (p4 ∷ p6 ∷ p8 ∷ p9 ∷ [])
unfolding PrimesHold table p4 p6 p8 p9 holds all select bit halvings lead clear reduce flat_map keep spans bases candidates_of candidates_from candidates every_point some_point cannot_grow is_prime
primes-examples = (refl, (refl, (refl, (refl, tt))))

-- ---- calls

-- A call, what it returns, and the room as it returns.
pub record Answered : Type 0 where
  pub call : Call
  pub listing_answer : Answer
  pub room : List ℕ

pub AnswersHold : List Answered → Type 0
AnswersHold [] = Unit {0}
AnswersHold (e ∷ es) = (listing_answer e.call ≡ e.listing_answer) × (listing_after e.call ≡ e.room) × AnswersHold es

-- Table, place, allowance and room; then refusal, next place, passed, records; then the room as the call returns.
pub answered : Table → ℕ → ℕ → List ℕ → ℕ → ℕ → ℕ → ℕ → List ℕ → Answered
answered t place allowance room refusal next passed records after = record {
  call = record { table = t; place = place; allowance = allowance; room = room };
  listing_answer = record { refusal = refusal; next = next; passed = passed; records = records };
  room = after;
}

-- P9 at place 0, at the end, and above the end.
pub answers-p9 : AnswersHold
    (answered p9.table 0 99 [] 0 11 11 0 []
    ∷ answered p9.table 11 99 (7 ∷ []) 0 11 0 0 (7 ∷ [])
    ∷ answered p9.table 12 0 (7 ∷ []) 9 0 0 0 (7 ∷ [])
    ∷ [])
unfolding AnswersHold answered table p9 holds all select bit halvings lead clear reduce flat_map keep spans bases candidates_of candidates_from candidates every_point some_point cannot_grow is_prime first_fault table_tests bad_count outside not_above unordered shared points_of candidate_bytes on_count record_of listing_fault passage listing_by listing_answer_by listing_after_by
answers-p9 = (refl, refl, (refl, refl, (refl, refl, tt)))

-- P6: with room for a byte less than a record, for one record and a byte, for just all records, and with no allowance. All its points are on, so the
-- count is the size.
pub answers-p6 : AnswersHold
    (answered p6.table 0 99 (replicate 8 7) 0 12 12 0 (replicate 8 7)
    ∷ answered p6.table 12 99 (replicate 10 7) 0 32 20 1 (2 ∷ 2 ∷ 1 ∷ 4 ∷ 0 ∷ 0 ∷ 0 ∷ 0 ∷ 4 ∷ 7 ∷ [])
    ∷ answered p6.table 0 99 (replicate 45 7) 0 51 51 5
    (2 ∷ 2 ∷ 1 ∷ 4 ∷ 0 ∷ 0 ∷ 0 ∷ 0 ∷ 4 ∷ 1 ∷ 2 ∷ 7 ∷ 0 ∷ 0 ∷ 0 ∷ 0 ∷ 0 ∷ 2 ∷ 1 ∷ 3 ∷ 6 ∷ 0 ∷ 0 ∷ 0 ∷ 0 ∷ 0 ∷ 2
    ∷ 1 ∷ 5 ∷ 2 ∷ 0 ∷ 0 ∷ 0 ∷ 0 ∷ 0 ∷ 2 ∷ 1 ∷ 5 ∷ 3 ∷ 0 ∷ 0 ∷ 0 ∷ 0 ∷ 0 ∷ 2 ∷ [])
    ∷ answered p6.table 12 0 (replicate 10 7) 0 12 0 0 (replicate 10 7)
    ∷ [])
unfolding AnswersHold answered table p6 holds all select bit halvings lead clear reduce flat_map keep spans bases candidates_of candidates_from candidates every_point some_point cannot_grow is_prime first_fault table_tests bad_count outside not_above unordered shared points_of candidate_bytes on_count record_of listing_fault passage listing_by listing_answer_by listing_after_by
answers-p6 = (refl, refl, (refl, refl, (refl, refl, (refl, refl, tt))))

-- Free points don't count: P8's table has two primes of two points, one of which is on in each.
pub answers-p8 : AnswersHold (answered p8.table 0 99 (replicate 18 7) 0 11 11 2 (1 ∷ 0 ∷ 1 ∷ 0 ∷ 0 ∷ 0 ∷ 0 ∷ 0 ∷ 1 ∷ 1 ∷ 0 ∷ 2 ∷ 0 ∷ 0 ∷ 0 ∷ 0 ∷ 0 ∷ 1 ∷ []) ∷ [])
unfolding AnswersHold answered table p8 holds all select bit halvings lead clear reduce flat_map keep spans bases candidates_of candidates_from candidates every_point some_point cannot_grow is_prime first_fault table_tests bad_count outside not_above unordered shared points_of candidate_bytes on_count record_of listing_fault passage listing_by listing_answer_by listing_after_by
answers-p8 = (refl, refl, tt)

-- Refused tables, each for two faults, the first of which is given.
pub answers-refused : AnswersHold
    (answered (table 0 (1 ∷ []) []) 99 1 (9 ∷ []) 1 0 0 0 (9 ∷ [])
    ∷ answered (table 2 (1 ∷ 1 ∷ []) (4 ∷ [])) 0 1 (9 ∷ []) 2 0 0 0 (9 ∷ [])
    ∷ answered (table 2 (1 ∷ 1 ∷ []) (1 ∷ [])) 0 1 (9 ∷ []) 3 0 0 0 (9 ∷ [])
    ∷ answered (table 2 (1 ∷ []) (1 ∷ [])) 12 1 (9 ∷ []) 4 0 0 0 (9 ∷ [])
    ∷ [])
unfolding AnswersHold answered table holds all select bit halvings lead clear reduce flat_map keep spans bases candidates_of candidates_from candidates every_point some_point cannot_grow is_prime first_fault table_tests bad_count outside not_above unordered shared points_of candidate_bytes on_count record_of listing_fault passage listing_by listing_answer_by listing_after_by
answers-refused = (refl, refl, (refl, refl, (refl, refl, (refl, refl, tt))))

-- ---- the order of candidates

-- Without variables: the point 0.
pub no-variables : candidates 0 ≡ candidate 0 [] ∷ []
unfolding select bit halvings lead clear reduce flat_map keep bases candidates_of candidates_from candidates
no-variables = refl

-- Three variables, degree 2, least point 0: the first vectors are compared first.
pub first-vectors-first : map (λ c. c.vectors) (candidates_at 3 2 0)
    ≡ (1 ∷ 2 ∷ []) ∷ (1 ∷ 4 ∷ []) ∷ (1 ∷ 6 ∷ []) ∷ (2 ∷ 4 ∷ []) ∷ (2 ∷ 5 ∷ []) ∷ (3 ∷ 4 ∷ []) ∷ (3 ∷ 5 ∷ []) ∷ []
unfolding select bit halvings lead clear reduce flat_map keep bases
first-vectors-first = refl
