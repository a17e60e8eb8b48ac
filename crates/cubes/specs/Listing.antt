-- A listing call and its answer on all inputs (document 01, "Primes" and "Refusal numbers"). The listing rule has the number of bytes of a record as a
-- parameter, `bytes`, since document 02, No. 6 changes that number and nothing else of the rule. Read next: Calls.
use Rattle.std.specs.Prelude.{◌≡◌, Bool, true, cond, ◌⊎◌, ℕ, zero, suc, ◌+◌, ◌-◌, ◌*◌, ◌≤◌, ◌<◌, length, take, drop, ltb, eqb}
use mathlib.Core.List.{List, [], ◌∷◌, ◌++◌, flat_map}
use Rattle.gf2.specs.Finite.{holds}
use Rattle.table.specs.Refusal.{Test, test, first_fault, size_fault, place_fault}
use Rattle.table.specs.Decision.{Decision, answer_of, after_of}
use Rattle.table.specs.Table.{table_tests}
use Rattle.cubes.specs.Lists.{keep}
use Rattle.cubes.specs.Cubes.{Candidate}
use Rattle.cubes.specs.Candidates.{candidates, candidate_count}
use Rattle.cubes.specs.Primes.{is_prime}
use Rattle.cubes.specs.Records.{max_listed, record_length, record_of}

-- A table: the number of variables, a list of on points and a list of free points.
pub record Table : Type 0 where
  pub variables : ℕ
  pub on : List ℕ
  pub free : List ℕ

-- A listing call takes a table, a place, an allowance and room.
pub record Call : Type 0 where
  pub table : Table
  pub place : ℕ
  pub allowance : ℕ
  pub room : List ℕ

-- The candidate is a prime of the table.
abbrev pub prime_of : Table → Candidate → Bool
prime_of t c = is_prime t.variables (holds t.on) (holds t.free) c

-- The record of a candidate among the table's points, and those of some candidates, one after the other.
abbrev pub record_in : Table → Candidate → List ℕ
record_in t c = record_of t.variables (holds t.on) c

unfoldable pub records_of : Table → List Candidate → List ℕ
records_of t cs = flat_map (record_in t) cs

-- ---- refusals

-- The tests of a call in their order: those of its table; 5, listing with n above 6; 9, a place above the number of candidates.
abbrev pub listing_tests : Call → List Test
listing_tests c =
    table_tests c.table.variables c.table.on c.table.free ++
    (test size_fault (ltb max_listed c.table.variables) ∷ test place_fault (ltb (candidate_count c.table.variables) c.place) ∷ [])

-- The refusal of a call, or 0.
unfoldable pub listing_fault : Call → ℕ
listing_fault c = first_fault (listing_tests c)

-- The call is accepted. That it is exactly when none of 1 to 5 and 9 applies to it is `accepted-is`.
abbrev pub accepted : Call → Bool
accepted c = eqb (listing_fault c) 0

-- ---- the listing rule

-- How far a call goes: the number of candidates it passes, and the primes among them.
pub record Passage : Type 0 where
  pub passed : ℕ
  pub primes : List Candidate

abbrev pub nothing : Passage
nothing = record { passed = 0; primes = [] }

-- One candidate passed before the others, which isn't written, or is.
abbrev pub passing : Passage → Passage
passing p = record { passed = suc p.passed; primes = p.primes }

abbrev pub writing : Candidate → Passage → Passage
writing c p = record { passed = suc p.passed; primes = c ∷ p.primes }

-- Of the candidates ahead, with an allowance and so many bytes of room: a call passes candidates in order and stops at the end, when the
-- allowance of candidates is spent, or before a prime that no longer fits. That it says what `ListingRule` does, and only that, is `passage-rule`
-- and `rule-only`.
unfoldable pub passage : ℕ → (Candidate → Bool) → List Candidate → ℕ → ℕ → Passage
passage bytes prime [] allowance room = nothing
passage bytes prime (c ∷ cs) zero room = nothing
passage bytes prime (c ∷ cs) (suc allowance) room =
    let written : Passage = writing c (passage bytes prime cs allowance (room - bytes)) in
    let passed : Passage = passing (passage bytes prime cs allowance room) in
    let fitted : Passage = cond (ltb room bytes) nothing written in
    cond (prime c) fitted passed

-- The next candidate ahead is a prime, and its record doesn't fit into the room after the records of those found.
pub record Full (bytes : ℕ) (prime : Candidate → Bool) (ahead found : List Candidate) (room : ℕ) : Type 0 where
  pub next : Candidate
  pub others : List Candidate
  pub first : ahead ≡ next ∷ others
  pub is-prime : prime next ≡ true
  pub short : room < bytes * suc (length found)

-- The listing rule, said of the passage p.
pub record ListingRule (bytes : ℕ) (prime : Candidate → Bool) (ahead : List Candidate) (allowance room : ℕ) (p : Passage) : Type 0 where
  -- It passes candidates in order, and the primes among them fit.
  pub along : p.passed ≤ length ahead
  pub paid : p.passed ≤ allowance
  pub found : p.primes ≡ keep prime (take p.passed ahead)
  pub fits : bytes * length p.primes ≤ room
  -- It stops at the end, when the allowance is spent, or before a prime that no longer fits.
  pub stops : (p.passed ≡ length ahead) ⊎ ((p.passed ≡ allowance) ⊎ Full bytes prime (drop p.passed ahead) p.primes room)

-- The candidates ahead of a call: those from its place on.
abbrev pub ahead_of : Call → List Candidate
ahead_of c = drop c.place (candidates c.table.variables)

-- How far a call goes with records of so many bytes, and of nine.
unfoldable pub listing_by : ℕ → Call → Passage
listing_by bytes c = passage bytes (prime_of c.table) (ahead_of c) c.allowance (length c.room)

abbrev pub listing : Call → Passage
listing c = listing_by record_length c

-- ---- the answer

-- The numbers that a call returns.
pub record Answer : Type 0 where
  pub refusal : ℕ
  pub next : ℕ
  pub passed : ℕ
  pub records : ℕ

-- A refusal returns its number with all other numbers 0.
abbrev pub listing_refused : ℕ → Answer
listing_refused k = record { refusal = k; next = 0; passed = 0; records = 0 }

-- An accepted call at the place returns the next place, the number of candidates passed and the number of records written.
abbrev pub listing_accepted : ℕ → Passage → Answer
listing_accepted place p = record { refusal = 0; next = place + p.passed; passed = p.passed; records = length p.primes }

-- The decision over a call with records of so many bytes, and of nine.
abbrev pub listing_call_by : ℕ → Call → Decision Answer
listing_call_by bytes c = record { tests = listing_tests c; accepted = listing_accepted c.place (listing_by bytes c); refused = listing_refused }

abbrev pub listing_call : Call → Decision Answer
listing_call c = listing_call_by record_length c

unfoldable pub listing_answer_by : ℕ → Call → Answer
listing_answer_by bytes c = answer_of (listing_call_by bytes c)

-- The room as a call returns, where a record has so many bytes and `written` gives it: the records at its front and bytes after the last record as lent;
-- unchanged by a refusal.
unfoldable pub listing_after_by : ℕ → (Candidate → List ℕ) → Call → List ℕ
listing_after_by bytes written c = after_of (listing_call_by bytes c) (flat_map written (listing_by bytes c).primes) c.room

-- The answer of a call, and the room as it returns.
abbrev pub listing_answer : Call → Answer
listing_answer c = listing_answer_by record_length c

abbrev pub listing_after : Call → List ℕ
listing_after c = listing_after_by record_length (record_in c.table) c
