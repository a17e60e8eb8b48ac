-- Laws of specs.Calls: what one call hands over, and the primes behind a place. Read next: Examples.
use mathlib.Core.Path.{◌≡◌, sym, ap, ap₂, ◌∙◌}
use mathlib.Core.Bool.{Bool, true, false}
use mathlib.Core.Logic.{◌↔◌}
use mathlib.Core.List.{List, ◌++◌}
use Prim.Native.Nat.{ℕ, ◌+◌, ◌*◌}
use lib.ListN.{length, take, drop}
use lib.Seq.{take-add, take_at}
use borrow.Author.Tests.{eqb-false}
use Rattle.gf2.specs.Finite.{Mem, holds}
use Rattle.cubes.specs.Lists.{keep}
use Rattle.cubes.specs.Cubes.{Candidate, points_of, Only}
use Rattle.cubes.specs.Candidates.{candidates}
use Rattle.cubes.specs.Records.{record_length}
use Rattle.cubes.specs.Listing.{Table, Call, prime_of, record_in, records_of, listing_fault, accepted, listing, Answer, listing_accepted, listing_answer, listing_after}
use Rattle.cubes.specs.Calls.{handed_over, Obeyed, Refused, primes_behind, PrimeOf}
use Rattle.cubes.proofs.Lists.{keep-mem, mem-keep, keep_append}
use Rattle.cubes.proofs.Candidates.{candidate-is, candidate-only}
use Rattle.cubes.proofs.Primes.{prime-is, prime-same}
use Rattle.cubes.proofs.Listing.{records-length, answer-on, answer-off, room-on, room-off, call-rule, found-small}

-- ---- one call

pub call-obeyed : (c : Call) → accepted c ≡ true → Obeyed c
unfolding handed_over records_of
call-obeyed c e = record {
  refusal = ap (λ (a : Answer). a.refusal) a;
  rule = call-rule record_length c;
  passed = ap (λ (a : Answer). a.passed) a;
  next = ap (λ (a : Answer). a.next) a ∙ ap (λ (a : Answer). c.place + a.passed) (sym a);
  records = number;
  handed = front;
  room = after ∙ ap₂ (λ (l : List ℕ) (k : ℕ). l ++ drop k c.room) (sym front) (size ∙ ap (λ (k : ℕ). record_length * k) (sym number));
}
  where
    a : listing_answer c ≡ listing_accepted c.place (listing c)
    a = answer-on record_length c e

    number : (listing_answer c).records ≡ length (listing c).primes
    number = ap (λ (a : Answer). a.records) a

    after : listing_after c ≡ records_of c.table (listing c).primes ++ drop (length (records_of c.table (listing c).primes)) c.room
    after = room-on record_length c (record_in c.table) e

    size : length (records_of c.table (listing c).primes) ≡ record_length * length (listing c).primes
    size = records-length c.table (listing c).primes (found-small record_length c e)

    front : take (record_length * (listing_answer c).records) (listing_after c) ≡ records_of c.table (listing c).primes
    front =
        ap₂ (λ (k : ℕ) (l : List ℕ). take (record_length * k) l) number after
        ∙ take_at (records_of c.table (listing c).primes) (drop (length (records_of c.table (listing c).primes)) c.room) (record_length * length (listing c).primes) size

pub call-refused : (c : Call) → accepted c ≡ false → Refused c
unfolding handed_over
call-refused c e = record {
  number = eqb-false (listing_fault c) 0 e;
  numbers = answer-off record_length c e;
  room = room-off record_length c (record_in c.table) e;
  handed = ap (λ (a : Answer). take (record_length * a.records) (listing_after c)) (answer-off record_length c e);
}

-- ---- the primes behind a place

pub primes-add : (t : Table) (p k : ℕ) → primes_behind t (p + k) ≡ primes_behind t p ++ keep (prime_of t) (take k (drop p (candidates t.variables)))
unfolding primes_behind
primes-add t p k = ap (keep (prime_of t)) (take-add p k (candidates t.variables)) ∙ keep_append (prime_of t) (take p (candidates t.variables)) (take k (drop p (candidates t.variables)))

-- A candidate is a prime of the table by the test exactly if its set is one.
pub candidate-prime : (t : Table) (c : Candidate) → Mem c (candidates t.variables) → (prime_of t c ≡ true) ↔ PrimeOf t (points_of c)
candidate-prime t c m = prime-is t.variables (holds t.on) (holds t.free) c ((candidate-is t.variables c).0 m)

-- Every prime of the table, as a set, is one of its prime candidates, and no other.
pub every-prime : (t : Table) (C : ℕ → Bool) → PrimeOf t C → Only t.variables C (keep (prime_of t) (candidates t.variables))
every-prime t C p =
    let o = candidate-only t.variables C p.cube in record {
      which = o.which;
      listed = mem-keep (prime_of t) (candidates t.variables) o.which o.listed ((candidate-prime t o.which o.listed).1 (prime-same o.same p));
      same = o.same;
      alone = λ d m h. o.alone d (keep-mem (prime_of t) (candidates t.variables) d m).0 h;
    }
