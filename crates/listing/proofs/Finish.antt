-- The whole call: from the end of the walk to the numbers and the room that crate `cubes` says.
use mathlib.Core.Path.{◌≡◌, sym, ap, ap₂, ◌∙◌, subst, fun_ext}
use mathlib.Core.Bool.{Bool}
use mathlib.Core.Logic.{◌≢◌}
use mathlib.Core.List.{List, ◌++◌}
use Prim.Native.Nat.{ℕ, ◌+◌, ◌-◌, ◌*◌, ◌≤◌}
use native.Mathlib.Omega.{arith}
use lib.ListN.{length, drop, length-drop}
use borrow.Author.Tests.{ne_eqb}
use Rattle.gf2.specs.Finite.{Mem, holds}
use Rattle.gf2.proofs.Finite.{drop-mem}
use Rattle.cubes.specs.Cubes.{Candidate, degree}
use Rattle.cubes.specs.Candidates.{candidates}
use Rattle.cubes.specs.Primes.{is_prime}
use Rattle.cubes.specs.Records.{max_listed, record_length, record_of}
use Rattle.cubes.specs.Listing.{Call, prime_of, record_in, records_of, listing_by, listing, ListingRule, listing_fault, Answer, listing_refused, listing_answer, listing_after}
use Rattle.cubes.proofs.Cubes.{degree-most}
use Rattle.cubes.proofs.Candidates.{candidate-is}
use Rattle.cubes.proofs.Listing.{record-length, records-length, answer-on, answer-off, room-on, room-off, call-rule, found-small, accepted-place}
use Rattle.counts.proofs.Counts.{count_most}
use Rattle.listing.specs.declared.Start.{Start}
use Rattle.listing.specs.declared.FirstPoint.{FirstPoint}
use Rattle.masks.specs.Points.{MaskOf}
use Rattle.listing.specs.Starts.{StartsAt, PointAt}
use Rattle.walk.specs.Places.{from_point}
use Rattle.walk.specs.Walk.{starting, State, going_on, walk, walk_masked}
use Rattle.listing.specs.Answers.{table_of, call_of}
use Rattle.listing.proofs.Ends.{EndsAs, walk_is}
use Rattle.listing.proofs.Refusals.{sound-call, sound-few}

-- A refused call.
module _ (c : Call) (k : ℕ) (e : k ≡ listing_fault c) (z : k ≢ 0) where
  pub refused-numbers : listing_refused k ≡ listing_answer c
  refused-numbers = ap listing_refused e ∙ sym (answer-off record_length c (ne_eqb (listing_fault c) 0 (λ q. z (e ∙ q))))

  pub refused-room : c.room ≡ listing_after c
  refused-room = sym (room-off record_length c (record_in c.table) (ne_eqb (listing_fault c) 0 (λ q. z (e ∙ q))))

-- The masks give the same test and the same records.
masks-walk : (n : ℕ) (on free : List ℕ) (on_mask free_mask : ℕ) → MaskOf on on_mask → MaskOf free free_mask
    → walk_masked n on_mask free_mask ≡ walk (prime_of (table_of n on free)) (record_in (table_of n on free))
masks-walk n on free on_mask free_mask a b = ap₂ (λ (f g : ℕ → Bool). walk (is_prime n f g) (record_of n f)) (fun_ext a) (fun_ext b)

-- The numbers of an accepted call, from those it counts.
abbrev pub counted : ℕ → ℕ → ℕ → Answer
counted place passed records = record { refusal = 0; next = place + passed; passed = passed; records = records }

-- An accepted call whose walk ends at the state u.
pub record Finished (n : ℕ) (on free : List ℕ) (place allowance : ℕ) (lent : List ℕ) (u : State) : Type 0 where
  pub left : u.tally.left ≤ allowance
  pub fits : place + (allowance - u.tally.left) ≤ 26387
  pub numbers : counted place (allowance - u.tally.left) u.tally.written ≡ listing_answer (call_of n on free place allowance lent)
  pub room : u.room ≡ listing_after (call_of n on free place allowance lent)

module _ (n : ℕ) (on free : List ℕ) (place allowance : ℕ) (room : List ℕ) (e : listing_fault (call_of n on free place allowance room) ≡ 0)
    (start : Start) (s : StartsAt n place start) (first : FirstPoint) (f : PointAt n start.degree start.skip first)
    (on_mask free_mask : ℕ) (a : MaskOf on on_mask) (b : MaskOf free free_mask)
    (u : State) (w : u ≡ walk_masked n on_mask free_mask (drop first.skip (from_point n start.degree first.point)) (going_on (starting allowance) room)) where
  this : Call
  this = call_of n on free place allowance room

  small : (d : Candidate) → Mem d (candidates n) → degree d ≤ max_listed
  small d m = omega (arith, sound-few n on free place allowance room e, degree-most n d ((candidate-is n d).0 m))

  -- The walk goes over the candidates from the place on.
  went_on : u ≡ walk (prime_of (table_of n on free)) (record_in (table_of n on free)) (drop place (candidates n)) (going_on (starting allowance) room)
  went_on =
      w ∙ ap (λ (g : List Candidate → State → State). g (drop first.skip (from_point n start.degree first.point)) (going_on (starting allowance) room)) (masks-walk n on free on_mask free_mask a b)
      ∙ ap (λ l. walk (prime_of (table_of n on free)) (record_in (table_of n on free)) l (going_on (starting allowance) room)) (sym (s.same ∙ f.same))

  -- It ends as the listing rule says.
  ends : EndsAs (record_in (table_of n on free)) allowance 0 room (listing this) u
  unfolding listing_by this
  ends =
      subst (EndsAs (record_in (table_of n on free)) allowance 0 room (listing this)) (sym went_on)
      (walk_is (prime_of (table_of n on free)) (record_in (table_of n on free)) (drop place (candidates n))
      (λ d m. record-length n (holds on) d (small d (drop-mem place (candidates n) d m))) allowance room)

  rule : ListingRule record_length (prime_of (table_of n on free)) (drop place (candidates n)) allowance (length room) (listing this)
  unfolding this
  rule = call-rule record_length this

  went : allowance - u.tally.left ≡ (listing this).passed
  went = omega (arith, ends.left, rule.paid)

  pub finish : Finished n on free place allowance room u
  unfolding this records_of
  finish =
      let k = sound-call n on free place allowance room e in
      let few = sound-few n on free place allowance room e in
      let l = records_of (table_of n on free) (listing this).primes in
      let v : u.tally.written ≡ length (listing this).primes = omega (arith, ends.written) in
      let q : record_length * (0 + length (listing this).primes) ≡ length l = omega (arith, records-length (table_of n on free) (listing this).primes (found-small record_length this k)) in
      record {
        left = omega (arith, ends.left);
        fits = omega (arith, went, rule.along, length-drop place (candidates n), accepted-place this k, count_most n few);
        numbers = ap₂ (counted place) went v ∙ sym (answer-on record_length this k);
        room = ends.room ∙ ap (λ (k : ℕ). l ++ drop k room) q ∙ sym (room-on record_length this (record_in (table_of n on free)) k);
      }
