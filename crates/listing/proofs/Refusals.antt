-- Laws of the refusals of a listing call, one for each way that the tests can go. Read next: Finish.
use mathlib.Core.Path.{◌≡◌, refl, sym, ◌∙◌}
use mathlib.Core.Bool.{true, false}
use mathlib.Core.Logic.{◌≢◌}
use mathlib.Core.List.{List, [], ◌∷◌}
use Prim.Native.Nat.{ℕ, ◌≤◌, ◌<◌}
use native.Mathlib.Decide.{ℕ_discrete}
use lib.Dec.{ltb}
use borrow.Author.Tests.{lt-ltb, le-ltb, eq-eqb}
use Rattle.gf2.proofs.Finite.{holds-mem}
use Rattle.table.specs.Refusal.{Test, test, first_fault, size_fault, place_fault}
use Rattle.table.specs.Table.{outside, table_tests, table_fault, Accepted}
use Rattle.table.proofs.Table.{not-outside, outside-more, table-numbered, accepted}
use Rattle.table.proofs.Decide.{table-refused, table-passed}
use Rattle.cubes.specs.Candidates.{candidate_count}
use Rattle.cubes.specs.Records.{max_listed}
use Rattle.cubes.specs.Listing.{listing_fault}
use Rattle.cubes.specs.Listing as call
use Rattle.cubes.proofs.Listing.{accepted-small}
use Rattle.masks.specs.Points.{MaskOf, OfPoints}
use Rattle.listing.specs.Answers.{call_of}

module _ (n : ℕ) (on free : List ℕ) (place allowance : ℕ) (room : List ℕ) where
  -- The tests after those of the table.
  others : List Test
  others = test size_fault (ltb max_listed n) ∷ test place_fault (ltb (candidate_count n) place) ∷ []

  pub listing-table : (k : ℕ) → table_fault n on free ≡ k → k ≢ 0 → listing_fault (call_of n on free place allowance room) ≡ k
  unfolding listing_fault table_fault others
  listing-table k e z = table-refused (table_tests n on free) others k e z

  listing-others : table_fault n on free ≡ 0 → listing_fault (call_of n on free place allowance room) ≡ first_fault others
  unfolding listing_fault table_fault others
  listing-others e = table-passed (table_tests n on free) others (table-numbered n on free) e

  pub listing-size : table_fault n on free ≡ 0 → max_listed < n → listing_fault (call_of n on free place allowance room) ≡ size_fault
  unfolding first_fault others
  listing-size e h = listing-others e ∙ rw (lt-ltb max_listed n h)

  pub listing-place : table_fault n on free ≡ 0 → n ≤ max_listed → candidate_count n < place → listing_fault (call_of n on free place allowance room) ≡ place_fault
  unfolding first_fault others
  listing-place e h k = listing-others e ∙ rw (le-ltb max_listed n h, lt-ltb (candidate_count n) place k)

  pub listing-sound : table_fault n on free ≡ 0 → n ≤ max_listed → place ≤ candidate_count n → listing_fault (call_of n on free place allowance room) ≡ 0
  unfolding first_fault others
  listing-sound e h k = listing-others e ∙ rw (le-ltb max_listed n h, le-ltb (candidate_count n) place k)

  -- Where the call has no refusal, its table has none, and its points are those of at most six variables.
  module _ (e : listing_fault (call_of n on free place allowance room) ≡ 0) where
    table-sound : Dec (table_fault n on free ≡ 0) → table_fault n on free ≡ 0
    table-sound (yes q) = q
    table-sound (no q) = absurd (q (sym (listing-table (table_fault n on free) refl q) ∙ e))

    pub sound-table : Accepted n on free
    sound-table = accepted n on free (table-sound (ℕ_discrete (table_fault n on free) 0))

    pub sound-call : call.accepted (call_of n on free place allowance room) ≡ true
    sound-call = eq-eqb (listing_fault (call_of n on free place allowance room)) 0 e

    pub sound-few : n ≤ max_listed
    sound-few = accepted-small (call_of n on free place allowance room) sound-call

    pub sound-on : outside max_listed on ≡ false
    sound-on = outside-more n on sound-few (not-outside n on sound-table.on_below)

    pub sound-free : outside max_listed free ≡ false
    sound-free = outside-more n free sound-few (not-outside n free sound-table.free-below)

    -- The masks of its points hold points of n variables alone.
    pub on-points : (mask : ℕ) → MaskOf on mask → OfPoints n mask
    on-points mask k x t = sound-table.on_below x ((holds-mem on x).0 (sym (k x) ∙ t))

    pub free-points : (mask : ℕ) → MaskOf free mask → OfPoints n mask
    free-points mask k x t = sound-table.free-below x ((holds-mem free x).0 (sym (k x) ∙ t))
