-- Pseudocubes, candidates in order, primes, and the listing of primes (document 01, "Primes").
-- Read in this order. The laws about these definitions stand in proofs/, under the same headings.
pub mod Lists
pub mod Cubes
pub mod Candidates
pub mod Primes
pub mod Records
pub mod Listing
pub mod Calls
