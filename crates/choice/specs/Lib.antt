-- What the functions of the choice of primes say of their results; the choice itself is said in crate `cover` (document 01, "The written form").
-- Read in this order. The laws about these definitions stand in proofs/.
pub mod Search
pub mod Chosen
