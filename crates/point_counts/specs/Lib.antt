-- How many candidates a least point has (document 01, "Primes"), by a constant table. The laws about it stand in proofs/.
pub mod PointCounts
