-- Sets of points as masks; what a prime is, is said in crate `cubes` (document 01, "Primes"). The laws about these definitions stand in proofs/.
pub mod Points
