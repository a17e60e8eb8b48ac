-- What the functions of the walk say of their results (document 01, "Primes"). Read in this order. The laws about these definitions stand in
-- proofs/.
pub mod Places
pub mod Walk
