-- The reduced bases of six variables as a constant table, what its entries say, and an entry with a least point as a candidate
-- (document 01, "Primes"). Read in this order. The laws about these definitions stand in proofs/.
pub mod Entries
pub mod Bases
pub mod Entry
