-- What is claimed of the whole library (document 01, "How tight the statements must be"): one record for each demand, one for each request of document 02,
-- and one for the rooms that always suffice. Read in this order. The theorems stand in proofs/, under the same headings.
pub mod Demand1
pub mod Demand2
pub mod Demand3
pub mod Compared
pub mod Faults
pub mod FreePoints
pub mod Bits
pub mod Indexed
pub mod PrimeCounts
pub mod Rooms
