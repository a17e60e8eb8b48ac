-- The search for the largest space inside a set of vectors (document 02, No. 4). The laws about these definitions stand in proofs/.
pub mod Search
