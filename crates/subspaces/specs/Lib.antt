-- The spaces inside a set of vectors, and the largest of them (document 02, No. 4). The laws about these definitions stand in proofs/.
pub mod Spaces
