-- Masks moved by a vector. The laws about these definitions stand in proofs/.
pub mod Moves
