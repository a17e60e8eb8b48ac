-- Sets of points as words of bits. The laws about these definitions stand in proofs/.
pub mod Sets
