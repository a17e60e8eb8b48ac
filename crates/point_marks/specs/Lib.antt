-- The marks of a stored table as numbers, one for each point. The laws about these definitions stand in proofs/.
pub mod Marks
