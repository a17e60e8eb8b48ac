-- The closure set of a table, and on points spread over a space (document 02, No. 4). The laws about these definitions stand in proofs/.
pub mod ClosureSet
