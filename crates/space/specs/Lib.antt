-- The spaces of a table, for any number of variables (document 01, "Points and spaces").
-- Read in this order. The laws about these definitions stand in proofs/, under the same headings.
pub mod Closure
pub mod Witness
pub mod Completion
pub mod Restriction
pub mod Affine
