-- The form written for a table, for any number of variables (document 01, "The written form").
-- Read in this order. The laws about these definitions stand in proofs/, under the same headings.
pub mod CanonicalProduct
pub mod Substitution
pub mod Choice
pub mod WrittenForm
