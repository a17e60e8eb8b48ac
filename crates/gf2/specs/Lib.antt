-- Points and vectors under XOR, for any number of variables (document 01, "Points and spaces").
-- Read in this order. The laws about these definitions stand in proofs/, under the same headings.
pub mod Limits
pub mod Finite
pub mod Bits
pub mod Parity
pub mod Span
pub mod Basis
