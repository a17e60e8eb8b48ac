-- Text in ASCII: a number in decimal, lists of numbers and of variables, and what it is to write a text at a place
-- (document 01, "The printed report"). Read in this order. The laws about these definitions stand in proofs/, under the same headings.
pub mod Decimal
pub mod Pieces
pub mod Writing
