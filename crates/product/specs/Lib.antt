-- XOR factors, products and canonical products, for any number of variables (document 01, "The written form").
-- Read in this order. The laws about these definitions stand in proofs/.
pub mod Lowest
pub mod Product
