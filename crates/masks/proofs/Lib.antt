-- Laws about the definitions in specs/; read in this order. They serve the proofs of this crate's functions.
pub mod Folds
pub mod PrimeTest
