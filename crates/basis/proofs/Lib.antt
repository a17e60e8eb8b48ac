-- Laws about the values of this crate, for the proofs of its functions and of its callers.
pub mod Values
