-- What the values of this crate stand for.
pub mod Factors
