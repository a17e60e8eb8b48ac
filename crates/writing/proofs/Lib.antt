-- The laws behind the functions of this crate. Read in this order.
pub mod Bytes
pub mod Lengths
pub mod Ways
