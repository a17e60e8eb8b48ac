-- What the values of this crate stand for. Read in this order.
pub mod Short
pub mod Reduced
