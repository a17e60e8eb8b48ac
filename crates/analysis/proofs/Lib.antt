-- What the functions called give, put together to the answers of specs/. Read in this order.
pub mod LinearSpaces
pub mod Completions
pub mod AffineSpaces
