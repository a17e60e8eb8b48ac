-- The laws that other crates cite: `counts`, and by degree `degree-at`. Read in this order.
pub mod Counts
pub mod Degrees
