-- Laws about the definitions in specs/; read in this order. Other crates cite `largest-is`, `largest-one`, `largest-sets` and `largest-own` (Spaces).
pub mod Spaces
pub mod Examples
