-- Laws about the definitions in specs/; read in this order. Other crates cite `closes-is`, `closure-mem`, `largest_space-is` and `spread-is` first.
pub mod ClosureSet
pub mod Steps
