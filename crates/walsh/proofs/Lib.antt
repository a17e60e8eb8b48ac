-- Laws about the definitions in specs/; read in this order. The laws that other crates cite first: `total-sum`, `total-halves` (Sums), `walsh-product`
-- (Walsh), `sum_fits`, `walsh-far` (Bounds).
pub mod Whole
pub mod Sums
pub mod Walsh
pub mod Bounds
pub mod Crossing
pub mod Passing
pub mod Transforming
