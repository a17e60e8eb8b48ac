-- Laws about the definitions in specs/; read in this order. LowestBit and Count serve the others. The laws that other crates cite first:
-- `lowest-is`, `lowest-eq`, `lowest-zeros`, `lowest-fits` (LowestBit), `factor-is`, `product_is`, `some-product-is`, `fits-is`, `apart-is`, `canonical-is`,
-- `canonical-next`, `canonical-prefix` (Product), `count-xor` (Count), `canonical-point`, `canonical-cube`, `canonical-length`,
-- `canonical-points` (Points), `canonical-unique` (Unique).
pub mod LowestBit
pub mod Product
pub mod Count
pub mod Points
pub mod Unique
pub mod Examples
