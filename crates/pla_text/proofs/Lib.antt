-- Laws about the definitions in specs/; read in this order.
pub mod Parts
pub mod Digits
pub mod Directives
