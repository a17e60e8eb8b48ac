-- Laws about the definitions in specs/; read in this order.
pub mod Judging
pub mod Going
