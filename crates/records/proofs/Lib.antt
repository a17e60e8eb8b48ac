-- Laws about the definitions in specs/; read in this order.
pub mod KindBytes
pub mod Whole
pub mod Walking
pub mod Numbers
pub mod Places
pub mod Ruling
pub mod Paths
