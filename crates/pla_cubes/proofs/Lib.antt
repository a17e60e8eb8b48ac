-- Laws about the definitions in specs/; read in this order.
pub mod Shapes
pub mod Covering
pub mod Marking
