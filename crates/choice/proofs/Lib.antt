-- Laws about the definitions in specs/; read in this order.
pub mod Reductions
pub mod First
pub mod Best
pub mod Taking
pub mod Products
