-- Laws about the definitions in specs/; read in this order.
pub mod Ends
pub mod Refusals
pub mod Finish
