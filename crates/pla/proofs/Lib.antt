-- Laws about the definitions in specs/; read in this order.
pub mod Marking
pub mod Answering
pub mod Storing
pub mod Examples
