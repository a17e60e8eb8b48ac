-- Laws about the definitions in specs/; read in this order.
pub mod Valuing
pub mod Answering
pub mod Examples
