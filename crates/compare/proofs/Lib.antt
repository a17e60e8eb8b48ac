-- Laws about the definitions in specs/; read in this order.
pub mod Records
pub mod Stopping
pub mod Joining
pub mod Writing
pub mod Refusals
pub mod Answering
pub mod Examples
