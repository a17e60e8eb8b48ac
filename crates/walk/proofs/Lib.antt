-- Laws about the definitions in specs/; read in this order.
pub mod Points
pub mod Rows
pub mod Records
pub mod Steps
pub mod Stand
