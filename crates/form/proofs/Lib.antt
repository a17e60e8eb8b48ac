-- Laws about the definitions in specs/; read in this order.
pub mod Points
pub mod Walking
pub mod Ruling
pub mod Laying
pub mod Encodings
pub mod Accepting
pub mod Alone
pub mod Examples
