-- Laws about the definitions in specs/; read in this order.
pub mod Walking
pub mod Ruling
pub mod Laying
pub mod Bounds
pub mod Encodings
pub mod Points
pub mod Numbered
pub mod Accepting
pub mod Rooms
pub mod Exactly
