-- The cubes of a truth table in Berkeley PLA: their symbols, the points that they cover, and what they say of them. Read in this order.
pub mod Cubes
pub mod Meaning
pub mod Flagging
