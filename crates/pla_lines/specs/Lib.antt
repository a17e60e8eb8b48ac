-- The lines of a truth table in Berkeley PLA: what each says, what is refused, and what is known after them all. Read in this order.
pub mod Lines
pub mod Reading
pub mod Bounds
