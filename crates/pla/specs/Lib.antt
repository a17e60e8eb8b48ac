-- A truth table in Berkeley PLA, one output of it, as a stored table: the table of what was read, and what the call answers. Read in this order.
pub mod Table
pub mod Answer
