-- The text of a truth table in Berkeley PLA: its lines, words and numbers, and the statement that a line makes. Read in this order.
pub mod Text
pub mod Numbers
pub mod Statements
