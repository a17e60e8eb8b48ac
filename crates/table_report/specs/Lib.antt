-- The report of a table: its text, and the parts that it is written in (document 01, "The printed report"). Read in this order.
pub mod Text
pub mod Parts
