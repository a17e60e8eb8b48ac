-- The lines of the printed report (document 01, "The printed report"). Read in this order.
pub mod Words
pub mod Lines
