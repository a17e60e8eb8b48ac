-- The printed report: its text, and the call that gives it (document 01, "The printed report"). Read in this order.
pub mod Report
pub mod Answer
