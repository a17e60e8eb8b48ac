-- Laws about the report of a table: the parts it is written in, and its length; worked examples.
pub mod Parts
pub mod Fitting
pub mod Examples
