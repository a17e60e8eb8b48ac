-- Laws about the report: that it fits, its call, and worked examples.
pub mod Answering
pub mod Examples
