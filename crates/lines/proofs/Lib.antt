-- Laws about the lines: what they are made of, and how long they can be; worked examples.
pub mod Lines
pub mod Lengths
pub mod Examples
