-- Laws about what the program writes. Read in this order.
pub mod Messages
pub mod Answering
