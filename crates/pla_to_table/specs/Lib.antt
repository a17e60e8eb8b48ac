-- What the program writes for its argument and its input. Read in this order.
pub mod Choosing
pub mod Messages
pub mod Answer
