-- What the calls on the linear space of a complete function answer.
pub mod Answer
