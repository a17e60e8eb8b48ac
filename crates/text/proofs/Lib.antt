-- Laws about text: a number in decimal, texts made of pieces, and texts written one after the other.
pub mod Decimal
pub mod Pieces
pub mod Writing
