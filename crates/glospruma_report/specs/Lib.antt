-- What the program prints for an input.
pub mod Printing
