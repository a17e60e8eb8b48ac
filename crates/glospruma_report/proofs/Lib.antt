-- Laws about what the program prints.
pub mod Printing
