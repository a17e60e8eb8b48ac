-- Laws about the definitions in specs/; read in this order. Steps has what the loop of the search needs, Words what the words of `following` hold.
pub mod Longest
pub mod Steps
pub mod Words
