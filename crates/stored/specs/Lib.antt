-- The stored table (document 01, "The written form"): how its bytes are laid out, what they stand for, and what is refused.
-- Read in this order. The laws about these definitions stand in proofs/.
pub mod Layout
pub mod Faults
pub mod Marks
pub mod Encoding
pub mod Stored
pub mod Reading
