-- The written form (document 01, "The written form"): what a form is, its bytes, the walk that reads them, and what is refused.
-- Read in this order. The laws about these definitions stand in proofs/.
pub mod Form
pub mod Encoding
pub mod Decoding
pub mod Walk
pub mod Faults
pub mod Counting
pub mod Refusal
