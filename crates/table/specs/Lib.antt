-- The refusal numbers and the decision by them, what a table is and when it is refused, and flags for its points (document 01, "Points and
-- spaces" and "Refusal numbers"). Read in this order. The laws about these definitions stand in proofs/.
pub mod Refusal
pub mod Answers
pub mod Decision
pub mod Table
pub mod Flags
