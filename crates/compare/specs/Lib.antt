-- Two stored tables side by side (document 02, No. 1): where they differ, and what a call says of it. Read in this order. The laws about these
-- definitions stand in proofs/.
pub mod Differences
pub mod Answer
