-- The index of a form (document 02, No. 5): a record for each point, how it changes when a product is appended or taken away, and the answers of the
-- calls that keep it in a lent list. Read in this order. The laws about these definitions stand in proofs/.
pub mod Records
pub mod Changes
pub mod Answers
