-- The written form's records (document 01, "The written form"): the kinds, the decision over the kind byte, the length of the body that each
-- kind fixes, from which the lengths of records are reckoned (`word_record_length` here, `factor_length` in crate `form`), numbers of two bytes, and
-- what the walks over tables and forms share, with a rule for each fault that they report. What the bytes of a factor's body say is in crate `form`. Read in this order.
pub mod Kinds
pub mod Walks
pub mod Faults
