-- Claims about the whole library: the three demands and the requests of document 02, one theorem each, the table of examples, and the rooms that suffice. Read in this order.
pub mod Demand1
pub mod FormBytes
pub mod Reports
pub mod Demand2
pub mod Demand3
pub mod Compared
pub mod Faults
pub mod FaultCalls
pub mod FreePoints
pub mod Bits
pub mod Indexed
pub mod PrimeCounts
pub mod Examples
pub mod Rooms
