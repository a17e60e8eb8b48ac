-- What each public call answers, on all inputs (document 01; every call asks nothing of its caller). Read in this order.
pub mod Spaces
pub mod Affine
