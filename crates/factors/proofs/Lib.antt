-- The laws behind the functions of this crate. Read in this order.
pub mod Steps
pub mod Products
