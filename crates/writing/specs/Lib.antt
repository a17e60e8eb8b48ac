-- The call that writes the form of a table: its tests, its answer and its bytes, on all inputs. What form is written is in crate `cover`.
-- Read in this order.
pub mod Products
pub mod Writing
