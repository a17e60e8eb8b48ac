-- Sums of whole numbers, and the add-and-subtract transform, which is known as the Walsh transform (document 02, No. 7). Read in this order.
pub mod Sums
pub mod Walsh
pub mod Numbers
