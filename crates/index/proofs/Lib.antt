-- Laws about the definitions in specs/; read in this order.
pub mod Records
pub mod InPlace
pub mod Lists
pub mod Reading
pub mod Forms
pub mod Faulting
pub mod Calling
pub mod Accepting
pub mod Examples
