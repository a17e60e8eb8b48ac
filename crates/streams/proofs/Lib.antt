-- Laws about the standard streams.
pub mod Reading
