-- What the contracts of the standard streams cite.
pub mod Reading
