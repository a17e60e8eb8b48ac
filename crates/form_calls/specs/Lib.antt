-- The calls that read a form: its points, and writing it again (document 01, "The written form"). What a form is, its bytes and their refusal
-- are in crate `form`.
pub mod Reading
