-- Laws about the definitions in specs/. Other crates cite `empty-member`, `full-member` and `member-above` (Sets).
pub mod Sets
