-- Laws about the definitions in specs/, for the proofs of the functions and of their callers; read in this order. Those that other crates
-- cite first: `kept-all`, `projected-projection` (Masks), `least-reduced` (Affine), `points_kept`, `completed-vectors`, `completed-spans`,
-- `completed-restriction` (Restrictions).
pub mod Masks
pub mod Dropping
pub mod Affine
pub mod Restrictions
