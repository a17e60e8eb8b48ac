-- Laws about the definitions in specs/; read in this order. Other crates cite the bits of an OR, of a shift and of a cut (Bits), `bit-none` and `word-cases`
-- (Moves).
pub mod Bits
pub mod Moves
