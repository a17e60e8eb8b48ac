-- The restriction and the smallest affine space as the functions of this crate reach them, by a mask of places (document 01, "Points and
-- spaces"). The laws about these definitions stand in proofs/.
pub mod Masks
