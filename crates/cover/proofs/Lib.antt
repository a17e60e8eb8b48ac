-- Laws about the definitions in specs/; read in this order. Equation and Primes serve the others, Steps has what loops need.
-- The laws that other crates cite first: `product-points`, `product-canonical`, `product-fits`, `product-only` (CanonicalProduct), `substitute-product`,
-- `substitute-canonical`, `substitute-fits` (Substitution), `prime-over`, `prime-at` (Primes), `primes-listed`, `first-is`, `chosen-points`,
-- `chosen-length` (Choice), `restriction-degree`, `restriction-fewer` (Restriction), `written_at`, `form-at`, `form-products`, `form-most`, `form-few`,
-- `form-constant`, `table-form-at`, `table-form-products`, `table-form-few` (WrittenForm).
pub mod Equation
pub mod CanonicalProduct
pub mod Substitution
pub mod Primes
pub mod Choice
pub mod Restriction
pub mod WrittenForm
pub mod Steps
pub mod Examples
