-- Laws about the definitions in specs/, each heading there has its file here; read in this order.
-- Logic and Finite serve the others. The laws that other crates cite first: `xor_assoc`, `bit-ext`, `order-by-bit` (Xor), `lead-highest`,
-- `lead-zeros` (Leads), `odd-xor`, `odd-ones` (Odd), `span-least` (Span), `reduce-xor`, `span-reduce`, `reduce-least` (Reduce), `unique` (Unique),
-- `insert-reduced`, `insert-span`, `inserts-basis` (Insert), `basis-reduced`, `basis-span`, `basis-inserts` (ReducedBasis), `coset-cube` (Cubes).
pub mod Logic
pub mod Finite
pub mod Xor
pub mod Leads
pub mod Odd
pub mod Span
pub mod Reduce
pub mod Unique
pub mod Insert
pub mod ReducedBasis
pub mod Cubes
pub mod Variables
pub mod Examples
