-- Laws about the definitions in specs/, each heading there has its file here; read in this order. Lists serves the others.
-- The laws that other crates cite first: `cube-candidate`, `same-candidate`, `candidate-size` (Cubes), `basis-is`, `candidate-is`,
-- `candidates-listing`, `candidates-only` (Candidates), `every-point`, `some-point`, `prime-is`, `prime-alone`, `one-prime` (Primes),
-- `every-step`, `prime-count`, `prime-holds` (Spaces), `least-count`, `candidates-total` (Counts), `record-told`, `passage-rule`, `rule-only`, `passage-room`,
-- `accepted-is` (Listing), `call-obeyed`, `call-refused`, `every-prime` (Calls).
pub mod Lists
pub mod Cubes
pub mod Candidates
pub mod Primes
pub mod Spaces
pub mod Counts
pub mod Listing
pub mod Calls
pub mod Examples
