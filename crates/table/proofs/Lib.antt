-- Laws about the definitions in specs/, each heading there has its file here; read in this order.
-- Those that other crates cite first: `fault-first`, `no-fault`, `fault-append`, `fault-before` (FirstFault), `ways` (Decide), `fill-push`,
-- `front-part`, `sets-append` (Fill), `count-step`, `write_step` (Selecting), `accepted`, `no-refusal`, `on-flags`, `free-flags` (Table),
-- `marked-at`, `flags-at` (Flags).
pub mod FirstFault
pub mod Decide
pub mod Fill
pub mod Selecting
pub mod Table
pub mod Flags
pub mod Results
