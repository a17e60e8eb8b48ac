-- Laws about the definitions in specs/, each heading there has its file here; read in this order.
-- Steps has what loops need. The laws that other crates cite first: `closed_at`, `closed_of`, `linear-span`,
-- `linear-ext`, `linear-inserts` (Closure), `kept_on`, `kept_off`, `completed-degree` (Completion), `restriction-at`, `restriction-rising`,
-- `linear-equations`, `linear-restriction` (Restriction), `smallest`, `smallest-unique` (Affine).
pub mod Closure
pub mod Completion
pub mod Restriction
pub mod Affine
pub mod Steps
pub mod Examples
