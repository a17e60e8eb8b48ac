-- Laws about the definitions in specs/; read in this order. Those that other crates cite: `mask-least`, `mask_below` (Masks), `entries-bases`,
-- `entry-mask`, `entries-fewer`, `entries_at` (Table), `bounds`, `entry_at`, `entry-mem`, `part-below`, `part-entry`, `part-end` (Bounds), `avoided-small`, `takes-mask`, `takes-avoided` (LeadBits), `vectors-step`, `vectors-each`,
-- `entry-candidate`, `entry-written` (Entry).
pub mod Masks
pub mod Table
pub mod Bounds
pub mod LeadBits
pub mod Entry
