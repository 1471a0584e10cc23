pub mod Bounds
pub mod BoundTables
