pub mod Writing
pub mod Closings
pub mod LineLaw
