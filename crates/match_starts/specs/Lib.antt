pub mod Asked
pub mod Bytes
pub mod Prefix
pub mod Repeats
pub mod Spans
pub mod Whole
