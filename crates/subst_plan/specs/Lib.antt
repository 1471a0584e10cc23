pub mod Matched
pub mod Lookups
pub mod Reading
pub mod Plans
pub mod Forcing
pub mod Expansion
pub mod Nested
