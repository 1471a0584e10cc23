pub mod Possessive
pub mod Streams
pub mod Groups
pub mod Before
