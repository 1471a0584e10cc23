pub mod Passing
pub mod Possessive
