pub mod Looks
pub mod Conditions
pub mod Tries
