pub mod References
pub mod Extending
pub mod Conditions
pub mod Literally
pub mod Numbering
