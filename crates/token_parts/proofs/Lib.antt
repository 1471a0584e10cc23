pub mod Runs
pub mod Pairs
pub mod Strings
pub mod Lines
pub mod Letters
pub mod Standing
pub mod Places
pub mod Numerals
