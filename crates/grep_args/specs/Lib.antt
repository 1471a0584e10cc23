pub mod Table
pub mod Numbers
pub mod Effects
pub mod Words
pub mod Stopping
pub mod Steps
pub mod Limits
pub mod Kept
