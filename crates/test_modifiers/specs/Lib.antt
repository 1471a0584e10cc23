pub mod Modifiers
pub mod Table
pub mod Texts
pub mod Refusals
pub mod Values
pub mod Stopping
pub mod Lists
