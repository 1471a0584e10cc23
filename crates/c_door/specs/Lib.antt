pub mod Held
pub mod Asking
pub mod Limits
pub mod Telling
pub mod Runs
pub mod Around
