pub mod Wording
pub mod Said
pub mod Running
pub mod Ending
