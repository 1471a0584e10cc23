pub mod After
pub mod Runs
pub mod Turns
pub mod Wholes
