pub mod Shown
pub mod Marks
pub mod Lines
pub mod Callouts
