pub mod Generated
pub mod Counts
pub mod Texts
pub mod Worked
