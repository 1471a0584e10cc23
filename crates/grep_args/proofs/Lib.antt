pub mod Absent
pub mod Stepping
pub mod Keeping
pub mod Lasting
pub mod Scaled
