pub mod Taking
pub mod Holding
pub mod Cutting
pub mod Growing
pub mod Stepping
