pub mod Writing
pub mod Printing
pub mod Saying
pub mod Taking
pub mod Absence
pub mod TargetLaws
