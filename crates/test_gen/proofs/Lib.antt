pub mod Making
pub mod Counting
pub mod Saying
