pub mod Watched
pub mod Filtered
