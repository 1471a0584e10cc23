pub mod Cutting
pub mod Watching
pub mod Passing
pub mod Filtering
