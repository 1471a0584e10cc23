pub mod Looks
pub mod Wide
pub mod Searches
pub mod Exact
pub mod Plain
pub mod IsShape
pub mod Lines
