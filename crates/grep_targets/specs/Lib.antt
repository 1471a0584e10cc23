pub mod Filters
pub mod Paths
pub mod Targets
pub mod Stands
pub mod Walks
pub mod Worked
pub mod Laws
