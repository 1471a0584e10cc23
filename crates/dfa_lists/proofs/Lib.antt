pub mod Kept
pub mod Closing
pub mod Landing
pub mod Following
pub mod Running
pub mod Visits
pub mod Telling
pub mod BranchTries
