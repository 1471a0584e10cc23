pub mod Around
pub mod Branches
pub mod Followers
pub mod LookBranches
pub mod Linked
pub mod Order
pub mod Rows
