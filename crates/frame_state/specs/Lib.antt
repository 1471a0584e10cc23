pub use Rattle.ordered_search.specs as ordered_search
pub mod Behind
pub mod Ground
pub mod Begun
pub mod Machine
pub mod Frames
pub mod Validity
pub mod Branches
pub mod Calls
pub mod Shown
pub mod Stops
pub mod Room
pub mod Over
pub mod Steps
pub mod Reach
pub mod Answer
