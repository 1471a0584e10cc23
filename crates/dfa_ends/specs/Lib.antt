pub use Rattle.ordered_search.specs as ordered_search
pub use Rattle.ordered_search.specs.pat_check as pat_check
pub mod Ends
pub mod EndList
pub mod DfaAnswer
pub mod TwoMatchers
pub mod Answered
pub mod Rows
