pub use Rattle.pcre2_errors.specs as pcre2_errors
pub use Rattle.dfa_drive.specs as dfa_drive
pub use Rattle.match_drive.specs.match_starts as match_starts
pub mod Compiled
pub mod Matched
pub mod Captured
pub mod Patterns
pub mod Starts
pub mod Answers
pub mod Informs
pub mod Taken
pub mod Walks
pub mod Enough
pub mod Substituted
pub mod WorkedSubstitutions
pub mod DfaMatched
pub mod Needed
pub mod Shapes
pub mod Reserved
pub mod Holding
pub mod Leads
