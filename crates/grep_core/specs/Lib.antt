pub use Rattle.grep_match.specs.PatternTexts
pub use Rattle.grep_match.specs.Compiled
pub use Rattle.grep_match.specs.Modes
pub use Rattle.grep_match.specs.Matches
pub use Rattle.grep_match.specs.Found
pub use Rattle.grep_output.specs.Lines
pub use Rattle.grep_output.specs.Shows
pub use Rattle.grep_output.specs.Scans
pub use Rattle.grep_output.specs.Context
pub use Rattle.grep_output.specs.Texts
pub use Rattle.grep_output.specs.Messages
pub use Rattle.grep_output.specs.InputText
pub use Rattle.grep_match.specs.pcre2_api as pcre2_api
pub use Rattle.grep_match.specs as grep_match
pub use Rattle.grep_watch.specs as grep_watch
pub mod Work
pub mod Turns
pub mod FirstBytes
pub mod WholeScans
pub mod Follows
pub mod Sending
pub mod OneInput
pub mod Unseen
pub mod Ahead
pub mod Kept
pub mod Underway
