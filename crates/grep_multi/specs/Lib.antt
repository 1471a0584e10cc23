pub use Rattle.grep_match.specs as grep_match
pub mod Taken
pub mod Held
pub mod Blocks
pub mod Given
