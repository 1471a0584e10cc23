pub use Rattle.pcre2_api.specs as pcre2_api
pub mod PatternTexts
pub mod Spelt
pub mod Compiled
pub mod Modes
pub mod Matches
pub mod Found
pub mod Needed
pub mod Wider
