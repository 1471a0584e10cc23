pub use Rattle.test_modifiers.specs.Modifiers
pub use Rattle.test_modifiers.specs.Refusals
pub use Rattle.test_modifiers.specs.Lists
pub mod Subjects
pub mod Pieces
pub mod Script
pub mod Readers
